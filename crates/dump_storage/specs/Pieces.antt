-- The pieces that a dump's records are cut into, each at the front of some bytes. (This project's own.)
use Rattle.std.specs.Prelude.{◌≡◌, ◌≢◌, ℕ, ◌<◌, ◌≤◌, List, ◌∷◌, ◌++◌, length, slice_index}
use Rattle.std.specs.Fmt.{decimal}
use Rattle.model_dump.specs.Record.{RecordKind, Record, words_of, size_limit, IsSized, spelled_record}

-- digits are as many as a size has, and don't begin with 0 but for the size 0
pub record IsSizeLike (digits : List ℕ) : Type 0 where
  pub some : 0 < length digits
  pub few : length digits ≤ 7
  pub zero_alone : slice_index digits 0 ≡ 48 → length digits ≡ 1

-- the bytes begin with a size, and with the byte that ends it
pub record BeginsWithSize (bytes : List ℕ) (last size : ℕ) (rest : List ℕ) : Type 0 where
  pub small : size < size_limit
  pub whole : bytes ≡ decimal size ++ (last ∷ rest)

-- the bytes begin with no size that this byte ends
abbrev pub BeginsWithNoSize : List ℕ → ℕ → Type 0
BeginsWithNoSize bytes last = (size : ℕ) (rest : List ℕ) → BeginsWithSize bytes last size rest → ⊥

-- the bytes begin with a text of this size, and a line feed behind it
pub record BeginsWithText (bytes : List ℕ) (size : ℕ) (text rest : List ℕ) : Type 0 where
  pub sized : length text ≡ size
  pub whole : bytes ≡ text ++ (10 ∷ rest)

-- the bytes begin with no such text
abbrev pub BeginsWithNoText : List ℕ → ℕ → Type 0
BeginsWithNoText bytes size = (text rest : List ℕ) → BeginsWithText bytes size text rest → ⊥

-- the bytes begin with the words of no kind of record
abbrev pub BeginsWithNoWords : List ℕ → Type 0
BeginsWithNoWords bytes = (kind : RecordKind) (rest : List ℕ) → bytes ≢ words_of kind ++ rest

-- the bytes begin with a record's first line, which tells its kind and the sizes of both texts
pub record BeginsWithSizes (bytes : List ℕ) (kind : RecordKind) (first second : ℕ) (rest : List ℕ) : Type 0 where
  pub first_small : first < size_limit
  pub second_small : second < size_limit
  pub whole : bytes ≡ words_of kind ++ (decimal first ++ (32 ∷ (decimal second ++ (10 ∷ rest))))

-- the bytes begin with no such line
abbrev pub BeginsWithNoSizes : List ℕ → Type 0
BeginsWithNoSizes bytes =
    (kind : RecordKind) (first second : ℕ) (rest : List ℕ) → BeginsWithSizes bytes kind first second rest → ⊥

-- the bytes begin with a record, and the rest follows
pub record BeginsWith (bytes : List ℕ) (r : Record) (rest : List ℕ) : Type 0 where
  pub sized : IsSized r
  pub whole : bytes ≡ spelled_record r ++ rest

-- the bytes begin with no record
abbrev pub BeginsWithNoRecord : List ℕ → Type 0
BeginsWithNoRecord bytes = (r : Record) (rest : List ℕ) → BeginsWith bytes r rest → ⊥
