-- The records of a dump as they stand in a file. (This project's own, made after Elektra's dump storage.)
use Rattle.std.specs.Prelude.{ℕ, ◌<◌, List, [], ◌∷◌, ◌++◌, length, codes}
use Rattle.std.specs.Fmt.{decimal}

-- what a record is for: a key with its value, metadata of the key before it, or metadata that another key has already
pub data RecordKind : Type 0 where
  KeyKind : RecordKind
  MetaKind : RecordKind
  CopyKind : RecordKind

-- a record has two texts: a name and a value, a metadata name and its text, or a key's name and a metadata name
pub record Record : Type 0 where
  pub kind : RecordKind
  pub first : List ℕ
  pub second : List ℕ

-- the words that begin a record's first line, up to the blank before the sizes
abbrev pub words_of : RecordKind → List ℕ
words_of KeyKind = codes "$key string "
words_of MetaKind = codes "$meta "
words_of CopyKind = codes "$copymeta "

-- a text's size is written with at most 7 digits
abbrev pub size_limit : ℕ
size_limit = 10000000

-- both sizes of a record can be written
pub record IsSized (r : Record) : Type 0 where
  pub first : length r.first < size_limit
  pub second : length r.second < size_limit

-- the two sizes and the two texts, each with what ends it
abbrev pub sizes_and_texts : List ℕ → List ℕ → List ℕ
sizes_and_texts first second =
    decimal (length first) ++ (32 ∷ (decimal (length second) ++ (10 ∷ (first ++ (10 ∷ (second ++ 10 ∷ []))))))

-- how a record is spelled: a line of its words and the sizes of both texts, and then each text with a line feed
abbrev pub spelled_record : Record → List ℕ
spelled_record r = words_of r.kind ++ sizes_and_texts r.first r.second

-- the first line of a dump, and the last without the line feed that it may lack
abbrev pub header : List ℕ
header = codes "kdbOpen 2" ++ 10 ∷ []

abbrev pub ending : List ℕ
ending = codes "$end"
