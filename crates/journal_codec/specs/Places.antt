-- Where a body goes wrong that is no entry's: behind the longest beginning that the body of an entry can have. (This
-- project's own. After the longest viable prefix, at which a parser tells an error.)
use Rattle.std.specs.Prelude.{◌≡◌, ◌≢◌, ℕ, ◌+◌, ◌≤◌, List, [], ◌∷◌, ◌++◌, length, Option, Some, None, All, if◌then◌else◌, nat_le, ◌==◌}
use Rattle.std.specs.List.{flat_map}
use Rattle.std.specs.List.Sorted.{IsStrictlySortedBy}
use Rattle.std.specs.Ordering.{nat_cmp}
use Rattle.std.specs.Cmp.Lexicographic.{slice_cmp}
use Rattle.journal_codec.specs.declared.files.FileText.{FileText}
use Rattle.journal_codec.specs.Entry.{most_files, spelled_file, spelled, names_of, IsEntryFile, IsEntry}

-- whole texts from the front on: none, or how many files there are to be, some files, and perhaps the name of one more
pub data Beginning : Type 0 where
  Nothing : Beginning
  Begun : ℕ → List FileText → Option (List ℕ) → Beginning

-- the file of a name that has no content yet
abbrev pub named : Option (List ℕ) → List FileText
named None = []
named (Some name) = record { file = name; bytes = [] } ∷ []

-- files that an entry can begin with that has so many
pub record AreFirst (count : ℕ) (files : List FileText) : Type 0 where
  pub not_empty : 1 ≤ count
  pub not_many : count ≤ most_files
  pub within : length files ≤ count
  pub ascending : IsStrictlySortedBy (slice_cmp nat_cmp) (names_of files)
  pub each : All IsEntryFile files

-- the texts keep every rule of an entry's
abbrev pub CanBegin : Beginning → Type 0
CanBegin Nothing = Unit {0}
CanBegin (Begun count files next) = AreFirst count (files ++ named next)

-- a name behind its length
abbrev pub spelled_name : Option (List ℕ) → List ℕ
spelled_name None = []
spelled_name (Some name) = length name ∷ name

-- the bytes of a beginning
abbrev pub bytes_of : Beginning → List ℕ
bytes_of Nothing = []
bytes_of (Begun count files next) = count ∷ (flat_map spelled_file files ++ spelled_name next)

-- how many bytes the length has that comes next: one before a name, four before a content, and none before how many
-- files there are or where all of them are there
abbrev pub length_due : Beginning → ℕ
length_due Nothing = 0
length_due (Begun count files None) = if length files == count then 0 else 1
length_due (Begun count files (Some name)) = 4

-- a length that isn't whole isn't passed
abbrev pub passed : ℕ → List ℕ → ℕ
passed due rest = if nat_le due (length rest) then due else 0

-- some bytes stand at the front of others
abbrev pub IsFront : List ℕ → List ℕ → Type 0
IsFront front bytes = (rest : List ℕ) × (bytes ≡ front ++ rest)

-- the place is behind the longest beginning that an entry's body can have, and behind the length that comes next: a
-- length has no rule of its own
pub record IsPlace (body : List ℕ) (at : ℕ) : Type 0 where
  pub no_entry : (files : List FileText) → IsEntry files → spelled files ≢ body
  pub begun : Beginning
  pub rest : List ℕ
  pub can_begin : CanBegin begun
  pub front : body ≡ bytes_of begun ++ rest
  pub longest : (other : Beginning) → CanBegin other → IsFront (bytes_of other) body
      → length (bytes_of other) ≤ length (bytes_of begun)
  pub at_is : at ≡ length (bytes_of begun) + passed (length_due begun) rest
