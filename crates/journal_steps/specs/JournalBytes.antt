-- The bytes behind a gate, a length in four bytes and the body of an entry, and how a journal reads that holds one
-- entry. This project's own.
use Rattle.std.specs.Prelude.{◌≡◌, ◌≢◌, ◌⊎◌, ℕ, ◌<◌, ◌≤◌, List, [], ◌∷◌, length, take, drop, slice_index, Bool, true, false, Option, Some, None, Result, Ok, Err, if◌then◌else◌, ◌&&◌, ◌==◌, nat_le, nat_lt}
use Rattle.journal_codec.specs.declared.files.FileText.{FileText}
use Rattle.journal_codec.specs.Entry.{number_of, journal_name, journal2_name}
use Rattle.journal_codec.specs.Reading.{Reading, Reads, Fails, read_body}

-- a file that the journal keeps for itself, and no entry names: the one that the former program wrote, and this
-- program's
abbrev pub IsOwnFile : List ℕ → Type 0
IsOwnFile file = (file ≡ journal_name) ⊎ (file ≡ journal2_name)

-- the first byte: 1 is open, and 0 is closed
abbrev pub gate : List ℕ → ℕ
gate journal = slice_index journal 0

-- over so many bytes a body isn't read, since no entry has as many
abbrev pub longest_body : ℕ
longest_body = 67200000

-- the files of a body that is as long as it says, or the place of the field that has no reading, or the number of bytes
-- where they have one, but are too few
abbrev pub body_or_place : Reading → ℕ → ℕ → Result (List FileText) ℕ
body_or_place (Fails at) size there = Err at
body_or_place (Reads files) size there = if there == size then Ok files else Err there

-- the entry that a body of this size spells, or the place where it isn't whole
unfoldable pub entry_or_place : ℕ → List ℕ → Result (List FileText) ℕ
entry_or_place size there =
    if nat_lt longest_body size then Err 0 else body_or_place (read_body there) size (length there)

-- an entry alone
abbrev pub one_entry : Result (List FileText) ℕ → Result (List (List FileText)) ℕ
one_entry (Ok entry) = Ok (entry ∷ [])
one_entry (Err at) = Err at

-- the length that these bytes begin with
unfoldable pub length_at : List ℕ → Option ℕ
length_at tail = if nat_le 4 (length tail) then Some (number_of (take 4 tail)) else None

-- the entry whose body has this length, if there is one
abbrev pub entries_of : Option ℕ → List ℕ → Result (List (List FileText)) ℕ
entries_of None tail = Ok []
entries_of (Some size) tail = one_entry (entry_or_place size (take size (drop 4 tail)))

-- what stands behind a gate: nothing, where it is too short for a length; an entry; or a body that isn't whole, from
-- this place on
unfoldable pub entries_behind : List ℕ → Result (List (List FileText)) ℕ
entries_behind tail = entries_of (length_at tail) tail

-- what a journal reads as, its gate taken as open or as shut
abbrev pub reading_of : Bool → List ℕ → Result (List (List FileText)) ℕ
reading_of taken journal = if taken then entries_behind (drop 1 journal) else Ok []

-- a gate may be taken so: 1 is open, 0 is shut, and any other byte is read as either
abbrev pub MayBeTaken : Bool → ℕ → Type 0
MayBeTaken true byte = byte ≢ 0
MayBeTaken false byte = byte ≢ 1

-- the first of the entries that were read
abbrev pub first_entry : Result (List (List FileText)) ℕ → Option (List FileText)
first_entry (Ok []) = None
first_entry (Ok (entry ∷ entries)) = Some entry
first_entry (Err at) = None

-- the length that stands behind an open gate
unfoldable pub open_length : List ℕ → Option ℕ
open_length journal =
    if nat_le 5 (length journal) && (gate journal == 1) then Some (number_of (take 4 (drop 1 journal))) else None

-- too short for a length, or the gate is closed
abbrev pub IsShut : List ℕ → Type 0
IsShut journal = (length journal < 5) ⊎ (gate journal ≡ 0)

-- the gate is there, and closed
pub record IsClosed (journal : List ℕ) : Type 0 where
  pub there : 1 ≤ length journal
  pub gate_is : gate journal ≡ 0
