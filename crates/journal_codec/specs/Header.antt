-- The header of the file `journal2`: the names of all files that its entries can change, behind the version of the
-- format. This project's own.
use Rattle.std.specs.Prelude.{◌≡◌, ℕ, ◌-◌, ◌≤◌, false, List, [], ◌∷◌, ◌++◌, length, All, Result, Ok, Err}
use Rattle.std.specs.List.{flat_map}
use Rattle.std.specs.List.Sorted.{IsStrictlySortedBy}
use Rattle.std.specs.Ordering.{nat_cmp}
use Rattle.std.specs.Cmp.Lexicographic.{slice_cmp}
use Rattle.kdb_outside.specs.FileName.{IsFileName}
use Rattle.journal_codec.specs.Entry.{length_bytes, most_files, begins_with_journal}
use Rattle.journal_codec.specs.Reading.{Field, ◌>>=◌, byte_at, bytes_at, is_next_name, items_at, counted}

-- the version of the format that has a header
abbrev pub version : ℕ
version = 2

-- the most bytes of a header: the count, and of 64 names the length and 100 bytes
abbrev pub longest_header : ℕ
longest_header = 6465

-- a name that a header can hold
pub record IsHeaderName (name : List ℕ) : Type 0 where
  pub is_name : IsFileName name
  pub not_journal : begins_with_journal name ≡ false

-- 1 to 64 such names that strictly ascend by their bytes
pub record IsHeader (names : List (List ℕ)) : Type 0 where
  pub not_empty : 1 ≤ length names
  pub not_many : length names ≤ most_files
  pub ascending : IsStrictlySortedBy (slice_cmp nat_cmp) names
  pub each : All IsHeaderName names

-- a name behind its length
abbrev pub sized_name : List ℕ → List ℕ
sized_name name = length name ∷ name

-- how many names, and the names
abbrev pub spelled_header : List (List ℕ) → List ℕ
spelled_header names = length names ∷ flat_map sized_name names

-- what stands behind the gate of a header, up to the first gate of the list: the version, the length of the header, the
-- header, and that gate, closed
abbrev pub header_bytes : List (List ℕ) → List ℕ
header_bytes names = version ∷ (length_bytes (length (spelled_header names)) ++ (spelled_header names ++ (0 ∷ [])))

-- a name behind another one, or behind none where that has no bytes
unfoldable pub name_at : List ℕ → List ℕ → Field (List ℕ)
name_at previous bytes = do
  size ← byte_at bytes
  bytes_at (is_next_name previous) size.0 size.1

-- so many names
unfoldable pub names_at : ℕ → List ℕ → List ℕ → Field (List (List ℕ))
names_at count previous bytes = items_at name_at (λ name. name) count previous bytes

-- a whole header
unfoldable pub all_names : List ℕ → Result (List (List ℕ)) ℕ
all_names header = counted names_at header

-- the place of the field that has no reading, behind the bytes before it
abbrev pub placed : ℕ → Result (List (List ℕ)) ℕ → Result (List (List ℕ)) ℕ
placed size (Ok names) = Ok names
placed size (Err left) = Err (size - left)

-- the names that a header holds, or the place of the first field that has no reading
unfoldable pub read_header : List ℕ → Result (List (List ℕ)) ℕ
read_header header = placed (length header) (all_names header)
