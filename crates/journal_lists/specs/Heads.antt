-- What `journal2` begins with, before its list: the header gate, a version, and the header that names the files of the
-- table. This project's own.
use Rattle.std.specs.Prelude.{◌≡◌, ℕ, ◌+◌, List, ◌∷◌, ◌++◌, length, take, drop, slice_index, Result, Ok, Err, if◌then◌else◌, ◌==◌, nat_le}
use Rattle.journal_codec.specs.Entry.{number_of, length_bytes}
use Rattle.journal_codec.specs.Header.{version, longest_header, spelled_header, read_header}

-- how many bytes stand before the header: its gate, the version and its length
abbrev pub head_start : ℕ
head_start = 6

-- what stands between the header gate and the list, with a header that names these files
abbrev pub head_bytes : List (List ℕ) → List ℕ
head_bytes names = version ∷ (length_bytes (length (spelled_header names)) ++ spelled_header names)

-- the same with the header gate, open
abbrev pub front : List (List ℕ) → List ℕ
front names = 1 ∷ head_bytes names

-- and how many bytes these are: the place of the list's first gate
abbrev pub front_size : List (List ℕ) → ℕ
front_size names = head_start + length (spelled_header names)

abbrev pub version_of : List ℕ → ℕ
version_of c = slice_index c 1

-- the length that a header has, and what is there of it
abbrev pub header_size : List ℕ → ℕ
header_size c = number_of (take 4 (drop 2 c))

abbrev pub header_of : List ℕ → List ℕ
header_of c = take (header_size c) (drop head_start c)

-- the files of a header that is as long as it says, or the place, from the file's first byte, where it isn't whole
abbrev pub whole_header : Result (List (List ℕ)) ℕ → ℕ → ℕ → Result (List (List ℕ)) ℕ
whole_header (Err at) size there = Err (head_start + at)
whole_header (Ok names) size there = if there == size then Ok names else Err (head_start + there)

-- the same of a header of this size, given what is there of it: one that is too long isn't whole from its length on
unfoldable pub header_or_place : ℕ → List ℕ → Result (List (List ℕ)) ℕ
header_or_place size there =
    if nat_le size longest_header then whole_header (read_header there) size (length there) else Err 2

-- the version is this one, and the header is there and names these files
pub record IsHead (c : List ℕ) (names : List (List ℕ)) : Type 0 where
  pub version : version_of c ≡ version
  pub header : header_or_place (header_size c) (header_of c) ≡ Ok names
