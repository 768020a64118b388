-- The entry of a journal, some files with their new contents, and the one body that spells it. This project's own.
use Rattle.std.specs.Prelude.{◌≡◌, ℕ, ◌≤◌, Bool, false, List, ◌∷◌, ◌++◌, length, map, All, codes, nat_eq}
use Rattle.std.specs.Int.{w32, to_le_bytes, from_le_bytes}
use Rattle.std.specs.List.{flat_map, starts_with}
use Rattle.std.specs.List.Sorted.{IsStrictlySortedBy}
use Rattle.std.specs.Ordering.{nat_cmp}
use Rattle.std.specs.Cmp.Lexicographic.{slice_cmp}
use Rattle.backend_files.specs.WholeFile as whole
use Rattle.kdb_outside.specs.FileName.{IsFileName}
use Rattle.journal_codec.specs.declared.files.FileText.{FileText}

-- the four bytes of a length, the low one first
abbrev pub length_bytes : ℕ → List ℕ
length_bytes = to_le_bytes w32

-- the number that four bytes are, the low one first
abbrev pub number_of : List ℕ → ℕ
number_of = from_le_bytes w32

-- the most files of an entry
abbrev pub most_files : ℕ
most_files = 64

-- the most bytes of a content: it is that of a whole file
abbrev pub longest_content : ℕ
longest_content = whole.longest_file

-- the most bytes of a spelled file: 5 of the two lengths, 100 of the name, and the content
abbrev pub longest_file : ℕ
longest_file = 1048681

-- with these bytes the names of the journal's own files begin
abbrev pub journal_name : List ℕ
journal_name = codes "journal"

-- the journal's second file
abbrev pub journal2_name : List ℕ
journal2_name = codes "journal2"

-- a name that is kept for the journal's own files
abbrev pub begins_with_journal : List ℕ → Bool
begins_with_journal name = starts_with nat_eq name journal_name

-- one file: the length of its name, the name, the length of its content, the content
abbrev pub spelled_file : FileText → List ℕ
spelled_file f = length f.file ∷ (f.file ++ (length_bytes (length f.bytes) ++ f.bytes))

-- the body of an entry: how many files, and the files
abbrev pub spelled : List FileText → List ℕ
spelled files = length files ∷ flat_map spelled_file files

-- a file that an entry can hold
pub record IsEntryFile (f : FileText) : Type 0 where
  pub is_name : IsFileName f.file
  pub not_journal : begins_with_journal f.file ≡ false
  pub not_long : length f.bytes ≤ longest_content

-- the names of some files
abbrev pub names_of : List FileText → List (List ℕ)
names_of = map (λ f. f.file)

-- 1 to 64 such files, whose names strictly ascend by their bytes
pub record IsEntry (files : List FileText) : Type 0 where
  pub not_empty : 1 ≤ length files
  pub not_many : length files ≤ most_files
  pub ascending : IsStrictlySortedBy (slice_cmp nat_cmp) (names_of files)
  pub each : All IsEntryFile files
