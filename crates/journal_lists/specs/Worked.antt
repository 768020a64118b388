-- Small entries and journals for the worked examples. This project's own.
use Rattle.std.specs.Prelude.{ℕ, List, [], ◌∷◌, ◌++◌, length, codes}
use Rattle.journal_codec.specs.declared.files.FileText.{FileText}
use Rattle.journal_codec.specs.Entry.{length_bytes, spelled}

-- one file with one byte
abbrev pub first : List FileText
first = record { file = codes "a"; bytes = codes "x" } ∷ []

abbrev pub second : List FileText
second = record { file = codes "b"; bytes = codes "y" } ∷ []

-- an entry behind whose body the list ends, from its length on
abbrev pub alone : List FileText → List ℕ
alone files = length_bytes (length (spelled files)) ++ spelled files

-- a header that names the first one's file
abbrev pub names : List (List ℕ)
names = codes "a" ∷ []
