-- The two forms of a body: its first byte is the number of files, or 128 more than it, and then another gate stands
-- behind the body. This project's own.
use Rattle.std.specs.Prelude.{ℕ, ◌+◌, ◌-◌, Bool, false, List, [], ◌∷◌, ◌++◌, length, if◌then◌else◌, nat_lt}
use Rattle.std.specs.List.{flat_map}
use Rattle.journal_codec.specs.declared.files.FileText.{FileText}
use Rattle.journal_codec.specs.Entry.{length_bytes, spelled_file}

-- a count that says that another gate stands behind the body is over this, by the number of files
abbrev pub over : ℕ
over = 128

abbrev pub is_over : ℕ → Bool
is_over count = nat_lt over count

-- whether another gate stands behind this body
abbrev pub followed : List ℕ → Bool
followed [] = false
followed (count ∷ rest) = is_over count

-- the number of files that a count tells
abbrev pub number_in : ℕ → ℕ
number_in count = if is_over count then count - over else count

-- a body with its plain count, as the body of an entry alone has it
abbrev pub uncounted : List ℕ → List ℕ
uncounted [] = []
uncounted (count ∷ rest) = number_in count ∷ rest

-- the body of an entry behind which another gate stands
abbrev pub spelled_on : List FileText → List ℕ
spelled_on files = (over + length files) ∷ flat_map spelled_file files

-- what stands behind the gate of such an entry: the length of its body, and the body
abbrev pub behind_gate : List FileText → List ℕ
behind_gate files = length_bytes (length (spelled_on files)) ++ spelled_on files
