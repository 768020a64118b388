-- Bodies whose files are all of a header: such a body says that another gate stands behind it. This project's own.
use Rattle.std.specs.Prelude.{ℕ, Bool, true, ◌&&◌, List, length, Option, Some, None, if◌then◌else◌, nat_eq}
use Rattle.std.specs.List.{list_any, list_all}
use Rattle.std.specs.Cmp.Lexicographic.{pointwise}
use Rattle.journal_codec.specs.declared.files.FileText.{FileText}
use Rattle.journal_codec.specs.Forms.{followed, uncounted}
use Rattle.journal_codec.specs.Reading.{Reading, Fails, NameRule, is_next_name, all_of, reading_of}

-- whether a name is one of these
abbrev pub is_listed : List (List ℕ) → List ℕ → Bool
is_listed names name = list_any (λ listed. pointwise nat_eq listed name) names

-- whether each file's name is
abbrev pub are_listed : List (List ℕ) → List FileText → Bool
are_listed names files = list_all (λ f. is_listed names f.file) files

-- whether a name is of these, where they are told
abbrev pub is_among : Option (List (List ℕ)) → List ℕ → Bool
is_among None name = true
is_among (Some names) name = is_listed names name

-- a name behind another one, of any or of these
abbrev pub is_next_of : Option (List (List ℕ)) → NameRule
is_next_of None = is_next_name
is_next_of (Some names) = λ previous name. is_next_name previous name && is_listed names name

-- what a body is read as whose files are to be of these names
unfoldable pub read_listed : List (List ℕ) → List ℕ → Reading
read_listed names body =
    if followed body
    then reading_of (length body) (all_of (is_next_of (Some names)) (uncounted body))
    else Fails 0
