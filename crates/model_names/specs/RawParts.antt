-- A text behind its first slash is cut into raw parts before any of them is read. (This project's own.)
use Rattle.std.specs.Prelude.{ℕ, Bool, false, not, ◌&&◌, ◌==◌, if◌then◌else◌, List, [], ◌∷◌}
use Rattle.std.specs.List.{onto_first}

-- puts a byte before the raw parts of what follows it: a slash that cuts begins a new one
abbrev pub put_before : Bool → ℕ → List (List ℕ) → List (List ℕ)
put_before cuts b parts = if cuts then [] ∷ parts else onto_first b parts

-- the raw parts of a text, of which the first byte may be escaped by a backslash before it
abbrev pub raw_parts_from : Bool → List ℕ → List (List ℕ)
raw_parts_from is_escaped [] = [] ∷ []
raw_parts_from is_escaped (b ∷ bytes) =
    put_before (not is_escaped && (b == 47)) b (raw_parts_from (not is_escaped && (b == 92)) bytes)

-- the raw parts of a text: it is cut at each slash that no backslash escapes; a backslash escapes the byte behind it
abbrev pub raw_parts : List ℕ → List (List ℕ)
raw_parts bytes = raw_parts_from false bytes
