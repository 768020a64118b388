-- A file as lines. (This project's own.)
use Rattle.std.specs.Prelude.{ℕ, ◌==◌, if◌then◌else◌, List, [], ◌∷◌, ◌++◌}
use Rattle.std.specs.List.{flat_map, onto_first}

-- the lines of a file: it is cut at each line feed, and what stands behind the last one is a line if it isn't empty
abbrev pub lines : List ℕ → List (List ℕ)
lines [] = []
lines (b ∷ bytes) = if b == 10 then [] ∷ lines bytes else onto_first b (lines bytes)

-- lines as a file, each with its line feed
abbrev pub ended : List (List ℕ) → List ℕ
ended all = flat_map (λ line. line ++ 10 ∷ []) all

-- a line without the carriage return at its end, if it has one there; one alone is dropped
abbrev pub without_return : List ℕ → List ℕ
without_return [] = []
without_return (b ∷ []) = if b == 13 then [] else b ∷ []
without_return (b ∷ c ∷ bytes) = b ∷ without_return (c ∷ bytes)
