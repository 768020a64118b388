-- A line that is read byte by byte: whether a backslash waits for the byte that it covers. (This project's own.)
use Rattle.std.specs.Prelude.{ℕ, Bool, true, false, List, ◌∷◌}

-- the bytes that are left, with the backslash that waits before them
abbrev pub held : Bool → List ℕ → List ℕ
held true rest = 92 ∷ rest
held false rest = rest
