-- An index of the last commits by mount: no commit behind the number at a mount touches it. (This project's own.)
use Rattle.std.specs.Prelude.{◌≡◌, ℕ, ◌<◌, true, List, slice_get, slice_index_or, Some}
use Rattle.model_history.specs.History.{Commit, touches}

-- the number of the last commit that touches a mount, 0 where none does
abbrev pub last_of : List ℕ → ℕ → ℕ
last_of last mount = slice_index_or last mount 0

abbrev pub IsIndex : List Commit → List ℕ → Type 0
IsIndex commits last =
    (mount at : ℕ) (commit : Commit) → slice_get commits at ≡ Some commit → touches mount commit ≡ true → at < last_of last mount
