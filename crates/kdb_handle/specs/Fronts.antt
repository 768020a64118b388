-- What a handle's fronts cover, and whose commit blocks a set. (This project's own.)
use Rattle.std.specs.Prelude.{◌≡◌, ◌≢◌, ℕ, ◌+◌, ◌<◌, true, false, List, slice_get, Some}
use Rattle.std.specs.Option.{unwrap_or}
use Rattle.model_history.specs.History.{Commit, touches}
use Rattle.model_store.specs.Records.{Fronts}
use Rattle.model_store.specs.Store.{Store, counts_keys}

-- the front of a mount, which is 0 where the mount wasn't seen
abbrev pub front_at : Fronts → ℕ → ℕ
front_at fronts m = unwrap_or (fronts m) 0

-- fronts cover the commits of a number: each that touches a mount which counts by its backend is at or below the front
-- there. Commits are numbered from 1
abbrev pub Cover : Store → ℕ → List Commit → Fronts → Type 0
Cover store number history fronts =
    (place m : ℕ) (commit : Commit) → slice_get history place ≡ Some commit → commit.handle ≡ number → touches m commit ≡ true → counts_keys store m ≡ false → place < front_at fronts m

-- the commit of a number is there, and another handle made it
pub record IsAnothers (number : ℕ) (history : List Commit) (by : ℕ) : Type 0 where
  pub place : ℕ
  pub by_is : by ≡ place + 1
  pub commit : Commit
  pub there : slice_get history place ≡ Some commit
  pub another : commit.handle ≢ number
