-- The story of an open store: how it was opened, and then what its handles did, in the order of their turns: the
-- commits, the sets that were begun and failed, and the sets whose pattern the matcher refused. (This project's own.)
use Rattle.std.specs.Prelude.{◌≡◌, ◌⊎◌, ℕ, ◌+◌, Bool, List, [], ◌∷◌, refl}
use mathlib.Core.Logic.{inl, inr}
use base.Stored.{Gv}
use denote.Struct.Codes.{itself}
use Rattle.std.specs.Coded.{Coded, code_by, coded×, coded⊎, coded_list, coded_ℕ, coded_bool}
use Rattle.commit_log.specs.Log.{coded_commit}
use Rattle.model_history.specs.History.{Commit}
use Rattle.mounted_files.specs.declared.files.MountedFile.{MountedFile}
use Rattle.mounted_files.specs.contracts.files.MountedFile.{the_row}

-- What an opening fixes. The mounts with what their files held: so it has the table, the keys that each file keeps for
-- others, the bad mounts and the first map. The journal over the disk as the opening left it, as a datum: so it has all
-- that the disk tells of itself, its files, whether it tells them, its moment and its count of faults. The matcher's
-- count of refusals. And whether the opening wrote to the disk.
pub record Opening : Type 0 where
  pub files : List MountedFile
  pub journal : Gv
  pub refusals : ℕ
  pub wrote : Bool

-- an entry of the story. A commit was made by a handle; or its texts were begun, and the disk failed; or the matcher
-- refused a pattern of the set of a handle, which could be one by its length
pub data Told : Type 0 where
  Opened : Opening → Told
  Committed : Commit → Told
  Failed : Commit → Told
  Refused : ℕ → Told

-- the number of the handle that made an entry; nobody made the opening
abbrev pub maker_of : Told → ℕ
maker_of (Opened opening) = 0
maker_of (Committed commit) = commit.handle
maker_of (Failed commit) = commit.handle
maker_of (Refused handle) = handle

-- the history: the commits alone
abbrev pub commits_of : List Told → List Commit
commits_of [] = []
commits_of (Opened opening ∷ log) = commits_of log
commits_of (Committed commit ∷ log) = commit ∷ commits_of log
commits_of (Failed commit ∷ log) = commits_of log
commits_of (Refused handle ∷ log) = commits_of log

-- how many sets failed
abbrev pub failures_in : List Told → ℕ
failures_in [] = 0
failures_in (Opened opening ∷ log) = failures_in log
failures_in (Committed commit ∷ log) = failures_in log
failures_in (Failed commit ∷ log) = failures_in log + 1
failures_in (Refused handle ∷ log) = failures_in log

-- how many sets had a pattern refused
abbrev pub refusals_in : List Told → ℕ
refusals_in [] = 0
refusals_in (Opened opening ∷ log) = refusals_in log
refusals_in (Committed commit ∷ log) = refusals_in log
refusals_in (Failed commit ∷ log) = refusals_in log
refusals_in (Refused handle ∷ log) = refusals_in log + 1

-- no set was begun: the story tells of no commit, and of no set that failed
pub record BeginsNone (log : List Told) : Type 0 where
  pub commits : commits_of log ≡ []
  pub failures : failures_in log ≡ 0

-- how a proof tells entries apart
abbrev pub Parts : Type 0
Parts = (List MountedFile × (Gv × (ℕ × Bool))) ⊎ (Commit ⊎ (Commit ⊎ ℕ))

abbrev pub parts_of : Told → Parts
parts_of (Opened opening) = inl (opening.files, (opening.journal, (opening.refusals, opening.wrote)))
parts_of (Committed commit) = inr (inl commit)
parts_of (Failed commit) = inr (inr (inl commit))
parts_of (Refused handle) = inr (inr (inr handle))

abbrev pub told_of : Parts → Told
told_of (inl p) = Opened (record { files = p.0; journal = p.1.0; refusals = p.1.1.0; wrote = p.1.1.1 })
told_of (inr (inl commit)) = Committed commit
told_of (inr (inr (inl commit))) = Failed commit
told_of (inr (inr (inr handle))) = Refused handle

pub told_of-parts : (told : Told) → told_of (parts_of told) ≡ told
told_of-parts (Opened opening) = refl
told_of-parts (Committed commit) = refl
told_of-parts (Failed commit) = refl
told_of-parts (Refused handle) = refl

abbrev pub coded_told : Coded Told
coded_told =
    code_by Parts (coded⊎ (coded× (coded_list the_row.coded) (coded× itself (coded× coded_ℕ coded_bool))) (coded⊎ coded_commit (coded⊎ coded_commit coded_ℕ))) parts_of told_of told_of-parts
