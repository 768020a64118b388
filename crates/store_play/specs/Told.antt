-- What an event and its answer are in the words of the definitions. (This project's own.)
use Rattle.std.specs.Prelude.{◌≡◌, ◌⊎◌, ℕ, Bool, List, map as over, Some, Result, Ok, Err}
use Rattle.model_store.specs.Events as event
use Rattle.model_store.specs.Fitting.{Early}
use Rattle.model_store.specs.Sets.{Prepared}
use Rattle.mount_table.specs.declared.mounts.Mount.{Mount}
use Rattle.mounted_files.specs.declared.files.MountedFile.{MountedFile}
use Rattle.store_core.specs.Answers.{IsAnswer}
use Rattle.store_core.specs.Gets.{IsGot}
use Rattle.store_core.specs.declared.committing.CommitFault.{CommitFault}
use Rattle.store_core.specs.declared.committing.Done.{Done}
use Rattle.store_play.specs.declared.events.Answer.{Answer}
use Rattle.store_play.specs.declared.events.Answer.TheVariants.{Got, Prepared as IsPrepared, Committed}
use Rattle.store_play.specs.declared.events.Event.{Event}
use Rattle.store_play.specs.declared.events.Event.TheVariants.{Get, Prepare, Commit}
use Rattle.store_verdict.specs.Preparing.{fault_of}
use Rattle.store_verdict.specs.declared.faults.PrepareFault.{PrepareFault}
use Rattle.store_verdict.specs.declared.faults.PrepareFault.TheVariants as fault

-- what is asked
abbrev pub asked_of : Event → event.Event
asked_of (Get handle parent) = event.Get handle parent
asked_of (Prepare handle number parent keys) = event.Prepare handle number parent keys
asked_of (Commit handle number) = event.Commit handle number

-- the mounts of some mounted files
abbrev pub mounts_of : List MountedFile → List Mount
mounts_of files = over (λ file. file.mount) files

-- the answer to a prepare; a mount is told by its mountpoint
abbrev pub IsReady : List Mount → Result (Unit {0}) PrepareFault → event.Answer → Type 0
IsReady mounts (Ok done) answer = answer ≡ event.Ready
IsReady mounts (Err why) answer =
    ((why ≡ fault.Memory) × (answer ≡ event.Memory)) ⊎ ((early : Early) × (fault_of mounts early ≡ Some why) × (answer ≡ event.Refused early))

-- the answer to a commit of some set, where so many commits were found, and the matcher's count of refusals rose or not
pub record IsDone (mounts : List Mount) (result : Result Done CommitFault) (answer : event.Answer) : Type 0 where
  pub found : ℕ
  pub set : Prepared
  pub risen : Bool
  pub is : IsAnswer mounts risen found set result answer

-- an answer tells one of the definitions
abbrev pub Tells : List MountedFile → Event → Answer → event.Answer → Type 0
Tells files (Get handle parent) (Got result) answer = IsGot files result answer
Tells files (Prepare handle number parent keys) (IsPrepared result) answer = IsReady (mounts_of files) result answer
Tells files (Commit handle number) (Committed result) answer = IsDone (mounts_of files) result answer
Tells files event told answer = ⊥
