-- What events do one after the other, by their answers. (This project's own.)
use Rattle.std.specs.Prelude.{◌≡◌, ℕ, ◌≤◌, false, List, [], ◌∷◌, ◌++◌, Option, Some, None}
use Rattle.kdb_outside.specs.declared.disks.Disk.{Ghosts}
use Rattle.model_crashes.specs.Runs.{Run}
use Rattle.model_maps.specs.KeyMap.{KeyMap}
use Rattle.model_store.specs.Cores.{Made, accepts, first_core}
use Rattle.model_store.specs.Events as event
use Rattle.model_store.specs.Promise.{IsOneOwner, Runs}
use Rattle.model_store.specs.Sets as sets
use Rattle.model_store.specs.Store.{Store, Formats, store_of}
use Rattle.model_store.specs.Worlds.{World}
use Rattle.mounted_files.specs.declared.files.MountedFile.{MountedFile}
use Rattle.store_core.specs.Committing.{RunsOn}
use Rattle.store_core.specs.Cores.{core_with}
use Rattle.store_core.specs.declared.cores.Core.{Core}
use Rattle.store_play.specs.Handles.{Holds, records_of}
use Rattle.store_play.specs.Stages.{Stage, stage_of, set_asked, held_after}
use Rattle.store_play.specs.Told.{asked_of, Tells}
use Rattle.store_play.specs.declared.events.Answer.{Answer}
use Rattle.store_play.specs.declared.events.Answer.TheVariants.{Skipped}
use Rattle.store_play.specs.declared.events.Event.{Event}
use Rattle.store_play.specs.declared.events.Event.TheVariants.{Get, Prepare, Commit}
use Rattle.store_play.specs.declared.events.Skip.{Skip}
use Rattle.store_play.specs.declared.events.Skip.TheVariants.{NoHandle, NoPlace, NoSet, NotAccepted}
use Rattle.store_verdict.specs.PreparedView.{prepared_of}
use Rattle.store_verdict.specs.RecordView.{handle_of, record_of}
use Rattle.store_verdict.specs.declared.prepared.Prepared.{Prepared}
use Rattle.store_verdict.specs.declared.records.Record.{Record}

-- a set is held under the number, and the record of the handle doesn't accept it any more
pub record Declines (stage : Stage) (handle number : ℕ) : Type 0 where
  pub set : sets.Prepared
  pub is_held : stage.held number ≡ Some set
  pub declined : accepts (stage.core.records handle) handle set ≡ false

-- why the set in a place isn't handed to a commit of a record's handle
abbrev pub IsKeptBack : Record → Option Prepared → Skip → Type 0
IsKeptBack rec place NoSet = place ≡ None
IsKeptBack rec (Some set) NotAccepted = accepts (record_of rec) (handle_of rec) (prepared_of set) ≡ false
IsKeptBack rec place why = ⊥

-- why no call was made
abbrev pub IsSkipped : Stage → Event → Skip → Type 0
IsSkipped stage (Get handle parent) NoHandle = stage.handles ≤ handle
IsSkipped stage (Prepare handle number parent keys) NoHandle = stage.handles ≤ handle
IsSkipped stage (Prepare handle number parent keys) NoPlace = stage.places ≤ number
IsSkipped stage (Commit handle number) NoHandle = stage.handles ≤ handle
IsSkipped stage (Commit handle number) NoSet = stage.held number ≡ None
IsSkipped stage (Commit handle number) NotAccepted = Declines stage handle number
IsSkipped stage event why = ⊥

-- a call was made, with an answer: what is kept goes on as the definitions of a store say, and so does the run on the
-- disk
pub record Calls (formats : Formats) (store : Store) (files : List MountedFile) (before : Stage) (asked : Event) (told : Answer) (after : Stage) : Type 0 where
  pub answer : event.Answer
  pub tells : Tells files asked told answer
  pub made : Made formats store before.core (asked_of asked) answer after.core
  pub runs_on : RunsOn formats store before.core.keys before.run (set_asked before.core.sets (asked_of asked)) answer after.run
  pub held : after.held ≡ held_after (asked_of asked) answer after.core.sets before.held
  pub handles : after.handles ≡ before.handles
  pub places : after.places ≡ before.places

-- an event made a call, or it was skipped and nothing changed
abbrev pub Does : Formats → Store → List MountedFile → Stage → Event → Answer → Stage → Type 0
Does formats store files before event (Skipped why) after = IsSkipped before event why × (after ≡ before)
Does formats store files before event told after = Calls formats store files before event told after

-- events with their answers, one after the other
abbrev pub Plays : Formats → Store → List MountedFile → Stage → List Event → List Answer → Stage → Type 0
Plays formats store files first [] [] last = last ≡ first
Plays formats store files first (event ∷ events) (told ∷ answers) last =
    (mid : Stage) × Does formats store files first event told mid × Plays formats store files mid events answers last
Plays formats store files first events answers last = ⊥

-- the calls that the events made
abbrev pub AreCalls : List MountedFile → List Event → List Answer → List (event.Event × event.Answer) → Type 0
AreCalls files [] [] calls = calls ≡ []
AreCalls files (event ∷ events) (Skipped why ∷ answers) calls = AreCalls files events answers calls
AreCalls files (event ∷ events) (told ∷ answers) (call ∷ calls) =
    (call.0 ≡ asked_of event) × Tells files event told call.1 × AreCalls files events answers calls
AreCalls files events answers calls = ⊥

-- what a step leaves: an event was played, and the core stands again
pub record Stepped (formats : Formats) {D P : Type 0} (g : Ghosts D) (files : List MountedFile) (procs : ℕ → KeyMap) (opened : D) (first : Stage) (event : Event) (told : Answer) (core : Core D P) (records : List Record) (places : List (Option Prepared)) : Type 0 where
  pub known : ℕ → Option sets.Prepared
  pub world : World
  pub run : Run
  pub does : Does formats (store_of files procs) files first event told (stage_of core records places known run)
  pub holds : Holds formats g files procs opened core records places known world run

-- the core stands again behind some events with their answers
pub record Stood (formats : Formats) {D P : Type 0} (g : Ghosts D) (files : List MountedFile) (procs : ℕ → KeyMap) (opened : D) (first : Stage) (events : List Event) (answers : List Answer) (core : Core D P) (records : List Record) (places : List (Option Prepared)) : Type 0 where
  pub known : ℕ → Option sets.Prepared
  pub world : World
  pub run : Run
  pub plays : Plays formats (store_of files procs) files first events answers (stage_of core records places known run)
  pub holds : Holds formats g files procs opened core records places known world run

-- some events were played: the calls that they made are one owner's, behind those by which the first stage came to be
pub record HasPlayed (formats : Formats) {D P : Type 0} (g : Ghosts D) (files : List MountedFile) (procs : ℕ → KeyMap) (opened : D) (first : Stage) (events : List Event) (answers : List Answer) (core : Core D P) (records : List Record) (places : List (Option Prepared)) : Type 0 where
  pub stood : Stood formats g files procs opened first events answers core records places
  pub calls : List (event.Event × event.Answer)
  pub are_calls : AreCalls files events answers calls
  pub runs : Runs (Made formats (store_of files procs)) first.core calls (core_with core (records_of records) stood.known)
  pub one_owner : (earlier : List (event.Event × event.Answer))
      → Runs (Made formats (store_of files procs)) (first_core (store_of files procs)) earlier first.core
      → IsOneOwner formats (store_of files procs) (earlier ++ calls) (core_with core (records_of records) stood.known)
