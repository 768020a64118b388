-- What a whole run of a store promises: it was opened on a calm disk, played, and closed. (This project's own.)
use Rattle.std.specs.Prelude.{◌≡◌, ◌≢◌, ◌⊎◌, ℕ, ◌≤◌, All, List, length, Option, None, Result, Ok, Err, IfOk, IfErr}
use Rattle.kdb_outside.specs.Crashes.{EveryImage}
use Rattle.kdb_outside.specs.Faults.{HasRisen}
use Rattle.kdb_outside.specs.Frames.{GoesOn}
use Rattle.kdb_outside.specs.Images.{Image}
use Rattle.kdb_outside.specs.declared.disks.Disk.{Ghosts}
use Rattle.intent_journal.specs.Opened.{opened_files, IsFresh, MayBeLeft}
use Rattle.intent_journal.specs.Outcomes.{HasOnly}
use Rattle.journal_steps.specs.Moments.{LeavesOnly}
use Rattle.journal_steps.specs.Outcomes.{IsEither, SameFiles}
use Rattle.intent_journal.specs.States.{IsCalm}
use Rattle.journal_codec.specs.declared.files.FileText.{FileText}
use Rattle.model_crashes.specs.Runs.{Run, files_of, IsReached, new_run}
use Rattle.model_files.specs.Files.{table_files}
use Rattle.model_files.specs.Texts.{entries_of}
use Rattle.model_maps.specs.KeyMap.{KeyMap}
use Rattle.model_store.specs.Cores.{first_core}
use Rattle.model_store.specs.Events as event
use Rattle.model_store.specs.Promise.{IsOneOwner}
use Rattle.model_store.specs.Records.{Record, no_record}
use Rattle.model_store.specs.Sets.{Prepared}
use Rattle.model_store.specs.Store.{Store, Formats, store_of}
use Rattle.model_store.specs.Worlds.{World, first_world}
use Rattle.mount_table.specs.Table.{own_mount}
use Rattle.mounted_files.specs.Files.{Reading, Badness}
use Rattle.mounted_files.specs.Opening.{IsOpened}
use Rattle.mounted_files.specs.declared.files.MountedFile.{MountedFile}
use Rattle.store_core.specs.Cores.{StandsFor, core_with}
use Rattle.store_core.specs.Faults.{RefusesStore}
use Rattle.store_core.specs.declared.cores.Core.{Core}
use Rattle.store_core.specs.declared.faults.OpenFault.TheVariants.{BadJournal, DiskFault, Memory, UnknownVersion}
use Rattle.store_core.specs.declared.faults.OpenRefused.{OpenRefused}
use Rattle.store_play.specs.Causes.{IsCaused}
use Rattle.store_play.specs.Handles.{procs_at}
use Rattle.store_play.specs.Plays.{AreCalls, Plays}
use Rattle.store_play.specs.Stages.{Stage}
use Rattle.store_play.specs.declared.events.Answer.{Answer}
use Rattle.store_play.specs.declared.events.Event.{Event}
use Rattle.store_play.specs.declared.running.Ran.{Ran}

-- a store that was just opened, with so many handles and places for sets
abbrev pub first_stage : Store → Run → ℕ → ℕ → Stage
first_stage store run handles places =
    record { core = first_core store; run = run; held = λ p. None; handles = handles; places = places }

-- the store of some mounted files whose handles have these keys in `proc`
abbrev pub store_with : List MountedFile → List KeyMap → Store
store_with files procs = store_of files (procs_at procs)

-- events were played by new handles on a store that was just opened, and the core stands again
pub record HasPlayedNew (formats : Formats) {D P : Type 0} (g : Ghosts D) (mounted : List MountedFile) (procs : List KeyMap) (places : ℕ) (opened : D) (first : Run) (events : List Event) (answers : List Answer) (core : Core D P) : Type 0 where
  pub last : Stage
  pub plays : Plays formats (store_with mounted procs) mounted (first_stage (store_with mounted procs) first (length procs) places) events answers last
  pub records : ℕ → Record
  pub known : ℕ → Option Prepared
  pub world : World
  pub core_is : last.core ≡ core_with core records known
  pub stands : StandsFor formats g (store_with mounted procs) opened core records known world last.run

-- and the store was closed: a crash since the opening leaves what the run reached, and now its files or these with its
-- doubt. Without a fault a read gives its files, and the disk is calm
pub record HasRunOpened (formats : Formats) {D P : Type 0} (g : Ghosts D) (mounted : List MountedFile) (procs : List KeyMap) (places : ℕ) (opened : D) (first : Run) (events : List Event) (ran : Ran D P) : Type 0 where
  pub core : Core D P
  pub played : HasPlayedNew formats g mounted procs places opened first events ran.answers core
  pub history : ran.history.commits ≡ core.history.commits
  pub reached : LeavesOnly g opened ran.disk (IsReached played.last.run.files played.last.run.commits played.last.run.begun)
  pub shown : ¬ HasRisen played.last.run.faults (g.faults ran.disk)
      → SameFiles (g.seen ran.disk) (files_of played.last.run)
  pub calm : ¬ HasRisen played.last.run.faults (g.faults ran.disk)
      → IsCalm (g.seen ran.disk) (g.may_leave ran.disk) (files_of played.last.run) played.last.run.doubt
  pub now : EveryImage (g.may_leave ran.disk) (HasOnly (IsEither (files_of played.last.run) played.last.run.doubt))

-- the disk of a run, or the one that was handed back
abbrev pub disk_of : {D P : Type 0} → Result (Ran D P) (OpenRefused D P) → D
disk_of (Ok ran) = ran.disk
disk_of (Err refused) = refused.disk

-- an image that stands for some files, or for these with one entry: a disk that has it alone is calm
abbrev pub StandsForOne : Image → Type 0
StandsForOne image = (files : Image) × (doubt : Option (List FileText)) × HasOnly (IsEither files doubt) image

-- each crash leaves such an image
abbrev pub CrashesCalm : {D : Type 0} → Ghosts D → D → Type 0
CrashesCalm g disk = EveryImage (g.may_leave disk) StandsForOne

-- an image that stands for what a calm disk stood for, or for what a run reached
abbrev pub WasOrReached : Image → Option (List FileText) → Run → Image → Type 0
WasOrReached files doubt run image =
    HasOnly (IsEither files doubt) image ⊎ IsReached run.files run.commits run.begun image

-- the events were played from the opening to the close, behind a run that began as the first one. The calls that they
-- made are those of one owner. A crash at any moment since the disk was handed in leaves what it stood for then, or the
-- files of a prefix of the commits, or these with one set that was begun on just that prefix; and now the files of all
-- commits, or these with the set in doubt. Without a fault a read gives the files of all commits, and the disk is calm
pub record HasRun (formats : Formats) {D P : Type 0} (g : Ghosts D) (mounted : List MountedFile) (procs : List KeyMap) (places : ℕ) (disk : D) (files : Image) (doubt : Option (List FileText)) (first : Run) (events : List Event) (ran : Ran D P) : Type 0 where
  pub last : Stage
  pub plays : Plays formats (store_with mounted procs) mounted (first_stage (store_with mounted procs) first (length procs) places) events ran.answers last
  pub calls : List (event.Event × event.Answer)
  pub are_calls : AreCalls mounted events ran.answers calls
  pub one_owner : IsOneOwner formats (store_with mounted procs) calls last.core
  pub history : ran.history.commits ≡ last.core.history
  pub entries : last.run.commits ≡ entries_of formats (store_with mounted procs) last.core.history
  pub files_stay : last.run.files ≡ first.files
  pub any_moment : LeavesOnly g disk ran.disk (WasOrReached files doubt last.run)
  pub now : EveryImage (g.may_leave ran.disk) (HasOnly (IsEither (files_of last.run) last.run.doubt))
  pub shown : ¬ HasRisen first.faults (g.faults ran.disk) → SameFiles (g.seen ran.disk) (files_of last.run)
  pub calm : ¬ HasRisen first.faults (g.faults ran.disk)
      → IsCalm (g.seen ran.disk) (g.may_leave ran.disk) (files_of last.run) last.run.doubt

-- ---- what the calls promise, by their answers

-- whatever files a calm disk has, and whatever is in doubt on it
abbrev pub FromCalm : {D : Type 0} → Ghosts D → D → (Image → Option (List FileText) → Type 0) → Type 0
FromCalm g disk P =
    (files : Image) (doubt : Option (List FileText)) → IsCalm (g.seen disk) (g.may_leave disk) files doubt → P files doubt

-- the run that begins on the files that the journals of a disk leave, with what they leave in doubt, under a head with
-- some names
abbrev pub opened_run : {D : Type 0} → Ghosts D → D → Option (List FileText) → List (List ℕ) → Run
opened_run g disk later names = new_run names (opened_files (g.seen disk)) (g.faults disk) later

-- one that may begin so has a property
abbrev pub ForOpenedRun : {D : Type 0} → Ghosts D → D → ((List (List ℕ) → Run) → Type 0) → Type 0
ForOpenedRun g disk Property =
    (later : Option (List FileText)) × MayBeLeft (g.seen disk) later × Property (opened_run g disk later)

-- events were played on the store of some opened files, behind a run that began as the first one, under a head that
-- names the files of the store
abbrev pub HasRunFiles : Formats → Reading → Badness → {D P : Type 0} → Ghosts D → List KeyMap → ℕ → List Event → D → Image → Option (List FileText) → (List (List ℕ) → Run) → Ran D P → Type 0
HasRunFiles formats Reads IsBad g procs places events disk files doubt first ran =
    (mounted : List MountedFile) × IsOpened Reads IsBad (opened_files (g.seen disk)) mounted
    × HasRun formats g mounted procs places disk files doubt (first (table_files (store_with mounted procs))) events ran

-- of `run`
pub record RunsStore (formats : Formats) (Reads : Reading) (IsBad : Badness) {D P : Type 0} (g : Ghosts D) (refusals : P → ℕ) (procs : List KeyMap) (places : ℕ) (events : List Event) (disk : D) (matcher : P) (result : Result (Ran D P) (OpenRefused D P)) : Type 0 where
  pub sound : CrashesCalm g (disk_of result)
  pub ran : FromCalm g disk (λ files doubt. IfOk result (λ ran. ForOpenedRun g disk (λ first. HasRunFiles formats Reads IsBad g procs places events disk files doubt first ran)))
  pub own : FromCalm g disk (λ files doubt. SameFiles files (opened_files (g.seen disk)) → IfOk result (HasRunFiles formats Reads IsBad g procs places events disk files doubt (λ names. new_run names files (g.faults disk) doubt)))
  pub causes : IfOk result (λ ran. All (IsCaused (g.faults disk) (g.faults ran.disk) (refusals matcher) (refusals ran.patterns)) ran.answers)
  pub later : IfOk result (λ ran. refusals matcher ≤ refusals ran.patterns)
  -- it is refused for the files of the opening, never for the bytes of a journal, or for a fault, with its cause
  pub refused : FromCalm g disk (λ files doubt. IfErr result (λ refused. RefusesStore Reads IsBad (opened_files (g.seen disk) own_mount.file) refused.fault))
  pub calm : IfErr result (λ refused. ((at : ℕ) → refused.fault ≢ BadJournal at) × ((version : ℕ) → refused.fault ≢ UnknownVersion version))
  pub cause : IfErr result (λ refused. refused.fault ≡ DiskFault → HasRisen (g.faults disk) (g.faults refused.disk))
  pub patterns : IfErr result (λ refused. refused.patterns ≡ matcher)
  -- and leaves the disk as calm as before, where it didn't fail, and whole whenever it crashed
  pub calm_still : FromCalm g disk (λ files doubt. IfErr result (λ refused. ¬ HasRisen (g.faults disk) (g.faults refused.disk) → IsCalm (g.seen refused.disk) (g.may_leave refused.disk) files doubt))
  pub any_moment : FromCalm g disk (λ files doubt. IfErr result (λ refused. ForOpenedRun g disk (λ first. (names : List (List ℕ)) → LeavesOnly g disk refused.disk (WasOrReached files doubt (first names)))))
  pub own_any_moment : FromCalm g disk (λ files doubt. SameFiles files (opened_files (g.seen disk)) → IfErr result (λ refused. (names : List (List ℕ)) → LeavesOnly g disk refused.disk (WasOrReached files doubt (new_run names files (g.faults disk) doubt))))
  pub goes : GoesOn g disk (disk_of result)

-- a core that was just opened stands for a run
abbrev pub StandsNew : Formats → {D P : Type 0} → Ghosts D → List MountedFile → List KeyMap → Core D P → D → Run → Type 0
StandsNew formats g mounted procs core start run =
    StandsFor formats g (store_with mounted procs) start core (λ r. no_record) (λ p. None) first_world run

-- of the run of a store that was just opened
pub record RunsOpened (formats : Formats) {D P : Type 0} (g : Ghosts D) (refusals : P → ℕ) (mounted : List MountedFile) (procs : List KeyMap) (places : ℕ) (events : List Event) (core : Core D P) (result : Result (Ran D P) (OpenRefused D P)) : Type 0 where
  pub ran : (start : D) (run : Run) → StandsNew formats g mounted procs core start run
      → IfOk result (HasRunOpened formats g mounted procs places start run events)
  pub sound : CrashesCalm g (disk_of result)
  pub causes : IfOk result (λ ran. All (IsCaused (g.faults core.journal.disk) (g.faults ran.disk) (refusals core.patterns) (refusals ran.patterns)) ran.answers)
  pub later : IfOk result (λ ran. refusals core.patterns ≤ refusals ran.patterns)
  pub refused : IfErr result (λ refused. refused.fault ≡ Memory)
  pub patterns : IfErr result (λ refused. refused.patterns ≡ core.patterns)
  pub reached : (start : D) (run : Run) → StandsNew formats g mounted procs core start run
      → IfErr result (λ refused. LeavesOnly g start refused.disk (IsReached run.files run.commits run.begun))
  pub still : (start : D) (run : Run) (files : Image) (doubt : Option (List FileText))
      → StandsNew formats g mounted procs core start run → IsFresh core.journal → IsEither files doubt (files_of run)
      → IfErr result (λ refused. ¬ HasRisen (g.faults core.journal.disk) (g.faults refused.disk) → IsCalm (g.seen core.journal.disk) (g.may_leave core.journal.disk) files doubt
      → IsCalm (g.seen refused.disk) (g.may_leave refused.disk) files doubt)
  pub goes : GoesOn g core.journal.disk (disk_of result)
