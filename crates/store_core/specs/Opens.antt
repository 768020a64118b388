-- What `open_store` promises, by the disk and the matcher that it was handed, and by its answer. (This project's own.)
use Rattle.std.specs.Prelude.{◌≡◌, ◌≢◌, ℕ, List, [], true, false, Option, Some, None, Result, Err, IfOk, IfErr, MatchResult}
use Rattle.kdb_outside.specs.Crashes.{EveryImage}
use Rattle.kdb_outside.specs.declared.disks.Disk.{Ghosts}
use Rattle.kdb_outside.specs.Faults.{HasRisen}
use Rattle.kdb_outside.specs.Frames.{GoesOn, OnlyReads}
use Rattle.journal_codec.specs.declared.files.FileText.{FileText}
use Rattle.intent_journal.specs.Journal.{JournalValue}
use Rattle.intent_journal.specs.Opened.{bad_place, found_in, open_list, opened_files, unknown_version, HasNoFormer, IsFresh, IsKept, MayBeLeft}
use Rattle.intent_journal.specs.Opens.{has_any}
use Rattle.journal_steps.specs.Moments.{LeavesOnly}
use Rattle.intent_journal.specs.Openings.{LeavesRetired, WhereCalm}
use Rattle.intent_journal.specs.Outcomes.{HasOnly}
use Rattle.journal_steps.specs.Outcomes.{SameFiles, IsEither}
use Rattle.intent_journal.specs.States.{IsCalm}
use Rattle.journal_steps.specs.declared.faults.JournalFault.{JournalFault}
use Rattle.model_crashes.specs.Runs.{new_run}
use Rattle.model_files.specs.Files.{table_files}
use Rattle.model_maps.specs.KeyMap.{KeyMap}
use Rattle.model_store.specs.Records.{no_record}
use Rattle.model_store.specs.Store.{Formats, store_of}
use Rattle.model_store.specs.Worlds.{first_world}
use Rattle.mount_table.specs.Table.{own_mount}
use Rattle.mounted_files.specs.Files.{Reading, Badness}
use Rattle.mounted_files.specs.Opening.{IsOpened}
use Rattle.mounted_files.specs.Visible.{visible_keys}
use Rattle.store_core.specs.Cores.{StandsFor, StandsIn}
use Rattle.store_core.specs.Faults.{RefusesBroken, RefusesStore, RefusesUnknown}
use Rattle.store_core.specs.Frames.{OnlyReadsFiles}
use Rattle.store_core.specs.Opened.{IsLeft, disk_of, fault_of, may_be_of_journal, patterns_of}
use Rattle.store_core.specs.declared.faults.OpenFault.TheVariants.{BadJournal, DiskFault, Memory, UnknownVersion}
use Rattle.store_core.specs.declared.faults.OpenRefused.{OpenRefused}
use Rattle.store_core.specs.declared.opening.Opened.{Opened}

-- a core stands for a run that begins on the files that the opening leaves, with what that leaves in doubt
pub record BeginsStore (formats : Formats) {D F P : Type 0} (g : Ghosts D) (disk : D) (opened : Opened D F P) : Type 0 where
  pub later : Option (List FileText)
  pub may_be : MayBeLeft (g.seen disk) later
  pub stands : (procs : ℕ → KeyMap) → StandsFor formats g (store_of opened.plan.mounted procs) opened.core.journal.disk
      opened.core (λ r. no_record) (λ p. None) first_world (new_run (table_files (store_of opened.plan.mounted procs)) (opened_files (g.seen disk)) (g.faults disk) later)

-- by the formats: what they are to a store, which bytes they read as which keys, and which are bad
pub record OpensStore (formats : Formats) (Reads : Reading) (IsBad : Badness) {D F P : Type 0} (g : Ghosts D) (disk : D) (matcher : P) (result : Result (Opened D F P) (OpenRefused D P)) : Type 0 where
  pub patterns : patterns_of result ≡ matcher
  -- of a calm disk the store of the files that the journal leaves is opened
  pub opened : WhereCalm g disk (λ files doubt. IfOk result (λ opened. IsOpened Reads IsBad (opened_files (g.seen disk)) opened.plan.mounted))
  pub stands : WhereCalm g disk (λ files doubt. IfOk result (λ opened. BeginsStore formats g disk opened))
  pub own : WhereCalm g disk (λ files doubt. SameFiles files (opened_files (g.seen disk))
      → IfOk result (λ opened. (procs : ℕ → KeyMap) → StandsFor formats g (store_of opened.plan.mounted procs) opened.core.journal.disk
      opened.core (λ r. no_record) (λ p. None) first_world (new_run (table_files (store_of opened.plan.mounted procs)) files (g.faults disk) doubt)))
  pub shown : WhereCalm g disk (λ files doubt. may_be_of_journal (fault_of result) ≡ false → SameFiles (g.seen (disk_of result)) (opened_files (g.seen disk)))
  pub files : WhereCalm g disk (λ files doubt. IfOk result (λ _. IsEither files doubt (opened_files (g.seen disk))))
  -- whatever the disk tells, the core is a first one
  pub world : IfOk result (λ opened. (procs : ℕ → KeyMap) → StandsIn formats (store_of opened.plan.mounted procs) opened.core (λ r. no_record) (λ p. None) first_world)
  pub keys : IfOk result (λ opened. opened.core.keys ≡ visible_keys opened.plan.mounted)
  pub start : IfOk result (λ opened. opened.core.start ≡ visible_keys opened.plan.mounted)
  pub none : IfOk result (λ opened. opened.core.history.commits ≡ [])
  pub wrote : g.tells disk ≡ true → IfOk result (λ opened. opened.core.wrote ≡ has_any (open_list (g.seen disk)))
  pub fresh : IfOk result (λ opened. IsFresh opened.core.journal)
  -- a disk without a former journal and without an open entry is only read
  pub as_seen : g.tells disk ≡ true → HasNoFormer (g.seen disk) → open_list (g.seen disk) ≡ []
      → MatchResult result (λ opened. IsOpened Reads IsBad (g.seen disk) opened.plan.mounted) (λ refused. RefusesStore Reads IsBad (g.seen disk own_mount.file) refused.fault)
  pub left_alone : g.tells disk ≡ true → HasNoFormer (g.seen disk) → open_list (g.seen disk) ≡ []
      → OnlyReads g disk (disk_of result)
  -- of each disk that tells, also one that isn't calm and has an open entry, the files are what it shows then, and so
  -- is what refuses them
  pub told : g.tells disk ≡ true
      → MatchResult result (λ opened. IsOpened Reads IsBad (g.seen (disk_of result)) opened.plan.mounted) (λ refused. RefusesStore Reads IsBad (g.seen (disk_of result) own_mount.file) refused.fault)
  -- why it is refused
  pub refused : WhereCalm g disk (λ files doubt. IfErr result (λ refused. RefusesStore Reads IsBad (opened_files (g.seen disk) own_mount.file) refused.fault))
  pub bad : g.tells disk ≡ true → (at : ℕ) → fault_of result ≡ Some (BadJournal at) → bad_place (g.seen disk) ≡ Some at
  pub broken : g.tells disk ≡ true → (at : ℕ) → bad_place (g.seen disk) ≡ Some at
      → MatchResult result (λ _. ⊥) (λ refused. RefusesBroken at refused.fault)
  pub unknown : g.tells disk ≡ true → (version : ℕ) → fault_of result ≡ Some (UnknownVersion version)
      → unknown_version (g.seen disk) ≡ Some version
  pub known : g.tells disk ≡ true → (version : ℕ) → unknown_version (g.seen disk) ≡ Some version
      → MatchResult result (λ _. ⊥) (λ refused. RefusesUnknown version refused.fault)
  pub calm : WhereCalm g disk (λ files doubt.
      ((at : ℕ) → fault_of result ≡ Some (BadJournal at) → ⊥) × ((version : ℕ) → fault_of result ≡ Some (UnknownVersion version) → ⊥))
  pub cause : fault_of result ≡ Some DiskFault → HasRisen (g.faults disk) (g.faults (disk_of result))
  -- where the journals are at fault the disk is only read, or the former one is retired alone
  pub stays : g.tells disk ≡ true → (fault : JournalFault) → found_in (g.seen disk) ≡ Err fault → IsKept (g.seen disk)
      → OnlyReads g disk (disk_of result)
  pub retires : g.tells disk ≡ true → (fault : JournalFault) → found_in (g.seen disk) ≡ Err fault
      → ¬ IsKept (g.seen disk)
      → IfErr result (λ refused. refused.fault ≢ DiskFault → refused.fault ≢ Memory → LeavesRetired g disk refused.disk)
  -- what it leaves, and what a crash amid it leaves
  pub calm_still : WhereCalm g disk (λ files doubt. ¬ HasRisen (g.faults disk) (g.faults (disk_of result)) → IsCalm (g.seen (disk_of result)) (g.may_leave (disk_of result)) files doubt)
  pub left : WhereCalm g disk (λ files doubt. ¬ HasRisen (g.faults disk) (g.faults (disk_of result)) → IsLeft g disk (disk_of result))
  pub any_moment : WhereCalm g disk (λ files doubt. LeavesOnly g disk (disk_of result) (HasOnly (IsEither files doubt)))
  pub rests : WhereCalm g disk (λ files doubt. EveryImage (g.may_leave (disk_of result)) (HasOnly (IsEither files doubt)))
  pub goes : GoesOn g disk (disk_of result)

-- and what the mounting of the files of an opened journal promises
pub record OpensFiles (formats : Formats) (Reads : Reading) (IsBad : Badness) {D F P : Type 0} (g : Ghosts D) (before : JournalValue D) (matcher : P) (result : Result (Opened D F P) (OpenRefused D P)) : Type 0 where
  pub patterns : patterns_of result ≡ matcher
  pub told : g.tells before.disk ≡ true
      → MatchResult result (λ opened. IsOpened Reads IsBad (g.seen before.disk) opened.plan.mounted) (λ refused. RefusesStore Reads IsBad (g.seen before.disk own_mount.file) refused.fault)
  pub world : IfOk result (λ opened. (procs : ℕ → KeyMap) → StandsIn formats (store_of opened.plan.mounted procs) opened.core (λ r. no_record) (λ p. None) first_world)
  pub keys : IfOk result (λ opened. opened.core.keys ≡ visible_keys opened.plan.mounted)
  pub start : IfOk result (λ opened. opened.core.start ≡ visible_keys opened.plan.mounted)
  pub none : IfOk result (λ opened. opened.core.history.commits ≡ [])
  pub wrote : IfOk result (λ opened. opened.core.wrote ≡ before.recovered)
  pub journal : IfOk result (λ opened. OnlyReadsFiles g before opened.core.journal)
  pub reads : OnlyReads g before.disk (disk_of result)
  pub own : ((at : ℕ) → fault_of result ≡ Some (BadJournal at) → ⊥)
      × ((version : ℕ) → fault_of result ≡ Some (UnknownVersion version) → ⊥)
  pub cause : fault_of result ≡ Some DiskFault → HasRisen (g.faults before.disk) (g.faults (disk_of result))
