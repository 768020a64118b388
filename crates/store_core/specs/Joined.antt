-- What a commit needs of its caller, and what it does then. (This project's own.)
use Rattle.std.specs.Prelude.{◌≡◌, ℕ, ◌≤◌, Bool, true, List, length, map as over, Option, Some, Result}
use Rattle.kdb_outside.specs.declared.disks.Disk.{Ghosts}
use Rattle.model_crashes.specs.Runs.{Run}
use Rattle.model_files.specs.Files.{table_files}
use Rattle.model_files.specs.Texts.{as_entry, texts_at}
use Rattle.model_maps.specs.KeyMap.{KeyMap}
use Rattle.model_store.specs.Cores.{Made, accepts}
use Rattle.model_store.specs.Events.{Answer, Commit, put}
use Rattle.model_store.specs.Records as model
use Rattle.model_store.specs.Sets as sets
use Rattle.model_store.specs.Sets.{wants}
use Rattle.model_store.specs.Store.{Store, Formats, points_of, store_of}
use Rattle.model_store.specs.Worlds.{World}
use Rattle.mounted_files.specs.declared.files.MountedFile.{MountedFile}
use Rattle.set_split.specs.Seen.{numbered}
use Rattle.store_core.specs.Answers.{IsAnswer}
use Rattle.store_core.specs.Committing.{IsCommitted}
use Rattle.store_core.specs.Cores.{StandsIn, core_with}
use Rattle.store_core.specs.declared.committing.CommitFault.{CommitFault}
use Rattle.store_core.specs.declared.committing.Done.{Done}
use Rattle.store_core.specs.declared.cores.Core.{Core}
use Rattle.store_phases.specs.Stores.{IsStore}
use Rattle.store_verdict.specs.PreparedView.{prepared_of}
use Rattle.store_verdict.specs.RecordView.{handle_of, places_of, record_of}
use Rattle.store_verdict.specs.declared.prepared.Prepared.{Prepared}
use Rattle.store_verdict.specs.declared.records.Record.{Record}

-- the core stands for a world, with this record as that of its handle and with this set as that of a number; the record
-- accepts the set, which holds what is wanted for each touched mount, and the texts that the formats give of it. The
-- disk has no part in it
pub record BelongsIn (formats : Formats) {D P : Type 0} (store : Store) (core : Core D P) (records : ℕ → model.Record) (made : ℕ → Option sets.Prepared) (world : World) (p : ℕ) (rec : Record) (set : Prepared) : Type 0 where
  pub stands : StandsIn formats store core records made world
  pub record_is : records (handle_of rec) ≡ record_of rec
  pub places : length store.mounts ≤ places_of rec
  pub set_is : made p ≡ Some (prepared_of set)
  pub accepted : accepts (record_of rec) (handle_of rec) (prepared_of set) ≡ true
  pub wanted : numbered set.wanted ≡ over (λ m. (m, wants (points_of store) set.keys m)) set.touched
  pub texts : set.texts ≡ as_entry (texts_at formats store set.keys set.touched)

-- and its journal stands for a run since the disk was opened, under a head that names the files of the store's mounts
pub record Belongs (formats : Formats) {D P : Type 0} (g : Ghosts D) (store : Store) (opened : D) (core : Core D P) (records : ℕ → model.Record) (made : ℕ → Option sets.Prepared) (world : World) (run : Run) (p : ℕ) (rec : Record) (set : Prepared) : Type 0 where
  pub here : BelongsIn formats store core records made world p rec set
  pub on_disk : IsStore g opened core.journal run
  pub names : run.names ≡ table_files store

-- there is such a world of a store with these files, whatever the disk tells
pub record IsReady (formats : Formats) {D P : Type 0} (files : List MountedFile) (core : Core D P) (rec : Record) (set : Prepared) : Type 0 where
  pub procs : ℕ → KeyMap
  pub records : ℕ → model.Record
  pub made : ℕ → Option sets.Prepared
  pub world : World
  pub number : ℕ
  pub belongs : BelongsIn formats (store_of files procs) core records made world number rec set

-- the set was committed as the definitions say, with this answer, where the matcher's count of refusals rose or not.
-- The disk has no part in it
pub record HasMade (formats : Formats) {D P : Type 0} (store : Store) (before after : Core D P) (records : ℕ → model.Record) (made : ℕ → Option sets.Prepared) (p : ℕ) (old new : Record) (set : Prepared) (risen : Bool) (result : Result Done CommitFault) : Type 0 where
  pub answer : Answer
  pub is_answer : IsAnswer store.mounts risen (length before.history.commits) (prepared_of set) result answer
  pub is_made : Made formats store (core_with before records made) (Commit (handle_of old) p) answer (core_with after (put (handle_of old) (record_of new) records) made)

-- and the run on the disk went on by it
pub record HasAnswered (formats : Formats) {D P : Type 0} (g : Ghosts D) (store : Store) (opened : D) (before after : Core D P) (records : ℕ → model.Record) (made : ℕ → Option sets.Prepared) (run : Run) (p : ℕ) (old new : Record) (set : Prepared) (risen : Bool) (result : Result Done CommitFault) : Type 0 where
  pub later : Run
  pub answer : Answer
  pub is_answer : IsAnswer store.mounts risen (length before.history.commits) (prepared_of set) result answer
  pub committed : IsCommitted formats g store opened before after records (put (handle_of old) (record_of new) records) made run later (handle_of old) p answer
