-- What a core stands for. (This project's own.)
use Rattle.std.specs.Prelude.{◌≡◌, ℕ, Option}
use Rattle.kdb_outside.specs.declared.disks.Disk.{Ghosts}
use Rattle.model_crashes.specs.Runs.{Run}
use Rattle.model_files.specs.Files.{HaveFiles, table_files}
use Rattle.model_files.specs.Texts.{entries_of}
use Rattle.model_store.specs.Cores as cores
use Rattle.model_store.specs.Promise.{Stands}
use Rattle.model_store.specs.Records.{Record}
use Rattle.model_store.specs.Sets.{Prepared}
use Rattle.model_store.specs.Store.{Store, Formats}
use Rattle.model_store.specs.Worlds.{World}
use Rattle.store_core.specs.declared.cores.Core.{Core}
use Rattle.store_phases.specs.Stores.{IsStore}

-- a core with the records of its handles and their prepared sets, as the definitions of a store have it
abbrev pub core_with : {D P : Type 0} → Core D P → (ℕ → Record) → (ℕ → Option Prepared) → cores.Core
core_with core records sets =
    record { history = core.history.commits; keys = core.keys; records = records; sets = sets }

-- A core, with these records and sets, stands for a world, and the mounts have files that the journal can hold,
-- whatever the disk tells. It keeps the keys that the store begins with; so its history, which is legal, leads from
-- these to the keys that it has (`stands`)
pub record StandsIn (formats : Formats) (store : Store) {D P : Type 0} (core : Core D P) (records : ℕ → Record) (sets : ℕ → Option Prepared) (world : World) : Type 0 where
  pub files : HaveFiles store.mounts
  pub start : core.start ≡ store.start
  pub stands : Stands formats store world (core_with core records sets)

-- it does, its journal stands for a run since the disk was opened, the head of the journal names the files of the
-- store's mounts, and the run's entries are those of the world's history
pub record StandsFor (formats : Formats) {D P : Type 0} (g : Ghosts D) (store : Store) (opened : D) (core : Core D P) (records : ℕ → Record) (sets : ℕ → Option Prepared) (world : World) (run : Run) : Type 0 where
  pub here : StandsIn formats store core records sets world
  pub on_disk : IsStore g opened core.journal run
  pub names : run.names ≡ table_files store
  pub entries : run.commits ≡ entries_of formats store core.history.commits
