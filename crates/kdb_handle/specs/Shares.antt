-- What the core of an open store stands for, under the lock of its handles. (This project's own.)
use Rattle.std.specs.Prelude.{◌≡◌, ℕ, List, [], ◌∷◌, length, map as over}
use Rattle.std.specs.Coded.{Coded}
use Rattle.kdb_outside.specs.Frames.{GoesOn}
use Rattle.kdb_outside.specs.declared.disks.Disk.{Ghosts}
use Rattle.intent_journal.specs.Journal.{JournalValue}
use Rattle.kdb_handle.specs.Datums.{coded_journal}
use Rattle.kdb_handle.specs.Opened.{store_at}
use Rattle.kdb_handle.specs.Rising.{HasRisenBy}
use Rattle.kdb_handle.specs.Runs.{RunsBy}
use Rattle.kdb_handle.specs.Story.{Told, Opening, Opened, Committed, Failed, Refused, BeginsNone, commits_of, failures_in, refusals_in}
use Rattle.kdb_handle.specs.declared.shared.Fresh.{Fresh}
use Rattle.kdb_handle.specs.declared.shared.Fresh.TheVariants as fresh
use Rattle.model_crashes.specs.Runs.{Run}
use Rattle.model_files.specs.Files.{HaveFiles, table_files}
use Rattle.model_history.specs.History.{replay}
use Rattle.model_store.specs.Legal.{IsLegal}
use Rattle.model_store.specs.Sound.{IsSound}
use Rattle.model_store.specs.Store.{Formats}
use Rattle.model_store.specs.Verdicts.{commit_of}
use Rattle.mounted_files.specs.Visible.{visible_keys}
use Rattle.store_core.specs.declared.cores.Core.{Core}
use Rattle.store_phases.specs.Stores.{IsStore}
use Rattle.store_verdict.specs.PreparedView.{prepared_of}

-- what the present turn has told: nothing, a commit, a set that was begun and failed, or one with a refused pattern
abbrev pub told_now : Fresh → List Told
told_now fresh.Nothing = []
told_now (fresh.Committed set) = Committed (commit_of (prepared_of set.value)) ∷ []
told_now (fresh.Failed set) = Failed (commit_of (prepared_of set.value)) ∷ []
told_now (fresh.Refused set) = Refused (prepared_of set.value).handle ∷ []

-- A core with a count of entries stands for a story that begins with its opening, whose store is sound. It has the
-- history of the story, which is legal, the keys that the opening found, and the keys after the history. The disk's
-- count of faults rose by at least the sets that failed, and the matcher's count of refusals by at least those with a
-- refused pattern. Where no set was begun, and no entry waited from the first, the journal and its disk are as the
-- opening left them. And for whatever run the journal stood at the opening, under a head that names the files of the
-- store, it stands now for the run that went on by the story.
pub record IsShared (formats : Formats) {D P : Type 0} (g : Ghosts D) (code : Coded D) (refused : P → ℕ) (core : Core D P) (entries : ℕ) (log : List Told) : Type 0 where
  pub opening : Opening
  pub rest : List Told
  pub log_is : log ≡ Opened opening ∷ rest
  pub count : entries ≡ length log
  pub files : HaveFiles (over (λ file. file.mount) opening.files)
  pub history : core.history.commits ≡ commits_of rest
  pub start : core.start ≡ visible_keys opening.files
  pub keys : core.keys ≡ replay (visible_keys opening.files) (commits_of rest)
  pub legal : IsLegal formats (store_at opening.files) (commits_of rest)
  pub sound : IsSound formats (store_at opening.files)
  pub journal : JournalValue D
  pub journal_is : opening.journal ≡ (coded_journal code).code journal
  pub goes : GoesOn g journal.disk core.journal.disk
  pub faults : HasRisenBy (failures_in rest) (g.faults journal.disk) (g.faults core.journal.disk)
  pub refusals : HasRisenBy (refusals_in rest) opening.refusals (refused core.patterns)
  pub idle : BeginsNone rest → journal.list ≡ [] → (core.journal ≡ journal) × (core.wrote ≡ opening.wrote)
  pub run : (start : D) (first : Run) → first.names ≡ table_files (store_at opening.files)
      → IsStore g start journal first
      → (last : Run) × RunsBy formats (store_at opening.files) (visible_keys opening.files) first rest last
      × IsStore g start core.journal last
