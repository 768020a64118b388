-- What a commit on an open store promises, by its answer, of what is kept and of the disk: the contract that a call of
-- a handle with its prepared set is to have. What is kept goes on as the definitions of a store say (`Made`, of
-- `model_store`), and the run on the disk as its answer says. `Core::enter` is the half of it that writes; a crash amid
-- it leaves the files, with the former doubt or with this entry (`any_moment` there). (This project's own.)
use Rattle.std.specs.Prelude.{◌≡◌, ℕ, List, Option, Some, None}
use Rattle.kdb_outside.specs.declared.disks.Disk.{Ghosts}
use Rattle.journal_codec.specs.declared.files.FileText.{FileText}
use Rattle.model_crashes.specs.Runs.{Run, IsOneOf, after_begun, after_commit}
use Rattle.model_files.specs.Texts.{entry_of}
use Rattle.model_maps.specs.KeyMap.{KeyMap}
use Rattle.model_store.specs.Cores.{Made}
use Rattle.model_store.specs.Events.{Answer, Commit, Judged, Failed}
use Rattle.model_store.specs.Records.{Record}
use Rattle.model_store.specs.Sets.{Prepared}
use Rattle.model_store.specs.Store.{Store, Formats}
use Rattle.model_store.specs.Verdicts.{Commits, commit_of}
use Rattle.store_core.specs.Cores.{core_with}
use Rattle.store_core.specs.declared.cores.Core.{Core}
use Rattle.store_phases.specs.Stores.{IsStore}

-- an entry was begun and not acknowledged: then none is in doubt, or the former one, or this one
abbrev pub BeginsOnly : Run → List FileText → Run → Type 0
BeginsOnly run entry later =
    (doubt : Option (List FileText)) × IsOneOf doubt run.doubt entry × (later ≡ after_begun run entry doubt)

-- the texts of a set were begun
abbrev pub BeginsSet : Formats → Store → KeyMap → Run → Option Prepared → Run → Type 0
BeginsSet formats store keys run None later = ⊥
BeginsSet formats store keys run (Some set) later = BeginsOnly run (entry_of formats store keys (commit_of set)) later

-- how a run goes on by the answer to a commit of a set: its texts are acknowledged, or begun, or nothing is written
abbrev pub RunsOn : Formats → Store → KeyMap → Run → Option Prepared → Answer → Run → Type 0
RunsOn formats store keys run set (Judged front (Commits commit aside)) later =
    later ≡ after_commit run (entry_of formats store keys commit)
RunsOn formats store keys run set (Failed front) later = BeginsSet formats store keys run set later
RunsOn formats store keys run set answer later = later ≡ run

-- a handle committed its set of a number, with this answer
pub record IsCommitted (formats : Formats) {D P : Type 0} (g : Ghosts D) (store : Store) (opened : D) (before after : Core D P) (records next : ℕ → Record) (sets : ℕ → Option Prepared) (run later : Run) (r p : ℕ) (answer : Answer) : Type 0 where
  pub made : Made formats store (core_with before records sets) (Commit r p) answer (core_with after next sets)
  pub start : after.start ≡ before.start
  pub runs_on : RunsOn formats store before.keys run (sets p) answer later
  pub on_disk : IsStore g opened after.journal later
