-- What comes of the sessions of a script on an open store, from its opening to its close. (This project's own.)
use Rattle.std.specs.Prelude.{◌≡◌, ℕ, false, List, [], All, None, IfSome}
use Rattle.batch_run.specs.Shown.{IsOrdered}
use Rattle.batch_script.specs.declared.steps.ProcLine.{ProcLine}
use Rattle.batch_script.specs.declared.steps.Script.{Script}
use Rattle.batch_run.specs.declared.playing.Played.{Played}
use Rattle.intent_journal.specs.Opened.{IsFresh}
use Rattle.kdb_handle.specs.Closing.{IsHandedOn}
use Rattle.kdb_handle.specs.Opened.{store_at}
use Rattle.kdb_handle.specs.Rising.{HasRisenBy}
use Rattle.kdb_handle.specs.Story.{Told, BeginsNone, commits_of, failures_in, refusals_in}
use Rattle.kdb_outside.specs.Frames.{GoesOn}
use Rattle.kdb_outside.specs.declared.disks.Disk.{Ghosts}
use Rattle.model_batch.specs.Fair.{count_failed, count_refused}
use Rattle.model_batch.specs.Scripts.{IsFairScript, reply_rows}
use Rattle.model_crashes.specs.Runs.{Run}
use Rattle.model_files.specs.Files.{table_files}
use Rattle.model_names.specs.declared.namespaces.Namespace.TheVariants.{Proc}
use Rattle.model_store.specs.Legal.{IsLegal}
use Rattle.model_store.specs.Store.{Formats}
use Rattle.mounted_files.specs.declared.files.MountedFile.{MountedFile}
use Rattle.store_core.specs.declared.cores.Core.{Core}
use Rattle.store_phases.specs.Stores.{IsStore}

-- a script that can be played: in each phase the sessions that it names ascend, and the keys that handles are opened
-- with are in `proc`
pub record IsPlayable (script : Script) : Type 0 where
  pub ordered : IsOrdered script
  pub procs : All (λ (line : ProcLine). line.key.namespace ≡ Proc) script.proc

-- The sessions of a script took their steps on an open store, and it was closed. There is one story of what they did,
-- whose commits are the history that comes back. It is legal, and the replies are fair by it. Each set that failed and
-- each refused pattern is one of the story, and the counts of the disk and of the matcher rose by at least so many.
-- Without memory for the replies the story is empty. A store that nothing was written to since its opening began, and
-- whose sessions begin no set, makes no call on the disk. For whatever run the journal stood, under a head that names
-- the files of the store, the disk that comes back is handed on from it by the story
pub record IsPlayed (formats : Formats) {D P : Type 0} (g : Ghosts D) (refused : P → ℕ) (files : List MountedFile) (script : Script) (core : Core D P) (played : Played D P) : Type 0 where
  pub story : List Told
  pub history : played.closed.history.commits ≡ commits_of story
  pub legal : IsLegal formats (store_at files) (commits_of story)
  pub fair : IfSome played.transcripts (IsFairScript formats files (commits_of story) script)
  pub failures : IfSome played.transcripts (λ transcripts. failures_in story ≡ count_failed (reply_rows script transcripts))
  pub refusals : IfSome played.transcripts (λ transcripts. refusals_in story ≡ count_refused (reply_rows script transcripts))
  pub none : played.transcripts ≡ None → story ≡ []
  pub failed : HasRisenBy (failures_in story) (g.faults core.journal.disk) (g.faults played.closed.disk)
  pub refused_by : HasRisenBy (refusals_in story) (refused core.patterns) (refused played.closed.patterns)
  pub goes : GoesOn g core.journal.disk played.closed.disk
  pub left_alone : BeginsNone story → core.wrote ≡ false → IsFresh core.journal → played.closed.disk ≡ core.journal.disk
  pub disk : (start : D) (first : Run) → first.names ≡ table_files (store_at files) → IsStore g start core.journal first
      → IsHandedOn formats g files start first core.journal.disk story played.closed.disk
