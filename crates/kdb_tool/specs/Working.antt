-- What was done for a batch, by how it ended, before it is told on out and err. (This project's own.)
use Rattle.std.specs.Prelude.{◌≡◌, ℕ, List, Option, Some, None, Result, Err, map as over}
use Rattle.batch_script.specs.declared.steps.Script.{Script}
use Rattle.batch_run.specs.Played.{IsPlayed}
use Rattle.batch_run.specs.declared.playing.Played.{Played}
use Rattle.journal_codec.specs.declared.files.FileText.{FileText}
use Rattle.kdb_handle.specs.Story.{commits_of}
use Rattle.kdb_handle.specs.declared.replies.Transcripts.{Transcripts}
use Rattle.kdb_outside.specs.Images.{Image}
use Rattle.kdb_outside.specs.declared.disks.Disk.{Ghosts}
use Rattle.model_batch.specs.Scripts.{sessions_of}
use Rattle.model_history.specs.History.{Commit}
use Rattle.mount_table.specs.declared.mounts.Mount.{Mount}
use Rattle.mounted_files.specs.declared.files.MountedFile.{MountedFile}
use Rattle.store_core.specs.declared.cores.Core.{Core}
use Rattle.kdb_tool.specs.Plays.{Plays, report_by, report_with}
use Rattle.tool_commands.specs.declared.reports.Report as code
use Rattle.tool_single.specs.Answer.{Answer}
use Rattle.tool_single.specs.Refusing.{Tells}
use Rattle.tool_single.specs.Serving.{Serve}
use Rattle.tool_single.specs.Sets.{formats}
use Rattle.tool_single.specs.declared.answers.Ended.{Ended}
use Rattle.tool_single.specs.declared.answers.Stop.{Stop}
use Rattle.tool_single.specs.declared.answers.Stop.TheVariants as stops

-- the answer by the replies of the sessions: they are told, or memory was wanting for that; or it was wanting before
-- the first step
abbrev pub AnswersWith : List Mount → List ℕ → Script → List Commit → Option Transcripts → Result code.Report Stop → Type 0
AnswersWith mounts sessions script history (Some transcripts) answer =
    Tells (report_with mounts sessions script transcripts history) answer
AnswersWith mounts sessions script history None answer = answer ≡ Err stops.Memory

-- with the mounts of files and the sessions of the script
abbrev pub AnswersBy : List MountedFile → Script → List Commit → Option Transcripts → Result code.Report Stop → Type 0
AnswersBy files script = AnswersWith (over (λ file. file.mount) files) (sessions_of script) script

-- what came of an open store: a script was played on it, and told
pub record HasEnded {D P : Type 0} (g : Ghosts D) (refused : P → ℕ) (files : List MountedFile) (script : Script) (core : Core D P) (ended : Ended D P) : Type 0 where
  pub played : Played D P
  pub is : IsPlayed formats g refused files script core played
  pub disk : ended.disk ≡ played.closed.disk
  pub patterns : ended.patterns ≡ played.closed.patterns
  pub told : AnswersBy files script played.closed.history.commits played.transcripts ended.answer

-- the sessions took their steps on a disk, and that was told, or memory was wanting for it
pub record PlaysTold {D : Type 0} (g : Ghosts D) (files : Image) (doubt : Option (List FileText)) (refusals_before refusals_now : ℕ) (script : Script) (answer : Result code.Report Stop) (disk end : D) : Type 0 where
  pub transcripts : Transcripts
  pub plays : Plays g files doubt refusals_before refusals_now script transcripts disk end
  pub told : Tells (report_by script transcripts plays.mounted (commits_of plays.story)) answer

-- no session took a step, and the answer is one of some; or all took those of a script that was asked for
pub data Works {D : Type 0} (g : Ghosts D) (files : Image) (doubt : Option (List FileText)) (refusals_before refusals_now : ℕ) (Answered : Answer → Type 0) (IsAsked : Script → Type 0) (answer : Result code.Report Stop) (disk end : D) : Type 0 where
  NotPlayed : Serve g files doubt Answered answer disk end
      → Works g files doubt refusals_before refusals_now Answered IsAsked answer disk end
  HasPlayed : (script : Script) → IsAsked script
      → PlaysTold g files doubt refusals_before refusals_now script answer disk end
      → Works g files doubt refusals_before refusals_now Answered IsAsked answer disk end
