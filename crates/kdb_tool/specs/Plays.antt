-- What a batch does whose sessions take their steps: its replies, its history, the files, and what a crash may leave.
-- (This project's own.)
use Rattle.std.specs.Prelude.{◌≡◌, ◌⊎◌, ℕ, List, [], Option, None, map as over}
use Rattle.all_formats.specs.Meanings as all
use Rattle.batch_script.specs.declared.steps.Script.{Script}
use Rattle.intent_journal.specs.Opened.{opened_files}
use Rattle.journal_steps.specs.Moments.{LeavesOnly}
use Rattle.intent_journal.specs.Outcomes.{HasOnly}
use Rattle.journal_steps.specs.Outcomes.{SameFiles, IsEither}
use Rattle.intent_journal.specs.States.{IsCalm}
use Rattle.journal_codec.specs.declared.files.FileText.{FileText}
use Rattle.kdb_handle.specs.Opened.{store_at}
use Rattle.kdb_handle.specs.Rising.{HasRisenBy}
use Rattle.kdb_handle.specs.Runs.{RunsBy}
use Rattle.kdb_handle.specs.Story.{Told, BeginsNone, commits_of, failures_in, refusals_in}
use Rattle.kdb_handle.specs.declared.replies.Transcripts.{Transcripts}
use Rattle.kdb_outside.specs.Crashes.{EveryImage}
use Rattle.kdb_outside.specs.Faults.{HasRisen}
use Rattle.kdb_outside.specs.Frames.{OnlyReads}
use Rattle.kdb_outside.specs.Images.{Image}
use Rattle.kdb_outside.specs.declared.disks.Disk.{Ghosts}
use Rattle.kdb_print.specs.Printed.{printed}
use Rattle.kdb_print.specs.Replies.{status_of}
use Rattle.model_batch.specs.Fair.{count_failed, count_refused}
use Rattle.model_batch.specs.Scripts.{IsFairScript, reply_rows, sessions_of}
use Rattle.model_crashes.specs.Runs.{Run, IsReached, files_of, new_run}
use Rattle.model_files.specs.Files.{table_files}
use Rattle.model_history.specs.History.{Commit}
use Rattle.model_store.specs.Legal.{IsLegal}
use Rattle.mount_table.specs.declared.mounts.Mount.{Mount}
use Rattle.mounted_files.specs.Visible.{visible_keys}
use Rattle.mounted_files.specs.Opening.{IsOpened}
use Rattle.mounted_files.specs.declared.files.MountedFile.{MountedFile}
use Rattle.tool_commands.specs.Report.{Report}
use Rattle.tool_single.specs.Crashing.{HasNothingToWrite}
use Rattle.tool_single.specs.Sets.{formats}

-- The sessions of a script took their steps, on a disk that was found with some files and a doubt. The files mean a
-- store. There is one story of what the sessions did, whose commits are legal on the store, and by which the replies
-- are fair; it has as many sets that failed and refused patterns as the replies tell, and no more, and the counts of
-- faults and of refused patterns rose by at least so many. The run on the disk began with the files of the opening,
-- under a head that names those of the store, and with a doubt that stands for no other files than were found, and went
-- on by the story. A crash at any moment since the call began leaves the files as they were found, or a prefix of the
-- commits on those of the opening, or such a prefix with the set that was begun just there; and behind the call all
-- commits, or all with the set in doubt. Where the disk didn't fail, it shows the files of all commits, and is calm
-- with them. Where no set was begun and the opening had nothing to write, it was only read
pub record Plays {D : Type 0} (g : Ghosts D) (files : Image) (doubt : Option (List FileText)) (refusals_before refusals_now : ℕ) (script : Script) (transcripts : Transcripts) (disk end : D) : Type 0 where
  pub mounted : List MountedFile
  pub opened : IsOpened all.Reads all.IsBadAt (opened_files (g.seen disk)) mounted
  pub story : List Told
  pub legal : IsLegal formats (store_at mounted) (commits_of story)
  pub fair : IsFairScript formats mounted (commits_of story) script transcripts
  pub failures : failures_in story ≡ count_failed (reply_rows script transcripts)
  pub refusals : refusals_in story ≡ count_refused (reply_rows script transcripts)
  pub failed : HasRisenBy (count_failed (reply_rows script transcripts)) (g.faults disk) (g.faults end)
  pub refused : HasRisenBy (count_refused (reply_rows script transcripts)) refusals_before refusals_now
  pub found : Option (List FileText)
  pub within : (o : Image) → IsEither (opened_files (g.seen disk)) found o → IsEither files doubt o
  pub last : Run
  pub by_story : RunsBy formats (store_at mounted) (visible_keys mounted) (new_run (table_files (store_at mounted)) (opened_files (g.seen disk)) (g.faults disk) found) story last
  pub crash : LeavesOnly g disk end (λ image. HasOnly (IsEither files doubt) image ⊎ IsReached last.files last.commits last.begun image)
  pub lasting : EveryImage (g.may_leave end) (HasOnly (IsEither (files_of last) last.doubt))
  pub shown : ¬ HasRisen (g.faults disk) (g.faults end) → SameFiles (g.seen end) (files_of last)
  pub calm : ¬ HasRisen (g.faults disk) (g.faults end)
      → IsCalm (g.seen end) (g.may_leave end) (files_of last) last.doubt
  pub untouched : BeginsNone story → HasNothingToWrite (g.seen disk) → OnlyReads g disk end

-- what a batch tells of its sessions, with the mounts and the numbers of the sessions: the worst of its replies as the
-- status, and all of them with the history on out
abbrev pub report_with : List Mount → List ℕ → Script → Transcripts → List Commit → Report
report_with mounts sessions script transcripts history = record {
  status = status_of transcripts.phases;
  out = printed mounts sessions script transcripts.phases history;
  err = [];
}

-- with those of the mounted files and of the script
abbrev pub report_by : Script → Transcripts → List MountedFile → List Commit → Report
report_by script transcripts mounted history =
    report_with (over (λ file. file.mount) mounted) (sessions_of script) script transcripts history
