-- What a run did on a calm disk: all of it by the one answer that it worked out, if it worked one out. (This project's
-- own.)
use Rattle.std.specs.Prelude.{◌≡◌, ◌⊎◌, ℕ, List, [], Option}
use Rattle.intent_journal.specs.Opened.{opened_files}
use Rattle.journal_steps.specs.Moments.{LeavesOnly}
use Rattle.intent_journal.specs.Outcomes.{HasOnly}
use Rattle.journal_steps.specs.Outcomes.{IsEither}
use Rattle.journal_codec.specs.declared.files.FileText.{FileText}
use Rattle.kdb_outside.specs.Crashes.{EveryImage}
use Rattle.kdb_outside.specs.Faults.{HasRisen}
use Rattle.kdb_outside.specs.Images.{Image}
use Rattle.kdb_outside.specs.SinkChange.{SinkChange as Change}
use Rattle.kdb_outside.specs.declared.disks.Disk.{Ghosts}
use Rattle.tool_commands.specs.Report.{IsAnswered}
use Rattle.tool_single.specs.Answer.{Answer}
use Rattle.tool_single.specs.Crashing.{MayBeLeft, MayRemain, Shows, StaysCalm}
use Rattle.tool_single.specs.Ends.{LosesSink}
use Rattle.tool_single.specs.Outcome.{Failed, Gives, GainsFront}
use Rattle.tool_single.specs.Serving as serving

-- an answer was worked out, of those that the words, the input and the files allow, and all that it stores was stored
pub record Follows {D : Type 0} (g : Ghosts D) (files : Image) (doubt : Option (List FileText)) (Answered : Answer → Type 0) (disk end : D) (status : ℕ) (out err : Change) : Type 0 where
  pub answer : Answer
  pub answers : Answered answer
  -- the status, out and err are those of the answer, but for a fault of out or err
  pub answered : IsAnswered status → Gives answer.report status out err
  pub ended : (status ≡ answer.report.status) ⊎ LosesSink status out err
  -- however the run ends, out has gained a front of what the answer puts there
  pub prefix : GainsFront out.held_before out.held_now answer.report.out
  -- at every moment since the call began a crash leaves the files as they were found, or these with all that the answer
  -- stores
  pub crash : LeavesOnly g disk end (MayBeLeft files doubt (opened_files (g.seen disk)) answer.stored)
  -- what the answer stored outlasts every crash behind the call, whatever failed then
  pub lasting : EveryImage (g.may_leave end) (MayRemain files doubt (opened_files (g.seen disk)) answer.stored)
  -- without a fault of the disk the files show what the answer stores, and no others change, whatever becomes of out
  -- and err
  pub shown : ¬ HasRisen (g.faults disk) (g.faults end)
      → Shows answer.stored (opened_files (g.seen disk)) (g.seen disk) (g.seen end)
  -- and the disk is calm again, for the next run
  pub calm : ¬ HasRisen (g.faults disk) (g.faults end) → StaysCalm g files doubt answer.stored disk end

-- one was, and the disk failed before it was stored: the run ends in a fault, and out has gained nothing
pub record EndsUnstored {D : Type 0} (g : Ghosts D) (files : Image) (doubt : Option (List FileText)) (Answered : Answer → Type 0) (disk end : D) (status : ℕ) (out : Change) : Type 0 where
  pub status_is : status ≡ 74
  pub prefix : GainsFront out.held_before out.held_now []
  pub unstored : serving.Unstored g files doubt Answered disk end

-- none was, for want of memory or a fault: out has gained nothing, and a crash leaves the files as they were found. A
-- disk that didn't fail was only read where the opening had nothing to write, shows the files of the opening or those
-- that it showed before, and is calm again
pub record EndsWithout {D : Type 0} (g : Ghosts D) (files : Image) (doubt : Option (List FileText)) (input_failed : Type 0) (disk end : D) (status : ℕ) (out err : Change) : Type 0 where
  pub cause : (status ≡ 70) ⊎ (status ≡ 74)
  pub prefix : GainsFront out.held_before out.held_now []
  pub crash : LeavesOnly g disk end (HasOnly (IsEither files doubt))
  pub unserved : ¬ HasRisen (g.faults disk) (g.faults end) → serving.Unserved g files doubt disk end
  pub why : ¬ HasRisen (g.faults disk) (g.faults end)
      → (status ≡ 70) ⊎ (((status ≡ 74) × Failed err) ⊎ ((status ≡ 74) × input_failed))

pub data Ran {D : Type 0} (g : Ghosts D) (files : Image) (doubt : Option (List FileText)) (Answered : Answer → Type 0) (input_failed : Type 0) (disk end : D) (status : ℕ) (out err : Change) : Type 0 where
  ByAnswer : Follows g files doubt Answered disk end status out err
      → Ran g files doubt Answered input_failed disk end status out err
  NotStored : EndsUnstored g files doubt Answered disk end status out
      → Ran g files doubt Answered input_failed disk end status out err
  Without : EndsWithout g files doubt input_failed disk end status out err
      → Ran g files doubt Answered input_failed disk end status out err
