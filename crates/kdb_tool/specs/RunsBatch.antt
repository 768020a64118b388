-- What the run of a batch promises, in one record. (This project's own.)
use Rattle.std.specs.Prelude.{◌≡◌, ◌≢◌, ◌⊎◌, ◌≤◌, ℕ, true, List, Option, Some, Err}
use Rattle.batch_script.specs.declared.steps.Script.{Script}
use Rattle.intent_journal.specs.Opened.{bad_place, found_in, opened_files, unknown_version, IsKept}
use Rattle.intent_journal.specs.Openings.{LeavesRetired}
use Rattle.intent_journal.specs.States.{IsCalm}
use Rattle.journal_codec.specs.declared.files.FileText.{FileText}
use Rattle.journal_steps.specs.declared.faults.JournalFault.{JournalFault}
use Rattle.kdb_handle.specs.Story.{commits_of}
use Rattle.kdb_handle.specs.declared.replies.Transcripts.{Transcripts}
use Rattle.kdb_outside.specs.Faults.{HasRisen}
use Rattle.kdb_outside.specs.Frames.{GoesOn, OnlyReads}
use Rattle.kdb_outside.specs.Images.{Image}
use Rattle.kdb_outside.specs.SinkChange.{SinkChange as Change, change_of}
use Rattle.kdb_outside.specs.declared.disks.Disk as disks
use Rattle.kdb_outside.specs.declared.sinks.Sink as sinks
use Rattle.kdb_outside.specs.declared.sources.Source as sources
use Rattle.regex_check.specs.declared.patterns.Patterns as matchers
use Rattle.store_lines.specs.Lines.{bad_journal, out_of_memory, unknown_journal}
use Rattle.tool_commands.specs.Report.{IsAnswered, warned}
use Rattle.tool_single.specs.Crashing.{HasNothingToWrite}
use Rattle.tool_single.specs.Input.{LosesInput}
use Rattle.tool_single.specs.Outcome.{Delivers, GainsFront}
use Rattle.tool_single.specs.Ran.{EndsWithout, Follows}
use Rattle.kdb_tool.specs.Ends.{EndsByJournal, EndsByWords, EndsInFault, EndsWithoutMemory}
use Rattle.kdb_tool.specs.Plays.{Plays, report_by}
use Rattle.kdb_tool.specs.Scripts.{AsksFor, AsksStore, FailsToRead, HasAsked, IsGiven, LeavesInput, takes_words}
use Rattle.kdb_tool.specs.Unplayed.{AnswersUnplayed}

-- the sessions took their steps, and out has what they replied with the history, or a front of it: nothing where memory
-- was wanting for that text
pub record TellsPlayed {D : Type 0} (g : disks.Ghosts D) (files : Image) (doubt : Option (List FileText)) (refusals_before refusals_now : ℕ) (words : List (List ℕ)) (input : List ℕ) (disk end : D) (status : ℕ) (out err : Change) : Type 0 where
  pub script : Script
  pub asks : AsksFor words input script
  pub transcripts : Transcripts
  pub plays : Plays g files doubt refusals_before refusals_now script transcripts disk end
  pub told : Delivers (report_by script transcripts plays.mounted (commits_of plays.story)) status out err
      ⊎ Delivers (warned 70 out_of_memory) status out err
  pub prefix : GainsFront out.held_before out.held_now (report_by script transcripts plays.mounted (commits_of plays.story)).out

-- what a batch did on a calm disk: no session took a step, by an answer; or all took theirs; or it was cut short by
-- want of memory or a fault before that
pub data RanBatch {D : Type 0} (g : disks.Ghosts D) (files : Image) (doubt : Option (List FileText)) (refusals_before refusals_now : ℕ) (words : List (List ℕ)) (input : List ℕ) (input_failed : Type 0) (disk end : D) (status : ℕ) (out err : Change) : Type 0 where
  Unplayed : Follows g files doubt (AnswersUnplayed words input (opened_files (g.seen disk))) disk end status out err
      → RanBatch g files doubt refusals_before refusals_now words input input_failed disk end status out err
  Played : TellsPlayed g files doubt refusals_before refusals_now words input disk end status out err
      → RanBatch g files doubt refusals_before refusals_now words input input_failed disk end status out err
  Without : EndsWithout g files doubt input_failed disk end status out err
      → RanBatch g files doubt refusals_before refusals_now words input input_failed disk end status out err

-- nothing is pending on a disk but what is told by some files and one entry in doubt
pub record IsAtRest {D : Type 0} (g : disks.Ghosts D) (disk : D) : Type 0 where
  pub files : Image
  pub doubt : Option (List FileText)
  pub calm : IsCalm (g.seen disk) (g.may_leave disk) files doubt

-- the run of a batch. The fields that speak of the files are for a disk that tells and is calm
pub record RunsBatch {S K E D P : Type 0} (s : sources.Ghosts S) (k : sinks.Ghosts K) (e : sinks.Ghosts E) (d : disks.Ghosts D) (p : matchers.Ghosts P) (words : List (List ℕ)) (input input_now : S) (out out_now : K) (err err_now : E) (disk end : D) (patterns patterns_now : P) (status : ℕ) : Type 0 where
  -- the whole of it
  pub ran : d.tells disk ≡ true → (files : Image) (doubt : Option (List FileText))
      → IsCalm (d.seen disk) (d.may_leave disk) files doubt
      → (given : List ℕ) → IsGiven (takes_words words) (s.left input) given
      → RanBatch d files doubt (p.refusals patterns) (p.refusals patterns_now) words given (LosesInput (FailsToRead (takes_words words) (s.faults input) (s.faults input_now)) disk end patterns patterns_now) disk end status (change_of k out out_now) (change_of e err err_now)
  -- without a fault of the disk it is calm behind the call, for the next one
  pub calm : d.tells disk ≡ true → (files : Image) (doubt : Option (List FileText))
      → IsCalm (d.seen disk) (d.may_leave disk) files doubt → ¬ HasRisen (d.faults disk) (d.faults end) → IsAtRest d end
  -- words that are refused decide alone, whatever the disk does; where they or the script are refused the disk and the
  -- matcher are left alone
  pub by_words : EndsByWords words status (change_of k out out_now) (change_of e err err_now)
  pub unasked : (given : List ℕ) → IsGiven (takes_words words) (s.left input) given → (AsksStore words given → ⊥)
      → (end ≡ disk) × (patterns_now ≡ patterns)
  -- a broken journal is told by its place, and one of a version that isn't known by that
  pub broken : d.tells disk ≡ true → (at : ℕ) → bad_place (d.seen disk) ≡ Some at → (given : List ℕ)
      → IsGiven (takes_words words) (s.left input) given
      → EndsByJournal words given (bad_journal at) status (change_of k out out_now) (change_of e err err_now)
  pub unknown : d.tells disk ≡ true → (version : ℕ) → unknown_version (d.seen disk) ≡ Some version → (given : List ℕ)
      → IsGiven (takes_words words) (s.left input) given
      → EndsByJournal words given (unknown_journal version) status (change_of k out out_now) (change_of e err err_now)
  -- the disk is only read then, where there is no former journal, or where it is that one which isn't whole; and else a
  -- batch that tells it has retired the former journal, and brought its entries into their files, and changed nothing
  -- else
  pub broken_stays : d.tells disk ≡ true → (fault : JournalFault) → found_in (d.seen disk) ≡ Err fault
      → IsKept (d.seen disk) → OnlyReads d disk end
  pub broken_kept : d.tells disk ≡ true → (fault : JournalFault) → found_in (d.seen disk) ≡ Err fault
      → ¬ IsKept (d.seen disk)
      → (given : List ℕ) → IsGiven (takes_words words) (s.left input) given → AsksStore words given → IsAnswered status
      → LeavesRetired d disk end
  -- what 70 and 74 tell; the disk fails only where the store was asked
  pub memory : EndsWithoutMemory status (change_of k out out_now) (change_of e err err_now)
  pub fault : EndsInFault (HasRisen (d.faults disk) (d.faults end) × HasAsked s words input input_now) (LosesInput (FailsToRead (takes_words words) (s.faults input) (s.faults input_now)) disk end patterns patterns_now) status (change_of k out out_now) (change_of e err err_now)
  -- so without a fault the status isn't that of one
  pub complete : (HasRisen (d.faults disk) (d.faults end) → ⊥)
      → (FailsToRead (takes_words words) (s.faults input) (s.faults input_now) → ⊥)
      → (HasRisen (k.faults out) (k.faults out_now) → ⊥) → (HasRisen (e.faults err) (e.faults err_now) → ⊥)
      → status ≢ 74
  -- a batch that is refused writes nothing where the opening has nothing to write
  pub unstored : d.tells disk ≡ true → HasNothingToWrite (d.seen disk) → status ≢ 0 → IsAnswered status
      → OnlyReads d disk end
  -- what it takes of the input
  pub takes : LeavesInput s (takes_words words) (IsAnswered status) input input_now
  -- the disk tells as much as before, and no count falls
  pub goes : GoesOn d disk end
  pub later_input : s.faults input ≤ s.faults input_now
  pub later_out : k.faults out ≤ k.faults out_now
  pub later_err : e.faults err ≤ e.faults err_now
  pub later_patterns : p.refusals patterns ≤ p.refusals patterns_now
