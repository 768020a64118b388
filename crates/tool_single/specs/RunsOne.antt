-- What the run of a single command promises, in one record. (This project's own.)
use Rattle.std.specs.Prelude.{◌≡◌, ◌≢◌, ◌≤◌, ℕ, true, List, Option, Some, Err}
use Rattle.intent_journal.specs.Opened.{bad_place, found_in, opened_files, unknown_version, IsKept}
use Rattle.intent_journal.specs.Openings.{LeavesRetired}
use Rattle.intent_journal.specs.States.{IsCalm}
use Rattle.journal_codec.specs.declared.files.FileText.{FileText}
use Rattle.journal_steps.specs.declared.faults.JournalFault.{JournalFault}
use Rattle.kdb_outside.specs.Faults.{HasRisen}
use Rattle.kdb_outside.specs.Frames.{GoesOn, OnlyReads}
use Rattle.kdb_outside.specs.Images.{Image}
use Rattle.kdb_outside.specs.SinkChange.{change_of}
use Rattle.kdb_outside.specs.declared.disks.Disk as disks
use Rattle.kdb_outside.specs.declared.sinks.Sink as sinks
use Rattle.kdb_outside.specs.declared.sources.Source as sources
use Rattle.regex_check.specs.declared.patterns.Patterns as matchers
use Rattle.store_lines.specs.Lines.{bad_journal, unknown_journal}
use Rattle.tool_commands.specs.Report.{IsAnswered}
use Rattle.tool_words.specs.Rows.{request}
use Rattle.tool_single.specs.Answer.{Texts}
use Rattle.tool_single.specs.Answers.{Answers}
use Rattle.tool_single.specs.Broken.{EndsByJournal}
use Rattle.tool_single.specs.Crashing.{HasNothingToWrite, StaysCalm}
use Rattle.tool_single.specs.Ends.{EndsByWords, EndsInFault, EndsWithoutMemory}
use Rattle.tool_single.specs.Input.{FailsToRead, IsInput, LeavesInput, LosesInput}
use Rattle.tool_single.specs.Ran.{Ran}
use Rattle.tool_single.specs.Serving.{StoresNothing, Unserved}
use Rattle.tool_single.specs.Untold.{AsksStoreWith, HasAsked}

-- The run of a single command, whose words come without the program's name. The fields that speak of an answer or of
-- files are for a disk that tells and is calm: each crash would leave the files that it shows, or these with one entry
-- in doubt. A disk that a crash of this store left is calm. `opened_files` are the files that it shows once the open
-- entries of its journal are brought in; a command that reads the store brings them in
pub record RunsOne {S K E D P : Type 0} (s : sources.Ghosts S) (k : sinks.Ghosts K) (e : sinks.Ghosts E) (d : disks.Ghosts D) (p : matchers.Ghosts P) (line : List (List ℕ)) (source source_now : S) (out out_now : K) (err err_now : E) (disk end : D) (patterns patterns_now : P) (status : ℕ) : Type 0 where
  -- All that a run does it does by one answer to the words, the input and the files: the status, out and err are the
  -- answer's, and however the run ends out has gained a front of the answer's; at every moment since the call began a
  -- crash leaves the files as they were found, or these with all that the answer stores, which outlasts every crash
  -- behind the call; and without a fault of the disk the files show it, and no others change. Where the disk failed to
  -- store it, no commit was made, and the run ends in a fault with nothing on out. Where it worked none out, for want
  -- of memory or a fault, a crash leaves the files as they were found. The input matters to an import alone. Of the
  -- answers that there may be, one that goes by a refused pattern is taken only where the matcher's count of refusals
  -- rose, however the run ends
  pub ran : d.tells disk ≡ true → (files : Image) (doubt : Option (List FileText))
      → IsCalm (d.seen disk) (d.may_leave disk) files doubt
      → (given : List ℕ) → IsInput (request line) (s.left source) given
      → Ran d files doubt (Answers (λ _. HasRisen (p.refusals patterns) (p.refusals patterns_now)) line given (opened_files (d.seen disk))) (LosesInput (FailsToRead (request line) (s.faults source) (s.faults source_now)) disk end patterns patterns_now) disk end status (change_of k out out_now) (change_of e err err_now)
  -- Without a fault of the disk it is calm behind the call, for the next one, with the files that the answer leaves and
  -- nothing in doubt that wasn't before. Where an answer was worked out, `ran` says the same of what that answer stores
  pub calm : d.tells disk ≡ true → (files : Image) (doubt : Option (List FileText))
      → IsCalm (d.seen disk) (d.may_leave disk) files doubt → ¬ HasRisen (d.faults disk) (d.faults end)
      → (stored : Texts) × StaysCalm d files doubt stored disk end
  -- Words that ask for nothing decide alone, whatever the disk does, and leave the disk and the matcher alone, and so
  -- does an import whose input holds no keys
  pub words : EndsByWords (request line) status (change_of k out out_now) (change_of e err err_now)
  pub unasked : (given : List ℕ) → IsInput (request line) (s.left source) given
      → (AsksStoreWith (request line) given → ⊥) → (end ≡ disk) × (patterns_now ≡ patterns)
  -- A journal with an open gate, and no whole head or no whole body of an entry behind it, is told in the place of an
  -- answer, by its place, and one of a version that isn't known by that; an import whose input holds no keys is told so
  -- before that. No crash of this store leaves such a journal, and so no calm disk has one
  pub broken : d.tells disk ≡ true → (at : ℕ) → bad_place (d.seen disk) ≡ Some at → (given : List ℕ)
      → IsInput (request line) (s.left source) given
      → EndsByJournal (request line) given (bad_journal at) status (change_of k out out_now) (change_of e err err_now)
  pub unknown : d.tells disk ≡ true → (version : ℕ) → unknown_version (d.seen disk) ≡ Some version → (given : List ℕ)
      → IsInput (request line) (s.left source) given
      → EndsByJournal (request line) given (unknown_journal version) status (change_of k out out_now) (change_of e err err_now)
  -- However the run ends, the disk is only read then, where there is no former journal, or where it is that one which
  -- isn't whole;
  pub broken_stays : d.tells disk ≡ true → (fault : JournalFault) → found_in (d.seen disk) ≡ Err fault
      → IsKept (d.seen disk) → OnlyReads d disk end
  -- and else a run that tells it has retired the former journal, and brought its entries into their files, and changed
  -- nothing else
  pub broken_kept : d.tells disk ≡ true → (fault : JournalFault) → found_in (d.seen disk) ≡ Err fault
      → ¬ IsKept (d.seen disk)
      → (given : List ℕ) → IsInput (request line) (s.left source) given → AsksStoreWith (request line) given
      → IsAnswered status → LeavesRetired d disk end
  -- Want of memory puts nothing on out and its line on err
  pub memory : EndsWithoutMemory status (change_of k out out_now) (change_of e err err_now)
  -- A fault has its cause in this call, and err tells which where err itself didn't fail: the disk's only where the
  -- store was asked, behind the input, and the input's before that
  pub fault : EndsInFault (HasRisen (d.faults disk) (d.faults end) × HasAsked s (request line) source source_now)
      (LosesInput (FailsToRead (request line) (s.faults source) (s.faults source_now)) disk end patterns patterns_now) status (change_of k out out_now) (change_of e err err_now)
  -- So without a fault the run ends with the answer's status, or in want of memory
  pub complete : (HasRisen (d.faults disk) (d.faults end) → ⊥)
      → (FailsToRead (request line) (s.faults source) (s.faults source_now) → ⊥)
      → (HasRisen (k.faults out) (k.faults out_now) → ⊥) → (HasRisen (e.faults err) (e.faults err_now) → ⊥)
      → status ≢ 74
  -- Want of memory never comes behind a commit: at every moment since the call began a crash leaves the files as they
  -- were found, and where the opening has nothing to write, the disk is only read
  pub unwritten : d.tells disk ≡ true → (files : Image) (doubt : Option (List FileText))
      → IsCalm (d.seen disk) (d.may_leave disk) files doubt → status ≡ 70 → Unserved d files doubt disk end
  -- Where the opening has nothing to write, since no entry is open and there is no former journal, and the disk need
  -- not be calm for that, nothing is written where no answer stores anything, whatever fails;
  pub untouched : d.tells disk ≡ true → HasNothingToWrite (d.seen disk) → (given : List ℕ)
      → IsInput (request line) (s.left source) given
      → StoresNothing (Answers (λ _. HasRisen (p.refusals patterns) (p.refusals patterns_now)) line given (d.seen disk))
      → OnlyReads d disk end
  -- nor does a run write that ends in want of memory or is refused, one that the journal refuses too: that ends neither
  -- as a command that was done nor in a fault
  pub unstored : d.tells disk ≡ true → HasNothingToWrite (d.seen disk) → status ≢ 0 → status ≢ 74 → OnlyReads d disk end
  -- An import takes so much of the input, and every other command takes none
  pub input : LeavesInput s (request line) (IsAnswered status) source source_now
  -- The disk tells as much as before, and no count of faults or of refused patterns falls
  pub goes : GoesOn d disk end
  pub later_input : s.faults source ≤ s.faults source_now
  pub later_out : k.faults out ≤ k.faults out_now
  pub later_err : e.faults err ≤ e.faults err_now
  pub later_patterns : p.refusals patterns ≤ p.refusals patterns_now
