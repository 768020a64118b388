-- Many runs of the tool, one after the other, with crashes between them: what each finds, and what they have stored.
-- (This project's own. After durable linearizability: behind a crash all is there that was acknowledged before it, and
-- what was cut off is there whole or not at all.)
use Rattle.std.specs.Prelude.{◌≡◌, ◌≢◌, ◌⊎◌, ℕ, ◌-◌, ◌^◌, ◌<◌, List, [], ◌∷◌, length, drop, Option, Some, None, true}
use Rattle.journal_lists.specs.Grammar.{head_size}
use Rattle.journal_lists.specs.Heads.{head_start}
use Rattle.journal_lists.specs.Lists.{HasGate}
use Rattle.journal_lists.specs.Rules.{plain}
use Rattle.intent_journal.specs.Opened.{opened_files}
use Rattle.journal_steps.specs.JournalBytes.{gate}
use Rattle.journal_steps.specs.Outcomes.{SameFiles, IsEither}
use Rattle.intent_journal.specs.States.{IsCalm, HasListGate}
use Rattle.journal_codec.specs.Entry.{journal_name, journal2_name}
use Rattle.journal_codec.specs.declared.files.FileText.{FileText}
use Rattle.kdb_outside.specs.Faults.{HasRisen}
use Rattle.kdb_outside.specs.Frames.{GoesOn}
use Rattle.kdb_outside.specs.Images.{Image, IsImage, Only}
use Rattle.kdb_outside.specs.SinkChange.{SinkChange as Change}
use Rattle.kdb_outside.specs.declared.disks.Disk.{Ghosts}
use Rattle.tool_commands.specs.Report.{IsAnswered}
use Rattle.tool_single.specs.Answer.{Answer, Texts, entry_of, with_stored}
use Rattle.tool_single.specs.Answers.{Answers}
use Rattle.tool_single.specs.Outcome.{Gives}
use Rattle.tool_single.specs.Ran.{Ran}

-- ---- runs

-- a run came to its end; or it did, and a crash came before the next run; or a crash cut it off
pub data Ending : Type 0 where
  Ended : Ending
  ThenCrashed : Ending
  CutOff : Ending

-- one run: its command line and input, the disk that it found, and how it ended. Of a run that was cut off the disk
-- that it left, its status and what out and err gained are those that it would have had
pub record OneRun (D : Type 0) : Type 0 where
  pub words : List (List ℕ)
  pub input : List ℕ
  pub found : D
  pub left : D
  pub status : ℕ
  pub out : Change
  pub err : Change
  pub refusals_before : ℕ
  pub refusals : ℕ
  pub ending : Ending

-- an answer to the command line of a run over its input and the files that it found
abbrev pub AnswersRun : {D : Type 0} → Ghosts D → OneRun D → Answer → Type 0
AnswersRun g run answer =
    Answers (λ _. HasRisen run.refusals_before run.refusals) run.words run.input (opened_files (g.seen run.found)) answer

-- what the top call says of a run on a disk that tells; of a fault of its input nothing is asked here
pub record HasRan {D : Type 0} (g : Ghosts D) (run : OneRun D) : Type 0 where
  pub tells : g.tells run.found ≡ true
  pub goes : GoesOn g run.found run.left
  pub ran : (files : Image) (doubt : Option (List FileText))
      → IsCalm (g.seen run.found) (g.may_leave run.found) files doubt
      → Ran g files doubt (AnswersRun g run) (Unit {0}) run.found run.left run.status run.out run.err

-- it gave its answer, and no crash cut it off
abbrev pub IsAcknowledged : {D : Type 0} → OneRun D → Type 0
IsAcknowledged run = IsAnswered run.status × (run.ending ≢ CutOff)

-- ---- from one run to the next

-- nothing is pending on a disk but what is told by some files and one entry in doubt
abbrev pub IsAtRest : {D : Type 0} → Ghosts D → D → Type 0
IsAtRest g disk =
    (files : Image) × (doubt : Option (List FileText)) × IsCalm (g.seen disk) (g.may_leave disk) files doubt

-- a machine that starts again finds one image, and nothing pending
abbrev pub HasOneImage : {D : Type 0} → Ghosts D → D → Type 0
HasOneImage g disk = (file : List ℕ) → Only (g.seen disk file) (g.may_leave disk file)

-- no fault came: the count of them stands where it stood, short of the end of its type
abbrev pub MetNoFault : ℕ → ℕ → Type 0
MetNoFault before now = (now ≡ before) × (before < 2 ^ 64 - 1)

-- the next run finds the disk that this one gave back, which met no fault of it, or gave its answer and left it at
-- rest; or it finds what a crash left of it, behind the end or at some moment since the run began
abbrev pub Finds : {D : Type 0} → Ghosts D → OneRun D → D → Ending → Type 0
Finds g run next Ended =
    (next ≡ run.left) × (MetNoFault (g.faults run.found) (g.faults run.left) ⊎ (IsAnswered run.status × IsAtRest g run.left))
Finds g run next ThenCrashed = HasOneImage g next × IsImage (g.may_leave run.left) (g.seen next) × IsAnswered run.status
Finds g run next CutOff = HasOneImage g next × g.left_since run.left (g.moment run.found) (g.seen next)

-- one run after the other, from the first disk to the last
abbrev pub AreRuns : {D : Type 0} → Ghosts D → D → List (OneRun D) → D → Type 0
AreRuns g first [] last = (first ≡ last) × (g.tells last ≡ true)
AreRuns {D} g first (run ∷ runs) last =
    (run.found ≡ first) × HasRan g run × ((next : D) × Finds g run next run.ending × AreRuns g next runs last)

-- ---- their one history

-- what a run has stored is all that an answer to it stores
pub record IsStored {D : Type 0} (g : Ghosts D) (run : OneRun D) (texts : Texts) : Type 0 where
  pub answer : Answer
  pub answers : AnswersRun g run answer
  pub stored : texts ≡ answer.stored

-- and that answer was given
pub record IsGiven {D : Type 0} (g : Ghosts D) (run : OneRun D) (texts : Texts) : Type 0 where
  pub answer : Answer
  pub answers : AnswersRun g run answer
  pub gives : Gives answer.report run.status run.out run.err
  pub stored : texts ≡ answer.stored

-- a run found these files and has stored this: all that its answer stores, if it was acknowledged, and else all of it
-- or nothing
pub record HasStored {D : Type 0} (g : Ghosts D) (files : Image) (run : OneRun D) (texts : Texts) : Type 0 where
  pub found : SameFiles (opened_files (g.seen run.found)) files
  pub acknowledged : IsAcknowledged run → IsGiven g run texts
  pub whole : (texts ≡ []) ⊎ IsStored g run texts

-- what runs have stored, each in its turn: each found the first files with all that was stored before it, and in the
-- end all of it is there
abbrev pub IsHistory : {D : Type 0} → Ghosts D → Image → List (OneRun D) → List Texts → D → Type 0
IsHistory g files [] [] last = SameFiles (opened_files (g.seen last)) files
IsHistory g files (run ∷ runs) (texts ∷ stored) last =
    HasStored g files run texts × IsHistory g (with_stored texts files) runs stored last
IsHistory g files (run ∷ runs) [] last = ⊥
IsHistory g files [] (texts ∷ stored) last = ⊥

-- a gate is closed or open, and no other byte stands for it; or fewer bytes are there than one needs
abbrev pub IsClear : ℕ → List ℕ → Type 0
IsClear least bytes = (length bytes < least) ⊎ (gate bytes ≡ 0) ⊎ (gate bytes ≡ 1)

-- each gate that a reading of the journals comes to is so: those of the list of `journal`, the header gate of
-- `journal2`, and those of the list behind it
pub record IsDecided (image : Image) : Type 0 where
  pub former : (at : ℕ) → HasGate plain (image journal_name) at → IsClear head_size (drop at (image journal_name))
  pub head : IsClear head_start (image journal2_name)
  pub list : (at : ℕ) → HasListGate (image journal2_name) at → IsClear head_size (drop at (image journal2_name))

-- the disk that is found behind some run: by the next one, or in the end
abbrev pub found_next : {D : Type 0} → List (OneRun D) → D → D
found_next [] last = last
found_next (run ∷ runs) last = run.found

-- no crash that cut a run off left a gate of the journal amid its byte
abbrev pub AreDecided : {D : Type 0} → Ghosts D → List (OneRun D) → D → Type 0
AreDecided g [] last = Unit {0}
AreDecided g (run ∷ runs) last =
    (run.ending ≡ CutOff → IsDecided (g.seen (found_next runs last))) × AreDecided g runs last

-- ---- and where a crash tore a gate

-- behind a run the files are those that it found, with what it stored, and nothing is in doubt; where it stored nothing
-- all stands as before
abbrev pub files_behind : Image → Image → Texts → Image
files_behind files opened [] = files
files_behind files opened (text ∷ texts) = with_stored (text ∷ texts) opened

abbrev pub doubt_behind : Option (List FileText) → Texts → Option (List FileText)
doubt_behind doubt [] = doubt
doubt_behind doubt (text ∷ texts) = None

-- these files stand before some runs, with one entry in doubt at most: each run finds them, or them with the entry.
-- Behind it all stands that it stored; or, where it was cut off, what stood before, or what it found, with all that it
-- stores in doubt
abbrev pub AreFound : {D : Type 0} → Ghosts D → Image → Option (List FileText) → List (OneRun D) → D → Type 0
AreFound g files doubt [] last = IsEither files doubt (opened_files (g.seen last))
AreFound g files doubt (run ∷ runs) last = IsEither files doubt (opened_files (g.seen run.found))
    × ((texts : Texts) × (IsAnswered run.status → IsGiven g run texts) × ((texts ≡ []) ⊎ IsStored g run texts)
    × (AreFound g (files_behind files (opened_files (g.seen run.found)) texts) (doubt_behind doubt texts) runs last
    ⊎ ((run.ending ≡ CutOff) × (AreFound g files doubt runs last ⊎ AreFound g (opened_files (g.seen run.found)) (Some (entry_of texts)) runs last))))
