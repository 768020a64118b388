-- What a crash may leave of a journal before and behind each of its steps, for any names that its header has. This
-- project's own.
use Rattle.std.specs.Prelude.{◌≡◌, ℕ, ◌++◌, ◌∷◌, [], true, false, List, Option, Some, None, Result}
use Rattle.kdb_outside.specs.declared.disks.Disk.{Ghosts}
use Rattle.kdb_outside.specs.declared.faults.Failed.{Failed}
use Rattle.kdb_outside.specs.Images.{Image}
use Rattle.journal_codec.specs.declared.files.FileText.{FileText}
use Rattle.journal_codec.specs.Header.{IsHeader, header_bytes}
use Rattle.journal_lists.specs.Heads.{front_size}
use Rattle.journal_lists.specs.Lists.{Fits}
use Rattle.journal_lists.specs.Rules.{listed}
use Rattle.journal_steps.specs.Outcomes.{with_entries, IsOutcome, IsEither}
use Rattle.intent_journal.specs.Journal.{JournalValue}
use Rattle.intent_journal.specs.States.{IsListed, IsInDoubt, IsBare, IsHeadInDoubt, IsUnfinished}
use Rattle.intent_journal.specs.Steps.{Passes}

-- the header and the list are as they were
pub record IsSame {D : Type 0} (old new : JournalValue D) : Type 0 where
  pub headed : new.headed ≡ old.headed
  pub start : new.start ≡ old.start
  pub list : new.list ≡ old.list

-- on a disk that tells, where the header is open for good and names these files
abbrev pub WhereHeaded : {D : Type 0} → Ghosts D → JournalValue D → (List (List ℕ) → Image → Type 0) → Type 0
WhereHeaded g journal P =
    g.tells journal.disk ≡ true → (names : List (List ℕ)) (before : Image) → journal.headed ≡ true → journal.start ≡ front_size names → P names before

-- the gate behind the list was in doubt, and is closed
abbrev pub SettlesList : {D : Type 0} → Ghosts D → JournalValue D → JournalValue D → Result Unit Failed → Type 0
SettlesList g old new result =
    WhereHeaded g old (λ names before. (doubt : Option (List FileText)) → IsInDoubt (g.may_leave old.disk) names before old.list doubt
    → Passes g old.disk new.disk result (λ leaves. IsListed leaves names before old.list) (λ leaves. IsInDoubt leaves names before old.list doubt)
    (IsEither (with_entries before old.list) doubt))

-- the header gate was in doubt, and is closed
abbrev pub SettlesHead : {D : Type 0} → Ghosts D → JournalValue D → JournalValue D → Result Unit Failed → Type 0
SettlesHead g old new result =
    g.tells old.disk ≡ true → old.headed ≡ false → (files : Image) (doubt : Option (List FileText)) → IsHeadInDoubt (g.may_leave old.disk) files doubt
    → Passes g old.disk new.disk result (λ leaves. IsBare leaves files) (λ leaves. IsHeadInDoubt leaves files doubt) (IsEither files doubt)

-- the head was written, and its gate opened
abbrev pub PutsHeader : {D : Type 0} → Ghosts D → JournalValue D → JournalValue D → Result Unit Failed → List ℕ → Type 0
PutsHeader g old new result header =
    g.tells old.disk ≡ true → (names : List (List ℕ)) (files : Image) → header ≡ header_bytes names → IsHeader names → IsBare (g.may_leave old.disk) files
    → Passes g old.disk new.disk result (λ leaves. IsListed leaves names files []) (λ leaves. IsHeadInDoubt leaves files None) (IsOutcome files)

-- the list stays as it is
abbrev pub StaysListed : {D : Type 0} → Ghosts D → JournalValue D → JournalValue D → Result Unit Failed → Type 0
StaysListed g old new result =
    WhereHeaded g old (λ names before. IsListed (g.may_leave old.disk) names before old.list
    → Passes g old.disk new.disk result (λ leaves. IsListed leaves names before old.list) (λ leaves. IsListed leaves names before old.list) (IsOutcome (with_entries before old.list)))

-- the gate behind the list was opened on an entry
abbrev pub OpensGate : {D : Type 0} → Ghosts D → JournalValue D → JournalValue D → Result Unit Failed → List FileText → Type 0
OpensGate g old new result files =
    WhereHeaded g old (λ names before. Fits (listed names) (old.list ++ files ∷ []) → IsListed (g.may_leave old.disk) names before old.list
    → Passes g old.disk new.disk result (λ leaves. IsListed leaves names before (old.list ++ files ∷ [])) (λ leaves. IsInDoubt leaves names before old.list (Some files))
    (IsEither (with_entries before old.list) (Some files)))

-- the gate before a list that is in all its files was closed
abbrev pub ClosesGate : {D : Type 0} → Ghosts D → JournalValue D → JournalValue D → Result Unit Failed → Type 0
ClosesGate g old new result =
    WhereHeaded g old (λ names before. IsListed (g.may_leave old.disk) names before old.list
    → Passes g old.disk new.disk result (λ leaves. IsListed leaves names (with_entries before old.list) [])
    (λ leaves. IsInDoubt leaves names (with_entries before old.list) [] None) (IsOutcome (with_entries before old.list)))

-- the list came into its files, and its first gate was closed
abbrev pub FinishesList : {D : Type 0} → Ghosts D → JournalValue D → JournalValue D → Result Unit Failed → Type 0
FinishesList g old new result =
    WhereHeaded g old (λ names before. IsListed (g.may_leave old.disk) names before old.list
    → Passes g old.disk new.disk result (λ leaves. IsListed leaves names (with_entries before old.list) [])
    (IsUnfinished new.in_doubt names before old.list) (IsOutcome (with_entries before old.list)))
