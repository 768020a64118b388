-- What the opening of a journal reads, and what it leaves of the disk. This project's own.
use Rattle.std.specs.Prelude.{◌≡◌, ◌≢◌, ◌⊎◌, List, [], ◌++◌, ℕ, true, Option, None, Result, Ok, Err, IfOk, IfErr}
use Rattle.std.specs.Global.{Vec}
use Rattle.std.specs.List.{AllByRecursion}
use Rattle.kdb_outside.specs.declared.disks.Disk.{Ghosts}
use Rattle.kdb_outside.specs.Faults.{HasRisen}
use Rattle.kdb_outside.specs.Frames.{GoesOn, OnlyReads}
use Rattle.kdb_outside.specs.Images.{Image}
use Rattle.journal_codec.specs.declared.files.FileText.{FileText}
use Rattle.journal_codec.specs.Entry.{journal_name, journal2_name, IsEntry}
use Rattle.journal_lists.specs.Journals.{former_in, journal_in}
use Rattle.journal_steps.specs.declared.faults.JournalFault.{JournalFault}
use Rattle.journal_steps.specs.declared.faults.JournalFault.TheVariants.{BadJournal, UnknownVersion, DiskFault, Memory}
use Rattle.journal_steps.specs.Moments.{LeavesOnly}
use Rattle.journal_steps.specs.Outcomes.{with_entries, SameFiles, IsEither}
use Rattle.intent_journal.specs.Opened.{found_in, entries_found, open_list, opened_files, HasNoFormer, IsKept}
use Rattle.intent_journal.specs.Outcomes.{OpensAs, HasOnly}
use Rattle.intent_journal.specs.States.{IsRetired, IsHeadInDoubt, HoldsNone, IsCalm}

-- whatever files a calm disk that tells has, and whatever is in doubt on it
abbrev pub WhereCalm : {D : Type 0} → Ghosts D → D → (Image → Option (List FileText) → Type 0) → Type 0
WhereCalm g disk P =
    g.tells disk ≡ true → (files : Image) (doubt : Option (List FileText)) → IsCalm (g.seen disk) (g.may_leave disk) files doubt → P files doubt

-- the files are these, whatever is in doubt at the header gate: nothing, where open entries were brought in
pub record IsOpened (leaves : List ℕ → List ℕ → Type 0) (files : Image) (found : List (List FileText)) : Type 0 where
  pub later : Option (List FileText)
  pub sure : found ≢ [] → later ≡ None
  pub rests : IsHeadInDoubt leaves files later

-- another opening finds the same entries as this one would have, and the files are as they were, or have the entries
pub record StaysFound {D : Type 0} (g : Ghosts D) (old new : D) : Type 0 where
  pub found : SameFiles (opened_files (g.seen new)) (opened_files (g.seen old))
  pub shown : SameFiles (g.seen new) (g.seen old) ⊎ SameFiles (g.seen new) (opened_files (g.seen old))

-- what is left of a calm disk with these files and this doubt, on which these entries were found, or which was refused
pub record OpensCalm {D : Type 0} (g : Ghosts D) (old new : D) (found : Result (List (List FileText)) JournalFault) (base : Image) (doubt : Option (List FileText)) : Type 0 where
  pub files : IfOk found (λ list. IsEither base doubt (with_entries (g.seen old) list))
  pub opened : IfOk found (λ list. IsOpened (g.may_leave new) (with_entries (g.seen old) list) list)
  pub own : IfOk found (λ list. SameFiles base (with_entries (g.seen old) list) → IsHeadInDoubt (g.may_leave new) base doubt)
  pub calm_still : found ≢ Err DiskFault → IsCalm (g.seen new) (g.may_leave new) base doubt
  pub stays : found ≢ Err DiskFault → OnlyReads g old new ⊎ StaysFound g old new
  pub any_moment : LeavesOnly g old new (HasOnly (IsEither base doubt))

-- the former journal was retired for good: its entries are in their files, and `journal2` is as it was read
pub record LeavesRetired {D : Type 0} (g : Ghosts D) (old new : D) : Type 0 where
  pub retired : IsRetired (g.may_leave new)
  pub files : SameFiles (g.seen new) (with_entries (g.seen old) (entries_found (former_in (g.seen old journal_name))))
  pub journal : g.seen new journal2_name ≡ g.seen old journal2_name

-- the open entries of the journals were found and brought in, or they were refused
pub record OpensList {D : Type 0} (g : Ghosts D) (old new : D) (found : Result (List (List FileText)) JournalFault) : Type 0 where
  pub entries : IfOk found (λ list. AllByRecursion IsEntry list)
  pub good : g.tells old ≡ true → IfOk found (λ list. found_in (g.seen old) ≡ Ok list)
  pub opens : g.tells old ≡ true → IfOk found (λ list. OpensAs (g.seen old) list)
  pub bad : g.tells old ≡ true → (at : ℕ) → found ≡ Err (BadJournal at) → found_in (g.seen old) ≡ Err (BadJournal at)
  pub unknown : g.tells old ≡ true → (version : ℕ) → found ≡ Err (UnknownVersion version)
      → found_in (g.seen old) ≡ Err (UnknownVersion version)
  pub calm : WhereCalm g old (λ files doubt. IfErr found (λ fault. found_in (g.seen old) ≡ Err fault → ⊥))
  pub leaves : WhereCalm g old (OpensCalm g old new found)
  -- where there is a former journal, it is retired for good
  pub retired : g.tells old ≡ true → ¬ HasNoFormer (g.seen old) → IfOk found (λ list. IsRetired (g.may_leave new))
  pub retires : g.tells old ≡ true → ¬ IsKept (g.seen old)
      → IfErr found (λ fault. fault ≢ DiskFault → fault ≢ Memory → LeavesRetired g old new)
  -- where there is none, and no open entry, the disk is only read; and so it is before most refusals
  pub none : g.tells old ≡ true → HasNoFormer (g.seen old) → open_list (g.seen old) ≡ [] → OnlyReads g old new
  pub kept : g.tells old ≡ true → IsKept (g.seen old) → IfErr found (λ fault. fault ≢ DiskFault → OnlyReads g old new)
  pub stays : g.tells old ≡ true → (fault : JournalFault) → found_in (g.seen old) ≡ Err fault → IsKept (g.seen old)
      → OnlyReads g old new
  pub goes : GoesOn g old new
  pub cause : found ≡ Err DiskFault → HasRisen (g.faults old) (g.faults new)

-- ---- of the former journal

-- the entries of a list that was answered, or why there is none
abbrev pub items_of : Result (Vec (List FileText)) JournalFault → Result (List (List FileText)) JournalFault
items_of (Ok list) = Ok list.items
items_of (Err fault) = Err fault

-- what is left of a calm disk with these files and this doubt whose former journal was retired, or refused
pub record RetiresCalm {D : Type 0} (g : Ghosts D) (old new : D) (former : Result (List (List FileText)) JournalFault) (base : Image) (doubt : Option (List FileText)) : Type 0 where
  pub retired : IfOk former (λ list. IsRetired (g.may_leave new))
  -- where it had an open entry, `journal2` has none
  pub alone : IfOk former (λ list. list ≢ [] → (c : List ℕ) → g.may_leave new journal2_name c → HoldsNone c)
  pub calm_still : former ≢ Err DiskFault → IsCalm (g.seen new) (g.may_leave new) base doubt
  pub any_moment : LeavesOnly g old new (HasOnly (IsEither base doubt))

-- the open entries of the former journal were found and brought in, and it was retired; or it was refused
pub record RetiresFormer {D : Type 0} (g : Ghosts D) (old new : D) (former : Result (List (List FileText)) JournalFault) : Type 0 where
  pub entries : IfOk former (λ list. AllByRecursion IsEntry list)
  pub good : g.tells old ≡ true → IfOk former (λ list. former_in (g.seen old journal_name) ≡ Ok list)
  pub bad : g.tells old ≡ true → (at : ℕ) → former ≡ Err (BadJournal at)
      → former_in (g.seen old journal_name) ≡ Err (BadJournal at)
  pub known : (version : ℕ) → former ≢ Err (UnknownVersion version)
  pub leaves : WhereCalm g old (RetiresCalm g old new former)
  pub retired : g.tells old ≡ true → ¬ HasNoFormer (g.seen old) → IfOk former (λ list. IsRetired (g.may_leave new))
  pub files : g.tells old ≡ true → IfOk former (λ list. SameFiles (g.seen new) (with_entries (g.seen old) list))
  pub closed : g.tells old ≡ true → IfOk former (λ list. former_in (g.seen new journal_name) ≡ Ok [])
  pub journal : g.tells old ≡ true → g.seen new journal2_name ≡ g.seen old journal2_name
  pub none : g.tells old ≡ true → HasNoFormer (g.seen old) → OnlyReads g old new
  pub kept : g.tells old ≡ true → IfErr former (λ fault. fault ≢ DiskFault → OnlyReads g old new)
  pub stays : g.tells old ≡ true → (fault : JournalFault) → former_in (g.seen old journal_name) ≡ Err fault
      → OnlyReads g old new
  pub goes : GoesOn g old new
  pub cause : former ≡ Err DiskFault → HasRisen (g.faults old) (g.faults new)

-- ---- of `journal2`, behind that

-- its open entries were found and brought in, or it was refused
pub record OpensBehind {D : Type 0} (g : Ghosts D) (old new : D) (found : Result (List (List FileText)) JournalFault) : Type 0 where
  pub entries : IfOk found (λ list. AllByRecursion IsEntry list)
  pub good : g.tells old ≡ true → IfOk found (λ list. journal_in (g.seen old journal2_name) ≡ Ok list)
  pub bad : g.tells old ≡ true → (at : ℕ) → found ≡ Err (BadJournal at)
      → journal_in (g.seen old journal2_name) ≡ Err (BadJournal at)
  pub unknown : g.tells old ≡ true → (version : ℕ) → found ≡ Err (UnknownVersion version)
      → journal_in (g.seen old journal2_name) ≡ Err (UnknownVersion version)
  pub leaves : IsRetired (g.may_leave old) → WhereCalm g old (OpensCalm g old new found)
  pub former : g.tells old ≡ true → (c : List ℕ) → g.may_leave new journal_name c → g.may_leave old journal_name c
  pub none : g.tells old ≡ true → journal_in (g.seen old journal2_name) ≡ Ok [] → OnlyReads g old new
  pub kept : g.tells old ≡ true → IfErr found (λ fault. fault ≢ DiskFault → OnlyReads g old new)
  pub stays : g.tells old ≡ true → (fault : JournalFault) → journal_in (g.seen old journal2_name) ≡ Err fault
      → OnlyReads g old new
  pub goes : GoesOn g old new
  pub cause : found ≡ Err DiskFault → HasRisen (g.faults old) (g.faults new)

-- ---- of both

-- the entries of both lists, one behind the other
abbrev pub entries_of : Result (Vec (List FileText) × Vec (List FileText)) JournalFault → Result (List (List FileText)) JournalFault
entries_of (Ok lists) = Ok (lists.0.items ++ lists.1.items)
entries_of (Err fault) = Err fault
