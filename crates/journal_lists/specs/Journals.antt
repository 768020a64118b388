-- How the two files of a store's journal read: `journal`, as the former program wrote it, and `journal2`, whose list
-- stands behind a header. A byte at a gate that is neither 0 nor 1 is taken as 0 or as 1, and by an opening as 0. This
-- project's own.
use Rattle.std.specs.Prelude.{◌≡◌, ◌≢◌, ◌⊎◌, ℕ, ◌+◌, ◌<◌, ◌≤◌, List, [], length, drop, Option, Some, None, Result, Ok, Err, if◌then◌else◌, ◌&&◌, ◌==◌, nat_le}
use Rattle.journal_codec.specs.declared.files.FileText.{FileText}
use Rattle.journal_codec.specs.Header.{version}
use Rattle.journal_steps.specs.declared.faults.JournalFault.{JournalFault}
use Rattle.journal_steps.specs.declared.faults.JournalFault.TheVariants.{BadJournal, UnknownVersion}
use Rattle.journal_steps.specs.JournalBytes.{gate}
use Rattle.journal_lists.specs.Heads.{head_start, front_size, version_of, header_size, header_of, header_or_place, IsHead}
use Rattle.journal_lists.specs.Lists.{ReadsFrom, OpensFrom, BreaksFrom}
use Rattle.journal_lists.specs.Readings.{list_in}
use Rattle.journal_lists.specs.Rules.{plain, listed, start_of}

-- ---- `journal`

abbrev pub ReadsFormer : List ℕ → List (List FileText) → Type 0
ReadsFormer c entries = ReadsFrom plain 0 0 c entries

abbrev pub OpensFormer : List ℕ → List (List FileText) → Type 0
OpensFormer c entries = OpensFrom plain 0 0 c entries

abbrev pub BreaksFormer : List ℕ → Type 0
BreaksFormer c = BreaksFrom plain 0 0 c

-- ---- `journal2`

-- it is too short for a head, or its gate may be taken as shut
abbrev pub MayBeHeadless : List ℕ → Type 0
MayBeHeadless c = (length c < head_start) ⊎ (gate c ≢ 1)

-- it is long enough for a head, and its gate may be taken as open
pub record MayBeHeaded (c : List ℕ) : Type 0 where
  pub there : head_start ≤ length c
  pub open_too : gate c ≢ 0

-- it is long enough, and its gate is open in each reading
pub record IsHeaded (c : List ℕ) : Type 0 where
  pub there : head_start ≤ length c
  pub gate_is : gate c ≡ 1

-- behind its header these entries are read
pub record ReadsBehindHead (c : List ℕ) (entries : List (List FileText)) : Type 0 where
  pub names : List (List ℕ)
  pub head : IsHead c names
  pub reads : ReadsFrom (listed names) 0 0 (drop (front_size names) c) entries

pub record OpensBehindHead (c : List ℕ) (entries : List (List FileText)) : Type 0 where
  pub names : List (List ℕ)
  pub head : IsHead c names
  pub opens : OpensFrom (listed names) 0 0 (drop (front_size names) c) entries

-- some reading has these entries and no others
abbrev pub ReadsJournal : List ℕ → List (List FileText) → Type 0
ReadsJournal c entries = (MayBeHeadless c × (entries ≡ [])) ⊎ (MayBeHeaded c × ReadsBehindHead c entries)

-- the open entries
abbrev pub OpensJournal : List ℕ → List (List FileText) → Type 0
OpensJournal c entries = (MayBeHeadless c × (entries ≡ [])) ⊎ (IsHeaded c × OpensBehindHead c entries)

-- in some reading it is open, and its head or an open entry isn't whole
pub record BreaksBehindHead (c : List ℕ) : Type 0 where
  pub names : List (List ℕ)
  pub head : IsHead c names
  pub breaks : BreaksFrom (listed names) 0 0 (drop (front_size names) c)

abbrev pub BreaksJournal : List ℕ → Type 0
BreaksJournal c = MayBeHeaded c × (((names : List (List ℕ)) → ¬ IsHead c names) ⊎ BreaksBehindHead c)

-- ---- what an opening reads in them

abbrev pub with_fault : {X : Type 0} → Result X ℕ → Result X JournalFault
with_fault (Ok x) = Ok x
with_fault (Err at) = Err (BadJournal at)

-- the open entries of `journal`, or the place that is told of the first one that isn't whole
abbrev pub former_in : List ℕ → Result (List (List FileText)) JournalFault
former_in c = with_fault (list_in plain c)

abbrev pub with_some : Result (List (List ℕ)) ℕ → Result (Option (List (List ℕ))) JournalFault
with_some (Ok names) = Ok (Some names)
with_some (Err at) = Err (BadJournal at)

-- the files that the header names behind an open gate, by the version that was found, if the gate is open
abbrev pub known_head : ℕ → List ℕ → Result (Option (List (List ℕ))) JournalFault
known_head found c =
    if found == version then with_some (header_or_place (header_size c) (header_of c)) else Err (UnknownVersion found)

unfoldable pub head_in : List ℕ → Result (Option (List (List ℕ))) JournalFault
head_in c = if nat_le head_start (length c) && (gate c == 1) then known_head (version_of c) c else Ok None

abbrev pub behind_head : Result (Option (List (List ℕ))) JournalFault → List ℕ
    → Result (List (List FileText)) JournalFault
behind_head (Err fault) c = Err fault
behind_head (Ok None) c = Ok []
behind_head (Ok (Some names)) c = with_fault (list_in (listed names) (drop (front_size names) c))

-- the open entries of `journal2`, or why it isn't read: its version, or the place of what isn't whole
abbrev pub journal_in : List ℕ → Result (List (List FileText)) JournalFault
journal_in c = behind_head (head_in c) c

-- a list's first gate stands at this place, behind the head that was found, or without one
pub record BeginsAt (c : List ℕ) (start : ℕ) : Type 0 where
  pub names : Option (List (List ℕ))
  pub head : head_in c ≡ Ok names
  pub start_is : start ≡ start_of names
  pub sized : names ≢ None → start ≡ head_start + header_size c
