-- What a crash may leave of the files, of the former journal, and of a head and a list in the journal, state by state.
-- This project's own.
use Rattle.std.specs.Prelude.{◌≡◌, ◌⊎◌, ℕ, ◌+◌, ◌<◌, ◌≤◌, Bool, true, false, List, [], ◌∷◌, ◌++◌, length, take, drop, Option, Some, None}
use Rattle.kdb_outside.specs.Images.{Image, IsImage, Only}
use Rattle.journal_codec.specs.declared.files.FileText.{FileText}
use Rattle.journal_codec.specs.Entry.{journal_name, journal2_name}
use Rattle.journal_codec.specs.Forms.{behind_gate}
use Rattle.journal_codec.specs.Header.{IsHeader}
use Rattle.journal_lists.specs.Grammar.{head_size}
use Rattle.journal_lists.specs.Heads.{head_start, front, front_size, IsHead}
use Rattle.journal_lists.specs.Journals.{MayBeHeaded, ReadsJournal, BreaksJournal}
use Rattle.journal_lists.specs.Lists.{ReadsFrom, BreaksFrom, HasGate, list_bytes, Fits, as_one}
use Rattle.journal_lists.specs.Rules.{plain, listed}
use Rattle.journal_steps.specs.JournalBytes.{gate, IsOwnFile, IsClosed}
use Rattle.journal_steps.specs.Outcomes.{content_in, with_entries, IsEither}
use Rattle.journal_steps.specs.States.{IsOwnImage}
use Rattle.intent_journal.specs.Outcomes.{OpensAs, HasOutcome, IsBroken}

-- the files that no entry of a list names are these
abbrev pub KeepsUnlisted : (List ℕ → List ℕ → Type 0) → Image → List (List FileText) → Type 0
KeepsUnlisted leaves before entries =
    (file : List ℕ) → ¬ IsOwnFile file → content_in (as_one entries) file ≡ None → Only (before file) (leaves file)

-- the former journal is too short for an entry, or its gate is closed, for good
abbrev pub IsRetired : (List ℕ → List ℕ → Type 0) → Type 0
IsRetired leaves =
    ((c : List ℕ) → leaves journal_name c → length c < head_size) ⊎ ((c : List ℕ) → leaves journal_name c → gate c ≡ 0)

-- the journal begins with a head that names these files and with the bytes of a list, and what stands behind them is so
abbrev pub BeginsWith : List (List ℕ) → List (List FileText) → (List ℕ → Type 0) → List ℕ → Type 0
BeginsWith names entries Behind c = (rest : List ℕ) × (c ≡ front names ++ (list_bytes entries ++ rest)) × Behind rest

-- what stands from the gate behind a list on isn't broken, and with the entries that it reads as the files are these
-- still, or these with the entry in doubt
pub record RestGives (names : List (List ℕ)) (number place : ℕ) (files : Image) (doubt : Option (List FileText)) (rest : List ℕ) : Type 0 where
  pub not_broken : ¬ BreaksFrom (listed names) number place rest
  pub outcomes : (more : List (List FileText)) → ReadsFrom (listed names) number place rest more
      → IsEither files doubt (with_entries files more)

-- the same of a whole journal, whatever its head is
pub record JournalGives (files : Image) (doubt : Option (List FileText)) (c : List ℕ) : Type 0 where
  pub not_broken : ¬ BreaksJournal c
  pub outcomes : (more : List (List FileText)) → ReadsJournal c more → IsEither files doubt (with_entries files more)

-- ---- where the header gate is open for good

-- the gates of the list are open for good, and the one behind it is closed for good; the files are these, and those
-- that the list names may have its contents
pub record IsListed (leaves : List ℕ → List ℕ → Type 0) (names : List (List ℕ)) (before : Image) (entries : List (List FileText)) : Type 0 where
  pub same : KeepsUnlisted leaves before entries
  pub former : IsRetired leaves
  pub header : IsHeader names
  pub fits : Fits (listed names) entries
  pub journal : (c : List ℕ) → leaves journal2_name c → BeginsWith names entries IsClosed c

-- the gates of the list are open for good, and the one behind it is in doubt
pub record IsInDoubt (leaves : List ℕ → List ℕ → Type 0) (names : List (List ℕ)) (before : Image) (entries : List (List FileText)) (doubt : Option (List FileText)) : Type 0 where
  pub same : KeepsUnlisted leaves before entries
  pub former : IsRetired leaves
  pub header : IsHeader names
  pub fits : Fits (listed names) entries
  pub journal : (c : List ℕ) → leaves journal2_name c
      → BeginsWith names entries (RestGives names (length entries) (length (list_bytes entries)) (with_entries before entries) doubt) c

-- ---- where it isn't

-- the header gate is closed for good
pub record IsBare (leaves : List ℕ → List ℕ → Type 0) (files : Image) : Type 0 where
  pub same : KeepsUnlisted leaves files []
  pub former : IsRetired leaves
  pub journal : (c : List ℕ) → leaves journal2_name c → IsClosed c

-- the header gate is in doubt
pub record IsHeadInDoubt (leaves : List ℕ → List ℕ → Type 0) (files : Image) (doubt : Option (List FileText)) : Type 0 where
  pub same : KeepsUnlisted leaves files []
  pub former : IsRetired leaves
  pub journal : (c : List ℕ) → leaves journal2_name c → JournalGives files doubt c

-- ---- what is settled

-- no reading of a journal has an open entry
pub record HoldsNone (c : List ℕ) : Type 0 where
  pub not_broken : ¬ BreaksJournal c
  pub none : (more : List (List FileText)) → ReadsJournal c more → more ≡ []

-- no entry waits, and none can come in: the files are these for good
pub record IsSettled (leaves : List ℕ → List ℕ → Type 0) (files : Image) : Type 0 where
  pub same : KeepsUnlisted leaves files []
  pub former : IsRetired leaves
  pub journal : (c : List ℕ) → leaves journal2_name c → HoldsNone c

-- ---- an entry on its way into the list, and the list on its way into its files

-- behind so many bytes of a head, and a list, the gate is closed, and behind it stand an entry and one more closed gate
pub record HoldsBehind (start : ℕ) (entries : List (List FileText)) (entry : List FileText) (c : List ℕ) : Type 0 where
  pub head : List ℕ
  pub more : List ℕ
  pub size : length head ≡ start
  pub is : c ≡ head ++ (list_bytes entries ++ (0 ∷ (behind_gate entry ++ (0 ∷ more))))

abbrev pub HasBodyBehind : (List ℕ → List ℕ → Type 0) → ℕ → List (List FileText) → List FileText → Type 0
HasBodyBehind leaves start entries entry = (c : List ℕ) → leaves journal2_name c → HoldsBehind start entries entry c

-- each file that is named has the first content that stands for it
abbrev pub HasBrought : (List ℕ → List ℕ → Type 0) → List FileText → Type 0
HasBrought leaves texts = (file bytes : List ℕ) → content_in texts file ≡ Some bytes → Only bytes (leaves file)

-- a list that isn't in all its files has its gates open still, and one that is in them is closed, and its first gate in
-- doubt
abbrev pub IsUnfinished : Bool → List (List ℕ) → Image → List (List FileText) → (List ℕ → List ℕ → Type 0) → Type 0
IsUnfinished false names before entries leaves = IsListed leaves names before entries
IsUnfinished true names before entries leaves = IsInDoubt leaves names (with_entries before entries) [] None

-- ---- a calm disk

-- no open entry of an image names the file
abbrev pub IsUnopened : Image → List ℕ → Type 0
IsUnopened seen file = (entries : List (List FileText)) → OpensAs seen entries → content_in (as_one entries) file ≡ None

-- a gate of the journal stands at this place: the header gate, or one of the list behind a whole head
pub record HasListGate (c : List ℕ) (at : ℕ) : Type 0 where
  pub headed : MayBeHeaded c
  pub names : List (List ℕ)
  pub head : IsHead c names
  pub place : ℕ
  pub gates : HasGate (listed names) (drop (front_size names) c) place
  pub is : at ≡ front_size names + place

abbrev pub HasJournalGate : List ℕ → ℕ → Type 0
HasJournalGate c at = (at ≡ 0) ⊎ HasListGate c at

-- a journal differs from another one in the byte at this place alone
pub record DiffersAt (at : ℕ) (journal c : List ℕ) : Type 0 where
  pub there : at + 1 ≤ length c
  pub front : take at c ≡ take at journal
  pub back : drop (at + 1) c ≡ drop (at + 1) journal

-- and from this place on alone, where its gate is closed
pub record EndsAt (at : ℕ) (journal c : List ℕ) : Type 0 where
  pub front : take at c ≡ take at journal
  pub closed : gate (drop at c) ≡ 0

-- the journals that a crash may leave differ in the byte of one gate alone, or only behind a gate that is closed in all
-- of them, or all are too short to be open
abbrev pub IsOneGate : (ℕ → Type 0) → ℕ → List ℕ → (List ℕ → Type 0) → Type 0
IsOneGate Gate least journal leaves = ((at : ℕ) × Gate at × ((c : List ℕ) → leaves c → DiffersAt at journal c))
    ⊎ ((at : ℕ) × Gate at × ((c : List ℕ) → leaves c → EndsAt at journal c))
    ⊎ ((c : List ℕ) → leaves c → length c < least)

-- nothing is pending but what a journal that was cut off leaves: each outcome is these files, or these with the entry
pub record IsCalm (seen : Image) (leaves : List ℕ → List ℕ → Type 0) (files : Image) (doubt : Option (List FileText)) : Type 0 where
  -- each file is as a read gives it, unless an open entry names it
  pub same : (file : List ℕ) → ¬ IsOwnFile file → IsUnopened seen file → Only (seen file) (leaves file)
  pub former : IsOneGate (HasGate plain (seen journal_name)) head_size (seen journal_name) (leaves journal_name)
  pub journal : IsOneGate (HasJournalGate (seen journal2_name)) head_start (seen journal2_name) (leaves journal2_name)
  pub not_broken : (image : Image) → IsOwnImage leaves image → ¬ IsBroken image
  pub outcomes : (image outcome : Image) → IsImage leaves image → HasOutcome image outcome
      → IsEither files doubt outcome

-- ---- a journal at rest

-- what a crash may leave, by whether the header gate is open for good and whether a gate is in doubt: the files from
-- before the list, and what is in doubt
abbrev pub RestsAs : (headed in_doubt : Bool) → (List ℕ → List ℕ → Type 0) → List (List ℕ) → Image → List (List FileText) → Option (List FileText) → Type 0
RestsAs true false leaves names before list doubt = IsListed leaves names before list
RestsAs true true leaves names before list doubt = IsInDoubt leaves names before list doubt
RestsAs false false leaves names before list doubt = (list ≡ []) × IsBare leaves before
RestsAs false true leaves names before list doubt = (list ≡ []) × IsHeadInDoubt leaves before doubt
