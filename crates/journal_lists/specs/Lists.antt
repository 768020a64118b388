-- How the bytes from a gate on read as a list of entries, each byte that stands at a gate and is neither 0 nor 1 taken
-- as 0 or as 1; and the bytes of a list that is written. This project's own.
use Rattle.std.specs.Prelude.{◌≡◌, ◌≢◌, ◌⊎◌, ℕ, ◌+◌, ◌<◌, ◌≤◌, Bool, true, false, List, [], ◌∷◌, ◌++◌, length, drop}
use Rattle.std.specs.List.{AllByRecursion}
use Rattle.journal_codec.specs.declared.files.FileText.{FileText}
use Rattle.journal_steps.specs.JournalBytes.{gate}
use Rattle.journal_codec.specs.Forms.{followed, behind_gate}
use Rattle.journal_lists.specs.Grammar.{most_entries, last_place, head_size, size_of, body_of, rest_of, IsWhole}
use Rattle.journal_lists.specs.Rules.{Rule, IsAllowed}

-- the list may end at this gate: there is no room for an entry, or the gate may be taken as shut
abbrev pub MayBeShut : List ℕ → Type 0
MayBeShut c = (length c < head_size) ⊎ (gate c ≢ 1)

-- an entry may be open at this gate: there is room for its head, and the gate may be taken as open
pub record MayBeOpen (c : List ℕ) : Type 0 where
  pub there : head_size ≤ length c
  pub open_too : gate c ≢ 0

-- an entry is open at this gate, in each reading
pub record IsOpenAt (c : List ℕ) : Type 0 where
  pub there : head_size ≤ length c
  pub gate_is : gate c ≡ 1

-- behind a body that says so the list goes on in this way, and behind another one no entry stands
abbrev pub Follows : Bool → List (List FileText) → Type 0 → Type 0
Follows true entries GoesOn = GoesOn
Follows false [] GoesOn = Unit {0}
Follows false (entry ∷ entries) GoesOn = ⊥

-- from a gate on, at this place and with so many entries before it, some reading has these entries and no others
abbrev pub ReadsFrom : Rule → ℕ → ℕ → List ℕ → List (List FileText) → Type 0
ReadsFrom rule number place c [] = MayBeShut c
ReadsFrom rule number place c (entry ∷ entries) = MayBeOpen c × IsWhole rule number place (drop 1 c) entry
    × Follows (followed (body_of (drop 1 c))) entries
    (ReadsFrom rule (number + 1) (place + head_size + size_of (drop 1 c)) (rest_of (drop 1 c)) entries)

-- the same of the reading that takes each byte at a gate which is neither 0 nor 1 as 0: the open entries
abbrev pub OpensFrom : Rule → ℕ → ℕ → List ℕ → List (List FileText) → Type 0
OpensFrom rule number place c [] = MayBeShut c
OpensFrom rule number place c (entry ∷ entries) = IsOpenAt c × IsWhole rule number place (drop 1 c) entry
    × Follows (followed (body_of (drop 1 c))) entries
    (OpensFrom rule (number + 1) (place + head_size + size_of (drop 1 c)) (rest_of (drop 1 c)) entries)

-- behind these entries, which may all be open, stands a gate at which the list ends so
abbrev pub Leads : Rule → (ℕ → ℕ → List ℕ → Type 0) → ℕ → ℕ → List ℕ → List (List FileText) → Type 0
Leads rule Ends number place c [] = Ends number place c
Leads rule Ends number place c (entry ∷ entries) = MayBeOpen c × IsWhole rule number place (drop 1 c) entry
    × (followed (body_of (drop 1 c)) ≡ true)
    × Leads rule Ends (number + 1) (place + head_size + size_of (drop 1 c)) (rest_of (drop 1 c)) entries

-- an entry may be open at this gate, and isn't whole
pub record Breaks (rule : Rule) (number place : ℕ) (c : List ℕ) : Type 0 where
  pub opened : MayBeOpen c
  pub never : (entry : List FileText) → ¬ IsWhole rule number place (drop 1 c) entry

-- in some reading an open entry isn't whole
abbrev pub BreaksFrom : Rule → ℕ → ℕ → List ℕ → Type 0
BreaksFrom rule number place c = (entries : List (List FileText)) × Leads rule (Breaks rule) number place c entries

-- a gate of the list stands at this place, counted from the first one
abbrev pub HasGate : Rule → List ℕ → ℕ → Type 0
HasGate rule c at = (entries : List (List FileText)) × Leads rule (λ number place rest. place ≡ at) 0 0 c entries

-- the bytes of entries whose gates are open
abbrev pub list_bytes : List (List FileText) → List ℕ
list_bytes [] = []
list_bytes (entry ∷ entries) = 1 ∷ (behind_gate entry ++ list_bytes entries)

-- entries that a list can have
pub record Fits (rule : Rule) (entries : List (List FileText)) : Type 0 where
  pub few : length entries ≤ most_entries
  pub within : length (list_bytes entries) ≤ last_place
  pub each : AllByRecursion (IsAllowed rule) entries

-- the entries as one, whose first content of a file is that of the last entry that names it
abbrev pub as_one : List (List FileText) → List FileText
as_one [] = []
as_one (entry ∷ entries) = as_one entries ++ entry

-- every reading begins with the open entries
abbrev pub BeginsSo : List (List FileText) → List (List FileText) → Type 0
BeginsSo opens reads = (more : List (List FileText)) × (reads ≡ opens ++ more)
