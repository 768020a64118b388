-- A journal of many entries as its callers see it, and what is always true of it. This project's own.
use Rattle.std.specs.Prelude.{◌≡◌, ℕ, ◌+◌, ◌≤◌, Bool, true, false, ◌&&◌, List, [], ◌∷◌, ◌++◌, length, nat_le, nat_lt, if◌then◌else◌}
use Rattle.std.specs.List.{AllByRecursion}
use Rattle.journal_codec.specs.declared.files.FileText.{FileText}
use Rattle.journal_codec.specs.Entry.{journal2_name, IsEntry}
use Rattle.journal_codec.specs.Header.{longest_header, IsHeader, header_bytes}
use Rattle.journal_steps.specs.declared.states.State.{State}
use Rattle.journal_steps.specs.declared.states.State.TheVariants.{Bare, Clean, Doubt, Lag}
use Rattle.journal_steps.specs.JournalBytes.{IsClosed}
use Rattle.journal_lists.specs.Grammar.{most_entries, last_place, head_size}
use Rattle.journal_lists.specs.Heads.{head_start}
use Rattle.journal_lists.specs.Lists.{list_bytes}

-- a journal over a disk: whether its header gate is open for good, and then how many bytes stand before its list; the
-- entries whose gates are open for good; whether a gate is in doubt, the one behind the list, or the header gate where
-- that isn't open; and whether the opening recovered entries
pub record JournalValue (D : Type 0) : Type 0 where
  pub disk : D
  pub headed : Bool
  pub start : ℕ
  pub list : List (List FileText)
  pub in_doubt : Bool
  pub recovered : Bool

-- what is known of a journal without a doubt
abbrev pub resting : Bool → List (List FileText) → State
resting false list = Bare
resting true [] = Clean
resting true (entry ∷ entries) = Lag

-- what is known of a journal
abbrev pub state_of : {D : Type 0} → JournalValue D → State
state_of journal = if journal.in_doubt then Doubt else resting journal.headed journal.list

-- a list has room for one more entry with a body of this size
abbrev pub has_room : List (List FileText) → ℕ → Bool
has_room list size =
    nat_lt (length list) most_entries && nat_le (length (list_bytes list) + head_size + size) last_place

-- what stands behind a list: a gate that is closed, or anything where it is in doubt
abbrev pub IsBehind : Bool → List ℕ → Type 0
IsBehind false rest = IsClosed rest
IsBehind true rest = Unit {0}

-- a journal begins with so many bytes, none where it has no header, and with the bytes of a list, and what stands
-- behind them is so
pub record StandsBehind (start : ℕ) (list : List (List FileText)) (Behind : List ℕ → Type 0) (c : List ℕ) : Type 0 where
  pub head : List ℕ
  pub rest : List ℕ
  pub size : length head ≡ start
  pub is : c ≡ head ++ (list_bytes list ++ rest)
  pub behind : Behind rest

-- a head as it is written behind the header gate, with the list's first gate, closed
abbrev pub IsHeaderBytes : List ℕ → Type 0
IsHeaderBytes header = (names : List (List ℕ)) × IsHeader names × (header ≡ header_bytes names)

-- entries that a list can have, whichever files they name
pub record IsList (entries : List (List FileText)) : Type 0 where
  pub few : length entries ≤ most_entries
  pub within : length (list_bytes entries) ≤ last_place
  pub each : AllByRecursion IsEntry entries

-- the journal has its name and its place, there is room for the most entries, and each journal that a crash may leave
-- holds the list, and behind it the next gate that is to be written
pub record IsSound (tells : Bool) (leaves : List ℕ → List ℕ → Type 0) (name : List ℕ) (place : ℕ) (headed : Bool) (start : ℕ) (list : List (List FileText)) (in_doubt : Bool) (room : ℕ) : Type 0 where
  pub named : name ≡ journal2_name
  pub placed : place ≡ start + length (list_bytes list)
  pub short : start ≤ head_start + longest_header
  pub bare : headed ≡ false → (start ≡ 0) × (list ≡ [])
  pub fits : IsList list
  pub spare : most_entries ≤ room
  pub journal : tells ≡ true → (c : List ℕ) → leaves journal2_name c → StandsBehind start list (IsBehind in_doubt) c
