-- What a format of files is, and the laws that each one keeps. (This project's own.)
use Rattle.std.specs.Prelude.{◌≡◌, ◌⊎◌, ℕ, Bool, true, List, []}
use Rattle.model_names.specs.Name.{Name}
use Rattle.model_maps.specs.Entry.{Entry}
use Rattle.model_maps.specs.KeyMap.{KeyMap, no_keys}
use Rattle.model_maps.specs.Limits.{IsLimited}
use Rattle.model_formats.specs.Holding.{EachHas, LacksFirst}

-- which bytes read as which map; with which line, from 1, the first thing without a reading begins in all others; the
-- text of a map; which key of a map a file can hold beside the others; and whether the others don't matter for that
pub record Format : Type 1 where
  pub Reads : List ℕ → KeyMap → Type 0
  pub IsBadAt : List ℕ → ℕ → Type 0
  pub text : KeyMap → List ℕ
  pub Holds : KeyMap → Name → Entry → Type 0
  pub is_keywise : Bool

-- a file can hold a map: each of its keys
abbrev pub IsStorable : Format → KeyMap → Type 0
IsStorable format keys = EachHas (format.Holds keys) keys

-- it can't, and this is the first key that it can't hold
abbrev pub BreaksAt : Format → KeyMap → Name → Type 0
BreaksAt format keys name = LacksFirst (format.Holds keys) keys name

-- the laws of a format
pub record IsLawful (format : Format) : Type 0 where
  -- the text of a map that can be stored reads as that map
  pub text_reads : (keys : KeyMap) → IsLimited keys → IsStorable format keys → format.Reads (format.text keys) keys
  -- bytes read as at most one map, which can be stored and is within the limits of a file; no bytes read as the empty
  -- map
  pub one_reading : (bytes : List ℕ) (keys other : KeyMap) → format.Reads bytes keys → format.Reads bytes other
      → keys ≡ other
  pub read_is_storable : (bytes : List ℕ) (keys : KeyMap) → format.Reads bytes keys → IsStorable format keys
  pub read_is_limited : (bytes : List ℕ) (keys : KeyMap) → format.Reads bytes keys → IsLimited keys
  pub empty_reads : format.Reads [] no_keys
  -- bytes read as a map or are bad at a line, never both, and at one line alone
  pub reads_or_bad : (bytes : List ℕ)
      → ((keys : KeyMap) × format.Reads bytes keys) ⊎ ((line : ℕ) × format.IsBadAt bytes line)
  pub read_is_not_bad : (bytes : List ℕ) (keys : KeyMap) (line : ℕ) → format.Reads bytes keys
      → format.IsBadAt bytes line → ⊥
  pub one_line : (bytes : List ℕ) (line other : ℕ) → format.IsBadAt bytes line → format.IsBadAt bytes other
      → line ≡ other
  -- a key can be held or it can't; and where the others don't matter, it can beside any others
  pub holds_or_not : (keys : KeyMap) (name : Name) (entry : Entry)
      → format.Holds keys name entry ⊎ (format.Holds keys name entry → ⊥)
  pub held_alone : (keys other : KeyMap) (name : Name) (entry : Entry) → format.is_keywise ≡ true
      → format.Holds keys name entry → format.Holds other name entry
