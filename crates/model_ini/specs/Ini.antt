-- Which bytes read as which map in simpleini, which are bad at which line, and which maps can be stored. (After
-- Elektra's simpleini plugin; the limits, and that sections and names twice have no reading, are this project's own.)
use Rattle.std.specs.Prelude.{◌≡◌, ◌≢◌, ℕ, ◌≤◌, List, [], ◌∷◌, None}
use Rattle.std.specs.FinMap as finite
use Rattle.std.specs.Str.{IsUtf8}
use Rattle.model_names.specs.Name.{Name}
use Rattle.model_names.specs.Spells.{Spells}
use Rattle.model_maps.specs.Entry.{Entry, plain_entry, IsValue}
use Rattle.model_maps.specs.KeyMap.{KeyMap, no_keys, weight, heaviest_map}
use Rattle.model_lines.specs.Lines.{lines}
use Rattle.model_lines.specs.Reading.{Leads, StopsAt}
use Rattle.model_formats.specs.Holding.{EachHas, LacksFirst}
use Rattle.model_ini.specs.Line.{Meaning, Skipped, Pair, Unreadable, meaning}

-- the relative name with a slash before it spells a name that is new and isn't the mountpoint; the map doesn't get too
-- heavy
pub record AddsKey (before : KeyMap) (text value : List ℕ) (after : KeyMap) : Type 0 where
  pub name : Name
  pub spelled : Spells (47 ∷ text) name
  pub below : name.parts ≢ []
  pub is_new : finite.get before name ≡ None
  pub is_value : IsValue value
  pub added : after ≡ finite.insert before name (plain_entry value)
  pub light : weight after ≤ heaviest_map

-- what a line of each meaning makes of the map before it
abbrev pub Does : Meaning → KeyMap → KeyMap → Type 0
Does Skipped before after = after ≡ before
Does (Pair text value) before after = AddsKey before text value after
Does Unreadable before after = ⊥

-- a line has a reading behind the lines before it: it is UTF-8, skipped or not, and does what it says
pub record Step (before : KeyMap) (line : List ℕ) (after : KeyMap) : Type 0 where
  pub utf8 : IsUtf8 line
  pub does : Does (meaning line) before after

-- bytes read as the map that their lines lead to
abbrev pub Reads : List ℕ → KeyMap → Type 0
Reads bytes keys = Leads Step no_keys (lines bytes) keys

-- or they are bad at the first line that has no reading, which counts from 1
abbrev pub IsBadAt : List ℕ → ℕ → Type 0
IsBadAt bytes line = StopsAt Step no_keys (lines bytes) line

-- a key that a line can hold: any below the mountpoint, without metadata
pub record IsIniKey (name : Name) (entry : Entry) : Type 0 where
  pub below : name.parts ≢ []
  pub no_meta : entry.meta ≡ finite.empty

abbrev pub IsStorable : KeyMap → Type 0
IsStorable keys = EachHas IsIniKey keys

-- the first key that no line can hold
abbrev pub BreaksAt : KeyMap → Name → Type 0
BreaksAt keys name = LacksFirst IsIniKey keys name
