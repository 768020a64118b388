-- What one step of a walk adds: a text to metadata, the violations of a key to a list.
use Rattle.std.specs.Prelude.{◌≡◌, ℕ, Bool, if◌then◌else◌, List, [], ◌++◌, map, Option, MatchOption, is_some}
use Rattle.std.specs.Bool.{MatchBool}
use Rattle.std.specs.FinMap as finite
use Rattle.std.specs.List.{filter}
use Rattle.model_names.specs.Name.{Name}
use Rattle.model_maps.specs.Entry.{Entry, Meta}
use Rattle.model_maps.specs.KeyMap.{KeyMap}
use Rattle.model_specified.specs.Specified.{specified_key}
use Rattle.model_specified.specs.Violations.{AreOfKey, AreOfKeys, BeginWith, is_checked}
use Rattle.model_specified.specs.declared.violations.Violation.{Violation}

-- metadata with a text at a name that has none
abbrev pub with_missing : List ℕ → List ℕ → Meta → Meta
with_missing name text meta = if is_some (finite.get meta name) then meta else finite.insert meta name text

-- the violations of a key behind those before
pub record Adds (HasRisen : Type 0) (key : Name × Entry) (before after : List Violation) : Type 0 where
  pub own : List Violation
  pub are : AreOfKey HasRisen key own
  pub all : after ≡ before ++ own

-- the same where the key is chosen
abbrev pub AddsIf : Bool → Type 0 → Name × Entry → List Violation → List Violation → Type 0
AddsIf is_chosen HasRisen key before after = MatchBool is_chosen (Adds HasRisen key before after) (after ≡ before)

-- the keys among some that are checked, as the specifications have them
abbrev pub checked : KeyMap → (Name → Bool) → List (Name × Entry) → List (Name × Entry)
checked specs is_chosen keys = filter (λ key. is_checked is_chosen key.0) (map (specified_key specs) keys)

-- the first violation of some keys, or none where they have none
abbrev pub IsFirstOf : Type 0 → List (Name × Entry) → Option Violation → Type 0
IsFirstOf HasRisen keys answer = MatchOption answer (AreOfKeys HasRisen keys []) (BeginWith HasRisen keys)
