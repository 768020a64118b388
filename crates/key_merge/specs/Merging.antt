-- What becomes of each name where two sets, ours and theirs, come from one base. (After Elektra's page on three-way
-- merge; value and metadata of a key are one thing here, which is this project's own.)
use Rattle.std.specs.Prelude.{◌≡◌, ◌≢◌, Bool, true, false, List, [], Option, None, Some}
use Rattle.std.specs.Prelude.{cond}
use Rattle.std.specs.FinMap as map
use Rattle.std.specs.List.{Contains}
use Rattle.std.specs.List.Sorted.{IsStrictlySortedBy}
use Rattle.model_names.specs.Name.{Name}
use Rattle.model_names.specs.Order.{name_cmp}
use Rattle.model_maps.specs.Entry.{Entry}
use Rattle.model_maps.specs.KeyMap.{KeyMap}
use Rattle.key_set.specs.Same.{same_entry}
use Rattle.key_merge.specs.declared.strategies.Strategy.{Strategy}
use Rattle.key_merge.specs.declared.strategies.Strategy.TheVariants.{Abort, Our, Their}
use Rattle.key_merge.specs.declared.choices.Choice as choices
use Rattle.key_merge.specs.declared.choices.Choice.TheVariants as choice

-- two entries, each perhaps absent, are the same
abbrev pub is_same_entry : Option Entry → Option Entry → Bool
is_same_entry None None = true
is_same_entry None (Some other) = false
is_same_entry (Some one) None = false
is_same_entry (Some one) (Some other) = same_entry one other

-- a name's entry is that of both where they agree, of the side that changed it where one did, and else in conflict
abbrev pub choice_of : Option Entry → Option Entry → Option Entry → choices.Choice
choice_of base our their =
    cond (is_same_entry our their) choice.Our (cond (is_same_entry our base) choice.Their (cond (is_same_entry their base) choice.Our choice.Conflict))

-- a choice takes their entry: theirs alone changed, or it is a conflict that they win
abbrev pub is_taken_from_their : Strategy → choices.Choice → Bool
is_taken_from_their strategy choice.Our = false
is_taken_from_their strategy choice.Their = true
is_taken_from_their Abort choice.Conflict = false
is_taken_from_their Our choice.Conflict = false
is_taken_from_their Their choice.Conflict = true

-- the entry that a name gets, or none
abbrev pub merged_entry : Strategy → Option Entry → Option Entry → Option Entry → Option Entry
merged_entry strategy base our their = cond (is_taken_from_their strategy (choice_of base our their)) their our

-- a name is in conflict
abbrev pub IsConflict : KeyMap → KeyMap → KeyMap → Name → Type 0
IsConflict base our their name = choice_of (map.get base name) (map.get our name) (map.get their name) ≡ choice.Conflict

-- keys are those of two sets that come from a base: each name by itself, and under abort no name is in conflict
pub record IsMerged (strategy : Strategy) (base our their keys : KeyMap) : Type 0 where
  pub each : (name : Name)
      → map.get keys name ≡ merged_entry strategy (map.get base name) (map.get our name) (map.get their name)
  pub agreed : strategy ≡ Abort → (name : Name) → IsConflict base our their name → ⊥

-- the names in conflict, all of them, in name order
pub record AreConflicts (base our their : KeyMap) (names : List Name) : Type 0 where
  pub some : names ≢ []
  pub ascending : IsStrictlySortedBy name_cmp names
  pub each : (name : Name) → IsConflict base our their name → Contains names name
  pub only : (name : Name) → Contains names name → IsConflict base our their name
