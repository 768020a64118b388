-- `merge`: three trees of keys become one. (After Elektra's `kdb merge`; its arguments and lines are this project's
-- own.)
use Rattle.std.specs.Prelude.{List, [], ◌∷◌, None, Some}
use Rattle.std.specs.FinMap as map
use Rattle.std.specs.List.{flat_map}
use Rattle.general_words.specs.Searches.{first_some}
use Rattle.key_merge.specs.Merged.{conflicts, merged}
use Rattle.key_merge.specs.declared.strategies.Strategy.{Strategy}
use Rattle.key_merge.specs.declared.strategies.Strategy.TheVariants.{Abort, Our, Their}
use Rattle.key_name.specs.Joining.{joined}
use Rattle.key_set.specs.Whole.{relative}
use Rattle.model_maps.specs.KeyMap.{KeyMap, not_below}
use Rattle.model_names.specs.declared.namespaces.Namespace.TheVariants.{Cascading}
use Rattle.model_names.specs.Name.{Name}
use Rattle.model_names.specs.Refuses.{TooLong}
use Rattle.tool_words.specs.Lines.{no_name}
use Rattle.tool_commands.specs.Commands.Trees.{brought_over, bytes_over}
use Rattle.tool_commands.specs.Lines.{line_of_conflict}
use Rattle.tool_commands.specs.Report.{met, warned}
use Rattle.tool_commands.specs.Step.{Step, Tells}

-- the name above all names that lead from one to another
abbrev pub way_root : Name
way_root = record { namespace = Cascading; parts = [] }

-- the conflicts that are told: all where neither side wins
abbrev pub told_of : Strategy → List Name → List Name
told_of Abort names = names
told_of Our names = []
told_of Their names = []

-- the lines of conflicts at whole names, where none of these is too long
abbrev pub conflicts_told : Name → List Name → Step
conflicts_told into names =
    elim (first_some (λ name. bytes_over (joined into name)) names) [ None ↦ Tells (met (flat_map (λ name. line_of_conflict (joined into name)) names)) | Some bytes ↦ Tells (warned 2 (no_name (TooLong bytes))) ]

-- by the conflicts that are told; without one, keys take the place of all at or below the name, behind which they stand
-- then
abbrev pub by_conflicts : Name → KeyMap → KeyMap → List Name → Step
by_conflicts into made keys [] = brought_over way_root into (map.entries made) (not_below into keys)
by_conflicts into made keys (name ∷ names) = conflicts_told into (name ∷ names)

-- `merge` into a name: the keys at or below each of three names, under the names that lead there, are merged
abbrev pub merged_in : KeyMap → Strategy → Name → Name → Name → Name → Step
merged_in keys strategy our their base into =
    by_conflicts into (merged strategy (relative base keys) (relative our keys) (relative their keys)) keys (told_of strategy (conflicts (relative base keys) (relative our keys) (relative their keys)))
