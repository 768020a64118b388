-- Why there is no merged set.
use Rattle.std.specs.Prelude.{◌≡◌, List}
use Rattle.general_words.specs.Memory.{UnlessMemory}
use Rattle.model_names.specs.Name.{Name}
use Rattle.model_maps.specs.KeyMap.{KeyMap}
use Rattle.key_merge.specs.declared.strategies.Strategy.{Strategy}
use Rattle.key_merge.specs.declared.strategies.Strategy.TheVariants.{Abort}
use Rattle.key_merge.specs.declared.merging.Merge3Fault as faults
use Rattle.key_merge.specs.declared.merging.Merge3Fault.TheVariants.{Conflicts, Memory}
use Rattle.key_merge.specs.Merging.{AreConflicts}

-- conflicts are told under abort alone, and all of them
pub record HasConflicts (strategy : Strategy) (base our their : KeyMap) (fault : faults.Merge3Fault) : Type 0 where
  pub names : List Name
  pub is : fault ≡ Conflicts names
  pub abort : strategy ≡ Abort
  pub conflicts : AreConflicts base our their names

abbrev pub RefusesMerge : Strategy → KeyMap → KeyMap → KeyMap → faults.Merge3Fault → Type 0
RefusesMerge strategy base our their fault = UnlessMemory Memory (HasConflicts strategy base our their fault) fault
