-- Which keys each command gets, and what it makes of them. A later command is one more row. (This project's own.)
use Rattle.std.specs.Prelude.{ℕ, List, [], ◌∷◌}
use Rattle.model_names.specs.declared.namespaces.Namespace.TheVariants.{Cascading}
use Rattle.model_names.specs.Name.{Name}
use Rattle.model_names.specs.Spelling.{spelling}
use Rattle.model_maps.specs.KeyMap.{KeyMap}
use Rattle.mount_table.specs.Changing as table
use Rattle.mount_table.specs.Points.{own_point}
use Rattle.tool_words.specs.Request.{Action, Get, Set, Remove, Names, GetMeta, SetMeta, MetaNames, Bring, MountFile, Unmount, Replace, Merge}
use Rattle.tool_commands.specs.Commands.Looking.{looked_up}
use Rattle.tool_commands.specs.Commands.Merging.{merged_in}
use Rattle.tool_commands.specs.Commands.Metadata.{meta_got, meta_set_in, meta_listed}
use Rattle.tool_commands.specs.Commands.Mounting.{mounted}
use Rattle.tool_commands.specs.Commands.Trees.{sources, others, removed, listed, brought_in, replaced}
use Rattle.tool_commands.specs.Commands.Values.{got, set_in}
use Rattle.tool_commands.specs.Step.{Step, Tells}
pub mod Looking
pub mod Merging
pub mod Metadata
pub mod Mounting
pub mod Trees
pub mod Values

-- the name of all keys
abbrev pub every_key : Name
every_key = record { namespace = Cascading; parts = [] }

-- a command on a key: it gets the keys of a parent, makes a step of them, and may end with these statuses beside 0 and
-- 5
pub record Row : Type 0 where
  pub parent : Name
  pub step : KeyMap → Step
  pub statuses : List ℕ

-- the commands on a key, a row each
abbrev pub row_of : Name → Action → Row
row_of name Get =
    record { parent = every_key; step = λ keys. Tells (got name (looked_up keys name)); statuses = 11 ∷ [] }
row_of name (Set value) = record { parent = name; step = λ keys. set_in keys name value; statuses = [] }
row_of name (Remove extent) =
    record {
      parent = name;
      step = λ keys. removed name (sources extent name keys) (others extent name keys);
      statuses = 11 ∷ [];
    }
row_of name Names = record { parent = name; step = λ keys. Tells (listed keys name); statuses = [] }
row_of name (GetMeta meta) =
    record { parent = every_key; step = λ keys. Tells (meta_got name meta (looked_up keys name)); statuses = 11 ∷ [] }
row_of name (SetMeta meta text) =
    record { parent = name; step = λ keys. meta_set_in keys name meta text; statuses = [] }
row_of name MetaNames =
    record { parent = every_key; step = λ keys. Tells (meta_listed name (looked_up keys name)); statuses = 11 ∷ [] }
row_of name (Bring way extent to) =
    record { parent = every_key; step = λ keys. brought_in keys name way extent to; statuses = 2 ∷ 11 ∷ [] }
row_of name (MountFile file kind by_key) =
    record {
      parent = own_point;
      step = λ keys. mounted (table.added keys (spelling name) file kind by_key);
      statuses = [];
    }
row_of name Unmount =
    record { parent = own_point; step = λ keys. mounted (table.removed keys (spelling name)); statuses = [] }
row_of name (Replace others) = record { parent = name; step = λ keys. replaced name others keys; statuses = [] }
row_of name (Merge strategy our their base) =
    record { parent = every_key; step = λ keys. merged_in keys strategy our their base name; statuses = 2 ∷ 12 ∷ [] }

-- the parent whose keys a command gets, and sets where it sets any
abbrev pub parent_of : Name → Action → Name
parent_of name action = (row_of name action).parent

-- what a command makes of the keys that it got
abbrev pub step_of : KeyMap → Name → Action → Step
step_of keys name action = (row_of name action).step keys
