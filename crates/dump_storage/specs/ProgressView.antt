-- How far the code has read a dump, seen as a dump's progress. (This project's own.)
use Rattle.std.specs.Prelude.{◌≡◌, ℕ, ◌+◌, ◌<◌, ◌≤◌, Bool, true, false, List, length, Option, Some, None}
use Rattle.std.specs.FinMap as map
use Rattle.std.specs.Option.{option_map}
use Rattle.model_names.specs.Name.{Name}
use Rattle.model_maps.specs.Entry.{Entry, IsMetaName, with_meta}
use Rattle.model_maps.specs.KeyMap.{KeyMap, weight, heaviest_map}
use Rattle.model_dump.specs.Record.{Record}
use Rattle.model_dump.specs.Adds.{Progress, Adds}
use Rattle.dump_storage.specs.declared.progress.Present as code_present
use Rattle.dump_storage.specs.declared.progress.Progress as code

-- the keys before the present one, and it
abbrev pub with_present : KeyMap → Option code_present.Present → KeyMap
with_present keys None = keys
with_present keys (Some present) = map.insert keys present.name present.entry

-- all keys so far, and the name of the present one
abbrev pub progress_of : code.Progress → Progress
progress_of so_far =
    record {
      keys = with_present so_far.keys so_far.present;
      present = option_map (λ present. present.name) so_far.present;
    }

-- the present key isn't one of the keys before it
abbrev pub IsApart : KeyMap → Option code_present.Present → Type 0
IsApart keys None = Unit {0}
IsApart keys (Some present) = map.get keys present.name ≡ None

-- each metadata of each key has a name that metadata may have
abbrev pub HasMetaNames : KeyMap → Type 0
HasMetaNames keys =
    (name : Name) (entry : Entry) (meta_name text : List ℕ) → map.get keys name ≡ Some entry → map.get entry.meta meta_name ≡ Some text → IsMetaName meta_name

-- what holds of every progress that records lead to
pub record IsSound (so_far : code.Progress) : Type 0 where
  pub apart : IsApart so_far.keys so_far.present
  pub weighed : so_far.weight ≡ weight (with_present so_far.keys so_far.present)
  pub light : so_far.weight ≤ heaviest_map
  pub meta_names : HasMetaNames (with_present so_far.keys so_far.present)

-- a record has no reading behind the records before it
abbrev pub AddsNothing : Progress → Record → Type 0
AddsNothing before r = (after : Progress) → Adds before r after → ⊥

-- a record was read, or it has no reading and nothing was
abbrev pub Steps : code.Progress → Record → code.Progress → Bool → Type 0
Steps before r after true = Adds (progress_of before) r (progress_of after)
Steps before r after false = (after ≡ before) × AddsNothing (progress_of before) r

-- a present key with one more metadata, and what all keys weigh then
pub record PutsInto (before : code_present.Present) (weighed : ℕ) (name text : List ℕ) (after : code_present.Present) (heavier : ℕ) : Type 0 where
  pub is_new : map.get before.entry.meta name ≡ None
  pub same_name : after.name ≡ before.name
  pub added : after.entry ≡ with_meta before.entry name text
  pub weighs : heavier ≡ weighed + length name + length text
  pub light : heavier ≤ heaviest_map

-- a present key has the metadata, or all keys would be too heavy with it
abbrev pub CannotPut : code_present.Present → ℕ → List ℕ → List ℕ → Type 0
CannotPut present weighed name text =
    map.get present.entry.meta name ≡ None → heaviest_map < weighed + length name + length text
