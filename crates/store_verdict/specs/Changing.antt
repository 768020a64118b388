-- Changes as the code has them, seen as the definitions have them.
use Rattle.std.specs.Prelude.{List, Option, map as over}
use Rattle.std.specs.Coded.{Coded, coded_option}
use Rattle.std.specs.FinMap as map
use Rattle.std.specs.Option.{option_map}
use Rattle.key_set.specs.EntryView.{entry_of}
use Rattle.key_set.specs.declared.entries.Entry as code
use Rattle.model_names.specs.Name.{Name, coded_name}
use Rattle.model_maps.specs.Entry.{coded_entry}
use Rattle.model_history.specs.Changes.{Changes}

-- how a proof tells changes apart
abbrev pub coded_changes : Coded Changes
coded_changes = map.code coded_name (coded_option coded_entry)

-- the changes of some names in name order
abbrev pub changes_in : List (Name × Option code.Entry) → Changes
changes_in changes = map.from_sorted (over (λ change. (change.0, option_map entry_of change.1)) changes)
