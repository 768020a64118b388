-- Some key belongs to the entry exactly where one of those to come does.
use Rattle.std.proofs.Common.{◌≡◌}
use Rattle.std.specs.FinMap as map
use Rattle.std.specs.List.{list_any}
use Rattle.model_names.specs.Below.{is_at_or_below}
use Rattle.mount_table.specs.Places.{entry_name}
use Rattle.mount_table.proofs.changing.has_entry.Given as goal

abbrev pub invariant-loop-name : goal.invariant-loop-name
invariant-loop-name l =
    list_any (λ key. is_at_or_below (entry_name l.text) key.0) l.name-iterator ≡ list_any (λ key. is_at_or_below (entry_name l.text) key.0) (map.entries l.keys)
