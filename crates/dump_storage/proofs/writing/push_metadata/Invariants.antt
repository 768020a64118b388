-- The metadata so far was appended, and with what is to come behind it, it is all.
use Rattle.std.proofs.Common.{◌≡◌, ◌++◌}
use Rattle.std.specs.FinMap as map
use Rattle.std.specs.List.{flat_map}
use Rattle.model_dump.specs.Record.{spelled_record}
use Rattle.model_dump.specs.Text.{record_of_meta}
use Rattle.dump_storage.proofs.writing.push_metadata.Given as goal

abbrev pub invariant-loop-name : goal.invariant-loop-name
invariant-loop-name l =
    l.bytes.items ++ flat_map (λ item. spelled_record (record_of_meta item)) l.name-iterator
    ≡ l.fn.bytes.items ++ flat_map (λ item. spelled_record (record_of_meta item)) (map.entries l.meta)
