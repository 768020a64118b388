-- The keys so far were appended, and the records of those to come follow.
use Rattle.std.proofs.Common.{◌≡◌, ◌++◌}
use Rattle.std.specs.FinMap as map
use Rattle.std.specs.List.{flat_map}
use Rattle.model_dump.specs.Record.{spelled_record}
use Rattle.model_dump.specs.Text.{records_of_key}
use Rattle.dump_storage.proofs.writing.push_keys.Given as goal

abbrev pub invariant-loop-name : goal.invariant-loop-name
invariant-loop-name l =
    l.bytes.items ++ flat_map (λ key. flat_map spelled_record (records_of_key key)) l.name-iterator
    ≡ l.fn.bytes.items ++ flat_map (λ key. flat_map spelled_record (records_of_key key)) (map.entries l.keys)
