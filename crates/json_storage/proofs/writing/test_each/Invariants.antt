-- The keys so far can be stored.
use Rattle.model_json.specs.Keys.{IsJsonKey}
use Rattle.file_lines.proofs.Walking.{HaveBefore}
use Rattle.json_storage.proofs.writing.test_each.Given as goal

abbrev pub invariant-loop-name : goal.invariant-loop-name
invariant-loop-name l = HaveBefore (IsJsonKey l.keys) l.keys l.name-iterator
