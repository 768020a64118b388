-- What the names that are left say from the index on, all say.
use Rattle.std.proofs.Common.{◌≡◌, ◌+◌, length}
use Rattle.serde_json.specs.View.{members_view}
use Rattle.json_storage.specs.Kept.{are_items}
use Rattle.json_storage.proofs.kept.are_items.Given as goal

abbrev pub invariant-loop-name : goal.invariant-loop-name
invariant-loop-name l = record {
  place : l.index + length l.name-iterator ≡ length l.members.entries;
  rest : are_items l.index (members_view l.name-iterator) ≡ are_items 0 (members_view l.members.entries);
}
