-- What the names that are left say, all say.
use Rattle.std.proofs.Common.{◌≡◌}
use Rattle.serde_json.specs.View.{members_view}
use Rattle.json_storage.specs.Kept.{are_names}
use Rattle.json_storage.proofs.kept.are_names.Given as goal

abbrev pub invariant-loop-name : goal.invariant-loop-name
invariant-loop-name l = are_names (members_view l.name-iterator) ≡ are_names (members_view l.members.entries)
