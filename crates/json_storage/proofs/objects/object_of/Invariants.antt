-- The keys behind are in the object.
use Rattle.std.proofs.Common.{◌≡◌, ◌≤◌, length}
use Rattle.std.specs.FinMap as finite
use Rattle.serde_json.specs.View.{view}
use Rattle.model_json.specs.Tree.{tree}
use Rattle.json_storage.specs.Writing.{cut_leaves}
use Rattle.json_storage.proofs.objects.object_of.Given as goal

abbrev pub invariant-loop-left : goal.invariant-loop-left
invariant-loop-left l =
    record { within : l.left ≤ length (finite.entries l.keys); is : view l.made ≡ tree (cut_leaves l.left l.keys) }

abbrev pub decreases-loop-left : goal.decreases-loop-left
decreases-loop-left l = l.left
