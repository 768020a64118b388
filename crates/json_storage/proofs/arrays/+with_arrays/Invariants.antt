-- The members so far were changed; whatever elements the others become stand behind.
use Rattle.std.proofs.Common.{◌≡◌, List, ◌++◌}
use Rattle.serde_json.specs.View.{items_view, members_view}
use Rattle.serde_json.specs.declared.value.Value.{Value}
use Rattle.serde_json.proofs.Views.{Entry}
use Rattle.model_json.specs.Text.{elements, members_with_arrays}
use Rattle.json_storage.proofs.arrays.+with_arrays.Given as goal

abbrev pub invariant-elements-loop-member : goal.invariant-elements-loop-member
invariant-elements-loop-member l =
    (rest : List Value) → items_view rest ≡ elements (members_view l.member-iterator) → items_view (l.made.items ++ rest) ≡ elements (members_view l.members.entries)

abbrev pub invariant-members_with_arrays-loop-key : goal.invariant-members_with_arrays-loop-key
invariant-members_with_arrays-loop-key l =
    (done : List Entry) × (l.members.entries ≡ done ++ l.key-iterator) × (members_view l.made.entries ≡ members_with_arrays (members_view done))
