-- The members so far were kept.
use Rattle.std.proofs.Common.{◌≡◌, List, ◌++◌}
use Rattle.serde_json.specs.View.{members_view}
use Rattle.serde_json.proofs.Views.{Entry}
use Rattle.json_storage.specs.Kept.{kept_members}
use Rattle.json_storage.proofs.kept.+kept.Given as goal

abbrev pub invariant-kept_members-loop-key : goal.invariant-kept_members-loop-key
invariant-kept_members-loop-key l =
    (done : List Entry) × (l.members.entries ≡ done ++ l.key-iterator) × (members_view l.made.entries ≡ kept_members (members_view done))
