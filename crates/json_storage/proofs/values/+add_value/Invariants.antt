-- Whatever the parts from here on add, with what was added it is what all parts add.
use Rattle.std.proofs.Common.{◌≡◌, Bool, drop}
use Rattle.serde_json.specs.View.{items_view, members_view}
use Rattle.json_storage.specs.Found.{IsSound, HasAdded}
use Rattle.json_storage.specs.Reading.{ItemsAdd, MembersAdd}
use Rattle.json_storage.specs.declared.found.Found.{Found}
use Rattle.json_storage.proofs.values.+add_value.Given as goal

abbrev pub invariant-add_items-loop-item : goal.invariant-add_items-loop-item
invariant-add_items-loop-item l = record {
  sound : IsSound l.found;
  place : l.index ≡ l.item-index;
  rest : (b : Bool) (end : Found) → HasAdded (ItemsAdd l.name.parts l.index (items_view (drop l.item-index l.item-items))) l.found end b → HasAdded (ItemsAdd l.name.parts 0 (items_view l.item-items)) l.initial.found end b;
}

abbrev pub invariant-add_members-loop-key : goal.invariant-add_members-loop-key
invariant-add_members-loop-key l = record {
  sound : IsSound l.found;
  rest : (b : Bool) (end : Found) → HasAdded (MembersAdd l.name.parts (members_view l.key-iterator)) l.found end b → HasAdded (MembersAdd l.name.parts (members_view l.initial.key-iterator)) l.initial.found end b;
}
