-- Each part adds what it adds, or stops the whole.
use Rattle.std.proofs.Common.{◌≡◌, ◌+◌, [], ◌∷◌, ◌++◌, drop, Some, string_bytes, true, false, sym, ap, ◌∙◌, subst, arith, rules}
use Rattle.std.proofs.lemmas.List.{drop_more, drop_all}
use Rattle.std.proofs.lemmas.Result.{IfOk-weaker}
use Rattle.model_names.specs.ArrayPart.{array_part}
use Rattle.serde_json.specs.Data.{null, boolean, number, string, Data}
use Rattle.serde_json.specs.View.{view, number_view, items_view, members_view}
use Rattle.serde_json.specs.declared.value.Value.{the_lemmas}
use Rattle.serde_json.proofs.Views.{Entry, view-Array, view-Object}
use Rattle.model_json.specs.Leaves.{leaves, one_leaf}
use Rattle.model_json.specs.Reading.{AreNamed}
use Rattle.json_storage.specs.Found.{HasAdded}
use Rattle.json_storage.specs.Reading.{ValueAdds, ItemAdds, ItemsAdd, MemberAdds, MembersAdd}
use Rattle.json_storage.proofs.AddLemmas.{HasAdded-then, HasAdded-stops, element-parts, member-parts, no-elements, no-more-members, value-none, value-text, value-items, value-members, value-number}
use Rattle.json_storage.proofs.CallLemmas.{child-named, child-parts, item-stops, member-value}
use Rattle.json_storage.proofs.values.+add_value.Goals as goal

-- ---- values

pub add_value-returns-in-Null : goal.add_value-returns-in-Null
add_value-returns-in-Null t c =
    let seen : null ≡ view c.args.value.now = rw c.in-Null.is (search (rules, the_lemmas)) in
    value-none c.args.name.now.parts (view c.args.value.now) (ap leaves (sym seen)) c.args.found.now c.args.found.now

pub add_value-returns-in-Bool : goal.add_value-returns-in-Bool
add_value-returns-in-Bool t c =
    let seen : boolean c.in-Bool.b ≡ view c.args.value.now = rw c.in-Bool.is (search (rules, the_lemmas)) in
    let before = c.args.name.now.parts in
    let text = c.boolean_text.result.now in
    let are : leaves (view c.args.value.now) ≡ Some (one_leaf text) = ap leaves (sym seen) ∙ ap (λ s. Some (one_leaf s)) (sym c.boolean_text.ensures) in
    IfOk-weaker c.add_text.result _ _ (λ b h. value-text before (view c.args.value.now) text (subst (AreNamed before) seen tt) are c.args.found.now c.add_text.new.found b h) c.add_text.ensures

pub add_value-returns-in-Number : goal.add_value-returns-in-Number
add_value-returns-in-Number t c =
    let seen : number (number_view c.in-Number.n) ≡ view c.args.value.now = rw c.in-Number.is (search (rules, the_lemmas)) in
    let before = c.args.name.now.parts in
    IfOk-weaker c.add_number.result _ _ (λ b h. subst (λ (d : Data). HasAdded (ValueAdds before d) c.args.found.now c.add_number.new.found b) seen (value-number before (number_view c.in-Number.n) c.args.found.now c.add_number.new.found b h)) c.add_number.ensures

pub add_value-returns-in-String : goal.add_value-returns-in-String
add_value-returns-in-String t c =
    let seen : string c.as_str.result.now ≡ view c.args.value.now = rw c.in-String.is (search (rules, the_lemmas)) in
    let before = c.args.name.now.parts in
    let text = c.as_str.result.now in
    IfOk-weaker c.add_text-in-String.result _ _ (λ b h. value-text before (view c.args.value.now) text (subst (AreNamed before) seen tt) (ap leaves (sym seen)) c.args.found.now c.add_text-in-String.new.found b h) c.add_text-in-String.ensures

pub add_value-returns-in-Array : goal.add_value-returns-in-Array
add_value-returns-in-Array t c =
    let seen = ap view c.in-Array.is ∙ view-Array c.in-Array.items in
    let before = c.args.name.now.parts in
    IfOk-weaker c.add_items.result _ _ (λ b h. subst (λ (d : Data). HasAdded (ValueAdds before d) c.args.found.now c.add_items.new.found b) (sym seen) (value-items before (items_view c.in-Array.items.items) c.args.found.now c.add_items.new.found b h)) c.add_items.ensures

pub add_value-returns-in-Object : goal.add_value-returns-in-Object
add_value-returns-in-Object t c =
    let seen = ap view c.in-Object.is ∙ view-Object c.in-Object.members in
    let before = c.args.name.now.parts in
    IfOk-weaker c.add_members.result _ _ (λ b h. subst (λ (d : Data). HasAdded (ValueAdds before d) c.args.found.now c.add_members.new.found b) (sym seen) (value-members before (members_view c.in-Object.members.entries) c.args.found.now c.add_members.new.found b h)) c.add_members.ensures

-- ---- elements

pub add_items-loop-item-preserved : goal.add_items-loop-item-preserved
add_items-loop-item-preserved t c =
    let l = c.loop-item in
    let xs = c.deref-item-items.result.now in
    let x = c.item-item.result in
    let before = c.args.name.now.parts in
    let rest = items_view (drop (l.item-index + 1) xs) in
    let here : drop l.item-index xs ≡ x ∷ drop (l.item-index + 1) xs = drop_more xs l.item-index x (omega arith) ∙ ap (λ y. y ∷ drop (l.item-index + 1) xs) (sym c.item-item.is) in
    let step = subst (HasAdded (ItemAdds before l.index (view x)) l.found c.add_item.new.found) c.if-not-branch.false c.in_ok-add_item.ensures in
    record {
      sound = step.sound;
      place = omega (arith, l.invariant.place);
      rest = λ b end h. l.invariant.rest b end (subst (λ ys. HasAdded (ItemsAdd before l.index (items_view ys)) l.found end b) (sym here)
          (HasAdded-then (ItemAdds before l.index (view x)) (ItemsAdd before (l.index + 1) rest) _ (element-parts before l.index (view x) rest) l.found c.add_item.new.found end b step h));
    }

pub add_items-returns-then-not-branch : goal.add_items-returns-then-not-branch
add_items-returns-then-not-branch t c =
    let l = c.loop-item in
    let xs = c.deref-item-items.result.now in
    let x = c.item-item.result in
    let before = c.args.name.now.parts in
    let rest = items_view (drop (l.item-index + 1) xs) in
    let here : drop l.item-index xs ≡ x ∷ drop (l.item-index + 1) xs = drop_more xs l.item-index x (omega arith) ∙ ap (λ y. y ∷ drop (l.item-index + 1) xs) (sym c.item-item.is) in
    let step = subst (HasAdded (ItemAdds before l.index (view x)) l.found c.add_item.new.found) c.if-not-branch.true c.in_ok-add_item.ensures in
    subst (λ ys. HasAdded (ItemsAdd before 0 (items_view ys)) c.args.found.now c.add_item.new.found false) c.deref-item-items.ensures.value
    (l.invariant.rest false c.add_item.new.found (subst (λ ys. HasAdded (ItemsAdd before l.index (items_view ys)) l.found c.add_item.new.found false) (sym here)
    (HasAdded-stops (ItemAdds before l.index (view x)) (ItemsAdd before (l.index + 1) rest) _ (element-parts before l.index (view x) rest) l.found c.add_item.new.found c.add_item.new.found step)))

pub add_items-returns : goal.add_items-returns
add_items-returns t c =
    let l = c.loop-item in
    let xs = c.deref-item-items.result.now in
    let before = c.args.name.now.parts in
    let none : drop l.item-index xs ≡ [] = drop_all l.item-index xs (omega arith) in
    subst (λ ys. HasAdded (ItemsAdd before 0 (items_view ys)) c.args.found.now l.found true) c.deref-item-items.ensures.value
    (l.invariant.rest true l.found (subst (λ ys. HasAdded (ItemsAdd before l.index (items_view ys)) l.found l.found true) (sym none) (no-elements before l.index l.found l.invariant.sound)))

pub add_item-returns-then-not-branch : goal.add_item-returns-then-not-branch
add_item-returns-then-not-branch t c =
    let name = c.args.name.now in
    let part = c.as_str.result.now in
    let text : part ≡ string_bytes c.in_ok-part.part = search rules in
    let made = rw c.in-Some.is at c.in_ok-at.ensures in
    let is : c.in-Some.at.parts ≡ name.parts ++ array_part c.args.index ∷ [] = child-parts name c.in-Some.at part made.0 ∙ ap (λ p. name.parts ++ p ∷ []) (text ∙ c.in_ok-part.ensures) in
    let fails = subst (HasAdded (ValueAdds c.in-Some.at.parts (view c.args.item.now)) c.args.found.now c.add_value.new.found) c.if-not-branch.true c.in_ok-add_value.ensures in
    item-stops name.parts c.in-Some.at.parts c.args.index (view c.args.item.now) c.args.found.now c.add_value.new.found c.add_value.new.found is fails

-- ---- members

pub add_member-returns : goal.add_member-returns
add_member-returns t c =
    let name = c.args.name.now in
    let part = c.args.part.now in
    let made = rw c.in-Some.is at c.in_ok-at.ensures in
    let unlike = sym c.is_array_like.ensures ∙ c.if-is_array_like.false in
    IfOk-weaker c.add_value.result _ _ (λ b h. member-value name.parts c.in-Some.at.parts part (view c.args.member.now) c.args.found.now c.add_value.new.found b (child-parts name c.in-Some.at part made.0) unlike (child-named name c.in-Some.at part made.0 made.1) h) c.add_value.ensures

pub add_members-loop-key-preserved : goal.add_members-loop-key-preserved
add_members-loop-key-preserved t c =
    let l = c.loop-key in
    let before = c.args.name.now.parts in
    let e : Entry = (c.in-Some.key.now, c.in-Some.member.now) in
    let left = c.next.new.self in
    let here : l.key-iterator ≡ e ∷ left = c.in-Some.ensures.steps in
    let named : c.as_str.result.now ≡ string_bytes c.in-Some.key.now = search rules in
    let name = string_bytes c.in-Some.key.now in
    let d = view c.in-Some.member.now in
    let step = subst (HasAdded (MemberAdds before name d) l.found c.add_member.new.found) c.if-not-branch.false (subst (λ p. HasAdded (MemberAdds before p d) l.found c.add_member.new.found c.in_ok-add_member.field-0) named c.in_ok-add_member.ensures) in
    record {
      sound = step.sound;
      rest = λ b end h. l.invariant.rest b end (subst (λ es. HasAdded (MembersAdd before (members_view es)) l.found end b) (sym here)
          (HasAdded-then (MemberAdds before name d) (MembersAdd before (members_view left)) _ (member-parts before name d (members_view left)) l.found c.add_member.new.found end b step h));
    }

pub add_members-returns-then-not-branch : goal.add_members-returns-then-not-branch
add_members-returns-then-not-branch t c =
    let l = c.loop-key in
    let before = c.args.name.now.parts in
    let e : Entry = (c.in-Some.key.now, c.in-Some.member.now) in
    let left = c.next.new.self in
    let here : l.key-iterator ≡ e ∷ left = c.in-Some.ensures.steps in
    let named : c.as_str.result.now ≡ string_bytes c.in-Some.key.now = search rules in
    let name = string_bytes c.in-Some.key.now in
    let d = view c.in-Some.member.now in
    let mid = c.add_member.new.found in
    let all : c.into_iter-key-iterator.result ≡ c.args.members.now.entries = search rules in
    let step = subst (HasAdded (MemberAdds before name d) l.found mid) c.if-not-branch.true (subst (λ p. HasAdded (MemberAdds before p d) l.found mid c.in_ok-add_member.field-0) named c.in_ok-add_member.ensures) in
    subst (λ es. HasAdded (MembersAdd before (members_view es)) c.args.found.now mid false) all
    (l.invariant.rest false mid (subst (λ es. HasAdded (MembersAdd before (members_view es)) l.found mid false) (sym here)
    (HasAdded-stops (MemberAdds before name d) (MembersAdd before (members_view left)) _ (member-parts before name d (members_view left)) l.found mid mid step)))

pub add_members-returns : goal.add_members-returns
add_members-returns t c =
    let l = c.loop-key in
    let before = c.args.name.now.parts in
    let all : c.into_iter-key-iterator.result ≡ c.args.members.now.entries = search rules in
    subst (λ es. HasAdded (MembersAdd before (members_view es)) c.args.found.now l.found true) all
    (l.invariant.rest true l.found (subst (λ es. HasAdded (MembersAdd before (members_view es)) l.found l.found true) (sym c.in-None.ensures.steps.0) (no-more-members before l.found l.invariant.sound)))
