-- One more member is changed, behind those so far.
use Rattle.std.proofs.Common.{◌≡◌, [], ◌∷◌, ◌++◌, string_bytes, string_cmp, refl, sym, ap, ◌∙◌, subst, append_assoc, append-nil}
use Rattle.std.specs.List.Sorted.{IsStrictlySortedBy}
use Rattle.std.specs.Map.{keys_of}
use Rattle.serde_json.specs.View.{view, items_view, members_view}
use Rattle.serde_json.proofs.Views.{Entry, members_view-insert_entry}
use Rattle.model_json.specs.Text.{with_arrays, elements, members_with_arrays}
use Rattle.json_storage.proofs.EachMember.{IsEach, each-last}
use Rattle.json_storage.proofs.arrays.+with_arrays.Goals as goal

pub elements-returns : goal.elements-returns
elements-returns t c =
    let made = c.loop-member.made.items in
    ap items_view (sym (append-nil made))
    ∙ c.loop-member.invariant [] (ap (λ es. elements (members_view es)) (sym c.in-None.ensures.steps.0))

arrays-each : IsEach with_arrays members_with_arrays
arrays-each = record { none = refl; more = λ name d ms. refl }

pub members_with_arrays-loop-key-preserved : goal.members_with_arrays-loop-key-preserved
members_with_arrays-loop-key-preserved t c =
    let l = c.loop-key in
    let done = l.invariant.0 in
    let e : Entry = (c.in-Some.key.now, c.in-Some.member.now) in
    let left = c.next.new.self in
    let all : c.args.members.now.entries ≡ done ++ e ∷ left = l.invariant.1 ∙ ap (λ es. done ++ es) c.in-Some.ensures.steps in
    let sorted = subst (λ es. IsStrictlySortedBy string_cmp (keys_of es)) all c.iter-key-items.ensures.ordered in
    let named : string_bytes c.in_ok-name.name ≡ string_bytes e.0 = c.in_ok-name.ensures.cases in (
      done ++ e ∷ [],
      all ∙ sym (append_assoc done (e ∷ []) left),
      ap members_view c.in_ok-insert.ensures.entries
          ∙ members_view-insert_entry l.made.entries c.in_ok-name.name c.in_ok-with_arrays.field-0
          ∙ each-last with_arrays members_with_arrays arrays-each done e left (members_view l.made.entries) (string_bytes c.in_ok-name.name) (view c.in_ok-with_arrays.field-0) sorted l.invariant.2 named c.in_ok-with_arrays.ensures,
    )
