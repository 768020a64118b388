-- One more member is kept, behind those so far.
use Rattle.std.proofs.Common.{◌≡◌, [], ◌∷◌, ◌++◌, string_bytes, string_cmp, sym, ap, ◌∙◌, subst, append_assoc}
use Rattle.std.specs.List.Sorted.{IsStrictlySortedBy}
use Rattle.std.specs.Map.{keys_of}
use Rattle.serde_json.specs.View.{view, members_view}
use Rattle.serde_json.proofs.Views.{Entry, members_view-insert_entry}
use Rattle.json_storage.specs.Kept.{kept, kept_members}
use Rattle.json_storage.proofs.EachMember.{each-last}
use Rattle.json_storage.proofs.KeptLemmas.{kept-each}
use Rattle.json_storage.proofs.kept.+kept.Goals as goal

pub kept_members-loop-key-preserved : goal.kept_members-loop-key-preserved
kept_members-loop-key-preserved t c =
    let l = c.loop-key in
    let done = l.invariant.0 in
    let e : Entry = (c.in-Some.key.now, c.in-Some.member.now) in
    let left = c.next.new.self in
    let all : c.args.members.now.entries ≡ done ++ e ∷ left = l.invariant.1 ∙ ap (λ es. done ++ es) c.in-Some.ensures.steps in
    let sorted = subst (λ es. IsStrictlySortedBy string_cmp (keys_of es)) all c.iter-key-items.ensures.ordered in
    let named : string_bytes c.in_ok-name.name ≡ string_bytes e.0 = c.in_ok-name.ensures.cases in (
      done ++ e ∷ [],
      all ∙ sym (append_assoc done (e ∷ []) left),
      ap members_view c.in_ok-insert.ensures.entries
          ∙ members_view-insert_entry l.made.entries c.in_ok-name.name c.in_ok-kept.field-0
          ∙ each-last kept kept_members kept-each done e left (members_view l.made.entries) (string_bytes c.in_ok-name.name) (view c.in_ok-kept.field-0) sorted l.invariant.2 named c.in_ok-kept.ensures,
    )
