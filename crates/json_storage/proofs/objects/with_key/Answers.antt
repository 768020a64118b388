-- A key comes before those behind it.
use Rattle.std.proofs.Common.{◌≡◌, ◌+◌, ◌∷◌, suc, drop, take, map, sym, ap, subst, ◌∙◌, arith}
use Rattle.std.proofs.lemmas.Result.{IfOk-weaker}
use Rattle.std.specs.FinMap as finite
use Rattle.key_set.specs.EntryView.{entry_of}
use Rattle.model_names.specs.Name.{Name}
use Rattle.model_maps.specs.Entry.{Entry}
use Rattle.serde_json.specs.View.{view}
use Rattle.model_json.specs.Tree.{with_leaf, tree, leaf_of}
use Rattle.json_storage.specs.Writing.{cut_leaf, cut_leaves, ComesFirst}
use Rattle.json_storage.proofs.ObjectLemmas.{comes-before, got-next, all-cascading, absent-key}
use Rattle.json_storage.proofs.objects.with_key.Goals as goal

pub with_leaf-requires : goal.with_leaf-requires
with_leaf-requires c =
    let keys = c.args.keys.now in
    let key : Name × Entry = (c.in-Some.name.now, entry_of c.in-Some.entry.now) in
    let on : suc c.args.i ≡ c.args.i + 1 = omega arith in
    let first = comes-before 101 (finite.entries keys) c.args.i key (all-cascading keys c.requires.limited) (finite.entries_sorted keys) (sym c.in-Some.ensures) in
    record {
      first = subst (ComesFirst (take 101 c.in-Some.name.now.parts)) (ap (λ n. tree (cut_leaves n keys)) on ∙ sym c.requires.behind) first;
    }

pub returns-in-Some : goal.returns-in-Some
returns-in-Some c =
    let keys = c.args.keys.now in
    let i = c.args.i in
    let key : Name × Entry = (c.in-Some.name.now, entry_of c.in-Some.entry.now) in
    let on : suc i ≡ i + 1 = omega arith in
    let there = got-next (finite.entries keys) i key (sym c.in-Some.ensures) ∙ ap (λ n. key ∷ drop n (finite.entries keys)) on in
    IfOk-weaker c.with_leaf.result _ _ (λ made h.
    h ∙ ap (λ text. with_leaf (take 101 key.0.parts) text (view c.args.value)) c.as_str.ensures.bytes
    ∙ ap (with_leaf (take 101 key.0.parts) key.1.value) c.requires.behind
    ∙ ap (λ es. tree (map (cut_leaf 101) (map leaf_of es))) (sym there)) c.with_leaf.ensures

pub returns-in-None : goal.returns-in-None
returns-in-None c = absurd (absent-key (finite.entries c.args.keys.now) c.args.i c.requires.place c.in-None.ensures)
