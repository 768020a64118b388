use Rattle.std.proofs.Common.{◌≡◌, ◌+◌, ◌-◌, ◌≤◌, length, map, sym, ap, ◌∙◌, arith}
use Rattle.std.proofs.lemmas.List.{drop_all}
use Rattle.std.specs.FinMap as finite
use Rattle.model_json.specs.Tree.{tree, leaf_of}
use Rattle.json_storage.specs.Writing.{cut_leaf, cut_leaves}
use Rattle.json_storage.proofs.objects.object_of.Goals as goal

pub loop-left-init : goal.loop-left-init
loop-left-init c =
    let es = finite.entries c.args.keys.now in
    let all : length es ≤ c.len-left.result = omega (arith, c.len-left.ensures) in
    record {
      within = omega (arith, c.len-left.ensures);
      is = c.nothing-made.ensures ∙ ap (λ left. tree (map (cut_leaf 101) (map leaf_of left))) (sym (drop_all c.len-left.result es all));
    }

pub with_key-requires-clause-place : goal.with_key-requires-clause-place
with_key-requires-clause-place c = omega (arith, c.loop-left.invariant.within, c.loop-left-test.true)

pub with_key-requires-clause-behind : goal.with_key-requires-clause-behind
with_key-requires-clause-behind c =
    let on : c.loop-left.left ≡ c.loop-left.left - 1 + 1 = omega (arith, c.loop-left-test.true) in
    c.loop-left.invariant.is ∙ ap (λ n. tree (cut_leaves n c.args.keys.now)) on

pub loop-left-preserved : goal.loop-left-preserved
loop-left-preserved c = record { within = omega (arith, c.loop-left.invariant.within); is = c.in_ok-made.ensures }

pub returns : goal.returns
returns c =
    let none : c.loop-left.left ≡ 0 = omega (arith, c.loop-left-test.false) in
    c.loop-left.invariant.is ∙ ap (λ n. tree (cut_leaves n c.args.keys.now)) none
