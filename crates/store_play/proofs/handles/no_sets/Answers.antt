-- Place by place.
use Rattle.std.proofs.Common.{ℕ, ◌+◌, None, length, refl, sym, ap, subst, ◌∙◌, arith}
use Rattle.std.proofs.lemmas.List.{length_push}
use Rattle.store_play.specs.Handles.{HoldNothing}
use Rattle.store_play.proofs.HandleLemmas.{holds_nothing-next}
use Rattle.store_play.proofs.handles.no_sets.Goals as goal

pub loop-init : goal.loop-init
loop-init c =
    record {
      count = ap length c.in_ok-made.ensures.items;
      empty = subst HoldNothing (sym c.in_ok-made.ensures.items) (λ p. refl);
    }

pub loop-preserved : goal.loop-preserved
loop-preserved c = record {
  count = ap length c.in_ok-push.ensures.items ∙ length_push c.loop.made.items None ∙ ap (λ (n : ℕ). n + 1) c.loop.invariant.count;
  empty = subst HoldNothing (sym c.in_ok-push.ensures.items) (holds_nothing-next c.loop.made.items c.loop.invariant.empty);
}

pub returns-clause-len : goal.returns-clause-len
returns-clause-len c = omega (arith, c.loop.invariant.count, c.loop-test.false, c.loop.auto.counter-end)

pub returns-clause-empty : goal.returns-clause-empty
returns-clause-empty c = c.loop.invariant.empty
