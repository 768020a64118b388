-- Where each name comes before the next, each comes before all behind it.
use Rattle.std.proofs.Common.{◌+◌, refl, sym, ap, ◌∙◌, inl, inr, arith}
use Rattle.std.specs.Ordering.{is_lt}
use Rattle.std.proofs.lemmas.Bool.{cases_lt, false≢true}
use Rattle.key_name.proofs.OwnerLemmas.{ascending, neighbours, neighbours_rise}
use Rattle.key_name.proofs.owners.are_ascending.Goals as goal
use Rattle.general_words.proofs.Orders.{less}
use Rattle.general_words.proofs.Tests.{true_is}

pub returns-then-not-is_lt : goal.returns-then-not-is_lt
returns-then-not-is_lt c =
    let a = c.index-names-i.result in
    let b = c.index-names-i-in-loop-i.result in
    (λ e. absurd (false≢true e), λ rise. sym (sym c.is_lt.ensures ∙ c.if-not-is_lt.true) ∙ ap is_lt (c.cmp.ensures ∙ neighbours_rise c.args.names.now c.loop-i.i a b (omega (arith, c.loop-i.auto.i)) c.loop-i-test.true c.index-names-i.is c.index-names-i-in-loop-i.is rise))

pub loop-i-preserved : goal.loop-i-preserved
loop-i-preserved c = λ k d lt.
    let a = c.index-names-i.result in
    let b = c.index-names-i-in-loop-i.result in
    elim (cases_lt (k + 1) c.loop-i.i) [
      | inl before ↦ c.loop-i.invariant k d before
      | inr last ↦ neighbours c.args.names.now c.loop-i.i a b c.loop-i-test.true c.index-names-i.is c.index-names-i-in-loop-i.is (less _ (true_is _ (ap is_lt (sym c.cmp.ensures) ∙ sym c.is_lt.ensures ∙ c.if-not-is_lt.false))) k d (omega arith)
    ]

pub returns : goal.returns
returns c = (λ _. ascending c.args.names.now (λ k d lt. c.loop-i.invariant k d (omega arith)), λ _. refl)
