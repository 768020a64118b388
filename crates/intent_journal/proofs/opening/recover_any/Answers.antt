use Rattle.std.proofs.Common.{ℕ, List, length, inr, sym, ap, subst, ◌∙◌}
use Rattle.std.proofs.lemmas.Bool.{eqb-true, eq-eqb}
use Rattle.std.proofs.lemmas.List.{nil_from_length}
use Rattle.intent_journal.specs.Recovering.{Recovers}
use Rattle.intent_journal.proofs.opening.recover_any.Goals as goal

pub recover-requires-clause-own : goal.recover-requires-clause-own
recover-requires-clause-own g c = inr c.requires.name

pub recover-requires-clause-there : goal.recover-requires-clause-there
recover-requires-clause-there g c tells =
    c.requires.there tells (λ none. let yes = eq-eqb (length c.args.list.now) 0 (ap length none) in cc)

pub returns-then-is_empty-clause-recovers : goal.returns-then-is_empty-clause-recovers
returns-then-is_empty-clause-recovers g c tells some =
    absurd (some (nil_from_length c.args.list.now (eqb-true (length c.args.list.now) 0 (sym c.is_empty.ensures ∙ c.if-is_empty.true))))

pub returns-clause-none : goal.returns-clause-none
returns-clause-none g c is = absurd (let yes = eq-eqb (length c.args.list.now) 0 (ap length is) in cc)

pub returns-clause-recovers : goal.returns-clause-recovers
returns-clause-recovers g c tells some =
    subst (λ (n : List ℕ). Recovers g.D.Disk c.args.disk.now c.recover.new.disk c.recover.result n c.args.at c.args.list.now) c.requires.name (c.recover.ensures.recovers tells)
