use Rattle.std.proofs.Common.{ap, sym, ◌∙◌, arith}
use Rattle.std.specs.Option.{option_map}
use Rattle.std.proofs.lemmas.Option.{slice_get_within}
use Rattle.intent_journal.specs.Pending.{content_of, pending_in}
use Rattle.intent_journal.proofs.LeastNames.{first_above-none, past_end, pending_few}
use Rattle.intent_journal.proofs.pending.count_pending.Goals as goal

pub loop-count-init : goal.loop-count-init
loop-count-init c =
    record { found = c.least_in-found.ensures ∙ first_above-none (pending_in c.args.list.now); within = omega arith }

pub returns-in-None : goal.returns-in-None
returns-in-None c =
    let list = c.args.list.now in
    let past = past_end (pending_in list) c.loop-count.count (sym c.loop-count.invariant.found ∙ ap (λ o. option_map (λ text. content_of text.now) o) c.in-None.is) in
    let within = c.loop-count.invariant.within in
    omega arith

pub loop-count-preserved : goal.loop-count-preserved
loop-count-preserved c =
    let list = c.args.list.now in
    let there = sym c.loop-count.invariant.found ∙ ap (λ o. option_map (λ text. content_of text.now) o) c.in-Some.is in
    let within = slice_get_within (pending_in list) c.loop-count.count (content_of c.in-Some.field-0.now) there in
    record { found = c.next_in-found.ensures c.loop-count.count c.loop-count.invariant.found; within = omega arith }

pub returns : goal.returns
returns c =
    let few = pending_few c.args.list.now c.requires.few c.requires.each in
    let within = c.loop-count.invariant.within in
    omega (arith, c.loop-count-test.false)
