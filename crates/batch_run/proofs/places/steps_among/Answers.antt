-- The session is found at the next place, or further on.
use Rattle.std.proofs.Common.{◌∙◌, ap, sym}
use Rattle.batch_script.specs.declared.steps.Steps.{Steps}
use Rattle.batch_run.specs.Shown.{number_of}
use Rattle.batch_run.proofs.ShownLemmas.{steps-found}
use Rattle.batch_run.proofs.places.steps_among.Goals as goal

pub returns-then-it-session : goal.returns-then-it-session
returns-then-it-session c =
    let it = c.it-item.result in
    let there = ap number_of (sym c.it-item.is) ∙ c.if-it-session.true in
    c.as_slice.ensures ∙ ap (λ (s : Steps). s.steps) c.it-item.is
    ∙ steps-found c.args.phase.now c.loop-it.it-index it c.args.session c.loop-it-test.true c.loop-it.invariant there
