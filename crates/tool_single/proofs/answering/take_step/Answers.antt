-- A step is told, or its keys are set.
use Rattle.std.proofs.Common.{List, ℕ, refl, sym, subst}
use Rattle.tool_commands.specs.StepView.{report_of, seen_step}
use Rattle.tool_commands.specs.declared.steps.Step.{Step}
use Rattle.tool_single.specs.Answers.{AnswersStep}
use Rattle.kdb_outside.specs.Faults.{HasRisen}
use Rattle.tool_single.specs.Serving.{MayRefuse, Serves, Serving}
use Rattle.tool_single.proofs.ServeLemmas.{told_serves}
use Rattle.tool_commands.specs.Step.{Tells}
use Rattle.tool_single.proofs.answering.take_step.Goals as goal

pub returns-in-Tells-clause-serving : goal.returns-in-Tells-clause-serving
returns-in-Tells-clause-serving g c =
    let refused = g.P.Patterns.refusals in
    let Rose : List ℕ → Type 0 = λ pattern. HasRisen (refused c.args.core.now.patterns) (refused c.args.core.now.patterns) in
    subst (λ (s : Step). Serves g.D.Disk c.args.plan.now.mounted (AnswersStep Rose c.args.plan.now.mounted c.args.parent.now (seen_step s)) (report_of c.in-Tells.report) c.args.core.now c.args.core.now) (sym c.in-Tells.is)
    (told_serves g.D.Disk c.args.plan.now.mounted (AnswersStep Rose c.args.plan.now.mounted c.args.parent.now (Tells (report_of c.in-Tells.report))) (report_of c.in-Tells.report) c.args.core.now refl)

pub returns-in-Sets-clause-serving : goal.returns-in-Sets-clause-serving
returns-in-Sets-clause-serving g c =
    let refused = g.P.Patterns.refusals in
    let core = c.args.core.now in
    let after = c.set_keys.new.core in
    let Refusing = MayRefuse c.set_keys.result (refused core.patterns) (refused after.patterns) in
    subst (λ (s : Step). Serving g.D.Disk c.args.plan.now.mounted (AnswersStep Refusing c.args.plan.now.mounted c.args.parent.now (seen_step s)) c.set_keys.result core after) (sym c.in-Sets.is) c.set_keys.ensures.serving
