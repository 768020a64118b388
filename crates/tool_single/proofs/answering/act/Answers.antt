-- What is got leads to a step, and what can't be got is told.
use Rattle.std.proofs.Common.{List, ℕ, ◌≡◌, Ok, Result, sym, ap, subst, ◌∙◌}
use Rattle.model_maps.specs.KeyMap.{KeyMap}
use Rattle.model_names.specs.Name.{Name}
use Rattle.mounted_files.specs.declared.refusals.GetFault.{GetFault}
use Rattle.tool_commands.specs.Commands.{parent_of, row_of, step_of}
use Rattle.tool_commands.specs.Step.{Step}
use Rattle.tool_commands.specs.StepView.{report_of}
use Rattle.tool_words.specs.RequestView.{action_of}
use Rattle.tool_single.specs.Alone.{got_alone}
use Rattle.tool_single.specs.Answer.{tells}
use Rattle.tool_single.specs.Answers.{AnswersGot, AnswersStep}
use Rattle.kdb_outside.specs.Faults.{HasRisen}
use Rattle.tool_single.specs.Serving.{MayRefuse, Serving}
use Rattle.tool_single.proofs.AnswerLemmas.{got-fault}
use Rattle.tool_single.proofs.ServeLemmas.{told_serves}
use Rattle.tool_single.proofs.answering.act.Goals as goal

pub returns-in_ok-step-in-Ok-clause-serving : goal.returns-in_ok-step-in-Ok-clause-serving
returns-in_ok-step-in-Ok-clause-serving g c =
    let files = c.args.plan.now.mounted in
    let name = c.args.name.now in
    let action = action_of c.args.action in
    let core = c.args.core.now in
    let result = c.take_step.result in
    let after = c.take_step.new.core in
    let Refusing = MayRefuse result (g.P.Patterns.refusals core.patterns) (g.P.Patterns.refusals after.patterns) in
    let by_step = subst (λ (s : Step). Serving g.D.Disk files (AnswersStep Refusing files c.in_ok-parent.parent s) result core after) c.in_ok-step-in-Ok.ensures.step c.take_step.ensures.serving in
    let by_parent = subst (λ (p : Name). Serving g.D.Disk files (AnswersStep Refusing files p (step_of c.in-Ok.keys name action)) result core after) c.in_ok-parent.ensures by_step in
    let found : got_alone files (parent_of name action) ≡ Ok c.in-Ok.keys = ap (got_alone files) (sym c.in_ok-parent.ensures) ∙ c.in-Ok.ensures.keys in
    subst (λ (r : Result KeyMap GetFault). Serving g.D.Disk files (AnswersGot Refusing files name action r) result core after) (sym found) by_parent

pub returns-in_ok-step-in-Ok-clause-status : goal.returns-in_ok-step-in-Ok-clause-status
returns-in_ok-step-in-Ok-clause-status g c =
    c.take_step.ensures.status (row_of c.args.name.now (action_of c.args.action)).statuses c.in_ok-step-in-Ok.ensures.status

pub returns-in_ok-refuse_get-in-Err-clause-serving : goal.returns-in_ok-refuse_get-in-Err-clause-serving
returns-in_ok-refuse_get-in-Err-clause-serving g c =
    let files = c.args.plan.now.mounted in
    let name = c.args.name.now in
    let action = action_of c.args.action in
    let report = report_of c.in_ok-refuse_get-in-Err.field-0 in
    let told = c.in_ok-refuse_get-in-Err.ensures.refused in
    let refused = g.P.Patterns.refusals in
    let Rose : List ℕ → Type 0 = λ pattern. HasRisen (refused c.args.core.now.patterns) (refused c.args.core.now.patterns) in
    told_serves g.D.Disk files (AnswersGot Rose files name action (got_alone files (parent_of name action))) report c.args.core.now
    (got-fault Rose files name c.in_ok-parent.parent action c.in-Err.fault (tells report) c.in_ok-parent.ensures c.in-Err.ensures.fault told.0 (ap tells told.1))
