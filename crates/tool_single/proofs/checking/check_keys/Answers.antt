-- The violations of the keys that were got are told.
use Rattle.std.proofs.Common.{◌≡◌, ℕ, List, Ok, Result, sym, ap, subst, ◌∙◌}
use Rattle.std.proofs.lemmas.Result.{IfOk-weaker}
use Rattle.kdb_outside.specs.Faults.{HasRisen}
use Rattle.model_maps.specs.KeyMap.{KeyMap}
use Rattle.mounted_files.specs.declared.refusals.GetFault.{GetFault}
use Rattle.tool_commands.specs.Commands.{every_key}
use Rattle.tool_commands.specs.Report.{checked}
use Rattle.tool_commands.specs.StepView.{report_of}
use Rattle.tool_single.specs.Alone.{got_alone}
use Rattle.tool_single.specs.Answer.{tells}
use Rattle.tool_single.specs.Answers.{AnswersChecked}
use Rattle.tool_single.proofs.checking.check_keys.Goals as goal

pub returns-in-Ok-clause-answers : goal.returns-in-Ok-clause-answers
returns-in-Ok-clause-answers g c =
    let files = c.args.plan.now.mounted in
    let Rose : List ℕ → Type 0 = λ pattern. HasRisen (g.P.Patterns.refusals c.args.core.now.patterns) (g.P.Patterns.refusals c.violations.new.self.patterns) in
    let found : got_alone files every_key ≡ Ok c.in-Ok.keys = ap (got_alone files) (sym c.every_key-parent.ensures) ∙ c.in-Ok.ensures.keys in
    IfOk-weaker c.tell_checked.result _ _ (λ report told.
    subst (λ (r : Result KeyMap GetFault). AnswersChecked Rose c.args.name.now r (tells (report_of report))) (sym found)
    (c.in_ok-violations-in-Ok.violations, c.in_ok-violations-in-Ok.ensures.all, ap tells (told ∙ ap checked c.as_slice.ensures)))
    c.tell_checked.ensures.told
