-- The text is that of the keys at or below the name, of those that were got.
use Rattle.std.proofs.Common.{Result, sym, subst}
use Rattle.std.proofs.lemmas.Result.{IfOk-weaker}
use Rattle.model_maps.specs.KeyMap.{KeyMap}
use Rattle.mounted_files.specs.declared.refusals.GetFault.{GetFault}
use Rattle.tool_commands.specs.StepView.{report_of}
use Rattle.tool_single.specs.Answer.{tells}
use Rattle.tool_single.specs.Answers.{AnswersBelow, AnswersText}
use Rattle.tool_single.proofs.answering.tell_text.Goals as goal

pub returns-in-Ok-clause-answers : goal.returns-in-Ok-clause-answers
returns-in-Ok-clause-answers g c =
    let name = c.args.name.now in
    let kind = c.args.kind in
    IfOk-weaker c.tell_keys.result _ _ (λ report answers.
    subst (λ (r : Result KeyMap GetFault). AnswersBelow name kind r (tells (report_of report))) (sym c.in-Ok.ensures.keys)
    (subst (λ (k : KeyMap). AnswersText name kind k (tells (report_of report))) c.in_ok-found-in-Ok.ensures.is answers))
    c.tell_keys.ensures.answers
