use Rattle.std.proofs.lemmas.Result.{IfOk-weaker}
use Rattle.tool_single.specs.Answers.{owner_in}
use Rattle.tool_single.specs.Answer.{tells}
use Rattle.tool_commands.specs.StepView.{report_of}
use Rattle.tool_single.proofs.AnswerLemmas.{told-owner}
use Rattle.tool_single.proofs.answering.tell_file.Goals as goal

pub returns-clause-told : goal.returns-clause-told
returns-clause-told c =
    IfOk-weaker c.tell_name_of.result _ _ (λ report is. told-owner (owner_in c.args.mounted.now c.args.name.now) c.owner_in-mount.result.now (tells (report_of report)) c.owner_in-mount.ensures is) c.tell_name_of.ensures.told
