-- A question is told what the mounts answer, or an action is done.
use Rattle.std.proofs.Common.{ℕ, List, sym, subst}
use Rattle.mounted_files.specs.declared.files.MountedFile.{MountedFile}
use Rattle.tool_commands.specs.StepView.{report_of}
use Rattle.tool_words.specs.Request.{Mounts, FileOf, TextOf, ViolationsOf}
use Rattle.tool_words.specs.RequestView.{question_of}
use Rattle.tool_words.specs.declared.requests.Question as code
use Rattle.tool_single.specs.Answer.{tells}
use Rattle.tool_single.specs.Answers.{AnswersIn}
use Rattle.kdb_outside.specs.Faults.{HasRisen}
use Rattle.tool_single.specs.Serving.{MayRefuse, Serves, Serving}
use Rattle.tool_single.proofs.ServeLemmas.{quiet_serves, told_serves}
use Rattle.tool_single.proofs.answering.answer_in.Goals as goal

pub returns-in_ok-tell_mounts-in-Mounts-clause-serving : goal.returns-in_ok-tell_mounts-in-Mounts-clause-serving
returns-in_ok-tell_mounts-in-Mounts-clause-serving g c =
    let files = c.args.plan.now.mounted in
    let report = report_of c.in_ok-tell_mounts-in-Mounts.field-0 in
    let refused = g.P.Patterns.refusals in
    let Rose : List ℕ → Type 0 = λ pattern. HasRisen (refused c.args.core.now.patterns) (refused c.args.core.now.patterns) in
    subst (λ (q : code.Question). Serves g.D.Disk files (AnswersIn Rose files (question_of q)) report c.args.core.now c.args.core.now) (sym c.in-Mounts.is)
    (told_serves g.D.Disk files (AnswersIn Rose files Mounts) report c.args.core.now
    (subst (λ (fs : List MountedFile). AnswersIn Rose fs Mounts (tells report)) c.mounted-mounted.ensures c.in_ok-tell_mounts-in-Mounts.ensures.told))

pub returns-in_ok-tell_file-in-FileOf-clause-serving : goal.returns-in_ok-tell_file-in-FileOf-clause-serving
returns-in_ok-tell_file-in-FileOf-clause-serving g c =
    let files = c.args.plan.now.mounted in
    let report = report_of c.in_ok-tell_file-in-FileOf.field-0 in
    let refused = g.P.Patterns.refusals in
    let Rose : List ℕ → Type 0 = λ pattern. HasRisen (refused c.args.core.now.patterns) (refused c.args.core.now.patterns) in
    subst (λ (q : code.Question). Serves g.D.Disk files (AnswersIn Rose files (question_of q)) report c.args.core.now c.args.core.now) (sym c.in-FileOf.is)
    (told_serves g.D.Disk files (AnswersIn Rose files (FileOf c.in-FileOf.name)) report c.args.core.now
    (subst (λ (fs : List MountedFile). AnswersIn Rose fs (FileOf c.in-FileOf.name) (tells report)) c.mounted-mounted.ensures c.in_ok-tell_file-in-FileOf.ensures.told))

pub returns-in_ok-tell_text-in-TextOf-clause-serving : goal.returns-in_ok-tell_text-in-TextOf-clause-serving
returns-in_ok-tell_text-in-TextOf-clause-serving g c =
    let files = c.args.plan.now.mounted in
    let report = report_of c.in_ok-tell_text-in-TextOf.field-0 in
    let refused = g.P.Patterns.refusals in
    let Rose : List ℕ → Type 0 = λ pattern. HasRisen (refused c.args.core.now.patterns) (refused c.args.core.now.patterns) in
    subst (λ (q : code.Question). Serves g.D.Disk files (AnswersIn Rose files (question_of q)) report c.args.core.now c.args.core.now) (sym c.in-TextOf.is)
    (told_serves g.D.Disk files (AnswersIn Rose files (TextOf c.in-TextOf.name c.in-TextOf.kind)) report c.args.core.now
    c.in_ok-tell_text-in-TextOf.ensures.answers)

pub returns-in_ok-check_keys-in-ViolationsOf-clause-serving : goal.returns-in_ok-check_keys-in-ViolationsOf-clause-serving
returns-in_ok-check_keys-in-ViolationsOf-clause-serving g c =
    let files = c.args.plan.now.mounted in
    let before = c.args.core.now in
    let after = c.check_keys.new.core in
    let Rose : List ℕ → Type 0 = λ pattern. HasRisen (g.P.Patterns.refusals before.patterns) (g.P.Patterns.refusals after.patterns) in
    let report = report_of c.in_ok-check_keys-in-ViolationsOf.field-0 in
    subst (λ (q : code.Question). Serves g.D.Disk files (AnswersIn Rose files (question_of q)) report before after) (sym c.in-ViolationsOf.is)
    (quiet_serves g.D.Disk files (AnswersIn Rose files (ViolationsOf c.in-ViolationsOf.name)) report before after c.check_keys.ensures.kept c.in_ok-check_keys-in-ViolationsOf.ensures.answers)

pub returns-in-On-clause-serving : goal.returns-in-On-clause-serving
returns-in-On-clause-serving g c =
    let refused = g.P.Patterns.refusals in
    let core = c.args.core.now in
    let after = c.act.new.core in
    let Refusing = MayRefuse c.act.result (refused core.patterns) (refused after.patterns) in
    subst (λ (q : code.Question). Serving g.D.Disk c.args.plan.now.mounted (AnswersIn Refusing c.args.plan.now.mounted (question_of q)) c.act.result core after) (sym c.in-On.is) c.act.ensures.serving
