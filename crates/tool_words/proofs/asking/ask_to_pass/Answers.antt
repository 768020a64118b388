-- The word of a format is read, and a name that can't be used so is told first.
use Rattle.std.proofs.Common.{sym, subst, ◌∙◌}
use Rattle.std.proofs.lemmas.Result.{IfOk-weaker}
use Rattle.tool_words.specs.RequestView.{IsSeenAs}
use Rattle.tool_words.proofs.WordLemmas.{passes_as, refuses_format}
use Rattle.tool_words.proofs.asking.ask_to_pass.Goals as goal

pub returns-in-Some : goal.returns-in-Some
returns-in-Some c =
    let asked = passes_as c.args.flow c.args.name.now c.args.word.now c.in-Some.kind (sym c.of.ensures.kind ∙ c.in-Some.is) in
    IfOk-weaker c.pass.result _ _ (λ read seen. subst (IsSeenAs read) (sym asked) seen) c.pass.ensures

pub returns-in-None : goal.returns-in-None
returns-in-None c =
    let asked = refuses_format c.args.flow c.args.name.now c.args.word.now (sym c.of.ensures.kind ∙ c.in-None.is) in
    IfOk-weaker c.refuse_argument.result _ _ (λ read seen. subst (IsSeenAs read) (sym asked) seen) c.refuse_argument.ensures
