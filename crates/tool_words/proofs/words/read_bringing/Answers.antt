use Rattle.std.proofs.Common.{subst, sym}
use Rattle.std.proofs.lemmas.Result.{IfOk-weaker}
use Rattle.tool_words.specs.Request.{asks_to_bring}
use Rattle.tool_words.specs.RequestView.{IsSeenAs}
use Rattle.tool_words.proofs.words.read_bringing.Goals as goal

pub returns-in_default : goal.returns-in_default
returns-in_default c = (rw c.in_default.is at c.in_ok-extent.ensures) (asks_to_bring c.args.way)

pub returns : goal.returns
returns c =
    IfOk-weaker c.ask_to_bring.result _ _ (λ read seen. subst (IsSeenAs read) (sym ((rw c.in-Some.is at c.in_ok-extent.ensures) (asks_to_bring c.args.way))) seen) c.ask_to_bring.ensures
