use Rattle.std.proofs.Common.{subst, sym}
use Rattle.std.proofs.lemmas.Result.{IfOk-weaker}
use Rattle.tool_words.specs.Request.{asks}
use Rattle.tool_words.specs.RequestView.{IsSeenAs, action_of}
use Rattle.tool_words.proofs.words.read_one.Goals as goal

pub returns-in_default : goal.returns-in_default
returns-in_default c = (rw c.in_default.is at c.in_ok-name.ensures) (asks c.args.by (action_of c.args.action))

pub returns : goal.returns
returns c =
    IfOk-weaker c.ask.result _ _ (λ read seen. subst (IsSeenAs read) (sym ((rw c.in-Some.is at c.in_ok-name.ensures) (asks c.args.by (action_of c.args.action)))) seen) c.ask.ensures
