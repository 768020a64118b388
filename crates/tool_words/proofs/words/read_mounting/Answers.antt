use Rattle.std.proofs.Common.{subst, sym}
use Rattle.std.proofs.lemmas.Result.{IfOk-weaker}
use Rattle.tool_words.specs.Request.{asks_to_mount}
use Rattle.tool_words.specs.RequestView.{IsSeenAs}
use Rattle.tool_words.proofs.words.read_mounting.Goals as goal

pub returns-in_default : goal.returns-in_default
returns-in_default c = (rw c.in_default.is at c.in_ok-words.ensures) (asks_to_mount)

pub returns : goal.returns
returns c =
    IfOk-weaker c.ask_to_mount.result _ _ (λ read seen. subst (IsSeenAs read) (sym ((rw c.in-Some.is at c.in_ok-words.ensures) (asks_to_mount))) seen) c.ask_to_mount.ensures
