use Rattle.std.proofs.Common.{subst, sym}
use Rattle.std.proofs.lemmas.Result.{IfOk-weaker}
use Rattle.tool_words.specs.Request.{Set, asks}
use Rattle.tool_words.specs.RequestView.{IsSeenAs}
use Rattle.tool_words.specs.declared.uses.Use.TheVariants.{Writes}
use Rattle.tool_words.proofs.words.read_name_and_value.Goals as goal

pub returns-in_default : goal.returns-in_default
returns-in_default c = (rw c.in_default.is at c.in_ok-name.ensures) (λ word value. asks Writes (Set value) word)

pub returns : goal.returns
returns c =
    IfOk-weaker c.ask.result _ _ (λ read seen. subst (IsSeenAs read) (sym ((rw c.in-Some.is at c.in_ok-name.ensures) (λ word value. asks Writes (Set value) word))) seen) c.ask.ensures
