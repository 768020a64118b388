use Rattle.std.proofs.Common.{subst, sym}
use Rattle.std.proofs.lemmas.Result.{IfOk-weaker}
use Rattle.tool_words.specs.Request.{Asks, FileOf, on_name_for}
use Rattle.tool_words.specs.RequestView.{IsSeenAs}
use Rattle.tool_words.specs.declared.uses.Use.TheVariants.{Writes}
use Rattle.tool_words.proofs.words.read_file_name.Goals as goal

pub returns-in_default : goal.returns-in_default
returns-in_default c =
    (rw c.in_default.is at c.in_ok-name.ensures) (λ word. on_name_for Writes word (λ name. Asks (FileOf name)))

pub returns : goal.returns
returns c =
    IfOk-weaker c.ask_for_file.result _ _ (λ read seen. subst (IsSeenAs read) (sym ((rw c.in-Some.is at c.in_ok-name.ensures) (λ word. on_name_for Writes word (λ name. Asks (FileOf name))))) seen) c.ask_for_file.ensures
