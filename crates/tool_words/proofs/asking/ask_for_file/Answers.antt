use Rattle.std.proofs.Common.{subst}
use Rattle.tool_words.specs.Request.{Asks, FileOf, on_name_for}
use Rattle.tool_words.specs.RequestView.{IsRead}
use Rattle.tool_words.specs.declared.uses.Use.TheVariants.{Writes}
use Rattle.tool_words.proofs.asking.ask_for_file.Goals as goal

pub returns-in-Is : goal.returns-in-Is
returns-in-Is c =
    subst (IsRead (on_name_for Writes c.args.word.now)) c.in-Is.is c.in_ok-name.ensures (λ name. Asks (FileOf name))

pub returns-in-IsNone : goal.returns-in-IsNone
returns-in-IsNone c =
    subst (IsRead (on_name_for Writes c.args.word.now)) c.in-IsNone.is c.in_ok-name.ensures (λ name. Asks (FileOf name))
