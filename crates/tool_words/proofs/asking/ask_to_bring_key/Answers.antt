use Rattle.std.proofs.Common.{subst}
use Rattle.tool_words.specs.Request.{Asks, On, Bring, on_name_for}
use Rattle.tool_words.specs.RequestView.{IsRead}
use Rattle.tool_words.specs.declared.uses.Use.TheVariants.{Writes}
use Rattle.tool_words.proofs.asking.ask_to_bring_key.Goals as goal

pub returns-in-Is : goal.returns-in-Is
returns-in-Is c =
    subst (IsRead (on_name_for Writes c.args.to.now)) c.in-Is.is c.in_ok-to.ensures (λ other. Asks (On c.args.name (Bring c.args.way c.args.extent other)))

pub returns-in-IsNone : goal.returns-in-IsNone
returns-in-IsNone c =
    subst (IsRead (on_name_for Writes c.args.to.now)) c.in-IsNone.is c.in_ok-to.ensures (λ other. Asks (On c.args.name (Bring c.args.way c.args.extent other)))
