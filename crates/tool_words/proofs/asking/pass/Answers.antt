-- The name that was read is the one that is asked for.
use Rattle.std.proofs.Common.{sym, subst}
use Rattle.tool_words.specs.Request.{on_name_for, passing}
use Rattle.tool_words.specs.RequestView.{IsRead, IsSeenAs}
use Rattle.tool_words.specs.declared.uses.Use.TheVariants.{Writes}
use Rattle.tool_words.proofs.asking.pass.Goals as goal

pub returns-in-Is : goal.returns-in-Is
returns-in-Is c =
    let asked = subst (IsRead (on_name_for Writes c.args.name.now)) c.in-Is.is c.in_ok-name.ensures (λ at. passing c.args.flow at c.args.kind) in
    subst (IsSeenAs c.passed.result) (sym asked) c.passed.ensures

pub returns-in-IsNone : goal.returns-in-IsNone
returns-in-IsNone c =
    subst (IsRead (on_name_for Writes c.args.name.now)) c.in-IsNone.is c.in_ok-name.ensures (λ at. passing c.args.flow at c.args.kind)
