use Rattle.std.proofs.Common.{subst}
use Rattle.tool_words.specs.Request.{Asks, On, on_name_for}
use Rattle.tool_words.specs.RequestView.{IsRead, action_of}
use Rattle.tool_words.proofs.asking.ask.Goals as goal

pub returns-in-Is : goal.returns-in-Is
returns-in-Is c =
    subst (IsRead (on_name_for c.args.by c.args.word.now)) c.in-Is.is c.in_ok-name.ensures (λ name. Asks (On name (action_of c.args.action)))

pub returns : goal.returns
returns c =
    subst (IsRead (on_name_for c.args.by c.args.word.now)) c.in-IsNone.is c.in_ok-name.ensures (λ name. Asks (On name (action_of c.args.action)))
