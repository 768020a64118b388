use Rattle.std.proofs.Common.{subst}
use Rattle.tool_words.specs.Lines.{argument}
use Rattle.tool_words.specs.Request.{Refuses, on_name_for}
use Rattle.tool_words.specs.RequestView.{IsRead}
use Rattle.tool_words.proofs.asking.refuse_argument.Goals as goal

pub returns-in-Is : goal.returns-in-Is
returns-in-Is c =
    subst (IsRead (on_name_for c.args.by c.args.name.now)) c.in-Is.is c.in_ok-_name.ensures (λ _. Refuses 2 (argument c.args.word.now))

pub returns-in-IsNone : goal.returns-in-IsNone
returns-in-IsNone c =
    subst (IsRead (on_name_for c.args.by c.args.name.now)) c.in-IsNone.is c.in_ok-_name.ensures (λ _. Refuses 2 (argument c.args.word.now))
