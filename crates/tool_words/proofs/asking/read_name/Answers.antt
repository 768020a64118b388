use Rattle.std.proofs.Common.{◌≡◌, true, false, cond, sym, ap, subst, ◌∙◌}
use Rattle.model_names.specs.Name.{Name}
use Rattle.tool_words.specs.Request.{Bars, on_name}
use Rattle.tool_words.specs.RequestView.{IsRead}
use Rattle.tool_words.specs.Uses.{bars}
use Rattle.tool_words.proofs.asking.read_name.Goals as goal

pub returns-then-bars : goal.returns-then-bars
returns-then-bars c = λ asked.
    let by = c.args.by in
    let name = c.in-Is.name in
    let named = subst (IsRead (on_name c.args.word.now)) c.in-Is.is c.in_ok-name.ensures in
    let barred : bars by name.namespace ≡ true = ap (bars by) (sym c.namespace.ensures) ∙ (sym c.bars.ensures ∙ c.if-bars.true) in
    named (λ (n : Name). cond (bars by n.namespace) (Bars n) (asked n))
    ∙ ap (λ b. cond b (Bars name) (asked name)) barred

pub returns-else-bars : goal.returns-else-bars
returns-else-bars c = λ asked.
    let by = c.args.by in
    let name = c.in-Is.name in
    let named = subst (IsRead (on_name c.args.word.now)) c.in-Is.is c.in_ok-name.ensures in
    let free : bars by name.namespace ≡ false = ap (bars by) (sym c.namespace.ensures) ∙ (sym c.bars.ensures ∙ c.if-bars.false) in
    named (λ (n : Name). cond (bars by n.namespace) (Bars n) (asked n)) ∙ ap (λ b. cond b (Bars name) (asked name)) free

pub returns-in-IsNone : goal.returns-in-IsNone
returns-in-IsNone c = λ asked.
    subst (IsRead (on_name c.args.word.now)) c.in-IsNone.is c.in_ok-name.ensures (λ (n : Name). cond (bars c.args.by n.namespace) (Bars n) (asked n))
