use Rattle.std.proofs.Common.{sym, subst}
use Rattle.std.proofs.lemmas.Result.{IfOk-weaker}
use Rattle.model_names.specs.Name.{Name}
use Rattle.tool_words.specs.Request.{Request, Asks, On, Bring, on_name_for}
use Rattle.tool_words.specs.RequestView.{IsRead, IsSeenAs}
use Rattle.tool_words.specs.declared.uses.Use.TheVariants.{Writes}
use Rattle.tool_words.proofs.asking.ask_to_bring.Goals as goal

pub returns-in-Is : goal.returns-in-Is
returns-in-Is c =
    let asked : Name → Request = λ name. on_name_for Writes c.args.to.now (λ other. Asks (On name (Bring c.args.way c.args.extent other))) in
    let named = subst (IsRead (on_name_for Writes c.args.from.now)) c.in-Is.is c.in_ok-name.ensures in
    IfOk-weaker c.ask_to_bring_key.result _ _ (λ read seen. subst (IsSeenAs read) (sym (named asked)) seen) c.ask_to_bring_key.ensures

pub returns-in-IsNone : goal.returns-in-IsNone
returns-in-IsNone c =
    subst (IsRead (on_name_for Writes c.args.from.now)) c.in-IsNone.is c.in_ok-name.ensures (λ name. on_name_for Writes c.args.to.now (λ other. Asks (On name (Bring c.args.way c.args.extent other))))
