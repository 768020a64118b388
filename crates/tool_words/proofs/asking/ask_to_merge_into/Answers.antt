use Rattle.std.proofs.Common.{sym, subst}
use Rattle.model_names.specs.Name.{Name}
use Rattle.tool_words.specs.Request.{Request, Asks, On, Merge, on_name_for, on_strategy}
use Rattle.tool_words.specs.RequestView.{IsRead, IsSeenAs}
use Rattle.tool_words.specs.declared.uses.Use.TheVariants.{Writes}
use Rattle.tool_words.proofs.asking.ask_to_merge_into.Goals as goal

pub returns-in-Is : goal.returns-in-Is
returns-in-Is c =
    let asked : Name → Request = λ name. on_strategy c.args.word.now (λ strategy. Asks (On name (Merge strategy c.args.our c.args.their c.args.base))) in
    let named = subst (IsRead (on_name_for Writes c.args.into.now)) c.in-Is.is c.in_ok-name.ensures in
    subst (IsSeenAs c.merging.result) (sym (named asked)) c.merging.ensures

pub returns-in-IsNone : goal.returns-in-IsNone
returns-in-IsNone c =
    subst (IsRead (on_name_for Writes c.args.into.now)) c.in-IsNone.is c.in_ok-name.ensures (λ name. on_strategy c.args.word.now (λ strategy. Asks (On name (Merge strategy c.args.our c.args.their c.args.base))))
