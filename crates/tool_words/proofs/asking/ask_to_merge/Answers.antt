-- Each name that was read is the one that is asked for, and what is wrong with one comes before what is wrong with a
-- later one.
use Rattle.std.proofs.Common.{◌∙◌, sym, subst, ℕ, List}
use Rattle.std.proofs.lemmas.Result.{IfOk-weaker}
use Rattle.model_names.specs.Name.{Name}
use Rattle.tool_words.specs.Request.{Request, Asks, On, Merge, on_name_for, on_strategy}
use Rattle.tool_words.specs.RequestView.{IsRead, IsSeenAs}
use Rattle.tool_words.specs.declared.uses.Use.TheVariants.{Writes}
use Rattle.tool_words.proofs.asking.ask_to_merge.Goals as goal

-- what is asked for by the first names
abbrev by_base : List ℕ → List ℕ → Name → Name → Name → Request
by_base into word our their base =
    on_name_for Writes into (λ name. on_strategy word (λ strategy. Asks (On name (Merge strategy our their base))))

abbrev by_their : List ℕ → List ℕ → List ℕ → Name → Name → Request
by_their base into word our their = on_name_for Writes base (by_base into word our their)

abbrev by_our : List ℕ → List ℕ → List ℕ → List ℕ → Name → Request
by_our their base into word our = on_name_for Writes their (by_their base into word our)

pub returns-in-IsNone : goal.returns-in-IsNone
returns-in-IsNone c =
    let w = c.args.words in
    subst (IsRead (on_name_for Writes w.our.now)) c.in-IsNone.is c.in_ok-name.ensures (by_our w.their.now w.base.now w.into.now w.strategy.now)

pub returns-in-IsNone-2 : goal.returns-in-IsNone-2
returns-in-IsNone-2 c =
    let w = c.args.words in
    let our = subst (IsRead (on_name_for Writes w.our.now)) c.in-Is.is c.in_ok-name.ensures (by_our w.their.now w.base.now w.into.now w.strategy.now) in
    subst (IsSeenAs c.in-IsNone-2.request) (sym our) (subst (IsRead (on_name_for Writes w.their.now)) c.in-IsNone-2.is c.in_ok-name-2.ensures (by_their w.base.now w.into.now w.strategy.now c.in-Is.name))

pub returns-in-IsNone-3 : goal.returns-in-IsNone-3
returns-in-IsNone-3 c =
    let w = c.args.words in
    let our = subst (IsRead (on_name_for Writes w.our.now)) c.in-Is.is c.in_ok-name.ensures (by_our w.their.now w.base.now w.into.now w.strategy.now) in
    let their = subst (IsRead (on_name_for Writes w.their.now)) c.in-Is-2.is c.in_ok-name-2.ensures (by_their w.base.now w.into.now w.strategy.now c.in-Is.name) in
    subst (IsSeenAs c.in-IsNone-3.request) (sym (our ∙ their)) (subst (IsRead (on_name_for Writes w.base.now)) c.in-IsNone-3.is c.in_ok-name-3.ensures (by_base w.into.now w.strategy.now c.in-Is.name c.in-Is-2.name))

pub returns : goal.returns
returns c =
    let w = c.args.words in
    let our = subst (IsRead (on_name_for Writes w.our.now)) c.in-Is.is c.in_ok-name.ensures (by_our w.their.now w.base.now w.into.now w.strategy.now) in
    let their = subst (IsRead (on_name_for Writes w.their.now)) c.in-Is-2.is c.in_ok-name-2.ensures (by_their w.base.now w.into.now w.strategy.now c.in-Is.name) in
    let base = subst (IsRead (on_name_for Writes w.base.now)) c.in-Is-3.is c.in_ok-name-3.ensures (by_base w.into.now w.strategy.now c.in-Is.name c.in-Is-2.name) in
    IfOk-weaker c.ask_to_merge_into.result _ _ (λ read seen. subst (IsSeenAs read) (sym (our ∙ their ∙ base)) seen) c.ask_to_merge_into.ensures
