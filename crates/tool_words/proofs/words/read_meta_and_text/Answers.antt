use Rattle.std.proofs.Common.{sym, ap, subst, ◌∙◌, List, ℕ}
use Rattle.std.proofs.lemmas.Result.{IfOk-weaker}
use Rattle.tool_words.specs.Request.{Request, SetMeta, Asks, On, on_name_for, on_meta}
use Rattle.tool_words.specs.declared.uses.Use.TheVariants.{Writes}
use Rattle.tool_words.specs.RequestView.{IsSeenAs}
use Rattle.tool_words.proofs.WordLemmas.{asks_of_meta, refuses_meta}
use Rattle.tool_words.proofs.words.read_meta_and_text.Goals as goal

abbrev taking : List ℕ → List ℕ → List ℕ → Request
taking word meta text = on_name_for Writes word (λ name. on_meta meta (Asks (On name (SetMeta meta text))))

pub returns-in_default : goal.returns-in_default
returns-in_default c = (rw c.in_default.is at c.in_ok-name.ensures) taking

pub returns-in-Some-new : goal.returns-in-Some-new
returns-in-Some-new c =
    let name = c.in-Some.name.now in
    let word = c.in-Some.word.now in
    let text = c.in-Some.text.now in
    let asked =
    (rw c.in-Some.is at c.in_ok-name.ensures) taking ∙ asks_of_meta Writes name word (λ key. Asks (On key (SetMeta word text))) c.in-Some-new.ensures.0 in
    IfOk-weaker c.ask.result _ _ (λ read seen. subst (IsSeenAs read) (sym (asked ∙ ap (λ meta. on_name_for Writes name (λ key. Asks (On key (SetMeta meta text)))) (sym c.in-Some-new.ensures.1))) seen) c.ask.ensures

pub returns-in-None : goal.returns-in-None
returns-in-None c =
    let name = c.in-Some.name.now in
    let word = c.in-Some.word.now in
    let text = c.in-Some.text.now in
    let asked =
    (rw c.in-Some.is at c.in_ok-name.ensures) taking ∙ refuses_meta Writes name word (λ key. Asks (On key (SetMeta word text))) c.in-None.ensures in
    IfOk-weaker c.refuse_argument.result _ _ (λ read seen. subst (IsSeenAs read) (sym asked) seen) c.refuse_argument.ensures
