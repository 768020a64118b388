-- The word of a format is read, and a name that can't be used so is told first.
use Rattle.std.proofs.Common.{sym, ap, subst, ◌∙◌, ◌≡◌, List, ℕ, Some, None}
use Rattle.std.proofs.lemmas.Result.{IfOk-weaker}
use Rattle.std.specs.Borrow.{Bor}
use Rattle.std.specs.Option.{option_map}
use Rattle.tool_words.specs.Request.{asks}
use Rattle.tool_words.specs.RequestView.{IsSeenAs}
use Rattle.tool_words.specs.declared.uses.Use.TheVariants.{Writes}
use Rattle.tool_words.proofs.WordLemmas.{mounts_as_dump, mounts_as, refuses_kind}
use Rattle.tool_words.proofs.asking.ask_to_mount.Goals as goal

abbrev text_of : Bor (List ℕ) → List ℕ
text_of word = word.now

pub returns-in_default : goal.returns-in_default
returns-in_default c =
    let words = c.args.words in
    let left_out : words.plugin ≡ None = c.in_default.is in
    let asked = mounts_as_dump words.by_key words.file.now words.name.now (option_map text_of words.plugin) (ap (option_map text_of) left_out) in
    IfOk-weaker c.ask.result _ _ (λ read seen. subst (IsSeenAs read) (ap (λ action. asks Writes action words.name.now) c.mounting.ensures ∙ sym asked) seen) c.ask.ensures

pub returns-in-Some-of : goal.returns-in-Some-of
returns-in-Some-of c =
    let words = c.args.words in
    let given : words.plugin ≡ Some c.in-Some.word = c.in-Some.is in
    let asked = mounts_as words.by_key words.file.now words.name.now (option_map text_of words.plugin) c.in-Some.word.now c.in-Some-of.kind (ap (option_map text_of) given) (sym c.of.ensures.kind ∙ c.in-Some-of.is) in
    IfOk-weaker c.ask-in-Some-of.result _ _ (λ read seen. subst (IsSeenAs read) (ap (λ action. asks Writes action words.name.now) c.mounting-in-Some-of.ensures ∙ sym asked) seen) c.ask-in-Some-of.ensures

pub returns-in-None : goal.returns-in-None
returns-in-None c =
    let words = c.args.words in
    let given : words.plugin ≡ Some c.in-Some.word = c.in-Some.is in
    let asked = refuses_kind words.by_key words.file.now words.name.now (option_map text_of words.plugin) c.in-Some.word.now (ap (option_map text_of) given) (sym c.of.ensures.kind ∙ c.in-None.is) in
    IfOk-weaker c.refuse_argument.result _ _ (λ read seen. subst (IsSeenAs read) (sym asked) seen) c.refuse_argument.ensures
