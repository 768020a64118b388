-- A line means nothing, or has words that say what may follow, or adds nothing.
use Rattle.std.proofs.Common.{ℕ, List, sym, ap, subst, ◌∙◌, rules}
use Rattle.std.specs.Str.{IsUtf8}
use Rattle.std.proofs.lemmas.Result.{IfOk-weaker}
use Rattle.batch_script.specs.Rows.{said}
use Rattle.batch_script.specs.Words.{is_nothing, behind_blanks, HasWords}
use Rattle.batch_script.proofs.LineLemmas.{nothing-adds, said-lacks, words-lack}
use Rattle.batch_script.proofs.ProgressLemmas.{goes-on}
use Rattle.batch_script.proofs.progress.add_line.Goals as goal

pub returns-then-is_nothing : goal.returns-then-is_nothing
returns-then-is_nothing c items h =
    let line = c.args.line.now in
    let rest = c.behind_blanks-rest.ensures ∙ ap behind_blanks c.without_return.ensures in
    let utf8 : IsUtf8 line = search rules in
    (items, nothing-adds items line utf8 (sym (ap is_nothing rest) ∙ sym c.is_nothing.ensures ∙ c.if-is_nothing.true), h)

pub returns-in_default-found : goal.returns-in_default-found
returns-in_default-found c items h after adds =
    let line = c.args.line.now in
    let rest = c.behind_blanks-rest.ensures ∙ ap behind_blanks c.without_return.ensures in
    let none = subst (λ (t : List ℕ). (words : List (List ℕ)) → HasWords t words → ⊥) rest (rw c.in_default-found.is at c.in_ok-found.ensures) in
    words-lack items after line (sym (ap is_nothing rest) ∙ sym c.is_nothing.ensures ∙ c.if-is_nothing.false) none adds

pub returns-in-Some-told : goal.returns-in-Some-told
returns-in-Some-told c =
    let line = c.args.line.now in
    let words = c.in-Some.words.items in
    let rest = c.behind_blanks-rest.ensures ∙ ap behind_blanks c.without_return.ensures in
    let utf8 : IsUtf8 line = search rules in
    let has = subst (λ (t : List ℕ). HasWords t words) rest (rw c.in-Some.is at c.in_ok-found.ensures) in
    let told = ap said (sym c.deref.ensures.value) ∙ sym c.in_ok-told.ensures.said ∙ c.in-Some-told.is in
    IfOk-weaker c.add_item.result _ _ (λ read follows items h. goes-on c.add_item.new.progress items line words c.in-Some-told.item read utf8 (sym (ap is_nothing rest) ∙ sym c.is_nothing.ensures ∙ c.if-is_nothing.false) has told (follows items h)) c.add_item.ensures

pub returns : goal.returns
returns c items h after adds =
    let line = c.args.line.now in
    let words = c.in-Some.words.items in
    let rest = c.behind_blanks-rest.ensures ∙ ap behind_blanks c.without_return.ensures in
    let has = subst (λ (t : List ℕ). HasWords t words) rest (rw c.in-Some.is at c.in_ok-found.ensures) in
    let told = ap said (sym c.deref.ensures.value) ∙ sym c.in_ok-told.ensures.said ∙ c.in-None.is in
    said-lacks items after line words (sym (ap is_nothing rest) ∙ sym c.is_nothing.ensures ∙ c.if-is_nothing.false) has told adds
