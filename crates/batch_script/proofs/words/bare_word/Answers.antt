-- The run of bytes up to the first blank is the word, or is no text.
use Rattle.std.proofs.Common.{◌≡◌, ℕ, List, take, drop, subst, sym, ◌∙◌, rules}
use Rattle.std.specs.Str.{IsUtf8}
use Rattle.batch_script.specs.Words.{IsFirstWord}
use Rattle.batch_script.proofs.WordLemmas.{bare-first, bare-lacks}
use Rattle.batch_script.proofs.words.bare_word.Goals as goal

pub returns-in_default : goal.returns-in_default
returns-in_default c =
    bare-lacks c.args.line.now c.bare_end-end.result c.requires.bare c.bare_end-end.ensures.bare c.bare_end-end.ensures.apart c.in_default.ensures.cases.0 c.requires.front

pub returns : goal.returns
returns c =
    let line = c.args.line.now in
    let end = c.bare_end-end.result in
    let same : c.in-Ok.word.now ≡ take end line = search rules in
    let utf8 : IsUtf8 (take end line) = search rules in
    let taken = bare-first line end c.requires.bare c.bare_end-end.ensures.within c.bare_end-end.ensures.bare c.bare_end-end.ensures.apart utf8 in
    (taken.0, taken.1, subst (λ (word : List ℕ). IsFirstWord line word (drop end line)) (sym (c.in_ok-new.ensures ∙ same)) taken.2)
