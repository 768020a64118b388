-- The bytes in quotes are read one after the other, up to the last quote.
use Rattle.std.proofs.Common.{◌≡◌, ℕ, ◌+◌, ◌-◌, List, length, drop, Some, None, subst, sym, ◌∙◌, rules}
use Rattle.std.specs.Str.{IsUtf8}
use Rattle.batch_script.specs.Letters.{written_at}
use Rattle.batch_script.specs.Words.{IsFirstWord}
use Rattle.batch_script.proofs.WordLemmas.{quoted-first, quoted-lacks, quoted-more, quoted-no_text, IsInQuotes}
use Rattle.batch_script.proofs.words.quoted_word.Goals as goal

pub loop-byte-preserved : goal.loop-byte-preserved
loop-byte-preserved c =
    let line = c.args.line.now in
    let rest = c.loop-byte.rest.now in
    let found : written_at rest ≡ Some (c.in-Some.byte, c.in-Some.behind.now) = search (rules, c.in-Some.ensures) in
    subst (λ (text : List ℕ). IsInQuotes line c.in-Some.behind.now text) (sym c.in_ok-push.ensures.items)
    (quoted-more line rest c.loop-byte.bytes.items c.in-Some.behind.now c.in-Some.byte c.loop-byte.invariant found)

pub returns-then-not-closes : goal.returns-then-not-closes
returns-then-not-closes c =
    let rest = c.loop-byte.rest.now in
    let none : written_at rest ≡ None = search (rules, c.in_default.ensures) in
    quoted-lacks c.args.line.now rest c.loop-byte.bytes.items c.loop-byte.invariant none (sym c.closes.ensures ∙ c.if-not-closes.true)

pub returns-in_default-from_utf8 : goal.returns-in_default-from_utf8
returns-in_default-from_utf8 c =
    let rest = c.loop-byte.rest.now in
    let none : written_at rest ≡ None = search (rules, c.in_default.ensures) in
    quoted-no_text c.args.line.now rest c.loop-byte.bytes.items c.loop-byte.invariant none (λ utf8. c.in_default-from_utf8.ensures.cases.0 (subst (λ (t : List ℕ). IsUtf8 t) (sym c.deref.ensures.value) utf8))

pub returns : goal.returns
returns c =
    let line = c.args.line.now in
    let rest = c.loop-byte.rest.now in
    let text = c.loop-byte.bytes.items in
    let taken = length line - length rest + 1 in
    let same : c.in-Ok.word.now ≡ text = search rules in
    let utf8 : IsUtf8 text = search rules in
    let first = quoted-first line rest text c.loop-byte.invariant (sym c.closes.ensures ∙ c.if-not-closes.false) utf8 in
    (first.0, first.1, subst (λ (word : List ℕ). IsFirstWord line word (drop taken line)) (sym (c.in_ok-new.ensures ∙ same)) first.2)
