use Rattle.std.proofs.Common.{◌+◌, ◌≡◌, drop, sym, ap, ap₂, ◌∙◌, arith}
use Rattle.key_name.proofs.PassLemmas.{bad_letter, bad_letter_from, bad_letter_from-next}
use Rattle.key_name.proofs.refusing.bad_escape_in.Goals as goal

pub loop-i-init : goal.loop-i-init
loop-i-init c =
    record {
      so_far = let same : c.args.at ≡ c.args.at + 0 = omega arith in ap (λ place. bad_letter place c.args.text.now) same;
      behind = λ e. absurd (cc);
    }

pub loop-i-preserved : goal.loop-i-preserved
loop-i-preserved c =
    let bytes = c.as_bytes-b-items.result.now in
    let text = c.as_bytes-b-items.ensures.value in
    let i = c.loop-i.i in
    let next = bad_letter_from-next c.loop-i.waits c.args.at i bytes c.loop-i-test.true c.loop-i.invariant.behind (sym c.escapes_nothing.ensures ∙ c.if-escapes_nothing.false) in
    let before = c.loop-i.invariant.so_far ∙ ap (λ t. bad_letter_from c.loop-i.waits (c.args.at + i) (drop i t)) (sym text) in
    let place : c.args.at + i + 1 ≡ c.args.at + (i + 1) = omega arith in
    record {
      so_far = before ∙ next ∙ ap (λ waits. bad_letter_from waits (c.args.at + i + 1) (drop (i + 1) bytes)) (sym c.is_bare-waits.ensures) ∙ ap₂ (λ p t. bad_letter_from c.is_bare-waits.result p (drop (i + 1) t)) place text;
      behind = λ _. omega arith;
    }
