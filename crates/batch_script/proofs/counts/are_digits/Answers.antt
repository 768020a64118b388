use Rattle.std.proofs.Common.{◌≡◌, ◌<◌, length, sym, ap, ◌∙◌, arith, rules, tests}
use Rattle.std.specs.Prelude.{◌&&◌}
use Rattle.std.specs.Char.{is_ascii_digit}
use Rattle.std.specs.List.{list_all}
use Rattle.std.proofs.lemmas.Bool.{lt-ltb, eqb-false}
use Rattle.std.proofs.lemmas.Iterator.{YieldsList-from_slice}
use Rattle.std.proofs.lemmas.Iterator.Search.{all_from_yields_List}
use Rattle.batch_script.proofs.counts.are_digits.Goals as goal

pub returns-then-not-is_empty : goal.returns-then-not-is_empty
returns-then-not-is_empty c =
    let text = c.args.text.now in
    let digits : c.all.result ≡ list_all is_ascii_digit text = all_from_yields_List is_ascii_digit _ _ _ c.all.ensures.ran (YieldsList-from_slice text cc) (λ x b q k. search (rules, tests)) in
    let filled = eqb-false (length text) 0 (sym c.is_empty.ensures ∙ c.if-not-is_empty.true) in
    let some : 0 < length text = omega arith in
    digits ∙ sym (ap (λ t. t && list_all is_ascii_digit text) (lt-ltb 0 (length text) some))
