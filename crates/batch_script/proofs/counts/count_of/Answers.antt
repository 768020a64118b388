-- Digits that don't fit the type count no further than the type does.
use Rattle.std.proofs.Common.{◌≡◌, ℕ, Bool, true, false, List, refl, sym, ap, ◌∙◌, arith}
use Rattle.std.specs.Prelude.{◌&&◌, not, nat_le, if◌then◌else◌, Some, None, Err}
use Rattle.std.specs.Char.{is_ascii_digit}
use Rattle.std.specs.List.{list_all}
use Rattle.std.specs.Str.Parse.{digits_value}
use Rattle.std.proofs.lemmas.Bool.{and_parts, leb-true, ltb-true, false_from_ne_true}
use Rattle.std.proofs.lemmas.Str.Parse.{parse_digits}
use Rattle.model_names.specs.ArrayPart.{are_digits, has_leading_zero}
use Rattle.model_names.proofs.ArrayLemmas.{ascii_digits}
use Rattle.batch_script.specs.Counts.{count_of}
use Rattle.batch_script.proofs.counts.count_of.Goals as goal

none-of : (a b c : Bool) (number : ℕ) → (if a && b && c && false then Some number else None) ≡ None
none-of true true true number = refl
none-of true true false number = refl
none-of true false c number = refl
none-of false b c number = refl

too_many : (most : ℕ) (word : List ℕ) → nat_le (digits_value 10 word) most ≡ false → count_of most word ≡ None
too_many most word over =
    let number = digits_value 10 word in
    ap (λ t. if are_digits word && not (has_leading_zero word) && nat_le 1 number && t then Some number else None) over
    ∙ none-of (are_digits word) (not (has_leading_zero word)) (nat_le 1 number) number

pub returns-in-Err-clause-count : goal.returns-in-Err-clause-count
returns-in-Err-clause-count c =
    let digits = c.args.word.now in
    let most = c.args.most in
    let are : are_digits digits ≡ true = sym c.are_digits.ensures ∙ c.if-not-are_digits.false in
    let parts = and_parts _ (list_all is_ascii_digit digits) are in
    let refused = parse_digits ascii_digits 32 digits (Err c.in-Err.field-0) c.in-Err.ensures.value.0 parts.1 in
    sym (too_many most digits (false_from_ne_true _ (λ e.
    let within = leb-true (digits_value 10 digits) most e in
    refused (ltb-true _ _ parts.0, omega (arith, c.ranges.most, within)))))
