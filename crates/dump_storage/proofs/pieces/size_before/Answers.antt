-- The digits at the front are the size, if there is one.
use Rattle.std.proofs.Common.{refl, subst, sym, ◌∙◌}
use Rattle.std.proofs.lemmas.Bool.{false≢true}
use Rattle.dump_storage.specs.Pieces.{IsSizeLike}
use Rattle.dump_storage.proofs.SizeLemmas.{AllDigits-front, take_while-size, IsSizeLike-decimal, BeginsWithSize-digits}
use Rattle.dump_storage.proofs.pieces.size_before.Goals as goal

pub returns-then-not-is_size : goal.returns-then-not-is_size
returns-then-not-is_size c size rest begins =
    let front = (take_while-size c.args.bytes.now rest c.args.last size c.requires begins).0 in
    false≢true (c.if-not-is_size.ensures.1 (subst IsSizeLike (sym (c.split_digits.ensures.digits ∙ front)) (IsSizeLike-decimal size begins.small)))

pub returns-in_err-rest : goal.returns-in_err-rest
returns-in_err-rest c =
    rw c.from_residual.ensures (λ size rest begins. c.in_err-rest.ensures rest (c.split_digits.ensures.rest ∙ (take_while-size c.args.bytes.now rest c.args.last size c.requires begins).1))

pub number-requires-clause-digits : goal.number-requires-clause-digits
number-requires-clause-digits c =
    AllDigits-front c.args.bytes.now c.split_digits.result.0.now c.split_digits.ensures.digits

pub returns : goal.returns
returns c =
    BeginsWithSize-digits c.args.bytes.now c.split_digits.result.0.now c.in_ok-rest.rest.now c.args.last c.number.result c.split_digits.ensures.digits (c.if-not-is_size.ensures.0 refl) c.number.ensures (sym c.split_digits.ensures.rest ∙ c.in_ok-rest.ensures)
