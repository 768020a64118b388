-- No front of a few digits writes more than they do.
use Rattle.std.proofs.Common.{arith}
use Rattle.dump_storage.proofs.SizeLemmas.{AddsDigit, AddsDigit-at}
use Rattle.dump_storage.proofs.pieces.number.Goals as goal
use Rattle.dump_storage.proofs.pieces.number.Goals.{In-loop-digit}

adds : (c : In-loop-digit) → AddsDigit c.args.digits.now c.loop-digit.digit-index c.loop-digit.number
adds c =
    AddsDigit-at c.args.digits.now c.loop-digit.digit-index c.loop-digit.number c.requires.digits c.requires.few c.loop-digit-test.true c.loop-digit.invariant

pub overflow_mul-number : goal.overflow_mul-number
overflow_mul-number c = omega (arith, (adds c).small)

pub overflow_sub-digit : goal.overflow_sub-digit
overflow_sub-digit c = (adds (goal.at.overflow_sub-digit c).In-loop-digit).is_digit.0

pub overflow_add-number : goal.overflow_add-number
overflow_add-number c =
    let digit = adds (goal.at.overflow_add-number c).In-loop-digit in
    omega (arith, digit.small, digit.is_digit, c.from.ensures)

pub loop-digit-preserved : goal.loop-digit-preserved
loop-digit-preserved c =
    let digit = adds (goal.at.loop-digit-preserved c).In-loop-digit in
    omega (arith, digit.more, c.from.ensures)
