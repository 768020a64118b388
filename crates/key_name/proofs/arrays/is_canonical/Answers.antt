use Rattle.std.proofs.Common.{◌-◌, ◌==◌, ◌&&◌, length, sym, ap, ◌∙◌, arith}
use Rattle.key_name.proofs.ArrayLemmas.{digits_fit, canonical-lead}
use Rattle.key_name.proofs.arrays.is_canonical.Goals as goal

pub overflow_sub-lead : goal.overflow_sub-lead
overflow_sub-lead c = omega (arith, digits_fit c.args.part.now c.requires.like, ap length c.requires.digits)

pub returns-then-is_index : goal.returns-then-is_index
returns-then-is_index c =
    let count = length c.args.digits.now in
    let lead = length c.args.part.now - count in
    sym (canonical-lead c.args.part.now c.args.digits.now c.requires.like c.requires.digits ∙ ap (λ i. i && (lead == count)) (sym c.is_index.ensures ∙ c.if-is_index.true))

pub returns-else-is_index : goal.returns-else-is_index
returns-else-is_index c =
    let count = length c.args.digits.now in
    let lead = length c.args.part.now - count in
    c.if-is_index.false
    ∙ sym (canonical-lead c.args.part.now c.args.digits.now c.requires.like c.requires.digits ∙ ap (λ i. i && (lead == count)) (sym c.is_index.ensures ∙ c.if-is_index.false))
