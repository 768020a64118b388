use Rattle.std.proofs.Common.{◌-◌, ◌==◌, ◌&&◌, ◌||◌, length, sym, ap, ap₂, ◌∙◌, arith}
use Rattle.std.proofs.lemmas.Bool.{eq-eqb, ne_eqb}
use Rattle.key_name.proofs.ArrayLemmas.{digits_fit, form-lead}
use Rattle.key_name.proofs.arrays.has_canonical_form.Goals as goal

pub overflow_sub-lead : goal.overflow_sub-lead
overflow_sub-lead c = omega (arith, digits_fit c.args.part.now c.requires.like, ap length c.requires.digits)

pub returns-then-lead-eq1 : goal.returns-then-lead-eq1
returns-then-lead-eq1 c =
    let count = length c.args.digits.now in
    let lead = length c.args.part.now - count in
    eq-eqb lead 1 c.if-lead-eq1.true
    ∙ sym (form-lead c.args.part.now c.args.digits.now c.requires.like c.requires.digits ∙ ap₂ (λ i l. i && (l || (lead == count))) (sym c.is_index.ensures ∙ c.if-is_index.true) (eq-eqb lead 1 c.if-lead-eq1.true))

pub returns-else-lead-eq1 : goal.returns-else-lead-eq1
returns-else-lead-eq1 c =
    let count = length c.args.digits.now in
    let lead = length c.args.part.now - count in
    sym (form-lead c.args.part.now c.args.digits.now c.requires.like c.requires.digits ∙ ap₂ (λ i l. i && (l || (lead == count))) (sym c.is_index.ensures ∙ c.if-is_index.true) (ne_eqb lead 1 c.if-lead-eq1.false))

pub returns-else-is_index : goal.returns-else-is_index
returns-else-is_index c =
    let count = length c.args.digits.now in
    let lead = length c.args.part.now - count in
    c.if-is_index.false
    ∙ sym (form-lead c.args.part.now c.args.digits.now c.requires.like c.requires.digits ∙ ap (λ i. i && ((lead == 1) || (lead == count))) (sym c.is_index.ensures ∙ c.if-is_index.false))
