use Rattle.std.specs.Prelude.{true, false, codes}
use Rattle.std.proofs.Common.{refl, lit<}
use Rattle.model_rules.proofs.SmallTexts.{number_by_test}
use Rattle.model_rules.proofs.examples.numbers_have_their_values.Goals as goal

pub returns-clause-zeros : goal.returns-clause-zeros
returns-clause-zeros c =
    number_by_test false (codes "007") refl (lit< tt) (record { above = record { le = tt }; below = record { le = tt } })

pub returns-clause-minus_zero : goal.returns-clause-minus_zero
returns-clause-minus_zero c =
    number_by_test true (codes "0") refl (lit< tt) (record { above = record { le = tt }; below = record { le = tt } })

pub returns-clause-lowest : goal.returns-clause-lowest
returns-clause-lowest c =
    number_by_test true (codes "170141183460469231731687303715884105728") refl (lit< tt) (record { above = record { le = tt }; below = record { le = tt } })
