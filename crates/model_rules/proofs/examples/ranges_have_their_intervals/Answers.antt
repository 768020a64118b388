use Rattle.std.specs.Prelude.{true, false, codes}
use Rattle.std.proofs.Common.{refl, lit<}
use Rattle.model_rules.specs.Range.{Single, Between}
use Rattle.model_rules.proofs.SmallTexts.{number_by_test}
use Rattle.model_rules.proofs.examples.ranges_have_their_intervals.Goals as goal

pub returns-clause-negative : goal.returns-clause-negative
returns-clause-negative c =
    let five = number_by_test true (codes "5") refl (lit< tt) (record { above = record { le = tt }; below = record { le = tt } }) in
    let one = number_by_test true (codes "1") refl (lit< tt) (record { above = record { le = tt }; below = record { le = tt } }) in
    (Between (codes "-5") (codes "-1") refl five one (record { le = tt }), tt)

pub returns-clause-several : goal.returns-clause-several
returns-clause-several c =
    let low = number_by_test false (codes "1") refl (lit< tt) (record { above = record { le = tt }; below = record { le = tt } }) in
    let high = number_by_test false (codes "1024") refl (lit< tt) (record { above = record { le = tt }; below = record { le = tt } }) in
    let alone = number_by_test false (codes "8080") refl (lit< tt) (record { above = record { le = tt }; below = record { le = tt } }) in
    (Between (codes "1") (codes "1024") refl low high (record { le = tt }), (Single alone alone, tt))
