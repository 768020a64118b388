use Rattle.std.proofs.Common.{inl, inr}
use Rattle.kdb_outside.specs.Faults.{HasRisen}
use Rattle.model_specified.specs.Violations.{MayBeRefused, checked_keys}
use Rattle.model_specified.proofs.Refusals.{some_by_keys}
use Rattle.model_specified.proofs.ViolationLemmas.{AreOfKeysBy-still}
use Rattle.model_specified.proofs.ViolationsOnce.{AreOfKeysBy-once}
use Rattle.model_specified.proofs.laws.by_the_grammar_a_set_has_its_lists_of_violations.Goals as goal

pub returns-clause-some : goal.returns-clause-some
returns-clause-some c =
    λ before now is_chosen keys. some_by_keys (MayBeRefused (HasRisen before now)) (λ pattern off. inr off) (checked_keys is_chosen keys)

pub returns-clause-one : goal.returns-clause-one
returns-clause-one c =
    λ before now is_chosen keys a b still. AreOfKeysBy-once (MayBeRefused (HasRisen before now)) (λ pattern may. elim may [ inl rose ↦ absurd (still rose) | inr off ↦ off ]) (checked_keys is_chosen keys) a b

pub returns-clause-told : goal.returns-clause-told
returns-clause-told c =
    λ before now is_chosen keys violations. AreOfKeysBy-still (λ _. HasRisen before now) (MayBeRefused (HasRisen before now)) (checked_keys is_chosen keys) violations (λ pattern rose. inl rose)

pub returns-clause-all : goal.returns-clause-all
returns-clause-all c =
    λ before now is_chosen keys violations rose. AreOfKeysBy-still (MayBeRefused (HasRisen before now)) (λ _. HasRisen before now) (checked_keys is_chosen keys) violations (λ pattern may. rose)
