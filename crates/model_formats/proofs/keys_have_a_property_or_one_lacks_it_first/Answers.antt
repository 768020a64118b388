use Rattle.std.specs.Prelude.{◌≡◌, []}
use Rattle.model_maps.specs.Entry.{Entry}
use Rattle.model_formats.proofs.Telling.{texts-told}
use Rattle.model_formats.proofs.HoldingLemmas.{EachHas-or_lacks, EachHas-lacks_nowhere, LacksFirst-once}
use Rattle.model_formats.proofs.keys_have_a_property_or_one_lacks_it_first.Goals as goal

pub returns-clause-total : goal.returns-clause-total
returns-clause-total c =
    EachHas-or_lacks (λ _ entry. entry.value ≡ []) (λ name (entry : Entry). texts-told entry.value [])

pub returns-clause-not_both : goal.returns-clause-not_both
returns-clause-not_both c = EachHas-lacks_nowhere (λ _ entry. entry.value ≡ [])

pub returns-clause-one : goal.returns-clause-one
returns-clause-one c = LacksFirst-once (λ _ entry. entry.value ≡ [])
