use Rattle.std.specs.Prelude.{◌⊎◌}
use Rattle.std.proofs.Common.{inl, inr}
use Rattle.model_dump.specs.Adds.{Progress, Adds}
use Rattle.model_dump.proofs.AddsTold.{Adds-told}
use Rattle.model_dump.proofs.a_record_adds_or_does_not.Goals as goal

pub returns : goal.returns
returns c = λ before r. elim (Adds-told before r) as (λ _. ((after : Progress) × Adds before r after) ⊎ ((after : Progress) → Adds before r after → ⊥)) [
  | inl adds ↦ inl adds
  | inr fails ↦ inr (λ after adds. fails (after, adds))
]
