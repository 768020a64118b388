use Rattle.std.proofs.Common.{◌∙◌}
use Rattle.key_name.proofs.PartListLemmas.{HasParts-in, eq_parts}
use Rattle.key_name.proofs.part_list.PartListPartialEq.eq.Goals as goal

pub returns : goal.returns
returns c =
    rw (← c.self.view_is, ← c.other.view_is) (c.eq.ensures ∙ eq_parts _ _ _ _ (HasParts-in _ c.self.invariant) (HasParts-in _ c.other.invariant))
