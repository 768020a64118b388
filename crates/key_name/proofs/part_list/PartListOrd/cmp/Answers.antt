use Rattle.std.proofs.Common.{ap₂, ◌∙◌}
use Rattle.std.specs.Cmp.Lexicographic.{slice_cmp}
use Rattle.std.specs.Ordering.{nat_cmp}
use Rattle.key_name.proofs.PartListLemmas.{HasParts-in, cmp_parts}
use Rattle.key_name.proofs.part_list.PartListOrd.cmp.Goals as goal

pub returns : goal.returns
returns c =
    rw (← c.self.view_is, ← c.other.view_is) (c.cmp.ensures ∙ ap₂ (slice_cmp nat_cmp) c.as_str.ensures.value c.as_str-2.ensures.value ∙ cmp_parts _ _ _ _ (HasParts-in _ c.self.invariant) (HasParts-in _ c.other.invariant))
