use Rattle.key_name.proofs.PartListLemmas.{HasParts, HasParts-at, HasParts-in, found_none, found_some}
use Rattle.key_name.specs.PartList.{parts_of}
use Rattle.key_name.proofs.part_list.PartList.rest_behind.Goals as goal

own : (c : goal.After-behind_front) → HasParts c.deref.result.now (parts_of c.self.inside)
own c = HasParts-at _ _ _ c.deref.ensures (HasParts-in _ c.self.invariant)

other : (c : goal.After-behind_front) → HasParts c.deref-2.result.now (parts_of c.front.inside)
other c = HasParts-at _ _ _ c.deref-2.ensures (HasParts-in _ c.front.invariant)

pub returns-clause-some : goal.returns-clause-some
returns-clause-some c =
    rw (← c.self.view_is, ← c.front.view_is) (found_some _ _ _ _ (own c) (other c) c.behind_front.result c.behind_front.ensures.some)

pub returns-clause-none : goal.returns-clause-none
returns-clause-none c =
    rw (← c.self.view_is, ← c.front.view_is) (found_none _ _ _ _ (own c) (other c) c.behind_front.result c.behind_front.ensures.none)
