-- The last of some keys that rise tells of all.
use Rattle.std.proofs.Common.{ap, ◌∙◌, subst, is_lt, arith}
use Rattle.std.specs.Prelude.{T}
use Rattle.sorted_map.proofs.RisingLemmas.{gap_behind, gap_of_none}
use Rattle.sorted_map.proofs.sorted_maps.is_behind.Goals as goal

pub returns-in-Some : goal.returns-in-Some
returns-in-Some g c said =
    let last = c.in-Some.ensures.item.3 in
    let R = g.K.Ord.cmp in
    gap_behind R g.met.K.Ord.total c.args.key.now c.args.entries.now c.in-Some.last.now c.requires last.0
    (subst T (c.is_lt.ensures ∙ ap is_lt c.cmp.ensures ∙ ap (λ entry. is_lt (R entry.0 c.args.key.now)) (last.1 c.in-Some.last.now)) said)

pub returns-in-None : goal.returns-in-None
returns-in-None g c said =
    gap_of_none g.K.Ord.cmp g.met.K.Ord.total c.args.key.now c.args.entries.now (omega (arith, c.in-None.ensures.item.3))
