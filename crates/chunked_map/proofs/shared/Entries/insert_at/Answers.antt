-- The key goes into its gap.
use Rattle.std.proofs.Common.{subst, sym, ap, ◌∙◌}
use Rattle.std.specs.Prelude.{T}
use Rattle.std.specs.FinMap.{is_sorted}
use Rattle.std.specs.FinMap.Entries.{put}
use Rattle.sorted_map.specs.Place.{IsGap}
use Rattle.sorted_map.proofs.RisingLemmas.{put-gap, is_sorted-gap}
use Rattle.chunked_map.proofs.shared.Entries.insert_at.Goals as goal

pub invariant_of-self-2 : goal.invariant_of-self-2
invariant_of-self-2 g c =
    let R = g.K.Ord.cmp in
    let gap = subst (λ es. IsGap R es c.args.key c.args.at) (sym c.self.view_is) c.requires in
    subst (λ es. T (is_sorted R es)) (sym c.in_ok-insert.ensures.items) (is_sorted-gap R g.met.K.Ord.total c.args.key c.args.value c.self.inside.sorted.items c.self.invariant c.args.at gap)

pub returns-clause-ok : goal.returns-clause-ok
returns-clause-ok g c =
    let R = g.K.Ord.cmp in
    let gap = subst (λ es. IsGap R es c.args.key c.args.at) (sym c.self.view_is) c.requires in
    c.in_ok-insert.ensures.items
    ∙ sym (put-gap R g.met.K.Ord.total c.args.key c.args.value c.self.inside.sorted.items c.args.at gap)
    ∙ ap (put R c.args.key c.args.value) c.self.view_is
