-- The item at the name's place is taken out, and where there is a gap none is.
use Rattle.std.proofs.Common.{Some, sym, ap, ◌∙◌, subst}
use Rattle.std.specs.FinMap as map
use Rattle.std.specs.FinMap.{slice_cmp-IsAntisymmetric, nat_cmp-IsAntisymmetric}
use Rattle.std.proofs.lemmas.Cmp.{nat_list_cmp_total}
use Rattle.general_words.specs.Texts.{text_cmp}
use Rattle.sorted_map.specs.Place.{IsPlace, IsGap}
use Rattle.sorted_map.proofs.MapLemmas.{get-place, get-gap, remove-place, remove-gap}
use Rattle.key_meta.specs.MetaView.{AreItems}
use Rattle.key_meta.proofs.ItemLemmas.{AreItems-remove}
use Rattle.key_meta.proofs.metas.Meta.remove.Goals as goal

pub returns-in-Ok-clause-former : goal.returns-in-Ok-clause-former
returns-in-Ok-clause-former c =
    let there = subst (λ items. IsPlace text_cmp items c.args.name.now c.in-Ok.at) c.entries.ensures.all c.in-Ok.ensures.there in
    ap (λ item. Some item.1) c.remove_at.ensures.entry
    ∙ get-place text_cmp nat_list_cmp_total c.self.inside.items c.entries.ensures.sorted c.args.name.now c.in-Ok.at c.remove_at.result there
    ∙ ap (λ m. map.get m c.args.name.now) c.self.view_is

pub returns-in-Ok-clause-removed : goal.returns-in-Ok-clause-removed
returns-in-Ok-clause-removed c =
    let there = subst (λ items. IsPlace text_cmp items c.args.name.now c.in-Ok.at) c.entries.ensures.all c.in-Ok.ensures.there in
    ap (map.from_sorted {R = text_cmp}) c.remove_at.ensures.removed
    ∙ remove-place text_cmp nat_list_cmp_total c.self.inside.items c.entries.ensures.sorted c.args.name.now (slice_cmp-IsAntisymmetric nat_cmp-IsAntisymmetric) c.in-Ok.at c.remove_at.result there
    ∙ ap (λ m. map.remove m c.args.name.now) c.self.view_is

pub returns-in-Err-clause-former : goal.returns-in-Err-clause-former
returns-in-Err-clause-former c =
    let gap = subst (λ items. IsGap text_cmp items c.args.name.now c.in-Err.field-0) c.entries.ensures.all c.in-Err.ensures.missing in
    get-gap text_cmp nat_list_cmp_total c.self.inside.items c.entries.ensures.sorted c.args.name.now c.in-Err.field-0 gap
    ∙ ap (λ m. map.get m c.args.name.now) c.self.view_is

pub returns-in-Err-clause-removed : goal.returns-in-Err-clause-removed
returns-in-Err-clause-removed c =
    let gap = subst (λ items. IsGap text_cmp items c.args.name.now c.in-Err.field-0) c.entries.ensures.all c.in-Err.ensures.missing in
    sym c.self.view_is
    ∙ remove-gap text_cmp nat_list_cmp_total c.self.inside.items c.entries.ensures.sorted c.args.name.now (slice_cmp-IsAntisymmetric nat_cmp-IsAntisymmetric) c.in-Err.field-0 gap
    ∙ ap (λ m. map.remove m c.args.name.now) c.self.view_is

pub invariant_of-self : goal.invariant_of-self
invariant_of-self c =
    subst AreItems (sym c.remove_at.ensures.removed) (AreItems-remove c.in-Ok.at c.self.inside.items c.self.invariant)
