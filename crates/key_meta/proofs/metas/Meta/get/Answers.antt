-- The item at the name's place has its text, and where there is a gap there is none.
use Rattle.std.proofs.Common.{Some, get_or, ap, ◌∙◌, subst}
use Rattle.std.specs.FinMap as map
use Rattle.std.proofs.lemmas.Cmp.{nat_list_cmp_total}
use Rattle.general_words.specs.Texts.{text_cmp}
use Rattle.sorted_map.specs.Place.{IsPlace, IsGap}
use Rattle.sorted_map.proofs.MapLemmas.{get-place, get-gap}
use Rattle.key_meta.proofs.metas.Meta.get.Goals as goal

pub returns-in-Ok : goal.returns-in-Ok
returns-in-Ok c =
    let there = subst (λ items. IsPlace text_cmp items c.args.name.now c.in-Ok.at) c.entries-items.ensures.all c.in-Ok.ensures.there in
    ap Some (c.as_str.ensures.bytes ∙ ap (λ items. (get_or items c.in-Ok.at c.index-items-at.result).1) c.entries-items.ensures.all)
    ∙ get-place text_cmp nat_list_cmp_total c.self.inside.items c.entries-items.ensures.sorted c.args.name.now c.in-Ok.at c.index-items-at.result there
    ∙ ap (λ m. map.get m c.args.name.now) c.self.view_is

pub returns-in-Err : goal.returns-in-Err
returns-in-Err c =
    let gap = subst (λ items. IsGap text_cmp items c.args.name.now c.in-Err.field-0) c.entries-items.ensures.all c.in-Err.ensures.missing in
    get-gap text_cmp nat_list_cmp_total c.self.inside.items c.entries-items.ensures.sorted c.args.name.now c.in-Err.field-0 gap
    ∙ ap (λ m. map.get m c.args.name.now) c.self.view_is
