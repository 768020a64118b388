-- The closure compares an item's name with the one that is sought.
use Rattle.std.proofs.Common.{rules}
use Rattle.std.proofs.lemmas.Fn.{always_returns_same}
use Rattle.std.proofs.lemmas.Cmp.{nat_list_cmp_total}
use Rattle.general_words.specs.Texts.{text_cmp}
use Rattle.sorted_map.specs.Place.{IsPlace, IsGap}
use Rattle.sorted_map.proofs.RisingLemmas.{searched, if_ok, if_err}
use Rattle.key_meta.proofs.metas.place.Goals as goal

pub returns : goal.returns
returns c =
    let position = c.binary_search_by.ensures.position (λ item. text_cmp item.0 c.args.name.now) (always_returns_same _ _ _ (λ a r f called. search rules)) in
    let found = searched text_cmp nat_list_cmp_total c.args.name.now c.args.items.now c.requires c.binary_search_by.result c.binary_search_by.ensures.bound position in
    record {
      there = if_ok (IsPlace text_cmp c.args.items.now c.args.name.now) (IsGap text_cmp c.args.items.now c.args.name.now) c.binary_search_by.result found;
      missing = if_err (IsPlace text_cmp c.args.items.now c.args.name.now) (IsGap text_cmp c.args.items.now c.args.name.now) c.binary_search_by.result found;
    }
