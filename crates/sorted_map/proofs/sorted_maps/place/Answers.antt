-- The closure compares an entry's key with the one that is sought.
use Rattle.std.proofs.Common.{rules}
use Rattle.std.proofs.lemmas.Fn.{always_returns_same}
use Rattle.sorted_map.specs.Place.{IsPlace, IsGap}
use Rattle.sorted_map.proofs.RisingLemmas.{searched, if_ok, if_err}
use Rattle.sorted_map.proofs.sorted_maps.place.Goals as goal

pub returns : goal.returns
returns g c =
    let R = g.K.Ord.cmp in
    let position = c.binary_search_by.ensures.position (λ entry. R entry.0 c.args.key.now) (always_returns_same _ _ _ (λ a r f called. search rules)) in
    let found = searched R g.met.K.Ord.total c.args.key.now c.args.entries.now c.requires c.binary_search_by.result c.binary_search_by.ensures.bound position in
    record {
      there = if_ok (IsPlace R c.args.entries.now c.args.key.now) (IsGap R c.args.entries.now c.args.key.now) c.binary_search_by.result found;
      missing = if_err (IsPlace R c.args.entries.now c.args.key.now) (IsGap R c.args.entries.now c.args.key.now) c.binary_search_by.result found;
    }
