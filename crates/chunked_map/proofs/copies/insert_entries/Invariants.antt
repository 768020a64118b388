-- The entries put so far and those to come are all.
use Rattle.std.proofs.Common.{◌≡◌}
use Rattle.std.specs.Vec.Iter.{into_iter_items}
use Rattle.sorted_map.specs.Merge.{put_all}
use Rattle.chunked_map.proofs.copies.insert_entries.Given as goal

abbrev pub invariant-loop-key : goal.invariant-loop-key
invariant-loop-key g l =
    put_all g.K.Ord.cmp (into_iter_items l.key-iterator) l.map ≡ put_all g.K.Ord.cmp (into_iter_items l.initial.key-iterator) l.fn.map
