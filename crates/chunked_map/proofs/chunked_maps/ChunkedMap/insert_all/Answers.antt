-- The next chunk's entries go from those to come to those that were put.
use Rattle.std.proofs.Common.{sym, ap, ◌∙◌}
use Rattle.std.specs.Vec.Iter.{into_iter_items}
use Rattle.sorted_map.specs.Merge.{put_all}
use Rattle.chunked_map.specs.Chunks.{joined}
use Rattle.chunked_map.proofs.JoinLemmas.{put_all-append}
use Rattle.chunked_map.proofs.chunked_maps.ChunkedMap.insert_all.Goals as goal

pub loop-chunk-preserved : goal.loop-chunk-preserved
loop-chunk-preserved g c =
    let R = g.K.Ord.cmp in
    let rest = into_iter_items c.next.new.self in
    ap (put_all R (joined rest)) (c.in_ok-insert_entries.ensures ∙ ap (λ es. put_all R es c.loop-chunk.all) (c.into_list.ensures.all ∙ c.in_ok-into_entries.ensures))
    ∙ sym (put_all-append R c.in-Some.chunk (joined rest) c.loop-chunk.all)
    ∙ ap (λ cs. put_all R (joined cs) c.loop-chunk.all) (sym c.in-Some.ensures.steps.0)
    ∙ c.loop-chunk.invariant
