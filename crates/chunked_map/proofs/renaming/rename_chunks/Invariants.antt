-- The chunks so far and those to come make all of them; those to come are still to be tested.
use Rattle.std.proofs.Common.{◌≡◌, ◌++◌, map}
use Rattle.std.specs.List.{AllByRecursion, list_all}
use Rattle.std.specs.Vec.Iter.{into_iter_items}
use Rattle.chunked_map.specs.Chunks.{joined}
use Rattle.chunked_map.proofs.renaming.rename_chunks.Given as goal

abbrev pub invariant-loop-chunk : goal.invariant-loop-chunk
invariant-loop-chunk g l =
    let names = g.M.Renames in
    let rest = into_iter_items l.chunk-iterator in
    let chunks = l.fn.chunks.items in
    record {
      other : l.renamed.items ++ map (map (λ entry. (names.other l.names entry.0, entry.1))) rest ≡ map (map (λ entry. (names.other l.names entry.0, entry.1))) chunks;
      has : list_all (λ entry. names.has_other l.names entry.0) (joined rest) ≡ list_all (λ entry. names.has_other l.names entry.0) (joined chunks);
      taken : AllByRecursion (λ entry. names.takes l.names entry.0) (joined rest);
    }
