-- The entries so far have other keys, and the others are as they were.
use Rattle.std.proofs.Common.{◌≡◌, true, ◌++◌, take, drop, map}
use Rattle.std.specs.List.{list_all}
use Rattle.chunked_map.proofs.renaming.rename_all.Given as goal

abbrev pub invariant-loop-i : goal.invariant-loop-i
invariant-loop-i g l =
    let names = g.M.Renames in
    record {
      other : l.entries ≡ map (λ entry. (names.other l.names entry.0, entry.1)) (take l.i l.fn.entries) ++ drop l.i l.fn.entries;
      has : list_all (λ entry. names.has_other l.names entry.0) (take l.i l.fn.entries) ≡ true;
    }
