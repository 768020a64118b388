-- The texts that were taken away stand by the names of their files.
use Rattle.std.proofs.Common.{◌≡◌, ◌++◌, List, length}
use Rattle.store_verdict.specs.Filing.{by_name}
use Rattle.store_verdict.specs.declared.writing.WrittenFile.{WrittenFile}
use Rattle.store_verdict.proofs.entries.texts_by_name.Given as goal

abbrev pub invariant-loop-written : goal.invariant-loop-written
invariant-loop-written l =
    (rest : List WrittenFile) × (l.left.items ++ rest ≡ l.fn.all.items) × (l.texts ≡ by_name l.table rest)

abbrev pub decreases-loop-written : goal.decreases-loop-written
decreases-loop-written l = length l.left.items
