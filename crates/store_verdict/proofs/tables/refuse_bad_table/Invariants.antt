-- Nothing is told of the parts so far.
use Rattle.std.proofs.Common.{◌≡◌, None, take}
use Rattle.general_words.specs.Searches.{first_some}
use Rattle.store_verdict.specs.Filing.{table_at}
use Rattle.store_verdict.proofs.tables.refuse_bad_table.Given as goal

abbrev pub invariant-loop-part : goal.invariant-loop-part
invariant-loop-part l =
    first_some (λ part. table_at l.table (part.mount, part.keys)) (take l.part-index l.touched) ≡ None
