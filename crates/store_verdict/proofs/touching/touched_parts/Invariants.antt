-- Of the parts so far those that differ.
use Rattle.std.proofs.Common.{◌≡◌, filter}
use Rattle.set_split.specs.Seen.{numbered}
use Rattle.store_verdict.specs.RecordView.{record_of}
use Rattle.store_verdict.specs.Touching.{differs_at}
use Rattle.store_verdict.proofs.touching.touched_parts.Given as goal

abbrev pub invariant-loop-part : goal.invariant-loop-part
invariant-loop-part l = numbered l.touched.items ≡ filter (differs_at (record_of l.rec)) (numbered l.yielded)
