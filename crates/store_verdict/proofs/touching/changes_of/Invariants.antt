-- The changes of the parts so far.
use Rattle.std.proofs.Common.{◌≡◌, take}
use Rattle.std.specs.FinMap as map
use Rattle.model_names.specs.Name.{Name}
use Rattle.model_store.specs.Sets.{kept}
use Rattle.set_split.specs.Seen.{numbered}
use Rattle.store_verdict.specs.RecordView.{record_of}
use Rattle.store_verdict.proofs.DifferLemmas.{changed_in}
use Rattle.store_verdict.proofs.touching.changes_of.Given as goal

abbrev pub invariant-loop-part : goal.invariant-loop-part
invariant-loop-part l =
    (q : Name) → map.get l.changes q ≡ changed_in (kept (record_of l.rec)) (numbered (take l.part-index l.touched)) q
