-- The places so far have been copied.
use Rattle.std.proofs.Common.{◌≡◌, take, map as over}
use Rattle.std.specs.Option.{option_map}
use Rattle.store_verdict.specs.RecordView.{fetched_of}
use Rattle.store_verdict.proofs.records.copy_all.Given as goal

abbrev pub invariant-loop-place : goal.invariant-loop-place
invariant-loop-place l =
    over (option_map fetched_of) l.copied.items ≡ over (option_map fetched_of) (take l.place-index l.places)
