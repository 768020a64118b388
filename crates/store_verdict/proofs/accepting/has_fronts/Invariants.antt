-- The record has the fronts of those so far.
use Rattle.std.proofs.Common.{◌≡◌, nat_eq, true, take, map as over}
use Rattle.std.specs.List.{list_all}
use Rattle.std.specs.Option.{option_eq}
use Rattle.model_store.specs.Sets.{front_in}
use Rattle.store_verdict.specs.PreparedView.{front_of}
use Rattle.store_verdict.specs.RecordView.{record_of}
use Rattle.store_verdict.proofs.accepting.has_fronts.Given as goal

abbrev pub invariant-loop-one : goal.invariant-loop-one
invariant-loop-one l =
    list_all (λ m. option_eq nat_eq (front_in (record_of l.rec) m) (front_of l.seen m)) (over (λ one. one.mount) (take l.one-index l.seen)) ≡ true
