-- Where a piece is missing no record stands.
use Rattle.dump_storage.specs.RecordView.{kind_of}
use Rattle.dump_storage.proofs.RecordLemmas.{BeginsWithNoRecord-first, BeginsWithNoRecord-second}
use Rattle.dump_storage.proofs.records.record_before.Goals as goal

pub returns-in_err-first : goal.returns-in_err-first
returns-in_err-first c =
    let sizes = c.in_ok-kind in
    rw c.from_residual-in_err-first.ensures (BeginsWithNoRecord-first c.args.bytes.now sizes.texts.now (kind_of sizes.kind) sizes.first_size sizes.second_size sizes.ensures c.in_err-first.ensures)

pub returns-in_err-second : goal.returns-in_err-second
returns-in_err-second c =
    let sizes = c.in_ok-kind in
    rw c.from_residual-in_err-second.ensures (BeginsWithNoRecord-second c.args.bytes.now sizes.texts.now (kind_of sizes.kind) sizes.first_size sizes.second_size sizes.ensures c.in_ok-first.first.now c.in_ok-first.rest.now c.in_ok-first.ensures c.in_err-second.ensures)
