-- Where a piece is missing no sizes stand.
use Rattle.dump_storage.specs.RecordView.{kind_of}
use Rattle.dump_storage.proofs.RecordLemmas.{BeginsWithNoSizes-second}
use Rattle.dump_storage.proofs.records.sizes_before.Goals as goal

pub returns-in_err-second_size : goal.returns-in_err-second_size
returns-in_err-second_size c =
    rw c.from_residual-in_err-second_size.ensures (BeginsWithNoSizes-second c.args.bytes.now c.in_ok-kind.sizes.now (kind_of c.in_ok-kind.kind) c.in_ok-kind.ensures c.in_ok-first_size.first_size c.in_ok-first_size.rest.now c.in_ok-first_size.ensures c.in_err-second_size.ensures)
