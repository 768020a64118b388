-- The first of which something is told is refused.
use Rattle.general_words.specs.Searches.{first_some}
use Rattle.general_words.proofs.Lists.{at_place}
use Rattle.general_words.proofs.Searches.{first_some-next}
use Rattle.store_verdict.specs.Filing.{IsTold, long_at}
use Rattle.store_verdict.proofs.FileLemmas.{handed-on, told-first}
use Rattle.store_verdict.proofs.writing.refuse_long.Goals as goal

pub returns-in_err-refuse_if_long : goal.returns-in_err-refuse_if_long
returns-in_err-refuse_if_long c =
    let written = c.written-item.result in
    let why = c.in_err-refuse_if_long.field-0.0 in
    handed-on _ (IsTold c.args.table.now (first_some (long_at c.args.table.now) c.args.all.now)) c.from_residual.result why c.from_residual.ensures.1
    (told-first c.args.table.now (long_at c.args.table.now) c.args.all.now c.loop-written.written-index written why
    (at_place c.args.all.now c.loop-written.written-index written c.loop-written-test.true c.written-item.is)
    c.loop-written.invariant c.in_err-refuse_if_long.ensures)

pub loop-written-preserved : goal.loop-written-preserved
loop-written-preserved c =
    let written = c.written-item.result in
    first_some-next (long_at c.args.table.now) c.args.all.now c.loop-written.written-index written
    (at_place c.args.all.now c.loop-written.written-index written c.loop-written-test.true c.written-item.is)
    c.loop-written.invariant c.in_ok-refuse_if_long.ensures
