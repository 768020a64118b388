-- The first of which something is told is refused.
use Rattle.general_words.specs.Searches.{first_some}
use Rattle.general_words.proofs.Lists.{at_place}
use Rattle.general_words.proofs.Searches.{first_some-next}
use Rattle.store_verdict.specs.Filing.{IsTold, heavy_at}
use Rattle.store_verdict.proofs.FileLemmas.{handed-on, told-first}
use Rattle.store_verdict.proofs.weighing.refuse_heavy.Goals as goal

pub returns-in_err-refuse_if_heavy : goal.returns-in_err-refuse_if_heavy
returns-in_err-refuse_if_heavy c =
    let file = c.file-item.result in
    let why = c.in_err-refuse_if_heavy.field-0.0 in
    handed-on _ (IsTold c.args.table.now (first_some (heavy_at c.args.table.now) c.args.files.now)) c.from_residual.result why c.from_residual.ensures.1
    (told-first c.args.table.now (heavy_at c.args.table.now) c.args.files.now c.loop-file.file-index file why
    (at_place c.args.files.now c.loop-file.file-index file c.loop-file-test.true c.file-item.is)
    c.loop-file.invariant c.in_err-refuse_if_heavy.ensures)

pub loop-file-preserved : goal.loop-file-preserved
loop-file-preserved c =
    let file = c.file-item.result in
    first_some-next (heavy_at c.args.table.now) c.args.files.now c.loop-file.file-index file
    (at_place c.args.files.now c.loop-file.file-index file c.loop-file-test.true c.file-item.is)
    c.loop-file.invariant c.in_ok-refuse_if_heavy.ensures
