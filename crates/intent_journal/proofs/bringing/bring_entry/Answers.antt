use Rattle.std.proofs.Common.{◌<◌, length, Ok, ◌∙◌, arith}
use Rattle.kdb_outside.proofs.Frames.{GoesOn-then}
use Rattle.journal_lists.specs.Lists.{as_one}
use Rattle.intent_journal.proofs.BringSteps.{brings_more, brings_failed}
use Rattle.intent_journal.proofs.bringing.bring_entry.Goals as goal

pub returns-in_err-put_unless-clause-brings : goal.returns-in_err-put_unless-clause-brings
returns-in_err-put_unless-clause-brings g c tells =
    let within : c.loop-text.text-index < length c.args.entry.now = omega arith in
    brings_failed g.D.Disk c.args.disk.now c.loop-text.disk c.put_unless.new.disk c.put_unless.result c.args.entry.now (as_one c.args.later.now) c.loop-text.text-index c.text-item.result c.requires within c.text-item.is
    c.from_residual.result c.from_residual.ensures.0 (c.loop-text.invariant.told tells) c.loop-text.invariant.goes.moment (c.put_unless.ensures.brings (c.loop-text.invariant.goes.tells ∙ tells))

pub loop-text-preserved : goal.loop-text-preserved
loop-text-preserved g c = record {
  goes = GoesOn-then g.D.Disk c.args.disk.now c.loop-text.disk c.put_unless.new.disk c.loop-text.invariant.goes c.put_unless.ensures.goes;
  told = λ tells.
      let within : c.loop-text.text-index < length c.args.entry.now = omega arith in
      brings_more g.D.Disk c.args.disk.now c.loop-text.disk c.put_unless.new.disk (Ok tt) c.args.entry.now (as_one c.args.later.now) c.loop-text.text-index c.text-item.result c.requires within c.text-item.is
      (c.loop-text.invariant.told tells) c.loop-text.invariant.goes.moment (c.in_ok-put_unless.ensures.brings (c.loop-text.invariant.goes.tells ∙ tells));
}
