use Rattle.std.proofs.Common.{ap, ◌∙◌, rules}
use Rattle.kdb_outside.specs.Images.{Image, IsTornWrite}
use Rattle.journal_steps.specs.Moments.{IsStepOf}
use Rattle.journal_steps.proofs.Meanwhile.{else_first, else_then, step_of, Touches-sync}
use Rattle.journal_steps.proofs.writing.write_through.Goals as goal

pub returns-in_err-write_at-clause-writes : goal.returns-in_err-write_at-clause-writes
returns-in_err-write_at-clause-writes g c tells = record {
  durable = search rules;
  images = c.write_at.ensures.images tells;
  time =
      else_first _ _ _ _ (IsStepOf c.args.file.now (IsTornWrite c.args.at c.args.bytes.now) (g.D.Disk.may_leave c.args.disk.now)) (c.write_at.ensures.time tells)
      (step_of _ _ _ _ (c.write_at.ensures.images tells));
}

pub returns-clause-writes : goal.returns-clause-writes
returns-clause-writes g c tells =
    let tells_then = c.write_at.ensures.tells ∙ tells in
    let P = IsStepOf c.args.file.now (IsTornWrite c.args.at c.args.bytes.now) (g.D.Disk.may_leave c.args.disk.now) in
    let first = else_first _ _ _ _ P (c.write_at.ensures.time tells) (step_of _ _ _ _ (c.write_at.ensures.images tells)) in
    let touches = Touches-sync _ _ _ _ _ _ _ (c.write_at.ensures.images tells) (c.sync.ensures.synced tells_then) (c.sync.ensures.pending tells_then)
    (g.D.Disk.read_is_image _ tells_then c.args.file.now) (c.sync.ensures.others tells_then) in
    record {
      durable = search rules;
      images = touches;
      time = else_then _ _ _ _ _ _ P first c.write_at.ensures.moment (c.sync.ensures.time tells_then) (step_of _ _ _ _ touches);
    }

pub returns-clause-seen : goal.returns-clause-seen
returns-clause-seen g c tells other ne =
    ap (λ (s : Image). s other) (c.sync.ensures.same (c.write_at.ensures.tells ∙ tells))
    ∙ c.write_at.ensures.others tells other ne
