use Rattle.std.proofs.Common.{ap, ◌∙◌, arith}
use Rattle.kdb_outside.specs.Images.{Image}
use Rattle.kdb_outside.proofs.Frames.{KeepsOtherImages-then}
use Rattle.journal_steps.specs.Moments.{KeepsElse}
use Rattle.journal_steps.proofs.Meanwhile.{else_first, else_then, else_kept}
use Rattle.journal_steps.proofs.applying.put_file.Goals as goal

pub returns-in_err-write_at-clause-time : goal.returns-in_err-write_at-clause-time
returns-in_err-write_at-clause-time g c tells =
    else_first _ _ _ _ (KeepsElse c.args.text.now.file (g.D.Disk.may_leave c.args.disk.now)) (c.write_at.ensures.time tells)
    (else_kept _ _ _ (c.write_at.ensures.images tells).others)

pub returns-in_err-cut-clause-others : goal.returns-in_err-cut-clause-others
returns-in_err-cut-clause-others g c tells =
    KeepsOtherImages-then _ _ _ _ (c.write_at.ensures.images tells).others (c.cut.ensures.images (c.write_at.ensures.tells ∙ tells)).others

pub returns-in_err-cut-clause-seen : goal.returns-in_err-cut-clause-seen
returns-in_err-cut-clause-seen g c tells other ne =
    c.cut.ensures.others (c.write_at.ensures.tells ∙ tells) other ne ∙ c.write_at.ensures.others tells other ne

pub returns-in_err-cut-clause-time : goal.returns-in_err-cut-clause-time
returns-in_err-cut-clause-time g c tells =
    let tells_then = c.write_at.ensures.tells ∙ tells in
    let P = KeepsElse c.args.text.now.file (g.D.Disk.may_leave c.args.disk.now) in
    let first = else_first _ _ _ _ P (c.write_at.ensures.time tells) (else_kept _ _ _ (c.write_at.ensures.images tells).others) in
    else_then _ _ _ _ _ _ P first c.write_at.ensures.moment (c.cut.ensures.time tells_then) (else_kept _ _ _ (returns-in_err-cut-clause-others g c tells))

pub returns-clause-others : goal.returns-clause-others
returns-clause-others g c tells =
    let tells_then = c.write_at.ensures.tells ∙ tells in
    let written_and_cut = KeepsOtherImages-then _ _ _ _ (c.write_at.ensures.images tells).others (c.cut.ensures.images tells_then).others in
    KeepsOtherImages-then _ _ _ _ written_and_cut (c.sync.ensures.others (c.cut.ensures.tells ∙ tells_then))

pub returns-clause-seen : goal.returns-clause-seen
returns-clause-seen g c tells other ne =
    let tells_then = c.write_at.ensures.tells ∙ tells in
    ap (λ (s : Image). s other) (c.sync.ensures.same (c.cut.ensures.tells ∙ tells_then))
    ∙ c.cut.ensures.others tells_then other ne ∙ c.write_at.ensures.others tells other ne

pub returns-clause-time : goal.returns-clause-time
returns-clause-time g c tells =
    let tells_then = c.write_at.ensures.tells ∙ tells in
    let tells_last = c.cut.ensures.tells ∙ tells_then in
    let P = KeepsElse c.args.text.now.file (g.D.Disk.may_leave c.args.disk.now) in
    let first = else_first _ _ _ _ P (c.write_at.ensures.time tells) (else_kept _ _ _ (c.write_at.ensures.images tells).others) in
    let written_and_cut = KeepsOtherImages-then _ _ _ _ (c.write_at.ensures.images tells).others (c.cut.ensures.images tells_then).others in
    let second = else_then _ _ _ _ _ _ P first c.write_at.ensures.moment (c.cut.ensures.time tells_then) (else_kept _ _ _ written_and_cut) in
    else_then _ _ _ _ _ _ P second (omega arith) (c.sync.ensures.time tells_last) (else_kept _ _ _ (returns-clause-others g c tells))
