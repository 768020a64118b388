use Rattle.std.proofs.Common.{[], ◌∷◌, ◌≤◌, length, subst, ◌∙◌}
use Rattle.journal_steps.proofs.Steps.{failed_writes}
use Rattle.intent_journal.proofs.Sound.{named_writes}
use Rattle.intent_journal.proofs.Steps.{heading, heading_failed, headed, header_there}
use Rattle.intent_journal.proofs.writing.put_header.Goals as goal

pub returns-in_err-write_through-clause-passes : goal.returns-in_err-write_through-clause-passes
returns-in_err-write_through-clause-passes g c tells names files is header state =
    let old = c.args.disk.now in
    let new = c.write_through.new.disk in
    let writes = named_writes g.D.Disk _ _ _ _ 1 c.args.header.now c.requires.named (c.write_through.ensures.writes tells) in
    heading_failed g.D.Disk old new c.from_residual.result names files c.from_residual.ensures.0
    (heading g.D.Disk old new c.from_residual.result tells files c.args.header.now state (failed_writes g.D.Disk _ _ _ _ _ 1 c.args.header.now c.from_residual.ensures.0 writes))

pub returns-clause-opened : goal.returns-clause-opened
returns-clause-opened g c tells =
    let goes = c.write_through.ensures.goes in
    header_there g.D.Disk c.args.disk.now c.write_through.new.disk c.write_through-2.new.disk c.write_through-2.result c.args.header.now tells
    (subst (λ n. 1 ≤ length (g.D.Disk.seen c.args.disk.now n)) c.requires.named (c.requires.there tells)) goes
    (named_writes g.D.Disk _ _ _ _ 1 c.args.header.now c.requires.named (c.in_ok-write_through.ensures.writes tells))
    (named_writes g.D.Disk _ _ _ _ 0 (1 ∷ []) c.requires.named (c.write_through-2.ensures.writes (goes.tells ∙ tells)))

pub returns-clause-passes : goal.returns-clause-passes
returns-clause-passes g c tells names files is header state =
    let goes = c.write_through.ensures.goes in
    headed g.D.Disk c.args.disk.now c.write_through.new.disk c.write_through-2.new.disk c.write_through-2.result names files c.args.header.now tells is header state goes
    (named_writes g.D.Disk _ _ _ _ 1 c.args.header.now c.requires.named (c.in_ok-write_through.ensures.writes tells))
    (named_writes g.D.Disk _ _ _ _ 0 (1 ∷ []) c.requires.named (c.write_through-2.ensures.writes (goes.tells ∙ tells)))
