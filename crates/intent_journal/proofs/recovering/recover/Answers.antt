use Rattle.std.proofs.Common.{◌≤◌, List, ℕ, length, Ok, inl, sym, ap, subst, ◌∙◌}
use Rattle.kdb_outside.specs.Images.{Image}
use Rattle.intent_journal.proofs.Passages.{as_one-own}
use Rattle.intent_journal.proofs.Recoveries.{synced_before, recovers_unsynced, recovers_some, recovers_all}
use Rattle.intent_journal.proofs.recovering.recover.Goals as goal

pub returns-in_err-sync-clause-recovers : goal.returns-in_err-sync-clause-recovers
returns-in_err-sync-clause-recovers g c tells =
    recovers_unsynced g.D.Disk c.args.disk.now c.sync.new.self c.args.name.now c.args.at c.args.list.now (c.sync.ensures.same tells) (c.sync.ensures.others tells)
    (λ file content is. ((c.in_err-sync.ensures.pending tells) file).no_more content is) (c.sync.ensures.time tells) c.from_residual.result c.from_residual.ensures.0

pub returns-in_err-bring_in-clause-recovers : goal.returns-in_err-bring_in-clause-recovers
returns-in_err-bring_in-clause-recovers g c tells =
    let disk = c.args.disk.now in
    let synced = c.sync.new.self in
    let name = c.args.name.now in
    let others = c.sync.ensures.others tells in
    let only = c.in_ok-sync.ensures.synced tells in
    let before = synced_before (Ok tt) name (g.D.Disk.seen disk) (g.D.Disk.may_leave disk) (g.D.Disk.may_leave synced) only tt (g.D.Disk.read_is_image disk tells) others in
    recovers_some g.D.Disk disk synced name c.args.at c.args.list.now (c.sync.ensures.same tells) others before (c.sync.ensures.time tells) c.bring_in.new.disk c.requires.own c.requires.entries
    c.sync.ensures.moment only c.bring_in.result c.from_residual-in_err-bring_in.result c.from_residual-in_err-bring_in.ensures.0 (c.bring_in.ensures.brings (c.sync.ensures.tells ∙ tells))

pub returns-clause-recovers : goal.returns-clause-recovers
returns-clause-recovers g c tells =
    let disk = c.args.disk.now in
    let synced = c.sync.new.self in
    let name = c.args.name.now in
    let tells_then = c.sync.ensures.tells ∙ tells in
    let tells_brought = c.bring_in.ensures.goes.tells ∙ tells_then in
    let others = c.sync.ensures.others tells in
    let only = c.in_ok-sync.ensures.synced tells in
    let before = synced_before (Ok tt) name (g.D.Disk.seen disk) (g.D.Disk.may_leave disk) (g.D.Disk.may_leave synced) only tt (g.D.Disk.read_is_image disk tells) others in
    recovers_all g.D.Disk disk synced name c.args.at c.args.list.now (c.sync.ensures.same tells) others before (c.sync.ensures.time tells) c.bring_in.new.disk c.requires.own c.requires.entries
    c.sync.ensures.moment only c.write_through.new.disk c.write_through.result tells_brought c.bring_in.ensures.goes.moment (c.in_ok-bring_in.ensures.brings tells_then)
    (c.write_through.ensures.writes tells_brought) (c.write_through.ensures.seen tells_brought)

pub write_through-requires : goal.write_through-requires
write_through-requires g c told =
    let tells_then = sym c.bring_in.ensures.goes.tells ∙ told in
    let tells = sym c.sync.ensures.tells ∙ tells_then in
    let name = c.args.name.now in
    let unnamed = as_one-own c.args.list.now name c.requires.own c.requires.entries in
    let same = (c.bring_in.ensures.brings tells_then).seen name (inl unnamed) ∙ ap (λ (s : Image). s name) (c.sync.ensures.same tells) in
    subst (λ (bytes : List ℕ). c.args.at ≤ length bytes) (sym same) (c.requires.there tells)
