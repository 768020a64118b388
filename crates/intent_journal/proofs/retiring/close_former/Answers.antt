use Rattle.std.proofs.Common.{◌≡◌, ℕ, List, length, take, Ok, sym, subst, ◌∙◌, ap, arith}
use Rattle.kdb_outside.specs.Files.{KeepsOthers}
use Rattle.kdb_outside.specs.Images.{KeepsOtherImages, IsTornCut, Only, Touches}
use Rattle.journal_codec.specs.Entry.{journal_name}
use Rattle.std.specs.Prelude.{OnOk}
use Rattle.intent_journal.specs.Recovering.{Recovers}
use Rattle.intent_journal.proofs.Recoveries.{synced_before, retires_unrecovered, retires_uncut, retires_cut}
use Rattle.intent_journal.proofs.retiring.close_former.Goals as goal

pub cut-requires : goal.cut-requires
cut-requires g c told =
    let tells = sym c.recover.ensures.goes.tells ∙ told in
    let name = c.args.former.now in
    let closed = (c.in_ok-recover.ensures.recovers tells).closed (g.D.Disk.seen c.recover.new.disk name) (g.D.Disk.read_is_image c.recover.new.disk told name) in
    omega (arith, ap length closed)

pub returns-in_err-recover-clause-retires : goal.returns-in_err-recover-clause-retires
returns-in_err-recover-clause-retires g c tells =
    retires_unrecovered g.D.Disk c.args.disk.now c.recover.new.disk c.args.list.now c.requires.entries c.recover.result c.from_residual.result c.from_residual.ensures.0
    (subst (λ (n : List ℕ). Recovers g.D.Disk c.args.disk.now c.recover.new.disk c.recover.result n 0 c.args.list.now) c.requires.name (c.recover.ensures.recovers tells))

pub returns-in_err-cut-clause-retires : goal.returns-in_err-cut-clause-retires
returns-in_err-cut-clause-retires g c tells =
    let mid = c.recover.new.disk in
    let cut = c.cut.new.self in
    let told = c.recover.ensures.goes.tells ∙ tells in
    let recovers = subst (λ (n : List ℕ). Recovers g.D.Disk c.args.disk.now mid (Ok tt) n 0 c.args.list.now) c.requires.name (c.in_ok-recover.ensures.recovers tells) in
    let touches = subst (λ (n : List ℕ). Touches n (IsTornCut 1) (g.D.Disk.may_leave mid) (g.D.Disk.may_leave cut)) c.requires.name (c.cut.ensures.images told) in
    let seen = subst (λ (n : List ℕ). KeepsOthers n (g.D.Disk.seen mid) (g.D.Disk.seen cut)) c.requires.name (c.cut.ensures.others told) in
    retires_uncut g.D.Disk c.args.disk.now mid c.args.list.now c.requires.entries told recovers c.recover.ensures.goes.moment cut touches seen (c.cut.ensures.time told)
    c.from_residual-in_err-cut.result c.from_residual-in_err-cut.ensures.0

pub returns-clause-retires : goal.returns-clause-retires
returns-clause-retires g c tells =
    let mid = c.recover.new.disk in
    let cut = c.cut.new.self in
    let new = c.sync.new.self in
    let told = c.recover.ensures.goes.tells ∙ tells in
    let told_cut = c.cut.ensures.tells ∙ told in
    let recovers = subst (λ (n : List ℕ). Recovers g.D.Disk c.args.disk.now mid (Ok tt) n 0 c.args.list.now) c.requires.name (c.in_ok-recover.ensures.recovers tells) in
    let touches = subst (λ (n : List ℕ). Touches n (IsTornCut 1) (g.D.Disk.may_leave mid) (g.D.Disk.may_leave cut)) c.requires.name (c.cut.ensures.images told) in
    let seen = subst (λ (n : List ℕ). KeepsOthers n (g.D.Disk.seen mid) (g.D.Disk.seen cut)) c.requires.name (c.cut.ensures.others told) in
    let short = subst (λ (n : List ℕ). g.D.Disk.seen cut n ≡ take 1 (g.D.Disk.seen mid n)) c.requires.name (c.in_ok-cut.ensures.cut told).this in
    let synced = subst (λ (n : List ℕ). OnOk c.sync.result (Only (g.D.Disk.seen cut n) (g.D.Disk.may_leave new n))) c.requires.name (c.sync.ensures.synced told_cut) in
    let others = subst (λ (n : List ℕ). KeepsOtherImages n (g.D.Disk.may_leave cut) (g.D.Disk.may_leave new)) c.requires.name (c.sync.ensures.others told_cut) in
    let before = synced_before c.sync.result journal_name (g.D.Disk.seen cut) (g.D.Disk.may_leave cut) (g.D.Disk.may_leave new) synced (c.sync.ensures.pending told_cut)
    (g.D.Disk.read_is_image cut told_cut) others in
    retires_cut g.D.Disk c.args.disk.now mid c.args.list.now c.requires.entries told recovers c.recover.ensures.goes.moment cut touches seen (c.cut.ensures.time told) new c.sync.result
    c.cut.ensures.moment (c.sync.ensures.same told_cut) short synced others before (c.sync.ensures.time told_cut)
