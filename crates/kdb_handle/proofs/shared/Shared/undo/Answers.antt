-- The turn ends before its set, or by what became of that.
use Rattle.std.proofs.Common.{refl, sym, ◌∙◌}
use Rattle.std.proofs.lemmas.Result.{err_from_is_err_and}
use Rattle.kdb_handle.specs.declared.shared.Fresh.TheVariants as fresh
use Rattle.kdb_handle.proofs.UndoLemmas.{may_fetched}
use Rattle.kdb_handle.proofs.UndoTurns.{undoes_again, undoes_barred, undoes_err, undoes_none, undoes_ok}
use Rattle.kdb_handle.proofs.shared.Shared.undo.Goals as goal
use Rattle.model_store.specs.Store.{Formats, formats_of}

pub returns-in_err-fetching : goal.returns-in_err-fetching
returns-in_err-fetching g c =
    let formats : Formats = formats_of g.F.Formats in
    let p = err_from_is_err_and c.from_residual.result c.from_residual.ensures.1 in
    rw (p.1, p.2) (undoes_barred formats g.D.Disk g.row.D.coded g.P.Patterns.refusals c.args.plan.now.mounted c.args.self.now (record c.args.self.now { fresh = fresh.Nothing }) c.args.rec.now c.args.number c.args.keys.now _
    refl refl refl c.in_err-fetching.ensures)

pub set_in-requires-clause-may : goal.set_in-requires-clause-may
set_in-requires-clause-may g c =
    let formats : Formats = formats_of g.F.Formats in
    let old = c.args.self.now in
    let given = c.requires.may in
    let fetching = c.in_ok-fetching.fetching in
    (given.0, may_fetched formats g.D.Disk g.row.D.coded g.P.Patterns.refusals c.args.plan.now.mounted old.core old.entries given.0 c.args.rec.now c.args.number given.1 fetching (c.in_ok-fetching.ensures given.0 given.1))

pub returns-in-Ok : goal.returns-in-Ok
returns-in-Ok g c =
    let formats : Formats = formats_of g.F.Formats in
    undoes_again formats g.D.Disk g.row.D.coded g.P.Patterns.refusals c.args.plan.now.mounted c.args.self.now fresh.Nothing c.set_in.new.self c.args.rec.now c.set_in.new.rec c.args.number c.args.keys.now _ _
    (undoes_ok formats g.D.Disk g.row.D.coded g.P.Patterns.refusals c.args.plan.now.mounted (record c.args.self.now { fresh = fresh.Nothing }) c.set_in.new.self c.args.rec.now c.set_in.new.rec c.args.number
    c.in_ok-fetching.fetching c.requires.may c.in_ok-fetching.ensures c.args.keys.now c.in-Ok.done c.in-Ok.ensures)

pub returns-then-wants_memory : goal.returns-then-wants_memory
returns-then-wants_memory g c =
    let formats : Formats = formats_of g.F.Formats in
    undoes_again formats g.D.Disk g.row.D.coded g.P.Patterns.refusals c.args.plan.now.mounted c.args.self.now fresh.Nothing c.set_in.new.self c.args.rec.now c.args.rec.now c.args.number c.args.keys.now _ _
    (undoes_none formats g.D.Disk g.row.D.coded g.P.Patterns.refusals c.args.plan.now.mounted (record c.args.self.now { fresh = fresh.Nothing }) c.set_in.new.self c.args.rec.now c.set_in.new.rec c.args.number
    c.in_ok-fetching.fetching c.requires.may c.in_ok-fetching.ensures c.args.keys.now c.in-Err.why c.in-Err.ensures (sym c.wants_memory.ensures ∙ c.if-wants_memory.true))

pub returns : goal.returns
returns g c =
    let formats : Formats = formats_of g.F.Formats in
    undoes_again formats g.D.Disk g.row.D.coded g.P.Patterns.refusals c.args.plan.now.mounted c.args.self.now fresh.Nothing c.set_in.new.self c.args.rec.now c.set_in.new.rec c.args.number c.args.keys.now _ _
    (undoes_err formats g.D.Disk g.row.D.coded g.P.Patterns.refusals c.args.plan.now.mounted (record c.args.self.now { fresh = fresh.Nothing }) c.set_in.new.self c.args.rec.now c.set_in.new.rec c.args.number
    c.in_ok-fetching.fetching c.requires.may c.in_ok-fetching.ensures c.args.keys.now c.in-Err.why c.in-Err.ensures (sym c.wants_memory.ensures ∙ c.if-wants_memory.false))
