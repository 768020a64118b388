use Rattle.std.proofs.Common.{sym, ◌∙◌}
use Rattle.std.proofs.lemmas.Result.{on_ok_weaker}
use Rattle.store_phases.proofs.Resting.{cleaned_settled, finished_rest, no_entry, rest_then, rests_settled, settled_rest}
use Rattle.store_phases.proofs.phases.make_clean.Goals as goal

pub finish-requires-clause-headed : goal.finish-requires-clause-headed
finish-requires-clause-headed g c = c.is_empty.ensures.headed c.if-is_empty.false

pub returns-in_err-settle-clause-rests : goal.returns-in_err-settle-clause-rests
returns-in_err-settle-clause-rests g c names files doubt rests =
    let settle = c.settle.ensures in
    settled_rest g.D.Disk c.args.journal.now c.settle.new.self c.settle.result names files doubt settle.same settle.step settle.ok settle.err rests settle.passes settle.bares

pub returns-then-is_empty-clause-rests : goal.returns-then-is_empty-clause-rests
returns-then-is_empty-clause-rests g c names files doubt rests =
    let settle = c.settle.ensures in
    settled_rest g.D.Disk c.args.journal.now c.settle.new.self c.settle.result names files doubt settle.same settle.step settle.ok settle.err rests settle.passes settle.bares

pub returns-then-is_empty-clause-settled : goal.returns-then-is_empty-clause-settled
returns-then-is_empty-clause-settled g c names files doubt rests =
    let new = c.settle.new.self in
    let settle = c.settle.ensures in
    let behind = settled_rest g.D.Disk c.args.journal.now new c.settle.result names files doubt settle.same settle.step settle.ok settle.err rests settle.passes settle.bares in
    rests_settled g.D.Disk new names files doubt behind.rests (no_entry new.list (sym c.is_empty.ensures.exact ∙ c.if-is_empty.true)) c.in_ok-settle.ensures.ok

pub returns-clause-rests : goal.returns-clause-rests
returns-clause-rests g c names files doubt rests =
    let old = c.args.journal.now in
    let mid = c.settle.new.self in
    let settle = c.settle.ensures in
    let finish = c.finish.ensures in
    let first = settled_rest g.D.Disk old mid c.settle.result names files doubt settle.same settle.step settle.ok settle.err rests settle.passes settle.bares in
    let second = finished_rest g.D.Disk mid c.finish.new.self c.finish.result names files doubt (c.is_empty.ensures.headed c.if-is_empty.false) c.in_ok-settle.ensures.ok first.rests
    finish.step finish.head finish.ok finish.lag finish.doubt finish.passes in
    rest_then g.D.Disk old mid c.finish.new.self names files doubt settle.step.goes.moment first second

pub returns-clause-settled : goal.returns-clause-settled
returns-clause-settled g c names files doubt rests =
    cleaned_settled g.D.Disk c.finish.new.self names files doubt c.finish.result (on_ok_weaker c.finish.result (λ state. (state.1, state.0)) c.finish.ensures.ok)
    (returns-clause-rests g c names files doubt rests).rests
