-- Each try goes on from the one before, until one ends them.
use Rattle.std.proofs.Common.{◌≡◌, ◌+◌, length, Ok, refl, subst, ◌∙◌, arith}
use Rattle.std.proofs.lemmas.Result.{err_from_is_err_and}
use Rattle.kdb_handle.specs.Merging.{IsAttempt}
use Rattle.kdb_handle.specs.declared.merging.Attempt.{Attempt}
use Rattle.kdb_handle.proofs.MergeLemmas.{ended_so, last_so, more_tried, none_tried, stored_so, tried_again}
use Rattle.model_store.specs.Store.{Formats, formats_of}
use Rattle.kdb_handle.proofs.handles.Handle.try_all.Goals as goal

pub returns-in_err-ours-clause-merged : goal.returns-in_err-ours-clause-merged
returns-in_err-ours-clause-merged g c =
    let formats : Formats = formats_of g.F.Formats in
    let p = err_from_is_err_and c.from_residual.result c.from_residual.ensures.1 in
    rw (p.1, p.2) (none_tried formats c.args.store.now.plan.mounted c.args.parent.now c.args.strategy c.args.tries c.args.self.now c.args.keys.now c.args.tried.now.items c.requires.tries c.requires.none)

pub returns-in_err-done-clause-merged : goal.returns-in_err-done-clause-merged
returns-in_err-done-clause-merged g c =
    let formats : Formats = formats_of g.F.Formats in
    let store = c.args.store.now in
    let was = c.loop-try.invariant in
    let p = err_from_is_err_and c.from_residual-in_err-done.result c.from_residual-in_err-done.ensures.1 in
    rw (p.1, p.2) (ended_so formats store.plan.mounted c.args.parent.now c.args.strategy c.args.tries c.args.self.now c.args.keys.now
    c.loop-try.tried.items c.loop-try.self c.loop-try.ours was.retries c.attempt.new.self c.loop-try.keys c.attempt.new.tried.items _ (omega (arith, was.count, c.loop-try-test.true)) was.keys c.in_err-done.ensures.attempt)

pub returns-in-Stored-clause-merged : goal.returns-in-Stored-clause-merged
returns-in-Stored-clause-merged g c =
    let formats : Formats = formats_of g.F.Formats in
    let store = c.args.store.now in
    let was = c.loop-try.invariant in
    let ends = subst (λ (a : Attempt). IsAttempt formats store.plan.mounted c.args.parent.now c.args.strategy 0 c.loop-try.self c.loop-try.ours c.loop-try.tried.items c.attempt.new.self c.attempt.new.tried.items (Ok a)) c.in-Stored.is c.in_ok-done.ensures.attempt in
    stored_so formats store.plan.mounted c.args.parent.now c.args.strategy c.args.tries c.args.self.now c.args.keys.now
    c.loop-try.tried.items c.loop-try.self c.loop-try.ours was.retries c.attempt.new.self c.loop-try.ours c.attempt.new.tried.items c.in-Stored.done (omega (arith, was.count, c.loop-try-test.true)) refl ends.0 ends.1

pub loop-try-preserved : goal.loop-try-preserved
loop-try-preserved g c =
    let formats : Formats = formats_of g.F.Formats in
    let store = c.args.store.now in
    let was = c.loop-try.invariant in
    let again = subst (λ (a : Attempt). IsAttempt formats store.plan.mounted c.args.parent.now c.args.strategy 0 c.loop-try.self c.loop-try.ours c.loop-try.tried.items c.attempt.new.self c.attempt.new.tried.items (Ok a)) c.in-Again.is c.in_ok-done.ensures.attempt in
    let count : length c.attempt.new.tried.items ≡ length c.loop-try.tried.items + 1 = more_tried formats store.plan.mounted c.args.parent.now c.args.strategy c.args.tries c.args.self.now c.args.keys.now
    c.loop-try.tried.items c.loop-try.self c.loop-try.ours was.retries c.attempt.new.self c.attempt.new.tried.items c.in-Again.next again in
    record {
      handle = c.attempt.ensures.handle;
      number = c.attempt.ensures.number ∙ was.number;
      proc = c.attempt.ensures.proc ∙ was.proc;
      keys = was.keys;
      retries =
          tried_again formats store.plan.mounted c.args.parent.now c.args.strategy c.args.tries c.args.self.now c.args.keys.now
          c.loop-try.tried.items c.loop-try.self c.loop-try.ours was.retries c.attempt.new.self c.attempt.new.tried.items c.in-Again.next again;
      within = omega (arith, c.loop-try-test.true);
      count = omega (arith, count, was.count);
    }

pub returns-in_err-stored-clause-merged : goal.returns-in_err-stored-clause-merged
returns-in_err-stored-clause-merged g c =
    let formats : Formats = formats_of g.F.Formats in
    let store = c.args.store.now in
    let was = c.loop-try.invariant in
    let each : length c.loop-try.tried.items + 1 ≡ c.args.tries = omega (arith, was.count, was.within, c.loop-try-test.false) in
    let p = err_from_is_err_and c.from_residual-in_err-stored.result c.from_residual-in_err-stored.ensures.1 in
    rw (p.1, p.2) (last_so formats store.plan.mounted c.args.parent.now c.args.strategy c.args.tries c.args.self.now c.args.keys.now
    c.loop-try.tried.items c.loop-try.self c.loop-try.ours was.retries c.last_try.new.self c.loop-try.keys c.loop-try.tried.items _ each was.keys refl (c.in_err-stored.ensures.end c.args.strategy c.args.tries c.loop-try.tried.items each))

pub returns-clause-merged : goal.returns-clause-merged
returns-clause-merged g c =
    let formats : Formats = formats_of g.F.Formats in
    let store = c.args.store.now in
    let was = c.loop-try.invariant in
    let each : length c.loop-try.tried.items + 1 ≡ c.args.tries = omega (arith, was.count, was.within, c.loop-try-test.false) in
    last_so formats store.plan.mounted c.args.parent.now c.args.strategy c.args.tries c.args.self.now c.args.keys.now
    c.loop-try.tried.items c.loop-try.self c.loop-try.ours was.retries c.last_try.new.self c.loop-try.ours c.loop-try.tried.items _ each refl refl (c.in_ok-stored.ensures.end c.args.strategy c.args.tries c.loop-try.tried.items each)
