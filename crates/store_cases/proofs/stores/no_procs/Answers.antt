-- Set by set.
use Rattle.std.proofs.Common.{ℕ, ◌+◌, [], ◌∷◌, length, sym, ap, subst, ◌∙◌, arith}
use Rattle.std.specs.List.{AllByRecursion}
use Rattle.std.proofs.lemmas.List.{length_push}
use Rattle.general_words.proofs.Lists.{all_append}
use Rattle.store_cases.proofs.DiskLemmas.{are_proc}
use Rattle.store_verdict.specs.ProcKeys.{AreProc}
use Rattle.store_cases.proofs.stores.no_procs.Goals as goal

pub loop-preserved : goal.loop-preserved
loop-preserved c = record {
  count = ap length c.in_ok-push.ensures.items ∙ length_push c.loop.procs.items c.new.result ∙ ap (λ (n : ℕ). n + 1) c.loop.invariant.count;
  proc = subst (AllByRecursion AreProc) (sym c.in_ok-push.ensures.items) (all_append AreProc c.loop.procs.items (c.new.result ∷ []) c.loop.invariant.proc (are_proc c.new.result c.new.ensures, tt));
}

pub returns-clause-few : goal.returns-clause-few
returns-clause-few c = omega (arith, c.loop.invariant.count, c.loop-test.false, c.loop.auto.counter-end)

pub returns-clause-proc : goal.returns-clause-proc
returns-clause-proc c = c.loop.invariant.proc
