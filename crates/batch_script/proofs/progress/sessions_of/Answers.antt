-- The last room goes, with its session if it has steps.
use Rattle.std.proofs.Common.{ℕ, ◌+◌, ◌==◌, ◌∷◌, [], length, sym, ap, ◌∙◌, arith, length-append}
use Rattle.batch_script.proofs.ItemLemmas.{gathered-pop, gathered-pop_none}
use Rattle.batch_script.proofs.WordLemmas.{empty-by, some-by}
use Rattle.batch_script.proofs.progress.sessions_of.Goals as goal

pub overflow_cast-session : goal.overflow_cast-session
overflow_cast-session c =
    omega (arith, c.len.ensures, ap length c.in-Some.ensures.items, length-append c.pop.new.self.items (c.in-Some.steps ∷ []), c.loop-steps.invariant.few, c.requires)

pub overflow_add-session : goal.overflow_add-session
overflow_add-session c =
    omega (arith, c.len.ensures, ap length c.in-Some.ensures.items, length-append c.pop.new.self.items (c.in-Some.steps ∷ []), c.loop-steps.invariant.few, c.requires)

pub loop-steps-preserved-in-Continue-1 : goal.loop-steps-preserved-in-Continue-1
loop-steps-preserved-in-Continue-1 c =
    let some = some-by c.in-Some.steps.items (sym (ap (λ (n : ℕ). n == 0) c.in-Some.steps.ok.0) ∙ sym c.is_empty.ensures ∙ c.if-not-is_empty.true) in
    record {
      all =
          gathered-pop c.loop-steps.rooms.items c.pop.new.self.items c.in-Some.steps (c.len.result + 1) c.from_vec-steps.result c.loop-steps.sessions.items c.push.new.self.items _
          c.in-Some.ensures.items some (omega (arith, c.len.ensures)) c.from_vec-steps.ensures c.in_ok-push.ensures.items c.loop-steps.invariant.all;
      few = omega (arith, ap length c.in-Some.ensures.items, length-append c.pop.new.self.items (c.in-Some.steps ∷ []), c.loop-steps.invariant.few);
    }

pub loop-steps-preserved : goal.loop-steps-preserved
loop-steps-preserved c = record {
  all = gathered-pop_none c.loop-steps.rooms.items c.pop.new.self.items c.in-Some.steps c.loop-steps.sessions.items _
      c.in-Some.ensures.items (empty-by c.in-Some.steps.items (sym (ap (λ (n : ℕ). n == 0) c.in-Some.steps.ok.0) ∙ sym c.is_empty.ensures ∙ c.if-not-is_empty.false)) c.loop-steps.invariant.all;
  few = omega (arith, ap length c.in-Some.ensures.items, length-append c.pop.new.self.items (c.in-Some.steps ∷ []), c.loop-steps.invariant.few);
}
