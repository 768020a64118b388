-- The first steps were taken.
use Rattle.std.proofs.Common.{◌≡◌, ◌+◌, ◌^◌, ◌<◌, length, take, vec_capacity}
use Rattle.batch_run.specs.Stepping.{GoesOn}
use Rattle.batch_run.proofs.sessions.Session.take_steps.Given as goal
use Rattle.model_store.specs.Store.{formats_of}

abbrev pub invariant-loop-step : goal.invariant-loop-step
invariant-loop-step g l = record {
  room : vec_capacity l.replies ≡ vec_capacity l.initial.replies;
  count : length l.replies.items ≡ l.step-index;
  number : l.self.number ≡ l.initial.self.number;
  passed : l.initial.self.passed + length l.steps < 2 ^ 32 → l.self.passed ≡ l.initial.self.passed + l.step-index;
  goes : GoesOn (formats_of g.F.Formats) l.store.lock l.store.plan (take l.step-index l.steps) l.replies.items
      l.initial.self.handle l.initial.self.workspace l.self.handle l.self.workspace;
}
