-- The session's steps stand among those that are left.
use Rattle.std.proofs.Common.{◌≡◌, drop}
use Rattle.model_batch.specs.Scripts.{steps_in}
use Rattle.batch_run.proofs.places.steps_among.Given as goal

abbrev pub invariant-loop-it : goal.invariant-loop-it
invariant-loop-it l = steps_in (drop l.it-index l.phase) l.session ≡ steps_in l.phase l.session
