-- The records are those of the handles.
use Rattle.std.proofs.Common.{List, length, sym, subst}
use Rattle.store_play.specs.Handles.{AreHandlesOf}
use Rattle.store_verdict.specs.declared.records.Record.{Record}
use Rattle.store_play.proofs.playing.step.Goals as goal

pub play_get-requires : goal.play_get-requires
play_get-requires g c = record {
  handles = (c.requires.holding.procs, subst (λ (records : List Record). AreHandlesOf (length c.args.plan.now.mounted) c.requires.holding.procs records) (sym c.deref_mut.ensures.value) c.requires.holding.holds.handles);
}

pub returns-in-Get-clause-cause : goal.returns-in-Get-clause-cause
returns-in-Get-clause-cause g c = c.play_get.ensures.cause _ _ _ _

pub returns-in-Prepare-clause-cause : goal.returns-in-Prepare-clause-cause
returns-in-Prepare-clause-cause g c = c.play_prepare.ensures.cause _ _ _ _
