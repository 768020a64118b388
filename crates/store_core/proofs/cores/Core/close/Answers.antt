-- A journal that is left alone is at rest, and one that is made clean holds the run's files.
use Rattle.std.proofs.Common.{inl, refl, sym, subst, ◌∙◌, rules}
use Rattle.kdb_outside.specs.Faults.{HasRisen}
use Rattle.kdb_outside.specs.Images.{Image, IsImage}
use Rattle.kdb_outside.proofs.Rises.{risen_since}
use Rattle.intent_journal.specs.Opened.{IsFresh}
use Rattle.intent_journal.specs.Outcomes.{HasOnly}
use Rattle.journal_steps.specs.Outcomes.{SameFiles, IsEither}
use Rattle.intent_journal.specs.States.{IsCalm}
use Rattle.model_crashes.specs.Runs.{files_of}
use Rattle.store_phases.proofs.Resting.{resting_only}
use Rattle.store_phases.proofs.Stores.{read_of_run}
use Rattle.store_core.proofs.ClosingLemmas.{settled_shown}
use Rattle.store_core.proofs.cores.Core.close.Goals as goal

pub returns-then-is_fresh : goal.returns-then-is_fresh
returns-then-is_fresh g c =
    let fresh : IsFresh c.args.self.journal = search rules in
    record {
      history = search rules;
      patterns = search rules;
      left_alone = search rules;
      shown = λ opened run store still.
          subst (λ d. SameFiles (g.D.Disk.seen d) (files_of run)) (sym c.into_disk.ensures)
          (λ file own. read_of_run g.D.Disk opened c.args.self.journal run file store fresh.1 own);
      settled = search rules;
      calm_with = search rules;
      calm = λ opened run store still.
          subst (λ d. ¬ HasRisen run.faults (g.D.Disk.faults d) → IsCalm (g.D.Disk.seen d) (g.D.Disk.may_leave d) (files_of run) run.doubt) (sym c.into_disk.ensures) (store.calm fresh.2) still;
      always = search rules;
      now = λ opened run store.
          subst (λ d. (image : Image) → IsImage (g.D.Disk.may_leave d) image → HasOnly (IsEither (files_of run) run.doubt) image) (sym c.into_disk.ensures)
          (resting_only g.D.Disk c.args.self.journal run.names (files_of run) run.doubt store.rests);
      rests = λ opened run store. record { names = run.names; journal = c.args.self.journal; over = sym c.into_disk.ensures; rests = store.rests };
      goes = search rules;
    }

pub returns : goal.returns
returns g c = record {
  history = search rules;
  patterns = search rules;
  left_alone = search rules;
  shown = λ opened run store still.
      settled_shown (g.D.Disk.seen c.close.result) (g.D.Disk.may_leave c.close.result) (files_of run) (c.close.ensures.settled opened run store still)
      (g.D.Disk.read_is_image c.close.result (c.close.ensures.goes.tells ∙ store.rests.tells));
  settled = λ opened run store still wrote. c.close.ensures.settled opened run store still;
  calm_with = λ opened run store still wrote. c.close.ensures.calm opened run store still;
  calm = λ opened run store still.
      c.close.ensures.calm opened run store (λ risen. still (risen_since run.faults (g.D.Disk.faults c.args.self.journal.disk) (g.D.Disk.faults c.close.result) store.risen risen))
      (files_of run) run.doubt (inl (λ file own. refl));
  always = search rules;
  now = search rules;
  rests = search rules;
  goes = search rules;
}
