-- The journal that is made clean is at rest, whether its gate was closed or not, and its disk is given back.
use Rattle.std.proofs.Common.{sym, subst}
use Rattle.kdb_outside.specs.Faults.{HasRisen}
use Rattle.kdb_outside.specs.Images.{Image, IsImage}
use Rattle.intent_journal.specs.Outcomes.{HasOnly}
use Rattle.journal_steps.specs.Outcomes.{IsEither}
use Rattle.intent_journal.specs.States.{IsCalm, IsSettled}
use Rattle.model_crashes.specs.Runs.{files_of, IsReached}
use Rattle.journal_steps.specs.Moments.{LeavesOnly}
use Rattle.store_phases.proofs.Resting.{resting_only, unless}
use Rattle.store_phases.proofs.Stores.{rests_reached, resting_calm}
use Rattle.store_phases.proofs.runs.close.Goals as goal

pub returns-clause-always : goal.returns-clause-always
returns-clause-always g c opened run store =
    subst (λ d. LeavesOnly g.D.Disk opened d (IsReached run.files run.commits run.begun)) (sym c.into_disk.ensures)
    (rests_reached g.D.Disk opened c.args.journal.disk c.make_clean.new.journal.disk run store.later store.doubt_begun store.always
    (c.make_clean.ensures.rests run.names (files_of run) run.doubt store.rests).any_moment)

pub returns-clause-now : goal.returns-clause-now
returns-clause-now g c opened run store =
    subst (λ d. (image : Image) → IsImage (g.D.Disk.may_leave d) image → HasOnly (IsEither (files_of run) run.doubt) image) (sym c.into_disk.ensures)
    (resting_only g.D.Disk c.make_clean.new.journal run.names (files_of run) run.doubt (c.make_clean.ensures.rests run.names (files_of run) run.doubt store.rests).rests)

pub returns-clause-rests : goal.returns-clause-rests
returns-clause-rests g c opened run store = record {
  names = run.names;
  journal = c.make_clean.new.journal;
  over = sym c.into_disk.ensures;
  rests = (c.make_clean.ensures.rests run.names (files_of run) run.doubt store.rests).rests;
}

pub returns-clause-settled : goal.returns-clause-settled
returns-clause-settled g c opened run store =
    subst (λ d. ¬ HasRisen (g.D.Disk.faults c.args.journal.disk) (g.D.Disk.faults d) → IsSettled (g.D.Disk.may_leave d) (files_of run)) (sym c.into_disk.ensures)
    (unless c.make_clean.result _ _ (c.make_clean.ensures.settled run.names (files_of run) run.doubt store.rests) c.make_clean.ensures.phase.cause)

pub returns-clause-calm : goal.returns-clause-calm
returns-clause-calm g c opened run store still files doubt either =
    let clean = c.make_clean.new.journal in
    let back = sym c.into_disk.ensures in
    let ended = unless c.make_clean.result _ _ c.make_clean.ensures.ok c.make_clean.ensures.phase.cause
    (λ risen. still (subst (λ d. HasRisen (g.D.Disk.faults c.args.journal.disk) (g.D.Disk.faults d)) back risen)) in
    subst (λ d. IsCalm (g.D.Disk.seen d) (g.D.Disk.may_leave d) files doubt) back
    (resting_calm g.D.Disk clean run.names (files_of run) files run.doubt doubt (c.make_clean.ensures.rests run.names (files_of run) run.doubt store.rests).rests ended.1 either)
