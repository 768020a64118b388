use Rattle.std.proofs.Common.{◌∙◌, sym}
use Rattle.journal_steps.specs.Outcomes.{IsEither}
use Rattle.intent_journal.specs.Outcomes.{HasOnly}
use Rattle.model_crashes.specs.Runs.{files_of}
use Rattle.model_crashes.proofs.Moments.{only_now}
use Rattle.store_phases.proofs.Resting.{no_entry, resting_only, some_entry}
use Rattle.store_phases.proofs.Stores.{IsStore-flushed, flushed_sure}
use Rattle.store_phases.proofs.runs.flush.Goals as goal

pub returns-then-is_empty-clause-some : goal.returns-then-is_empty-clause-some
returns-then-is_empty-clause-some g c some =
    absurd (some (no_entry c.args.journal.now.list (sym c.is_empty.ensures.exact ∙ c.if-is_empty.true)))

pub returns-then-is_empty-clause-any_moment : goal.returns-then-is_empty-clause-any_moment
returns-then-is_empty-clause-any_moment g c opened run store =
    only_now g.D.Disk c.args.journal.now.disk (HasOnly (IsEither (files_of run) run.doubt)) store.rests.tells (resting_only g.D.Disk c.args.journal.now run.names (files_of run) run.doubt store.rests)

pub returns-in_err-make_clean-clause-none : goal.returns-in_err-make_clean-clause-none
returns-in_err-make_clean-clause-none g c none =
    absurd (some_entry c.args.journal.now.list (sym c.is_empty.ensures.exact ∙ c.if-is_empty.false) none)

pub returns-in_err-make_clean-clause-store : goal.returns-in_err-make_clean-clause-store
returns-in_err-make_clean-clause-store g c opened run store =
    let old = c.args.journal.now in
    let new = c.make_clean.new.journal in
    let phase = c.in_err-make_clean.ensures.phase in
    let behind = c.make_clean.ensures.rests run.names (files_of run) run.doubt store.rests in
    IsStore-flushed g.D.Disk opened old new run store phase.goes behind.rests (λ in_doubt. phase.cause) behind.any_moment

pub returns-in_err-make_clean-clause-any_moment : goal.returns-in_err-make_clean-clause-any_moment
returns-in_err-make_clean-clause-any_moment g c opened run store =
    (c.make_clean.ensures.rests run.names (files_of run) run.doubt store.rests).any_moment

pub returns-clause-none : goal.returns-clause-none
returns-clause-none g c none =
    absurd (some_entry c.args.journal.now.list (sym c.is_empty.ensures.exact ∙ c.if-is_empty.false) none)

pub returns-clause-store : goal.returns-clause-store
returns-clause-store g c opened run store =
    let old = c.args.journal.now in
    let new = c.make_clean.new.journal in
    let phase = c.make_clean.ensures.phase in
    let state = c.in_ok-make_clean.ensures.ok in
    let behind = c.make_clean.ensures.rests run.names (files_of run) run.doubt store.rests in
    IsStore-flushed g.D.Disk opened old new run store phase.goes behind.rests (flushed_sure _ new.in_doubt state.1) behind.any_moment

pub returns-clause-settled : goal.returns-clause-settled
returns-clause-settled g c opened run store is =
    c.in_ok-make_clean.ensures.settled run.names (files_of run) run.doubt store.rests

pub returns-clause-any_moment : goal.returns-clause-any_moment
returns-clause-any_moment g c opened run store =
    (c.make_clean.ensures.rests run.names (files_of run) run.doubt store.rests).any_moment
