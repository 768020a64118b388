use Rattle.std.proofs.Common.{◌≤◌, Some, None, List, ◌++◌, ◌∷◌, [], inl, inr, refl, sym, subst, arith}
use Rattle.std.proofs.lemmas.Result.{MatchResult-from_err, on_err_weaker}
use Rattle.journal_codec.specs.declared.files.FileText.{FileText}
use Rattle.journal_steps.specs.Outcomes.{IsEither}
use Rattle.intent_journal.specs.Journal.{IsList}
use Rattle.intent_journal.specs.Outcomes.{HasOnly}
use Rattle.journal_lists.proofs.Bodies.{length-spelled_on}
use Rattle.model_crashes.specs.Runs.{IsAmid}
use Rattle.model_crashes.proofs.Moments.{only_both, only_follows}
use Rattle.store_phases.proofs.Resting.{either_any, encoded_size}
use Rattle.store_phases.proofs.phases.store.Goals as goal

pub make_room-requires : goal.make_room-requires
make_room-requires g c =
    let sized = encoded_size c.args.files c.args.encoded.now c.requires.encoded in
    let short = length-spelled_on c.args.files c.requires.entry in
    omega arith

pub begin-requires-clause-fits : goal.begin-requires-clause-fits
begin-requires-clause-fits g c =
    let sized = encoded_size c.args.files c.args.encoded.now c.requires.encoded in
    subst (λ (list : List (List FileText)). IsList (list ++ c.args.files ∷ [])) (sym c.head.ensures.list) (c.in_ok-make_room.ensures.fits c.args.files c.requires.entry (omega arith))

pub returns-in_err-make_room-clause-failed : goal.returns-in_err-make_room-clause-failed
returns-in_err-make_room-clause-failed g c names before doubt rests is of_run =
    MatchResult-from_err _ _ _ c.from_residual.ensures.0 (λ _. (doubt, inr (inl refl), (c.make_room.ensures.rests names before doubt rests).rests))

pub returns-in_err-make_room-clause-any_moment : goal.returns-in_err-make_room-clause-any_moment
returns-in_err-make_room-clause-any_moment g c names before doubt rests is of_run =
    only_follows g.D.Disk c.args.journal.now.disk c.make_room.new.journal.disk (HasOnly (IsEither before doubt)) (IsAmid before doubt c.args.files) (λ image has. inl has)
    (c.make_room.ensures.rests names before doubt rests).any_moment

pub returns-in_err-head-clause-failed : goal.returns-in_err-head-clause-failed
returns-in_err-head-clause-failed g c names before doubt rests is of_run =
    let room = (c.make_room.ensures.rests names before doubt rests).rests in
    MatchResult-from_err _ _ _ c.from_residual-in_err-head.ensures.0 (λ _. (None, inl refl, (c.head.ensures.rests names before doubt room is of_run.header).rests))

pub returns-in_err-head-clause-any_moment : goal.returns-in_err-head-clause-any_moment
returns-in_err-head-clause-any_moment g c names before doubt rests is of_run =
    let room = c.make_room.ensures.rests names before doubt rests in
    only_both g.D.Disk c.args.journal.now.disk c.make_room.new.journal.disk c.head.new.journal.disk (HasOnly (IsEither before doubt)) (HasOnly (IsEither before None))
    (IsAmid before doubt c.args.files) (λ image has. inl has) (λ image has. inl (either_any before doubt image has)) c.make_room.ensures.phase.goes.moment room.any_moment
    (c.head.ensures.rests names before doubt room.rests is of_run.header).any_moment

pub returns-clause-committed : goal.returns-clause-committed
returns-clause-committed g c names before doubt rests is of_run =
    let room = (c.make_room.ensures.rests names before doubt rests).rests in
    let headed = (c.head.ensures.rests names before doubt room is of_run.header).rests in
    (c.begin.ensures.passes names before None headed of_run).ok

pub returns-clause-failed : goal.returns-clause-failed
returns-clause-failed g c names before doubt rests is of_run =
    let room = (c.make_room.ensures.rests names before doubt rests).rests in
    let headed = (c.head.ensures.rests names before doubt room is of_run.header).rests in
    on_err_weaker c.begin.result (λ behind. (Some c.args.files, inr (inr refl), behind)) (c.begin.ensures.passes names before None headed of_run).err

pub returns-clause-any_moment : goal.returns-clause-any_moment
returns-clause-any_moment g c names before doubt rests is of_run =
    let entry = c.args.files in
    let old = c.args.journal.now in
    let mid = c.head.new.journal in
    let new = c.begin.new.journal in
    let room = c.make_room.ensures.rests names before doubt rests in
    let headed = c.head.ensures.rests names before doubt room.rests is of_run.header in
    let amid = IsAmid before doubt entry in
    let first = only_both g.D.Disk old.disk c.make_room.new.journal.disk mid.disk (HasOnly (IsEither before doubt)) (HasOnly (IsEither before None)) amid
    (λ image has. inl has) (λ image has. inl (either_any before doubt image has)) c.make_room.ensures.phase.goes.moment room.any_moment headed.any_moment in
    let later : g.D.Disk.moment old.disk ≤ g.D.Disk.moment mid.disk = let one = c.make_room.ensures.phase.goes.moment in let two = c.head.ensures.phase.goes.moment in omega arith in
    only_both g.D.Disk old.disk mid.disk new.disk amid (HasOnly (IsEither before (Some entry))) amid (λ image has. has) (λ image has. inr has) later first
    (c.begin.ensures.passes names before None headed.rests of_run).any_moment
