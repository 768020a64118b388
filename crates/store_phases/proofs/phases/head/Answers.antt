use Rattle.std.proofs.Common.{◌≡◌, false, None, rules}
use Rattle.journal_steps.specs.Outcomes.{IsEither}
use Rattle.intent_journal.specs.Outcomes.{HasOnly}
use Rattle.model_crashes.proofs.Moments.{only_now}
use Rattle.store_phases.proofs.Resting.{bare_rests, headed_rest, rests_sure, resting_only}
use Rattle.store_phases.proofs.phases.head.Goals as goal

pub returns-then-eq-clause-rests : goal.returns-then-eq-clause-rests
returns-then-eq-clause-rests g c names files doubt rests is header =
    let old = c.args.journal.now in
    let put = c.put_header.ensures in
    let bare : old.headed ≡ false = search rules in
    let state = bare_rests g.D.Disk old names files doubt bare c.requires.sure rests in
    headed_rest g.D.Disk old names files doubt bare c.requires.sure rests c.put_header.new.self c.put_header.result c.args.header.now is put.list put.step put.ok put.err
    (put.passes rests.tells names rests.before is header state.1)

pub returns-clause-rests : goal.returns-clause-rests
returns-clause-rests g c names files doubt rests is header =
    let journal = c.args.journal.now in
    let alone = rests_sure g.D.Disk journal names files doubt None rests c.requires.sure in
    record {
      rests = alone;
      any_moment = only_now g.D.Disk journal.disk (HasOnly (IsEither files None)) rests.tells (resting_only g.D.Disk journal names files None alone);
    }
