use Rattle.intent_journal.specs.Opens.{disk_of}
use Rattle.intent_journal.specs.Outcomes.{HasOnly}
use Rattle.journal_steps.specs.Outcomes.{IsEither}
use Rattle.intent_journal.proofs.Opened.{opened_fresh, opened_kept, opened_stays, opened_retired, opened_retires, opened_cause, opened_good, opened_bad, opened_unknown, opened_recovered, opened_reads, opened_either, opened_holds, opened_calm, opened_left, opened_own, opened_meanwhile, opened_never_bad, opened_never_unknown}
use Rattle.store_phases.proofs.Openings.{calm_behind, opened_own_run, opened_run, rests_since, shown_behind}
use Rattle.store_phases.proofs.runs.open.Goals as goal

pub returns : goal.returns
returns g c =
    let disk = c.args.disk in
    let result = c.open.result in
    let opens = c.open.ensures in
    let goes = opens.opens.goes in
    let fresh = opened_fresh g.D.Disk disk result opens in
    let cause = opened_cause g.D.Disk disk result opens in
    record {
      files = λ tells files doubt calm. opened_either g.D.Disk disk result opens tells files doubt calm;
      opened = λ tells files doubt calm. opened_run g.D.Disk disk result tells goes fresh (opened_holds g.D.Disk disk result opens tells files doubt calm);
      own = λ tells files doubt calm same.
          opened_own_run g.D.Disk disk result files doubt tells goes fresh (opened_own g.D.Disk disk result opens tells files doubt calm same)
          (calm_behind g.D.Disk disk result files doubt (opened_calm g.D.Disk disk result opens tells files doubt calm));
      shown = λ tells files doubt calm. shown_behind g.D.Disk disk result tells goes (opened_holds g.D.Disk disk result opens tells files doubt calm);
      fresh = fresh;
      recovered = λ tells. opened_recovered g.D.Disk disk result opens tells;
      reads = λ tells. opened_reads g.D.Disk disk result opens tells;
      kept = λ tells. opened_kept g.D.Disk disk result opens tells;
      stays = λ tells. opened_stays g.D.Disk disk result opens tells;
      retired = λ tells. opened_retired g.D.Disk disk result opens tells;
      retires = λ tells. opened_retires g.D.Disk disk result opens tells;
      good = λ tells. opened_good g.D.Disk disk result opens tells;
      bad = λ tells. opened_bad g.D.Disk disk result opens tells;
      unknown = λ tells. opened_unknown g.D.Disk disk result opens tells;
      calm = λ tells files doubt calm.
          (opened_never_bad g.D.Disk disk result opens tells files doubt calm, opened_never_unknown g.D.Disk disk result opens tells files doubt calm);
      cause = cause;
      calm_still = λ tells files doubt calm still. opened_calm g.D.Disk disk result opens tells files doubt calm (λ is. still (cause is));
      left = λ tells files doubt calm. opened_left g.D.Disk disk result opens tells files doubt calm;
      any_moment = λ tells files doubt calm. opened_meanwhile g.D.Disk disk result opens tells files doubt calm;
      rests = λ tells files doubt calm.
          rests_since g.D.Disk disk (disk_of result) (HasOnly (IsEither files doubt)) tells goes (opened_meanwhile g.D.Disk disk result opens tells files doubt calm);
      goes = goes;
    }
