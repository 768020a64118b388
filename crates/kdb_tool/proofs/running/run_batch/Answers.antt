-- How a batch ends, from what was done for it and what became of its answer on out and err.
use Rattle.kdb_outside.specs.Faults.{HasRisen}
use Rattle.kdb_outside.specs.SinkChange.{change_of}
use Rattle.kdb_tool.proofs.EndLemmas.{complete-ends, in-fault, journal-ends, ran-batch, refused-ends, stores-none, without-memory}
use Rattle.kdb_tool.proofs.TaskLemmas.{leaves-more}
use Rattle.kdb_tool.proofs.running.run_batch.Goals as goal
use Rattle.kdb_tool.specs.Scripts.{FailsToRead, HasAsked, takes_words}
use Rattle.store_lines.specs.Lines.{bad_journal, unknown_journal}
use Rattle.tool_commands.specs.Report.{IsAnswered, warned}
use Rattle.tool_single.proofs.EndLemmas.{made_of}
use Rattle.tool_single.specs.Input.{LosesInput}
use Rattle.tool_words.specs.Lines.{options_refused}

pub returns : goal.returns
returns g c =
    let words = c.args.words.now in
    let faults = g.D.Disk.faults in
    let disk = c.args.disk in
    let done = c.carry_out-answer in
    let ended = done.result in
    let input_now = done.new.input in
    let status = c.finish-status.result in
    let finished = c.finish-status.ensures.finished in
    let out = change_of g.K.Sink c.args.out.now c.finish-status.new.out in
    let err = change_of g.E.Sink c.args.err.now c.finish-status.new.err in
    let Unread = LosesInput (FailsToRead (takes_words words) (g.S.Source.faults c.args.input.now) (g.S.Source.faults input_now)) disk ended.disk c.args.patterns ended.patterns in
    let Rose = HasRisen (faults disk) (faults ended.disk) in
    let Asked = HasAsked g.S.Source words c.args.input.now input_now in
    let fault = in-fault status out err Rose Asked Unread ended.answer done.ensures.reported done.ensures.asked done.ensures.cause done.ensures.read finished in
    record {
      ran = λ tells files doubt calm given fed.
          ran-batch g.D.Disk disk ended.disk files doubt words given (g.P.Patterns.refusals c.args.patterns) (g.P.Patterns.refusals ended.patterns) Unread status out err ended.answer (done.ensures.worked tells files doubt calm given fed)
          done.ensures.read done.ensures.cause finished;
      calm = done.ensures.calm;
      by_words = λ refuses. refused-ends status out err (warned 1 options_refused) ended.answer (done.ensures.words refuses) finished;
      unasked = done.ensures.unasked;
      broken = λ tells at is given fed. journal-ends status out err words given (bad_journal at) ended.answer (done.ensures.broken tells at is given fed) finished;
      unknown = λ tells version is given fed. journal-ends status out err words given (unknown_journal version) ended.answer (done.ensures.unknown tells version is given fed) finished;
      broken_stays = done.ensures.broken_stays;
      broken_kept = λ tells fault is kept given fed asks answered. done.ensures.broken_kept tells fault is kept given fed asks (made_of ended.answer status out err finished answered);
      memory = without-memory status out err Rose ended.answer done.ensures.reported finished;
      fault = fault;
      complete = λ no_disk no_input. complete-ends status out err Rose Asked Unread fault no_disk (λ lost. no_input lost.risen);
      unstored = λ tells none. stores-none status out err g.D.Disk disk ended.disk ended.answer (done.ensures.unstored tells none) finished;
      takes = leaves-more g.S.Source (takes_words words) (IsAnswered status) _ c.args.input.now input_now (made_of ended.answer status out err finished) done.ensures.input;
      goes = done.ensures.goes;
      later_input = done.ensures.later;
      later_out = c.finish-status.ensures.later_out;
      later_err = c.finish-status.ensures.later_err;
      later_patterns = done.ensures.later_patterns;
    }
