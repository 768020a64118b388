-- How a single command ends, from what was done for it and what became of its answer on out and err.
use Rattle.std.proofs.Common.{inl}
use Rattle.kdb_outside.specs.Faults.{HasRisen}
use Rattle.kdb_outside.specs.SinkChange.{change_of}
use Rattle.store_lines.specs.Lines.{bad_journal, unknown_journal}
use Rattle.tool_single.specs.Input.{FailsToRead, LosesInput}
use Rattle.tool_single.specs.Serving.{MayRefuse}
use Rattle.tool_single.specs.Untold.{HasAsked}
use Rattle.tool_words.specs.Rows.{request}
use Rattle.tool_commands.specs.Report.{IsAnswered}
use Rattle.tool_single.proofs.AnswersMore.{stores_nothing}
use Rattle.tool_single.proofs.EndLemmas.{by_words, without_memory, in_fault, complete, made_of, not_stored, of_memory}
use Rattle.tool_single.proofs.BrokenLemmas.{ends_by_journal}
use Rattle.tool_single.proofs.InputLemmas.{leaves_input}
use Rattle.tool_single.proofs.RunLemmas.{ran}
use Rattle.tool_single.proofs.tool.run_one.Goals as goal

pub returns : goal.returns
returns g c =
    let words = c.args.words.now in
    let disk = c.args.disk in
    let done = c.carry_out-answer in
    let ended = done.result in
    let answer = ended.answer in
    let input = c.args.input.now in
    let input_now = done.new.input in
    let before = g.P.Patterns.refusals c.args.patterns in
    let now = g.P.Patterns.refusals ended.patterns in
    let status = c.finish-status.result in
    let finished = c.finish-status.ensures.finished in
    let out = change_of g.K.Sink c.args.out.now c.finish-status.new.out in
    let err = change_of g.E.Sink c.args.err.now c.finish-status.new.err in
    let Unread = LosesInput (FailsToRead (request words) (g.S.Source.faults input) (g.S.Source.faults input_now)) disk ended.disk c.args.patterns ended.patterns in
    let Failed = HasRisen (g.D.Disk.faults disk) (g.D.Disk.faults ended.disk) × HasAsked g.S.Source (request words) input input_now in
    let fault = in_fault Failed Unread answer status out err done.ensures.own (λ is. (done.ensures.cause is, done.ensures.asked is)) done.ensures.read finished in
    record {
      ran = λ tells files doubt calm given fed. ran g.D.Disk disk ended.disk files doubt words given before now Unread status out err answer (done.ensures.served tells files doubt calm given fed) done.ensures.read done.ensures.cause finished;
      calm = done.ensures.calm;
      words = by_words g.S.Source input input_now answer (request words) status out err done.ensures.untold done.ensures.asked (λ is. (done.ensures.read is).risen) finished;
      unasked = done.ensures.unasked;
      broken = λ tells at is given fed. ends_by_journal answer (request words) given (bad_journal at) status out err (done.ensures.broken tells at is given fed) finished;
      unknown = λ tells version is given fed. ends_by_journal answer (request words) given (unknown_journal version) status out err (done.ensures.unknown tells version is given fed) finished;
      broken_stays = done.ensures.broken_stays;
      broken_kept = λ tells fault is kept given fed asks answered. done.ensures.broken_kept tells fault is kept given fed asks (made_of answer status out err finished answered);
      memory = without_memory answer status out err done.ensures.own finished;
      fault = fault;
      complete = λ no_disk no_input. complete Failed Unread status out err fault (λ failed. no_disk failed.0) (λ lost. no_input lost.risen);
      unwritten = λ tells files doubt calm is. done.ensures.unserved tells files doubt calm (inl (of_memory answer status out err done.ensures.own finished is));
      untouched = λ tells none given fed nothing.
          done.ensures.untouched tells none given fed (stores_nothing (MayRefuse answer before now) (λ _. HasRisen before now) words given (g.D.Disk.seen disk) nothing);
      unstored = λ tells none not_done no_fault. done.ensures.unstored tells none (not_stored answer status out err finished not_done no_fault);
      input = leaves_input g.S.Source (request words) (IsAnswered status) _ input input_now (made_of answer status out err finished) done.ensures.input;
      goes = done.ensures.goes;
      later_input = done.ensures.later;
      later_out = c.finish-status.ensures.later_out;
      later_err = c.finish-status.ensures.later_err;
      later_patterns = done.ensures.later_patterns;
    }
