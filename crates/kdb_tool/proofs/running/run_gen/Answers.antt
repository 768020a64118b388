-- How a generated run ends, from what was told of it and what became of that on out and err.
use Rattle.std.specs.Prelude.{◌≡◌, Err}
use Rattle.kdb_outside.specs.SinkChange.{change_of}
use Rattle.kdb_tool.proofs.GeneratedLemmas.{generated-ends, generated-stops}
use Rattle.kdb_tool.proofs.running.run_gen.Goals as goal
use Rattle.kdb_tool.specs.Rounds.{rounds_in}
use Rattle.tool_single.proofs.EndLemmas.{complete, in_fault, without_memory}
use Rattle.tool_single.specs.declared.answers.Stop.TheVariants as stops

pub returns : goal.returns
returns g c =
    let asked = rounds_in c.args.words.now in
    let done = c.generate-answer in
    let answer = done.result.answer in
    let status = c.finish-status.result in
    let finished = c.finish-status.ensures.finished in
    let out = change_of g.K.Sink c.args.out.now c.finish-status.new.out in
    let err = change_of g.E.Sink c.args.err.now c.finish-status.new.err in
    let told = done.ensures.told in
    let no_disk : answer ≡ Err stops.DiskFault → ⊥ = λ is. let same = generated-stops asked answer stops.DiskFault told is in absurd cc in
    let no_input : answer ≡ Err stops.ReadFault → ⊥ = λ is. let same = generated-stops asked answer stops.ReadFault told is in absurd cc in
    let fault = in_fault ⊥ ⊥ answer status out err done.ensures.own no_disk no_input finished in
    record {
      ran = generated-ends status out err asked answer told finished;
      memory = without_memory answer status out err done.ensures.own finished;
      fault = fault;
      complete = complete ⊥ ⊥ status out err fault (λ none. none) (λ none. none);
      later_out = c.finish-status.ensures.later_out;
      later_err = c.finish-status.ensures.later_err;
      later_patterns = done.ensures.later;
    }
