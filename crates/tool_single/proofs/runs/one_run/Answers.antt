use Rattle.tool_single.proofs.RunsLemmas.{any_input}
use Rattle.tool_single.proofs.runs.one_run.Goals as goal

pub returns : goal.returns
returns g c tells given ending input = record {
  tells = tells;
  goes = c.run_one.ensures.goes;
  ran = λ files doubt calm. any_input g.D.Disk files doubt _ _ _ _ _ _ _ (c.run_one.ensures.ran tells files doubt calm given input);
}
