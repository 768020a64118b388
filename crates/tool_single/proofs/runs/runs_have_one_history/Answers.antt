use Rattle.tool_single.proofs.RunsLemmas.{history_of, found_by}
use Rattle.tool_single.proofs.runs.runs_have_one_history.Goals as goal

pub returns-clause-one : goal.returns-clause-one
returns-clause-one g c files runs last calm are decided =
    history_of g.D.Disk g.D.Disk.counts_now g.D.Disk.read_is_image c.args.disk.now files runs last calm are decided

pub returns-clause-torn : goal.returns-clause-torn
returns-clause-torn g c files doubt runs last calm are =
    found_by g.D.Disk g.D.Disk.counts_now g.D.Disk.read_is_image c.args.disk.now files doubt runs last calm are
