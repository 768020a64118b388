use Rattle.std.proofs.Common.{◌==◌, ap}
use Rattle.model_names.specs.Name.{rank}
use Rattle.model_names.specs.Namespaces.{has_files}
use Rattle.set_split.proofs.NowhereLemmas.{involved-none}
use Rattle.set_split.proofs.laws.nothing_is_involved_elsewhere.Goals as goal

pub returns-clause-proc : goal.returns-clause-proc
returns-clause-proc c =
    λ points parent is at. involved-none points parent is (ap has_files at) (ap (λ n. rank n == 0) at)

pub returns-clause-default : goal.returns-clause-default
returns-clause-default c =
    λ points parent is at. involved-none points parent is (ap has_files at) (ap (λ n. rank n == 0) at)
