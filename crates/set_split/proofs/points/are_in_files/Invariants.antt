-- Each point so far is where keys stand in files.
use Rattle.std.proofs.Common.{◌≡◌, true, take}
use Rattle.std.specs.List.{list_all}
use Rattle.model_names.specs.Namespaces.{has_files}
use Rattle.set_split.proofs.points.are_in_files.Given as goal

abbrev pub invariant-loop-point : goal.invariant-loop-point
invariant-loop-point l = list_all (λ point. has_files point.namespace) (take l.point-index l.points) ≡ true
