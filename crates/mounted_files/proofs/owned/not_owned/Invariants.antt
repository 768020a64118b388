-- The keys so far that the mount doesn't own, with those to come that it doesn't, are all of them.
use Rattle.std.proofs.Common.{◌≡◌, not}
use Rattle.model_names.specs.Name.{Name}
use Rattle.set_split.specs.Involved.{owns}
use Rattle.mounted_files.specs.Owned.{not_owned_by}
use Rattle.set_split.proofs.PassingLemmas.{with_passing}
use Rattle.mounted_files.proofs.owned.not_owned.Given as goal

abbrev pub invariant-loop-name : goal.invariant-loop-name
invariant-loop-name l =
    with_passing (λ (name : Name). not (owns l.points l.i name)) l.name-iterator l.shadow ≡ not_owned_by l.points l.i l.keys
