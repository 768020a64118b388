-- The mountpoints so far.
use Rattle.std.proofs.Common.{◌≡◌, ◌∷◌, ◌++◌, take, string_bytes}
use Rattle.std.specs.List.{flat_map}
use Rattle.std.specs.Prelude.{codes}
use Rattle.kdb_print.specs.Printed.{points_of}
use Rattle.model_quoting.specs.Quoted.{shown}
use Rattle.kdb_print.proofs.commit_lines.line_of_touched.Given as goal

abbrev pub invariant-loop-number : goal.invariant-loop-number
invariant-loop-number l =
    string_bytes l.line ≡ codes "touched" ++ flat_map (λ point. 32 ∷ shown point) (points_of l.mounts (take l.number-index l.touched))
