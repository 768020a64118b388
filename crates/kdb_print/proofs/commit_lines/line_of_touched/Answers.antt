-- Each turn adds the mountpoint of one mount more.
use Rattle.std.proofs.Common.{◌∙◌, ◌++◌, ◌∷◌, [], ap, append_assoc, get_or, sym, take}
use Rattle.std.specs.List.{flat_map}
use Rattle.std.specs.Prelude.{codes}
use Rattle.kdb_print.proofs.Pushed.{points-more}
use Rattle.kdb_print.specs.Printed.{points_of}
use Rattle.model_quoting.specs.Quoted.{shown}
use Rattle.kdb_print.proofs.commit_lines.line_of_touched.Goals as goal

pub loop-number-preserved : goal.loop-number-preserved
loop-number-preserved c =
    let mounts = c.args.mounts.now in
    let touched = c.args.touched.now in
    let i = c.loop-number.number-index in
    let before = flat_map (λ point. 32 ∷ shown point) (points_of mounts (take i touched)) in
    let one = flat_map (λ point. 32 ∷ shown point) (points_of mounts (get_or touched i 0 ∷ [])) in
    c.in_ok-push_point.ensures
    ∙ (ap (λ line. line ++ one) c.loop-number.invariant
    ∙ (append_assoc (codes "touched") before one ∙ ap (λ points. codes "touched" ++ points) (sym (points-more mounts touched i c.loop-number-test.true))))
