-- The lines so far lead to what the code keeps.
use Rattle.std.proofs.Common.{◌+◌, ◌≤◌, List, [], length}
use Rattle.file_lines.proofs.Reading.{HasRead}
use Rattle.batch_script.specs.declared.items.Item.{Item}
use Rattle.batch_script.specs.Progresses.{IsProgress}
use Rattle.batch_script.specs.Scripts.{Adds}
use Rattle.batch_script.proofs.reading.parse_script.Given as goal

abbrev pub invariant-loop-rest : goal.invariant-loop-rest
invariant-loop-rest l =
    (items : List Item) × HasRead Adds [] l.bytes l.rest items l.number × IsProgress l.progress items × (l.number + length l.rest ≤ length l.bytes + 1)

abbrev pub decreases-loop-rest : goal.decreases-loop-rest
decreases-loop-rest l = length l.rest
