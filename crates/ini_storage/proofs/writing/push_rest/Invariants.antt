-- The bytes so far, and the signs of what is left, are those of the text.
use Rattle.std.proofs.Common.{◌≡◌, ◌++◌, length, map}
use Rattle.std.specs.List.{flat_map}
use Rattle.model_ini.specs.Signs.{spelled_sign}
use Rattle.model_ini.specs.Text.{cover_blank, at_last}
use Rattle.ini_storage.specs.SideView.{sign_at}
use Rattle.ini_storage.proofs.writing.push_rest.Given as goal

abbrev pub invariant-loop-left : goal.invariant-loop-left
invariant-loop-left l =
    l.bytes.items ++ flat_map spelled_sign (at_last cover_blank (map (sign_at l.side) l.left)) ≡ l.fn.bytes.items ++ flat_map spelled_sign (at_last cover_blank (map (sign_at l.side) l.rest))

abbrev pub decreases-loop-left : goal.decreases-loop-left
decreases-loop-left l = length l.left
