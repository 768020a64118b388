use Rattle.std.proofs.Common.{◌≡◌, length}
use Rattle.model_names.specs.ArrayPart.{without_underscores}
use denote.Shadow.{shadow}
use denote.Text.{Utf8}
use Rattle.json_storage.proofs.names.behind_underscores.Given as goal

abbrev pub invariant-loop-rest : goal.invariant-loop-rest
invariant-loop-rest l = (without_underscores l.fn.text ≡ without_underscores l.left) × shadow (Utf8 l.left)

abbrev pub decreases-loop-rest : goal.decreases-loop-rest
decreases-loop-rest l = length l.left
