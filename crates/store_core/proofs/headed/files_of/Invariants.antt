-- The files of the mounts from here on stand in the map.
use Rattle.std.proofs.Common.{◌≡◌, ◌≤◌, length, drop}
use Rattle.std.specs.FinMap as map
use Rattle.model_files.specs.Files.{file_names}
use Rattle.store_core.proofs.headed.files_of.Given as goal

abbrev pub invariant-loop-left : goal.invariant-loop-left
invariant-loop-left l = (l.left ≤ length l.table) × (l.files ≡ map.entries (file_names (drop l.left l.table)))

abbrev pub decreases-loop-left : goal.decreases-loop-left
decreases-loop-left l = l.left
