use Rattle.std.proofs.Common.{◌≡◌, List, [], Some, drop, map, string_bytes}
use Rattle.model_names.specs.Name.{Part}
use Rattle.model_names.specs.Spells.{walked}
use Rattle.key_name.specs.Raws.{texts}
use Rattle.key_name.proofs.walking.walk.Given as goal

abbrev pub invariant-loop-raw : goal.invariant-loop-raw
invariant-loop-raw l =
    (path : List Part) → walked [] (texts l.raws) ≡ Some path → walked (map (λ part. string_bytes part) l.parts.items) (texts (drop l.raw-index l.raws)) ≡ Some path
