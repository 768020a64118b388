use Rattle.std.proofs.Common.{◌≡◌, ◌∷◌, length, map, take, string_bytes}
use Rattle.std.specs.List.{flat_map}
use Rattle.model_names.specs.Spelling.{spelled}
use Rattle.key_name.proofs.measuring.path_len.Given as goal

abbrev pub invariant-loop-part : goal.invariant-loop-part
invariant-loop-part l =
    l.bytes ≡ length (flat_map (λ p. 47 ∷ spelled p) (map (λ part. string_bytes part) (take l.part-index l.parts)))
