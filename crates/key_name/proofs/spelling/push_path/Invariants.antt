use Rattle.std.proofs.Common.{◌≡◌, ◌++◌, ◌∷◌, string_bytes}
use Rattle.std.specs.List.{flat_map}
use Rattle.model_names.specs.Spelling.{spelled}
use Rattle.key_name.proofs.spelling.push_path.Given as goal

abbrev pub invariant-loop-part : goal.invariant-loop-part
invariant-loop-part l =
    string_bytes l.text ++ flat_map (λ p. 47 ∷ spelled p) l.part-iterator ≡ string_bytes l.initial.text ++ flat_map (λ p. 47 ∷ spelled p) l.parts
