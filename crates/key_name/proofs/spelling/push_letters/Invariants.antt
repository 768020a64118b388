use Rattle.std.proofs.Common.{◌≡◌, ◌++◌, string_bytes}
use Rattle.std.specs.List.{flat_map}
use Rattle.std.specs.Prelude.{encode_utf8_all}
use Rattle.model_names.specs.Spelling.{escaped}
use Rattle.key_name.proofs.spelling.push_letters.Given as goal

abbrev pub invariant-loop-letter : goal.invariant-loop-letter
invariant-loop-letter l =
    string_bytes l.text ≡ string_bytes l.initial.text ++ flat_map escaped (encode_utf8_all l.yielded)
