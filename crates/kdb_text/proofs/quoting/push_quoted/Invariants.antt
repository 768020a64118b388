use Rattle.std.proofs.Common.{◌≡◌, ◌++◌, string_bytes}
use Rattle.std.specs.List.{flat_map}
use Rattle.std.specs.Prelude.{encode_utf8_all}
use Rattle.model_quoting.specs.Quoted.{quoted_byte}
use Rattle.kdb_text.proofs.quoting.push_quoted.Given as goal

abbrev pub invariant-loop-letter : goal.invariant-loop-letter
invariant-loop-letter l =
    string_bytes l.line ≡ string_bytes l.initial.line ++ flat_map quoted_byte (encode_utf8_all l.yielded)
