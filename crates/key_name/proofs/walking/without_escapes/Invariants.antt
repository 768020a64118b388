use Rattle.std.proofs.Common.{◌≡◌, ◌++◌, List, ℕ, Some, string_bytes}
use Rattle.std.specs.Prelude.{encode_utf8_all}
use Rattle.model_names.specs.Spells.{unescaped}
use Rattle.key_name.proofs.WalkLemmas.{Leads}
use Rattle.key_name.proofs.walking.without_escapes.Given as goal

abbrev pub invariant-loop-letter : goal.invariant-loop-letter
invariant-loop-letter l =
    (left part : List ℕ) → unescaped (encode_utf8_all l.yielded ++ left) ≡ Some part → Leads l.waits (string_bytes l.text) left part
