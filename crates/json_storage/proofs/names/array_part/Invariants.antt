-- Underscores stand behind the number sign.
use Rattle.std.proofs.Common.{◌≡◌, ◌∷◌, replicate, string_bytes}
use Rattle.json_storage.proofs.names.array_part.Given as goal

abbrev pub invariant-loop-written : goal.invariant-loop-written
invariant-loop-written l = string_bytes l.part ≡ 35 ∷ replicate l._written 95
