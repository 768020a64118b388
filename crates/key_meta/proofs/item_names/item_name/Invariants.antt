-- Underscores stand behind the number sign.
use Rattle.std.proofs.Common.{◌≡◌, ◌∷◌, ◌++◌, replicate, string_bytes}
use Rattle.key_meta.proofs.item_names.item_name.Given as goal

abbrev pub invariant-loop-written : goal.invariant-loop-written
invariant-loop-written l = string_bytes l.name ≡ l.array ++ (47 ∷ 35 ∷ replicate l._written 95)
