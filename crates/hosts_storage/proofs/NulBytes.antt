-- Bytes without NUL.
use Rattle.std.proofs.Common.{◌≡◌, ◌≢◌, ℕ, ◌<◌, ◌==◌, true, false, List, [], ◌∷◌, sym, ap, ◌∙◌, arith}
use Rattle.std.specs.Prelude.{◌||◌}
use Rattle.std.proofs.lemmas.Bool.{ne_eqb, eqb-false, or_parts}
use Rattle.std.specs.List.{AllByRecursion, list_any}

positive : (b : ℕ) → b ≢ 0 → 0 < b
positive b other = omega arith

pub nul-found : (bytes : List ℕ) → list_any (λ b. b == 0) bytes ≡ true → AllByRecursion (λ b. 0 < b) bytes → ⊥
nul-found [] found all = absurd cc
nul-found (b ∷ bytes) found all =
    let other : (b == 0) ≡ false = ne_eqb b 0 (λ e. let some : 0 < b = all.0 in absurd (omega arith)) in
    nul-found bytes (sym (ap (λ t. t || list_any (λ b. b == 0) bytes) other) ∙ found) all.1

pub nul-nowhere : (bytes : List ℕ) → list_any (λ b. b == 0) bytes ≡ false → AllByRecursion (λ b. 0 < b) bytes
nul-nowhere [] none = tt
nul-nowhere (b ∷ bytes) none =
    let parts = or_parts (b == 0) (list_any (λ b. b == 0) bytes) none in (positive b (eqb-false b 0 parts.0), nul-nowhere bytes parts.1)
