-- The parts of a name by their places.
use Rattle.std.proofs.Common.{◌≡◌, ℕ, zero, suc, ◌+◌, ◌-◌, ◌<◌, List, [], ◌∷◌, length, None, Some, refl, arith}
use Rattle.std.specs.Prelude.{slice_get}
use Rattle.model_names.specs.Name.{Part}
use Rattle.model_hosts.specs.Text.{last_part}

last-at : (parts : List Part) (i : ℕ) (part : Part) → i + 1 ≡ length parts → Some part ≡ slice_get parts i
    → part ≡ last_part parts
last-at [] i part n e = absurd (omega arith)
last-at (p ∷ []) zero part n e = cc
last-at (p ∷ []) (suc i) part n e = absurd (omega arith)
last-at (p ∷ q ∷ parts) zero part n e = absurd (omega arith)
last-at (p ∷ q ∷ parts) (suc i) part n e = last-at (q ∷ parts) i part (omega arith) e

there : (parts : List Part) (i : ℕ) → i < length parts → None ≡ slice_get parts i → ⊥
there [] i within e = absurd (omega arith)
there (p ∷ parts) zero within e = absurd cc
there (p ∷ parts) (suc i) within e = there parts i (omega arith) e

pub last_part-some : (parts : List Part) (part : Part) → Some part ≡ slice_get parts (length parts - 1)
    → part ≡ last_part parts
last_part-some [] part e = absurd cc
last_part-some (p ∷ parts) part e = last-at (p ∷ parts) (length (p ∷ parts) - 1) part (omega arith) e

pub last_part-none : (parts : List Part) → None ≡ slice_get parts (length parts - 1)
    → ◌≡◌ {A = List ℕ} [] (last_part parts)
last_part-none [] e = refl
last_part-none (p ∷ parts) e = absurd (there (p ∷ parts) (length (p ∷ parts) - 1) (omega arith) e)

-- a list of two parts, and of three
pub two_parts : (parts : List Part) (p q : Part) → length parts ≡ 2 → Some p ≡ slice_get parts 0
    → Some q ≡ slice_get parts 1 → parts ≡ p ∷ q ∷ []
two_parts [] p q n a b = absurd (omega arith)
two_parts (x ∷ []) p q n a b = absurd (omega arith)
two_parts (x ∷ y ∷ []) p q n a b = cc
two_parts (x ∷ y ∷ z ∷ parts) p q n a b = absurd (omega arith)

pub three_parts : (parts : List Part) (p q r : Part) → length parts ≡ 3 → Some p ≡ slice_get parts 0
    → Some q ≡ slice_get parts 1 → Some r ≡ slice_get parts 2 → parts ≡ p ∷ q ∷ r ∷ []
three_parts [] p q r n a b d = absurd (omega arith)
three_parts (x ∷ []) p q r n a b d = absurd (omega arith)
three_parts (x ∷ y ∷ []) p q r n a b d = absurd (omega arith)
three_parts (x ∷ y ∷ z ∷ []) p q r n a b d = cc
three_parts (x ∷ y ∷ z ∷ w ∷ parts) p q r n a b d = absurd (omega arith)
