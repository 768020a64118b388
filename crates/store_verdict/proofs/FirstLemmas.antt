-- The first element of which something is told, element by element.
use Rattle.std.proofs.Common.{◌≡◌, Bool, true, false, cond, Option, Some, None, refl, ap}
use Rattle.std.specs.Option.{option_map}

-- what is told under a name, where a test passes
pub told-under : {A B : Type 0} (b : Bool) (o : Option B) (name : A) (found : B) → cond b o None ≡ Some found
    → cond b (option_map {U = A × B} (λ x. (name, x)) o) None ≡ Some (name, found)
told-under true (Some x) name found e = let same : x ≡ found = cc in ap (λ y. Some (name, y)) same
told-under true None name found e = absurd cc
told-under false o name found e = absurd cc

pub told-nothing : {A B : Type 0} (b : Bool) (o : Option B) (name : A) → cond b o None ≡ None
    → cond b (option_map {U = A × B} (λ x. (name, x)) o) None ≡ None
told-nothing true (Some x) name e = absurd cc
told-nothing true None name e = refl
told-nothing false o name e = refl
