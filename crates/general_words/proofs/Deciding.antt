-- What a test decides, said in other words, and of two things at once.
use Rattle.std.proofs.Common.{◌&&◌, Bool, true, false, refl}
use Rattle.std.specs.Bool.{Decides}

-- what is decided may be said in other words
pub said : {P Q : Type 0} (is : Bool) → (P → Q) → (Q → P) → Decides is P → Decides is Q
said is f g p = (λ e. f (p.0 e), λ h. p.1 (g h))

-- two tests decide together what both say
pub decided_both : {P Q : Type 0} (a b : Bool) → Decides a P → Decides b Q → Decides (a && b) (P × Q)
decided_both true b p q = (λ e. (p.0 refl, q.0 e), λ h. q.1 h.1)
decided_both false b p q = (λ e. absurd cc, λ h. p.1 h.0)
