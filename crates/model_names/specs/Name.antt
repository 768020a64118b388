-- A key's name: a namespace and a list of parts. (Elektra's page on key names; the rules on parts are this project's
-- own.)
use Rattle.std.specs.Prelude.{◌≡◌, ℕ, zero, suc, List, refl}
use Rattle.std.specs.Coded.{Coded, code_by, coded×, coded_list, coded_ℕ}
use Rattle.model_names.specs.declared.namespaces.Namespace.{Namespace}
use Rattle.model_names.specs.declared.namespaces.Namespace.TheVariants.{Cascading, Spec, Proc, Dir, User, System, Default}

-- a part of a name, unescaped, as bytes
abbrev pub Part : Type 0
Part = List ℕ

-- a name: where it stands, and the parts on the way to it
pub record Name : Type 0 where
  pub namespace : Namespace
  pub parts : List Part

-- the place of a namespace in their order
abbrev pub rank : Namespace → ℕ
rank Cascading = 0
rank Spec = 1
rank Proc = 2
rank Dir = 3
rank User = 4
rank System = 5
rank Default = 6

-- the namespace at a place in their order
unfoldable pub namespace_at : ℕ → Namespace
namespace_at zero = Cascading
namespace_at (suc zero) = Spec
namespace_at (suc (suc zero)) = Proc
namespace_at (suc (suc (suc zero))) = Dir
namespace_at (suc (suc (suc (suc zero)))) = User
namespace_at (suc (suc (suc (suc (suc zero))))) = System
namespace_at (suc (suc (suc (suc (suc (suc n)))))) = Default

pub namespace_at-rank : (n : Namespace) → namespace_at (rank n) ≡ n
unfolding namespace_at
namespace_at-rank Cascading = refl
namespace_at-rank Spec = refl
namespace_at-rank Proc = refl
namespace_at-rank Dir = refl
namespace_at-rank User = refl
namespace_at-rank System = refl
namespace_at-rank Default = refl

-- how a proof tells names apart: by the number of the namespace, and the parts
abbrev pub coded_name : Coded Name
coded_name =
    code_by (ℕ × List Part) (coded× coded_ℕ (coded_list (coded_list coded_ℕ))) (λ n. (rank n.namespace, n.parts)) (λ p. record { namespace = namespace_at p.0; parts = p.1 }) (λ n i. record { namespace = namespace_at-rank n.namespace i; parts = n.parts })
