-- Names keep their order behind a point.
use Rattle.std.specs.Prelude.{◌≡◌, List, [], ◌∷◌, ◌++◌, refl}
use Rattle.std.proofs.Common.{ap, sym, ◌∙◌}
use Rattle.std.specs.Cmp.{IsTotalOrder, nat_cmp_total, tied_itself}
use Rattle.std.specs.Cmp.Lexicographic.{nat_list_cmp_total, slice_cmp}
use Rattle.std.specs.Ordering.{nat_cmp, ordering_then}
use Rattle.std.specs.declared.cmp.Ordering.{Ordering}
use Rattle.std.specs.declared.cmp.Ordering.TheVariants.{Less, Equal}
use Rattle.key_name.specs.Joining.{joined}
use Rattle.model_names.specs.declared.namespaces.Namespace.TheVariants.{Cascading}
use Rattle.model_names.specs.Name.{Name, rank}
use Rattle.model_names.specs.Order.{name_cmp}

-- what stands behind a common front decides
cmp_behind : {A : Type 0} {R : A → A → Ordering} (total : IsTotalOrder R) (front xs ys : List A)
    → slice_cmp R (front ++ xs) (front ++ ys) ≡ slice_cmp R xs ys
cmp_behind total [] xs ys = refl
cmp_behind {R} total (x ∷ front) xs ys =
    ap (λ r. ordering_then r (slice_cmp R (front ++ xs) (front ++ ys))) (tied_itself total x)
    ∙ cmp_behind total front xs ys

pub joined_order : (point x y : Name) → x.namespace ≡ Cascading → y.namespace ≡ Cascading → name_cmp x y ≡ Less
    → name_cmp (joined point x) (joined point y) ≡ Less
joined_order point x y first second lt =
    let tied : nat_cmp (rank x.namespace) (rank y.namespace) ≡ Equal = (λ i. nat_cmp (rank (first i)) (rank (second i))) ∙ tied_itself nat_cmp_total (rank Cascading) in
    ap (λ r. ordering_then r (slice_cmp (slice_cmp nat_cmp) (point.parts ++ x.parts) (point.parts ++ y.parts))) (tied_itself nat_cmp_total (rank point.namespace))
    ∙ cmp_behind nat_list_cmp_total point.parts x.parts y.parts
    ∙ sym (ap (λ r. ordering_then r (slice_cmp (slice_cmp nat_cmp) x.parts y.parts)) tied)
    ∙ lt
