-- The order of names is total, and only one name ties with a name.
use Rattle.std.proofs.Common.{◌≡◌, refl, sym, ap, ◌∙◌}
use Rattle.std.specs.declared.cmp.Ordering.{Ordering}
use Rattle.std.specs.declared.cmp.Ordering.TheVariants.{Less, Equal, Greater}
use Rattle.std.specs.Ordering.{nat_cmp, ordering_then}
use Rattle.std.specs.Cmp.{IsTotalOrder}
use Rattle.std.specs.Cmp.Lexicographic.{slice_cmp, pointwise_decides, bytes_decides}
use Rattle.std.specs.FinMap.{IsAntisymmetric, nat_cmp-IsAntisymmetric, slice_cmp-IsAntisymmetric}
use Rattle.std.proofs.lemmas.Cmp.{then_total, on_total, nat_cmp_total, nat_list_cmp_total, lists_total}
use Rattle.model_names.specs.declared.namespaces.Namespace.{Namespace}
use Rattle.model_names.specs.Name.{Name, rank, namespace_at, namespace_at-rank}
use Rattle.model_names.specs.Order.{name_cmp, name_eq}
use Rattle.std.specs.Bool.{Decides}
use Rattle.std.proofs.lemmas.Bool.Decides.{Decides-eqb}
use Rattle.general_words.proofs.Deciding.{said, decided_both}

pub name_cmp_total : IsTotalOrder name_cmp
name_cmp_total =
    then_total (on_total (λ (n : Name). rank n.namespace) nat_cmp_total) (on_total (λ (n : Name). n.parts) (lists_total nat_list_cmp_total))

pub same_rank : (m n : Namespace) → rank m ≡ rank n → m ≡ n
same_rank m n e = sym (namespace_at-rank m) ∙ ap namespace_at e ∙ namespace_at-rank n

-- two orders in turn tie only where both do
both_tie : (a b : Ordering) → ordering_then a b ≡ Equal → (a ≡ Equal) × (b ≡ Equal)
both_tie Less b e = absurd cc
both_tie Equal b e = (refl, e)
both_tie Greater b e = absurd cc

pub name_cmp-IsAntisymmetric : IsAntisymmetric name_cmp
name_cmp-IsAntisymmetric x y e =
    let ties = both_tie (nat_cmp (rank x.namespace) (rank y.namespace)) (slice_cmp (slice_cmp nat_cmp) x.parts y.parts) e in
    let namespaces : x.namespace ≡ y.namespace = same_rank x.namespace y.namespace (nat_cmp-IsAntisymmetric (rank x.namespace) (rank y.namespace) ties.0) in
    let parts : x.parts ≡ y.parts = slice_cmp-IsAntisymmetric (slice_cmp-IsAntisymmetric nat_cmp-IsAntisymmetric) x.parts y.parts ties.1 in
    λ i. record { namespace = namespaces i; parts = parts i }

-- names are equal where the comparison says so
pub name_decides : (x y : Name) → Decides (name_eq x y) (x ≡ y)
name_decides x y =
    said (name_eq x y)
    (λ h. λ i. record { namespace = same_rank x.namespace y.namespace h.0 i; parts = h.1 i })
    (λ e. (ap (λ z. rank z.namespace) e, ap (λ z. z.parts) e))
    (decided_both _ _ (Decides-eqb (rank x.namespace) (rank y.namespace)) (pointwise_decides bytes_decides x.parts y.parts))
