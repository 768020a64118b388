-- The test of names at or below a name decides the relation.
use Rattle.std.specs.Prelude.{◌≡◌, true, nat_eq, List, [], ◌∷◌, ◌++◌}
use Rattle.std.proofs.Common.{length, drop, refl, sym, ap, ◌∙◌, inl, inr}
use Rattle.std.specs.Bool.{Decides}
use Rattle.std.specs.Cmp.Lexicographic.{pointwise}
use Rattle.std.specs.List.{starts_with}
use Rattle.std.proofs.lemmas.Bool.{and_from, and_parts, eq-eqb, eqb-true}
use Rattle.std.proofs.lemmas.List.{append-nil}
use Rattle.std.proofs.lemmas.Slice.Eq.{bytes_eq-Decides, starts_is}
use Rattle.model_names.specs.Below.{IsBelowOrSame, is_at_or_below}
use Rattle.model_names.specs.Name.{Name, Part, rank}
use Rattle.model_names.proofs.OrderLemmas.{same_rank}

same_name : (a b : Name) → a.namespace ≡ b.namespace → a.parts ≡ b.parts → a ≡ b
same_name a b n p = λ i. record { namespace = n i; parts = p i }

-- parts that go on from another name's
below_or_same : (name above : Name) (rest : List Part) → name.namespace ≡ above.namespace
    → name.parts ≡ above.parts ++ rest → IsBelowOrSame name above
below_or_same name above [] n p = inl (same_name name above n (p ∙ append-nil above.parts))
below_or_same name above (part ∷ rest) n p =
    inr (record { same_namespace = n; more = part ∷ rest; some_more = λ e. absurd (cc); parts = p })

front : (above name : Name)
    → (starts_with (pointwise nat_eq) name.parts above.parts ≡ true → name.parts ≡ above.parts ++ drop (length above.parts) name.parts)
    × ((rest : List Part) → name.parts ≡ above.parts ++ rest → starts_with (pointwise nat_eq) name.parts above.parts ≡ true)
front above name = starts_is bytes_eq-Decides name.parts above.parts _ refl

at_or_below-true : (above name : Name) (rest : List Part) → name.namespace ≡ above.namespace
    → name.parts ≡ above.parts ++ rest → is_at_or_below above name ≡ true
at_or_below-true above name rest n p =
    and_from _ _ (eq-eqb (rank name.namespace) (rank above.namespace) (ap rank n)) ((front above name).1 rest p)

-- a name at or below another is in its namespace, and its parts are the other's and the rest
pub at_or_below-rest : (above name : Name) → is_at_or_below above name ≡ true
    → (name.namespace ≡ above.namespace) × (name.parts ≡ above.parts ++ drop (length above.parts) name.parts)
at_or_below-rest above name e =
    let both = and_parts (nat_eq (rank name.namespace) (rank above.namespace)) (starts_with (pointwise nat_eq) name.parts above.parts) e in
    (same_rank name.namespace above.namespace (eqb-true _ _ both.0), (front above name).0 both.1)

pub is_at_or_below-Decides : (above name : Name) → Decides (is_at_or_below above name) (IsBelowOrSame name above)
is_at_or_below-Decides above name = (below, test)
  where
    below : is_at_or_below above name ≡ true → IsBelowOrSame name above
    below e = let rest = at_or_below-rest above name e in below_or_same name above _ rest.0 rest.1

    test : IsBelowOrSame name above → is_at_or_below above name ≡ true
    test (inl e) =
        at_or_below-true above name [] (ap (λ n. n.namespace) e) (ap (λ n. n.parts) e ∙ sym (append-nil above.parts))
    test (inr h) = at_or_below-true above name h.more h.same_namespace h.parts
