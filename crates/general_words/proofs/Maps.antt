-- Finite maps: how entries make them, and what an insertion, a removal and a test of their keys give.
use Rattle.std.proofs.Common.{◌≡◌, ℕ, ◌+◌, Bool, true, false, cond, not, T, List, [], ◌∷◌, length, take, slice_get, Option, Some, None, refl, sym, ap, subst, ◌∙◌, arith}
use Rattle.std.specs.Prelude.{sum_by}
use Rattle.std.specs.Cmp.{IsTotalOrder, eq_by_cmp_equiv}
use Rattle.std.specs.FinMap as map
use Rattle.std.specs.FinMap.{FinMap, IsAntisymmetric, find, is_sorted}
use Rattle.std.specs.FinMap.Entries.{by_order, put, where_key, find-where_key, is_sorted-put, is_sorted-where_key}
use Rattle.std.specs.Ordering.{eq_by_cmp, is_eq}
use Rattle.std.specs.declared.cmp.Ordering.{Ordering}
use Rattle.std.specs.declared.cmp.Ordering.TheVariants.{Less, Equal, Greater}
use Rattle.std.proofs.lemmas.Bool.{cond-true}
use Rattle.std.proofs.lemmas.List.{nil_from_length}
use Rattle.std.proofs.lemmas.List.Sums.{sum_by-cons}
use Rattle.general_words.proofs.Tests.{shadowed}
use Rattle.general_words.proofs.Orders.{tied, itself}
use Rattle.general_words.proofs.Entries.{find-front, find-next}

-- ---- the map of no entries

-- no entries make the empty map
pub from_sorted-nil : {K X : Type 0} (R : K → K → Ordering) → map.from_sorted {X = X} {R = R} [] ≡ map.empty
from_sorted-nil R =
    map.empty_of_len _ (map.len-entries (map.from_sorted []) ∙ ap length (map.entries-from_sorted R [] tt))

-- the empty map has no entries
pub entries-empty : {K : Type 0} (R : K → K → Ordering) (X : Type 0) → map.entries (map.empty {X = X} {R = R}) ≡ []
entries-empty R X = nil_from_length _ (sym (map.len-entries (map.empty {X = X} {R = R})) ∙ map.len-empty R X)

-- ---- what a change of entries in the order of their keys does to the map that they make

module _ {K X : Type 0} (R : K → K → Ordering) (o : IsTotalOrder R) where
  -- an entry put among the entries is inserted into the map
  pub from_sorted-put : (es : List (K × X)) (k : K) (v : X) → T (is_sorted R es)
      → map.from_sorted {R = R} (put R k v es) ≡ map.insert (map.from_sorted es) k v
  from_sorted-put es k v h = map.same_entries_map _ _ (
      map.entries-from_sorted R (put R k v es) (is_sorted-put R o k v es h)
      ∙ ap (put R k v) (sym (map.entries-from_sorted R es h))
      ∙ sym (map.entries-insert o (map.from_sorted es) k v))

  module _ (same : IsAntisymmetric R) where
    -- the entries whose keys pass a test make the map of those keys
    pub from_sorted-where_key : (es : List (K × X)) (p : K → Bool) → T (is_sorted R es)
        → map.from_sorted {R = R} (where_key R p es) ≡ map.retain_keys (map.from_sorted es) p
    from_sorted-where_key es p h = map.same_map o same _ _ (λ q.
        let alike : (x : K) → R q x ≡ Equal → p x ≡ p q = λ x t. ap p (sym (same q x t)) in
        map.get-from_sorted R (where_key R p es) q (is_sorted-where_key R p es h)
        ∙ find-where_key R p q alike es
        ∙ ap (λ v. cond (p q) v None) (sym (map.get-from_sorted R es q h))
        ∙ sym (map.get-retain_keys (map.from_sorted es) p q alike))

    negated : (b : Bool) (v : Option X) → cond (not b) v None ≡ cond b None v
    negated true v = refl
    negated false v = refl

    -- without the entry of a key they make the map from which it is removed
    pub from_sorted-without : (es : List (K × X)) (k : K) → T (is_sorted R es)
        → map.from_sorted {R = R} (where_key R (λ x. not (eq_by_cmp R k x)) es) ≡ map.remove (map.from_sorted es) k
    from_sorted-without es k h = map.same_map o same _ _ (λ q.
        let p : K → Bool = λ x. not (eq_by_cmp R k x) in
        let alike : (x : K) → R q x ≡ Equal → p x ≡ p q = λ x t. ap p (sym (same q x t)) in
        map.get-from_sorted R (where_key R p es) q (is_sorted-where_key R p es h)
        ∙ find-where_key R p q alike es
        ∙ negated (eq_by_cmp R k q) (find R q es)
        ∙ ap (λ b. cond b None (find R q es)) ((eq_by_cmp_equiv o).symm k q)
        ∙ ap (cond (eq_by_cmp R q k) None) (sym (map.get-from_sorted R es q h))
        ∙ sym (map.get-remove o (map.from_sorted es) k q))

-- ---- insertions and removals, one after another

module _ {K X : Type 0} {R : K → K → Ordering} (total : IsTotalOrder R) where
  -- a key that was inserted is found
  pub get-insert_same : (m : FinMap R X) (k : K) (v : X) → map.get (map.insert m k v) k ≡ Some v
  get-insert_same m k v = map.get-insert total m k v k ∙ ap (λ b. cond b (Some v) (map.get m k)) (itself total k)

  -- an entry that stands at a place is found
  pub get-at : (m : FinMap R X) (i : ℕ) (e : K × X) → Some e ≡ slice_get (map.entries m) i → map.get m e.0 ≡ Some e.1
  get-at m i e there =
      map.get-entries m e.0
      ∙ find-front R (i + 1) (map.entries m) e.0 e.1 (find-next total (map.entries m) i e e.0 (map.entries_sorted m) there ∙ cond-true (eq_by_cmp R e.0 e.0) (Some e.1) (find R e.0 (take i (map.entries m))) (itself total e.0))

  module _ (same : IsAntisymmetric R) where
    -- of two values at one key the last stays
    pub insert-insert : (m : FinMap R X) (k : K) (v w : X) → map.insert (map.insert m k v) k w ≡ map.insert m k w
    insert-insert m k v w = map.same_map total same _ _ (λ q.
        map.get-insert total (map.insert m k v) k w q
        ∙ ap (cond (eq_by_cmp R q k) (Some w)) (map.get-insert total m k v q)
        ∙ shadowed (eq_by_cmp R q k) (Some w) (Some v) (map.get m q)
        ∙ sym (map.get-insert total m k w q))

    -- to take a key out before it is set changes nothing
    pub insert-remove : (m : FinMap R X) (k : K) (v : X) → map.insert (map.remove m k) k v ≡ map.insert m k v
    insert-remove m k v = map.same_map total same _ _ (λ q.
        map.get-insert total (map.remove m k) k v q
        ∙ ap (cond (eq_by_cmp R q k) (Some v)) (map.get-remove total m k q)
        ∙ shadowed (eq_by_cmp R q k) (Some v) None (map.get m q)
        ∙ sym (map.get-insert total m k v q))

    -- what holds of each entry holds with one more
    pub each-insert : (P : K → X → Type 0) (m : FinMap R X) (k : K) (v : X)
        → ((q : K) (x : X) → map.get m q ≡ Some x → P q x) → P k v → (q : K) (x : X)
        → map.get (map.insert m k v) q ≡ Some x → P q x
    each-insert P m k v each one q x found =
        elim (eq_by_cmp R q k) as (λ b. eq_by_cmp R q k ≡ b → cond b (Some v) (map.get m q) ≡ Some x → P q x) [
          | true ↦ λ is h.
              let alike : q ≡ k = same q k (tied _ is) in
              let this : v ≡ x = cc in
              subst (λ (y : X). P q y) this (subst (λ (z : K). P z v) (sym alike) one)
          | false ↦ λ is h. each q x h
        ] refl (sym (map.get-insert total m k v q) ∙ found)

    -- ---- the keys that pass a test

    pub get-retain : (m : FinMap R X) (p : K → Bool) (q : K)
        → map.get (map.retain_keys m p) q ≡ cond (p q) (map.get m q) None
    get-retain m p q = map.get-retain_keys m p q (λ x t. ap p (sym (same q x t)))

    pub entries-retain : (m : FinMap R X) (p : K → Bool) → map.entries (map.retain_keys m p) ≡ where_key R p (map.entries m)
    entries-retain m p =
        let es = map.entries m in
        let whole : map.from_sorted es ≡ m = map.same_entries_map (map.from_sorted es) m (map.entries-from_sorted R es (map.entries_sorted m)) in
        ap map.entries (ap (λ n. map.retain_keys n p) (sym whole) ∙ sym (from_sorted-where_key R total same es p (map.entries_sorted m)))
        ∙ map.entries-from_sorted R (where_key R p es) (is_sorted-where_key R p es (map.entries_sorted m))

-- ---- sums over the entries

-- a new entry stands before the first, or behind it: the sum grows by it either way
placed : {K X : Type 0} (f : (K × X) → ℕ) (new e : K × X) (es puts tied : List (K × X)) (o : Ordering) (rest : Option X)
    → cond (is_eq o) (Some e.1) rest ≡ None → (rest ≡ None → sum_by f puts ≡ sum_by f es + f new)
    → sum_by f (by_order o (new ∷ e ∷ es) tied (e ∷ puts)) ≡ sum_by f (e ∷ es) + f new
placed f new e es puts tied Less rest none step = omega (arith, sum_by-cons f new (e ∷ es))
placed f new e es puts tied Equal rest none step = absurd cc
placed f new e es puts tied Greater rest none step = omega (arith, sum_by-cons f e puts, sum_by-cons f e es, step none)

sum_by-put : {K X : Type 0} (R : K → K → Ordering) (f : (K × X) → ℕ) (k : K) (v : X) (es : List (K × X))
    → find R k es ≡ None → sum_by f (put R k v es) ≡ sum_by f es + f (k, v)
sum_by-put R f k v [] none = omega (arith, sum_by-cons f (k, v) [])
sum_by-put R f k v (e ∷ es) none =
    placed f (k, v) e es (put R k v es) ((e.0, v) ∷ es) (R k e.0) (find R k es) none (sum_by-put R f k v es)

-- a key that the map has not adds its own part to a sum over the entries
pub sum_by-insert : {K X : Type 0} {R : K → K → Ordering} (total : IsTotalOrder R) (f : (K × X) → ℕ) (m : FinMap R X)
    (k : K) (v : X) → map.get m k ≡ None
    → sum_by f (map.entries (map.insert m k v)) ≡ sum_by f (map.entries m) + f (k, v)
sum_by-insert {R = R} total f m k v none =
    ap (sum_by f) (map.entries-insert total m k v)
    ∙ sum_by-put R f k v (map.entries m) (sym (map.get-entries m k) ∙ none)

-- a sum over no entries
pub sum_by-empty : {K X : Type 0} (R : K → K → Ordering) (f : (K × X) → ℕ)
    → sum_by f (map.entries (map.empty {X = X} {R = R})) ≡ 0
sum_by-empty {X = X} R f = ap (sum_by f) (entries-empty R X)
