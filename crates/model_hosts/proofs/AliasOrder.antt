-- In name order an alias stands behind its host, with no other host between them.
use Rattle.std.specs.Prelude.{◌≡◌, ◌≢◌, ◌⊎◌, true, false, T, List, [], ◌∷◌, ◌++◌, length, Some}
use Rattle.std.proofs.Common.{refl, sym, ap, subst, ◌∙◌, append_assoc, inl, inr}
use Rattle.std.specs.FinMap as finite
use Rattle.std.specs.FinMap.{is_sorted}
use Rattle.std.specs.List.{AllByRecursion}
use Rattle.std.specs.Ordering.{is_lt, ordering_reverse}
use Rattle.std.specs.declared.cmp.Ordering.{Ordering}
use Rattle.std.specs.declared.cmp.Ordering.TheVariants.{Less}
use Rattle.general_words.proofs.Tests.{true_of}
use Rattle.general_words.proofs.Lists.{all_append}
use Rattle.model_names.specs.Below.{is_at_or_below}
use Rattle.model_names.specs.Name.{Part, Name}
use Rattle.model_names.specs.Order.{name_cmp}
use Rattle.model_names.proofs.BelowLemmas.{at_or_below-rest, is_at_or_below-Decides}
use Rattle.model_names.proofs.BelowOrder.{at_or_below-not_before, at_or_below-between}
use Rattle.model_names.proofs.OrderLemmas.{name_cmp_total}
use Rattle.model_maps.specs.Entry.{Entry}
use Rattle.model_maps.specs.KeyMap.{KeyMap}
use Rattle.model_lines.proofs.AllLemmas.{all-weaker}
use Rattle.model_formats.proofs.HoldingLemmas.{EachHas-entries}
use Rattle.model_lines.proofs.SortedKeys.{below, before_all, below_each, sorted-behind}
use Rattle.model_hosts.specs.Keys.{host_name, alias_name}

-- an alias's name is below its host's
alias_below : (x y a : Part) → T (is_at_or_below (host_name x y) (alias_name x y a))
alias_below x y a =
    subst T (sym ((is_at_or_below-Decides (host_name x y) (alias_name x y a)).1 (inr (record { same_namespace = refl; more = a ∷ []; some_more = λ e. absurd cc; parts = refl })))) tt

no_less : (r : Ordering) → r ≡ Less → is_lt r ≡ false → ⊥
no_less r e h = let clash : true ≡ false = sym (ap is_lt e) ∙ h in absurd cc

-- so it isn't before it
alias_not_before : (x y a : Part) → name_cmp (alias_name x y a) (host_name x y) ≡ Less → ⊥
alias_not_before x y a e =
    no_less (name_cmp (alias_name x y a) (host_name x y)) e (at_or_below-not_before (host_name x y) (alias_name x y a) (alias_below x y a))

-- and a host between them is the same host
host_between : (x y a f h : Part) → name_cmp (host_name x y) (host_name f h) ≡ Less
    → name_cmp (host_name f h) (alias_name x y a) ≡ Less → (x ≡ f) × (y ≡ h)
host_between x y a f h above before =
    let behind : is_lt (name_cmp (host_name f h) (host_name x y)) ≡ false = ap is_lt (name_cmp_total.antisymm (host_name f h) (host_name x y) ∙ ap ordering_reverse above) in
    let under = at_or_below-between (host_name x y) (host_name f h) (alias_name x y a) (alias_below x y a) before behind in
    let parts : f ∷ h ∷ [] ≡ x ∷ y ∷ [] = (at_or_below-rest (host_name x y) (host_name f h) (true_of _ under)).1 in
    (cc, cc)

-- where a name may stand in a list with a host, its aliases, and an alias behind them
abbrev Place : Name → Name → Name → Type 0
Place host alias n = (name_cmp n host ≡ Less) ⊎ ((n ≡ host) ⊎ ((length n.parts ≢ 2) ⊎ (name_cmp alias n ≡ Less)))

module _ (whole : KeyMap) (front : List (Name × Entry)) (f h : Part) (host_entry : Entry) (aliases : List (Name × Entry)) (x y a : Part) (alias_entry : Entry) (rest : List (Name × Entry))
    (cut : finite.entries whole ≡ front ++ (host_name f h, host_entry) ∷ (aliases ++ (alias_name x y a, alias_entry) ∷ rest))
    (no_hosts : AllByRecursion (λ (key : Name × Entry). length key.0.parts ≢ 2) aliases) where
  host : Name × Entry
  host = (host_name f h, host_entry)

  alias : Name × Entry
  alias = (alias_name x y a, alias_entry)

  sorted : T (is_sorted name_cmp (front ++ host ∷ (aliases ++ alias ∷ rest)))
  unfolding host alias
  sorted = subst (λ es. T (is_sorted name_cmp es)) cut (finite.entries_sorted whole)

  host_before : name_cmp (host_name f h) (alias_name x y a) ≡ Less
  unfolding host alias
  host_before =
      below (host_name f h) aliases (alias_name x y a, alias_entry) rest (sorted-behind front host (aliases ++ alias ∷ rest) sorted)

  places : AllByRecursion (λ (key : Name × Entry). Place (host_name f h) (alias_name x y a) key.0) (front ++ host ∷ (aliases ++ alias ∷ rest))
  unfolding host alias
  places =
      let P : Name × Entry → Type 0 = λ key. Place (host_name f h) (alias_name x y a) key.0 in
      let again : T (is_sorted name_cmp ((front ++ host ∷ aliases) ++ alias ∷ rest)) = subst (λ es. T (is_sorted name_cmp es)) (sym (append_assoc front (host ∷ aliases) (alias ∷ rest))) sorted in
      all_append P front (host ∷ (aliases ++ alias ∷ rest)) (all-weaker (λ (key : Name × Entry). name_cmp key.0 (host_name f h) ≡ Less) P (λ key e. inl e) front (before_all front host (aliases ++ alias ∷ rest) sorted)) (
        inr (inl refl),
        all_append P aliases (alias ∷ rest) (all-weaker (λ (key : Name × Entry). length key.0.parts ≢ 2) P (λ key n. inr (inr (inl n))) aliases no_hosts) (
          inr (inr (inl (λ e. absurd cc))),
          all-weaker (λ (key : Name × Entry). name_cmp (alias_name x y a) key.0 ≡ Less) P (λ key e. inr (inr (inr e))) rest (below_each (alias_name x y a) rest (sorted-behind (front ++ host ∷ aliases) alias rest again)),
        ),
      )

  -- the host of an alias is the last host before it
  pub alias_follows : (entry : Entry) → finite.get whole (host_name x y) ≡ Some entry → (x ≡ f) × (y ≡ h)
  unfolding host alias
  alias_follows entry found =
      let all = subst (λ es. AllByRecursion (λ (key : Name × Entry). Place (host_name f h) (alias_name x y a) key.0) es) (sym cut) places in
      elim (EachHas-entries (λ n _. Place (host_name f h) (alias_name x y a) n) whole all (host_name x y) entry found) [
        | inl before ↦ host_between x y a f h before host_before
        | inr other ↦ elim other [
          | inl same ↦ let parts : x ∷ y ∷ [] ≡ f ∷ h ∷ [] = ap (λ (n : Name). n.parts) same in (cc, cc)
          | inr other ↦ elim other [
            | inl no_host ↦ absurd (no_host refl)
            | inr behind ↦ absurd (alias_not_before x y a behind)
          ]
        ]
      ]

-- no alias stands first
pub alias_not_first : (whole : KeyMap) (x y a : Part) (alias_entry : Entry) (rest : List (Name × Entry))
    → finite.entries whole ≡ (alias_name x y a, alias_entry) ∷ rest → (entry : Entry)
    → finite.get whole (host_name x y) ≡ Some entry → ⊥
alias_not_first whole x y a alias_entry rest cut entry found =
    let alias : Name × Entry = (alias_name x y a, alias_entry) in
    let P : Name × Entry → Type 0 = λ key. (length key.0.parts ≢ 2) ⊎ (name_cmp (alias_name x y a) key.0 ≡ Less) in
    let sorted : T (is_sorted name_cmp (alias ∷ rest)) = subst (λ es. T (is_sorted name_cmp es)) cut (finite.entries_sorted whole) in
    let places : AllByRecursion P (alias ∷ rest) = (inl (λ e. absurd cc), all-weaker (λ (key : Name × Entry). name_cmp (alias_name x y a) key.0 ≡ Less) P (λ key e. inr e) rest (below_each (alias_name x y a) rest (sorted-behind [] alias rest sorted))) in
    elim (EachHas-entries (λ n e. P (n, e)) whole (subst (λ es. AllByRecursion P es) (sym cut) places) (host_name x y) entry found) [
      | inl no_host ↦ absurd (no_host refl)
      | inr behind ↦ absurd (alias_not_before x y a behind)
    ]
