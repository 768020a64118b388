-- What a set has at a name once the defaults are made.
use Rattle.std.proofs.Common.{◌≡◌, ◌⊎◌, ℕ, Bool, true, false, cond, not, ◌&&◌, T, List, [], ◌∷◌, Option, Some, None, refl, sym, ap, subst, ◌∙◌, inl, inr}
use Rattle.std.specs.Prelude.{nat_eq, codes, if◌then◌else◌, option_and_then}
use Rattle.std.specs.FinMap as map
use Rattle.std.specs.FinMap.{find, is_sorted}
use Rattle.std.specs.FinMap.Entries.{below_all, where_key}
use Rattle.std.specs.List.{AllByRecursion, flat_map, starts_with}
use Rattle.std.specs.Option.{option_map, option_or, option_to_list}
use Rattle.std.specs.Ordering.{eq_by_cmp}
use Rattle.std.proofs.lemmas.Bool.Decides.{Decides-eqb}
use Rattle.std.proofs.lemmas.Bool.{and_parts}
use Rattle.std.specs.Cmp.Lexicographic.{pointwise}
use Rattle.general_words.proofs.Entries.{find-below}
use Rattle.general_words.proofs.Lookups.{tied_or_not}
use Rattle.general_words.proofs.Maps.{entries-retain}
use Rattle.general_words.proofs.Orders.{itself}
use Rattle.general_words.proofs.Tests.{first, second}
use Rattle.model_names.specs.declared.namespaces.Namespace.TheVariants.{Spec, Default}
use Rattle.model_names.specs.Below.{is_at_or_below}
use Rattle.model_names.specs.Name.{Name, rank}
use Rattle.model_names.specs.Order.{name_cmp}
use Rattle.model_names.proofs.OrderLemmas.{name_cmp_total, name_cmp-IsAntisymmetric, same_rank}
use Rattle.model_maps.specs.Entry.{Entry, plain_entry}
use Rattle.model_maps.specs.KeyMap.{KeyMap}
use Rattle.key_set.specs.WithAll.{with_keys}
use Rattle.key_set.proofs.WithAllLemmas.{with_keys-append}
use Rattle.model_specified.specs.Globs.{has_glob}
use Rattle.model_specified.specs.SpecMeta.{spec_keys, spec_name}
use Rattle.model_specified.specs.Specified.{default_at, default_name, default_of, default_text, with_defaults}

-- what a key of `spec:` makes of a name
abbrev made_by : Name → Name × Entry → Option Entry
made_by q spec =
    cond (eq_by_cmp name_cmp q (default_name spec.0.parts)) (cond (has_glob spec.0.parts) None (default_text spec.1)) None

skipped : {A : Type 0} (b : Bool) (o : Option A) → o ≡ option_or (cond b None None) o
skipped true o = refl
skipped false o = refl

chosen : {A : Type 0} (b : Bool) (x : A) (o : Option A) → cond b (Some x) o ≡ option_or (cond b (Some x) None) o
chosen true x o = refl
chosen false x o = refl

-- a name once the default of one key is made
get-one : (q : Name) (spec : Name × Entry) (keys : KeyMap)
    → map.get (with_keys (default_of spec) keys) q ≡ option_or (made_by q spec) (map.get keys q)
get-one q spec keys = by (has_glob spec.0.parts) (map.get spec.1.meta (codes "default"))
  where
    by : (glob : Bool) (o : Option (List ℕ))
        → map.get (with_keys (if glob then [] else option_to_list (option_map (λ text. (default_name spec.0.parts, plain_entry text)) o)) keys) q
        ≡ option_or (cond (eq_by_cmp name_cmp q (default_name spec.0.parts)) (cond glob None (option_map plain_entry o)) None) (map.get keys q)
    by true o = skipped (eq_by_cmp name_cmp q (default_name spec.0.parts)) (map.get keys q)
    by false None = skipped (eq_by_cmp name_cmp q (default_name spec.0.parts)) (map.get keys q)
    by false (Some text) =
        map.get-insert name_cmp_total keys (default_name spec.0.parts) (plain_entry text) q
        ∙ chosen (eq_by_cmp name_cmp q (default_name spec.0.parts)) (plain_entry text) (map.get keys q)

-- a name is one that a key of `spec:` with its path makes
abbrev is_made : Name → Bool
is_made q = nat_eq (rank q.namespace) (rank Default)

-- what some keys of `spec:` make of a name, by the one that has its path
abbrev made_in : Name → List (Name × Entry) → Option Entry
made_in q specs =
    if is_made q && not (has_glob q.parts) then option_and_then default_text (find name_cmp (spec_name q.parts) specs) else None

-- a name of `default:` is told by its parts
told_by_parts : (q : Name) → eq_by_cmp name_cmp q (default_name q.parts) ≡ is_made q
told_by_parts q = by (is_made q) refl
  where
    by : (b : Bool) → is_made q ≡ b → eq_by_cmp name_cmp q (default_name q.parts) ≡ b
    by true is =
        let here : q.namespace ≡ Default = same_rank q.namespace Default ((Decides-eqb (rank q.namespace) (rank Default)).0 is) in
        let same : q ≡ default_name q.parts = λ i. record { namespace = here i; parts = q.parts } in
        subst (λ n. eq_by_cmp name_cmp q n ≡ true) same (itself name_cmp_total q)
    by false is = elim (tied_or_not name_cmp-IsAntisymmetric q (default_name q.parts)) as (λ _. eq_by_cmp name_cmp q (default_name q.parts) ≡ false) [
      | inl apart ↦ apart
      | inr alike ↦
          let there : is_made q ≡ true = ap is_made alike.1 in
          absurd cc
    ]

none_made : (b : Bool) {A B : Type 0} (f : A → Option B) (o : Option A) → o ≡ None
    → (if b then option_and_then f o else None) ≡ None
none_made true f o e = ap (option_and_then f) e
none_made false f o e = refl

-- the key of a name's path makes of it what its default says
made_here : (made glob : Bool) (o : Option Entry) (rest : Option Entry)
    → option_or (cond made (cond glob None o) None) rest ≡ option_or (if made && not glob then o else None) rest
made_here true true o rest = refl
made_here true false o rest = refl
made_here false glob o rest = refl

-- a key of `spec:` before others that come behind it in key order
one_more : (q : Name) (spec : Name × Entry) (specs : List (Name × Entry)) (rest : Option Entry)
    → spec.0.namespace ≡ Spec → T (below_all name_cmp spec.0 specs)
    → option_or (made_in q specs) (option_or (made_by q spec) rest) ≡ option_or (made_in q (spec ∷ specs)) rest
one_more q spec specs rest in_spec below = by (tied_or_not name_cmp-IsAntisymmetric (spec_name q.parts) spec.0)
  where
    by : (eq_by_cmp name_cmp (spec_name q.parts) spec.0 ≡ false)
        ⊎ ((eq_by_cmp name_cmp (spec_name q.parts) spec.0 ≡ true) × (spec_name q.parts ≡ spec.0))
        → option_or (made_in q specs) (option_or (made_by q spec) rest) ≡ option_or (made_in q (spec ∷ specs)) rest
    by (inl apart) =
        let other : eq_by_cmp name_cmp q (default_name spec.0.parts) ≡ false = elim (tied_or_not name_cmp-IsAntisymmetric q (default_name spec.0.parts)) as (λ _. eq_by_cmp name_cmp q (default_name spec.0.parts) ≡ false) [
          | inl differ ↦ differ
          | inr alike ↦
              let same : spec_name q.parts ≡ spec.0 = λ i. record { namespace = sym in_spec i; parts = (alike.1 i).parts } in
              let there : eq_by_cmp name_cmp (spec_name q.parts) spec.0 ≡ true = subst (λ n. eq_by_cmp name_cmp (spec_name q.parts) n ≡ true) same (itself name_cmp_total (spec_name q.parts)) in
              absurd cc
        ] in
        ap (λ b. option_or (made_in q specs) (option_or (cond b (cond (has_glob spec.0.parts) None (default_text spec.1)) None) rest)) other
        ∙ ap (λ b. option_or (if is_made q && not (has_glob q.parts) then option_and_then default_text (cond b (Some spec.1) (find name_cmp (spec_name q.parts) specs)) else None) rest) (sym apart)
    by (inr here) =
        let parts : spec.0.parts ≡ q.parts = ap (λ n. n.parts) (sym here.1) in
        let none : find name_cmp (spec_name q.parts) specs ≡ None = subst (λ n. find name_cmp n specs ≡ None) (sym here.1) (find-below name_cmp spec.0 specs below) in
        ap (λ o. option_or o (option_or (made_by q spec) rest)) (none_made (is_made q && not (has_glob q.parts)) default_text (find name_cmp (spec_name q.parts) specs) none)
        ∙ ap (λ ps. option_or (cond (eq_by_cmp name_cmp q (default_name ps)) (cond (has_glob ps) None (default_text spec.1)) None) rest) parts
        ∙ ap (λ b. option_or (cond b (cond (has_glob q.parts) None (default_text spec.1)) None) rest) (told_by_parts q)
        ∙ made_here (is_made q) (has_glob q.parts) (default_text spec.1) rest
        ∙ ap (λ b. option_or (if is_made q && not (has_glob q.parts) then option_and_then default_text (cond b (Some spec.1) (find name_cmp (spec_name q.parts) specs)) else None) rest) (sym here.0)

none_at_all : (b : Bool) {A B : Type 0} (f : A → Option B) (o : Option B)
    → o ≡ option_or (if b then option_and_then f None else None) o
none_at_all true f o = refl
none_at_all false f o = refl

get-made : (q : Name) (specs : List (Name × Entry)) (keys : KeyMap) → T (is_sorted name_cmp specs)
    → AllByRecursion (λ spec. spec.0.namespace ≡ Spec) specs
    → map.get (with_keys (flat_map default_of specs) keys) q ≡ option_or (made_in q specs) (map.get keys q)
get-made q [] keys sorted all = none_at_all (is_made q && not (has_glob q.parts)) default_text (map.get keys q)
get-made q (spec ∷ specs) keys sorted all =
    ap (λ m. map.get m q) (with_keys-append (default_of spec) (flat_map default_of specs) keys)
    ∙ get-made q specs (with_keys (default_of spec) keys) (second _ _ sorted) all.1
    ∙ ap (option_or (made_in q specs)) (get-one q spec keys)
    ∙ one_more q spec specs (map.get keys q) all.0 (first _ _ sorted)

-- the keys of `spec:` are in it
kept_in_spec : (keys : List (Name × Entry))
    → AllByRecursion (λ spec. spec.0.namespace ≡ Spec) (where_key name_cmp (is_at_or_below (spec_name [])) keys)
kept_in_spec [] = tt
kept_in_spec (key ∷ keys) =
    elim (is_at_or_below (spec_name []) key.0) as (λ b. is_at_or_below (spec_name []) key.0 ≡ b → AllByRecursion (λ spec. spec.0.namespace ≡ Spec) (cond b (key ∷ where_key name_cmp (is_at_or_below (spec_name [])) keys) (where_key name_cmp (is_at_or_below (spec_name [])) keys))) [
      | true ↦ λ is. (same_rank key.0.namespace Spec ((Decides-eqb (rank key.0.namespace) (rank Spec)).0 (and_parts (nat_eq (rank key.0.namespace) (rank Spec)) (starts_with (pointwise nat_eq) key.0.parts []) is).0), kept_in_spec keys)
      | false ↦ λ is. kept_in_spec keys
    ] refl

all_in_spec : (keys : KeyMap) → AllByRecursion (λ spec. spec.0.namespace ≡ Spec) (map.entries (spec_keys keys))
all_in_spec keys =
    subst (AllByRecursion (λ (spec : Name × Entry). spec.0.namespace ≡ Spec)) (sym (entries-retain name_cmp_total name_cmp-IsAntisymmetric keys (is_at_or_below (spec_name [])))) (kept_in_spec (map.entries keys))

pub get-with_defaults : (keys : KeyMap) (name : Name)
    → map.get (with_defaults (spec_keys keys) keys) name
    ≡ option_or (default_at (spec_keys keys) name) (map.get keys name)
get-with_defaults keys q =
    get-made q (map.entries (spec_keys keys)) keys (map.entries_sorted (spec_keys keys)) (all_in_spec keys)
    ∙ ap (λ o. option_or (if is_made q && not (has_glob q.parts) then option_and_then default_text o else None) (map.get keys q)) (sym (map.get-entries (spec_keys keys) (spec_name q.parts)))
