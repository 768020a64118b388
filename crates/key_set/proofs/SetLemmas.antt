-- What is found among keys in name order, and what a change of them changes in the map that they make.
use Rattle.std.proofs.Common.{◌≡◌, ◌+◌, ◌<◌, ◌^◌, arith, sum_by, Bool, ℕ, zero, suc, List, [], ◌∷◌, Option, Some, None, not, T, slice_get, refl, sym, ap, ◌∙◌, subst}
use Rattle.std.specs.FinMap as finite
use Rattle.std.specs.FinMap.{find, is_sorted}
use Rattle.std.specs.FinMap.Entries.{put, where_key}
use Rattle.std.specs.Option.{option_map}
use Rattle.std.specs.Ordering.{eq_by_cmp}
use Rattle.model_names.specs.Name.{Name}
use Rattle.model_names.specs.Order.{name_cmp}
use Rattle.model_names.proofs.OrderLemmas.{name_cmp_total, name_cmp-IsAntisymmetric}
use Rattle.sorted_map.proofs.SeenLemmas.{seen, is_sorted-seen, find-seen, put-seen, where_key-seen}
use Rattle.general_words.specs.Saturated.{saturated}
use Rattle.general_words.proofs.Maps.{from_sorted-put, from_sorted-without, from_sorted-where_key}
use Rattle.key_set.specs.declared.entries.Entry as code
use Rattle.std.proofs.lemmas.List.Sums.{sum_by-cons}
use Rattle.model_maps.specs.KeyMap.{weight_of_key}
use Rattle.key_set.specs.EntryView.{entry_of, keys_of}

abbrev pub Key : Type 0
Key = Name × code.Entry

abbrev pub Keys : Type 0
Keys = List (Name × code.Entry)

sorted_seen : (keys : Keys) → T (is_sorted name_cmp keys) → T (is_sorted name_cmp (seen name_cmp entry_of keys))
sorted_seen keys h = subst T (sym (is_sorted-seen name_cmp entry_of keys)) h

pub entries-keys : (keys : Keys) → T (is_sorted name_cmp keys)
    → finite.entries (keys_of keys) ≡ seen name_cmp entry_of keys
entries-keys keys h = finite.entries-from_sorted name_cmp (seen name_cmp entry_of keys) (sorted_seen keys h)

pub get-keys : (keys : Keys) (name : Name) → T (is_sorted name_cmp keys)
    → option_map entry_of (find name_cmp name keys) ≡ finite.get (keys_of keys) name
get-keys keys name h =
    sym (find-seen name_cmp entry_of name keys)
    ∙ sym (finite.get-from_sorted name_cmp (seen name_cmp entry_of keys) name (sorted_seen keys h))

pub put-keys : (keys : Keys) (name : Name) (entry : code.Entry) → T (is_sorted name_cmp keys)
    → keys_of (put name_cmp name entry keys) ≡ finite.insert (keys_of keys) name (entry_of entry)
put-keys keys name entry h =
    ap (finite.from_sorted {R = name_cmp}) (sym (put-seen name_cmp entry_of name entry keys))
    ∙ from_sorted-put name_cmp name_cmp_total (seen name_cmp entry_of keys) name (entry_of entry) (sorted_seen keys h)

pub without-keys : (keys : Keys) (name : Name) → T (is_sorted name_cmp keys)
    → keys_of (where_key name_cmp (λ other. not (eq_by_cmp name_cmp name other)) keys)
    ≡ finite.remove (keys_of keys) name
without-keys keys name h =
    ap (finite.from_sorted {R = name_cmp}) (sym (where_key-seen name_cmp entry_of (λ other. not (eq_by_cmp name_cmp name other)) keys))
    ∙ from_sorted-without name_cmp name_cmp_total name_cmp-IsAntisymmetric (seen name_cmp entry_of keys) name (sorted_seen keys h)

pub slice_get-seen : (keys : Keys) (i : ℕ)
    → option_map (λ key. (key.0, entry_of key.1)) (slice_get keys i) ≡ slice_get (seen name_cmp entry_of keys) i
slice_get-seen [] i = refl
slice_get-seen (key ∷ keys) zero = refl
slice_get-seen (key ∷ keys) (suc i) = slice_get-seen keys i

-- a change made of two changes
pub option_map-two : {A B C : Type 0} (f : A → B) (g : B → C) (o : Option A)
    → option_map (λ x. g (f x)) o ≡ option_map g (option_map f o)
option_map-two f g None = refl
option_map-two f g (Some x) = refl

-- keys whose names pass a test make the map of those names
pub where-keys : (keys : Keys) (p : Name → Bool) → T (is_sorted name_cmp keys)
    → keys_of (where_key name_cmp p keys) ≡ finite.retain_keys (keys_of keys) p
where-keys keys p h =
    ap (finite.from_sorted {R = name_cmp}) (sym (where_key-seen name_cmp entry_of p keys))
    ∙ from_sorted-where_key name_cmp name_cmp_total name_cmp-IsAntisymmetric (seen name_cmp entry_of keys) p (sorted_seen keys h)

-- keys weigh what the entries that are seen weigh
pub weight-seen : (keys : Keys)
    → sum_by (λ key. weight_of_key key.0 (entry_of key.1)) keys
    ≡ sum_by (λ key. weight_of_key key.0 key.1) (seen name_cmp entry_of keys)
weight-seen [] = refl
weight-seen (key ∷ keys) =
    sum_by-cons (λ k. weight_of_key k.0 (entry_of k.1)) key keys
    ∙ ap (λ n. weight_of_key key.0 (entry_of key.1) + n) (weight-seen keys)
    ∙ sym (sum_by-cons (λ k. weight_of_key k.0 k.1) (key.0, entry_of key.1) (seen name_cmp entry_of keys))

-- the weight so far goes on by the next key's
pub weighed-more : {A : Type 0} (f : A → ℕ) (weight more one : ℕ) (e : A) (left rest : List A) (total : ℕ)
    → left ≡ e ∷ rest → one ≡ saturated (f e) → more ≡ saturated (weight + one)
    → saturated (weight + sum_by f left) ≡ total → saturated (more + sum_by f rest) ≡ total
weighed-more f weight more one e left rest total first is sum so_far =
    let parts : sum_by f left ≡ f e + sum_by f rest = ap (sum_by f) first ∙ sum_by-cons f e rest in
    omega (arith, parts, is, sum) ∙ so_far

-- and is all where none is left
pub weighed-all : {A : Type 0} (f : A → ℕ) (weight : ℕ) (left : List A) (total : ℕ) → left ≡ [] → weight < 2 ^ 64
    → saturated (weight + sum_by f left) ≡ total → weight ≡ total
weighed-all f weight left total none fits so_far =
    let zero_left : sum_by f left ≡ 0 = ap (sum_by f) none in
    omega (arith, zero_left, fits) ∙ so_far
