-- What is kept of mounts, part by part.
use Rattle.std.proofs.Common.{◌≡◌, ℕ, ◌<◌, Bool, true, false, cond, ◌||◌, nat_eq, List, [], ◌∷◌, ◌++◌, map as over, length, get_or, Option, Some, None, option_and_then, slice_get, refl, sym, ap, ◌∙◌, eqb-true, eq-eqb, arith}
use Rattle.std.proofs.Math.ListN.{set}
use Rattle.std.proofs.lemmas.List.{map-append, with_items_is}
use Rattle.std.proofs.lemmas.Option.{slice_get-get_or, slice_get-map}
use Rattle.std.specs.Option.{option_map}
use Rattle.std.specs.Vec.{with_items}
use Rattle.std.specs.declared.vec.Vec.{Vec}
use Rattle.general_words.proofs.Places.{set-same, set-other}
use Rattle.set_split.specs.Seen.{numbered}
use Rattle.set_split.specs.declared.parts.Part.{Part}
use Rattle.store_verdict.specs.RecordView.{fetched_at, fetched_of}
use Rattle.store_verdict.specs.declared.records.Fetched as code
use Rattle.model_maps.specs.KeyMap.{KeyMap}
use Rattle.model_history.specs.History.{is_among}
use Rattle.model_store.specs.Records.{Fetched}
use Rattle.model_store.specs.Cores.{kept_from}
use Rattle.store_verdict.specs.Kept.{front_from, with_part, kept_parts}

-- one part more
pub kept_parts-snoc : (by_key : ℕ → Bool) (number : ℕ) (parts : List (ℕ × KeyMap)) (part : ℕ × KeyMap)
    (kept : ℕ → Option Fetched) (m : ℕ)
    → kept_parts by_key number (parts ++ part ∷ []) kept m
    ≡ with_part by_key number part (kept_parts by_key number parts kept) m
kept_parts-snoc by_key number [] part kept m = refl
kept_parts-snoc by_key number (first ∷ parts) part kept m =
    kept_parts-snoc by_key number parts part (with_part by_key number first kept) m

-- one part more behind those so far
pub kept-more : (by_key : ℕ → Bool) (number : ℕ) (parts : List Part) (part : Part) (first now : ℕ → Option Fetched)
    → ((m : ℕ) → now m ≡ kept_parts by_key number (numbered parts) first m)
    → (m : ℕ)
    → with_part by_key number (part.mount, part.keys) now m
    ≡ kept_parts by_key number (numbered (parts ++ part ∷ [])) first m
kept-more by_key number parts part first now so_far m =
    ap (λ (o : Option Fetched). cond (nat_eq m part.mount) (kept_from (by_key m) number part.keys o) o) (so_far m)
    ∙ sym (ap (λ ps. kept_parts by_key number ps first m) (map-append (λ (p : Part). (p.mount, p.keys)) parts (part ∷ [])) ∙ kept_parts-snoc by_key number (numbered parts) (part.mount, part.keys) first m)

-- a part counts as its mount does
pub part-by : (by_key : ℕ → Bool) (told : Bool) (number : ℕ) (part : ℕ × KeyMap) (kept : ℕ → Option Fetched) (m : ℕ)
    → told ≡ by_key part.0
    → with_part (λ _. told) number part kept m ≡ with_part by_key number part kept m
part-by by_key told number part kept m is = by (nat_eq m part.0) refl
  where
    by : (b : Bool) → nat_eq m part.0 ≡ b
        → cond b (kept_from told number part.1 (kept m)) (kept m)
        ≡ cond b (kept_from (by_key m) number part.1 (kept m)) (kept m)
    by true same = ap (λ t. kept_from t number part.1 (kept m)) (is ∙ ap by_key (sym (eqb-true m part.0 same)))
    by false same = refl

-- what is kept twice is kept once
kept-twice : (by_key : Bool) (number : ℕ) (keys : KeyMap) (fetched : Option Fetched)
    → kept_from by_key number keys (kept_from by_key number keys fetched) ≡ kept_from by_key number keys fetched
kept-twice true number keys None = refl
kept-twice true number keys (Some had) = refl
kept-twice false number keys fetched = refl

-- what a mount has by its own part, or by another
chosen : (by_key : Bool) (number : ℕ) (keys : ℕ → KeyMap) (fetched : Option Fetched) (m n : ℕ) (among same : Bool)
    → nat_eq m n ≡ same
    → cond among (kept_from by_key number (keys m) (cond same (kept_from by_key number (keys n) fetched) fetched)) (cond same (kept_from by_key number (keys n) fetched) fetched)
    ≡ cond (same || among) (kept_from by_key number (keys m) fetched) fetched
chosen by_key number keys fetched m n true true is =
    ap (λ k. kept_from by_key number (keys m) (kept_from by_key number (keys k) fetched)) (sym (eqb-true m n is))
    ∙ kept-twice by_key number (keys m) fetched
chosen by_key number keys fetched m n true false is = refl
chosen by_key number keys fetched m n false true is =
    ap (λ k. kept_from by_key number (keys k) fetched) (sym (eqb-true m n is))
chosen by_key number keys fetched m n false false is = refl

-- the parts of some mounts
pub kept-at : (by_key : ℕ → Bool) (number : ℕ) (keys : ℕ → KeyMap) (mounts : List ℕ) (kept : ℕ → Option Fetched) (m : ℕ)
    → kept_parts by_key number (over (λ n. (n, keys n)) mounts) kept m
    ≡ cond (is_among mounts m) (kept_from (by_key m) number (keys m) (kept m)) (kept m)
kept-at by_key number keys [] kept m = refl
kept-at by_key number keys (n ∷ mounts) kept m =
    kept-at by_key number keys mounts (with_part by_key number (n, keys n) kept) m
    ∙ chosen (by_key m) number keys (kept m) m n (is_among mounts m) (nat_eq m n) refl

-- so it is of a vector of places
pub all-kept : {Z : Type 0} (by_key : ℕ → Bool) (number : ℕ) (old : Vec (Option code.Fetched) Z)
    (places new : List (Option code.Fetched)) (items parts : List Part) → places ≡ old.items
    → length new ≡ length places
    → ((m : ℕ) → fetched_at new m ≡ kept_parts by_key number (numbered items) (fetched_at places) m) → items ≡ parts
    → (mounts : List ℕ) (keys : ℕ → KeyMap) → numbered parts ≡ over (λ m. (m, keys m)) mounts
    → (m : ℕ)
    → fetched_at (with_items old new).items m
    ≡ cond (is_among mounts m) (kept_from (by_key m) number (keys m) (fetched_at old.items m)) (fetched_at old.items m)
all-kept by_key number old places new items parts value len kept same mounts keys are m =
    let long : length new ≡ old.len = omega (arith, len, ap length value) in
    ap (λ xs. fetched_at xs m) (with_items_is old new long)
    ∙ kept m
    ∙ ap (λ ps. kept_parts by_key number ps (fetched_at places) m) (ap numbered same ∙ are)
    ∙ ap (λ xs. kept_parts by_key number (over (λ n. (n, keys n)) mounts) (fetched_at xs) m) value
    ∙ kept-at by_key number keys mounts (fetched_at old.items) m

pub fetched_at-set : (places : List (Option code.Fetched)) (i : ℕ) (x : code.Fetched) (m : ℕ) → i < length places
    → fetched_at (set places i (Some x)) m ≡ cond (nat_eq m i) (Some (fetched_of x)) (fetched_at places m)
fetched_at-set places i x m lt = by (nat_eq m i) refl
  where
    by : (b : Bool) → nat_eq m i ≡ b
        → fetched_at (set places i (Some x)) m ≡ cond b (Some (fetched_of x)) (fetched_at places m)
    by true is =
        ap (fetched_at (set places i (Some x))) (eqb-true m i is)
        ∙ ap (option_and_then (option_map fetched_of)) (set-same places i (Some x) lt)
    by false is =
        ap (option_and_then (option_map fetched_of)) (set-other places i m (Some x) (λ e. let same : nat_eq m i ≡ true = eq-eqb m i e in absurd cc))

-- what was read from the place of a mount is what is kept of it
pub place-read : (places : List (Option code.Fetched)) (i : ℕ) (d : Option code.Fetched) → i < length places
    → fetched_at places i ≡ option_map fetched_of (get_or places i d)
place-read places i d lt = ap (option_and_then (option_map fetched_of)) (slice_get-get_or places i d lt)

-- what is kept in a place, from where on it is kept
put-kept : (by_key : Bool) (number : ℕ) (keys : KeyMap) (fetched : Option Fetched)
    → option_map {U = Fetched} (λ front. record { front = front; kept = keys }) (front_from by_key number fetched)
    ≡ kept_from by_key number keys fetched
put-kept true number keys None = refl
put-kept true number keys (Some had) = refl
put-kept false number keys fetched = refl

module _ (places : List (Option code.Fetched)) (i : ℕ) (by_key : Bool) (number : ℕ) (keys : KeyMap) (m : ℕ) where
  -- the place is the mount's, or another's
  by-place : (X Y : Option Fetched) → (m ≡ i → X ≡ Y) → (b : Bool) → nat_eq m i ≡ b
      → cond b X (fetched_at places m) ≡ cond b Y (fetched_at places m)
  by-place X Y same true is = same (eqb-true m i is)
  by-place X Y same false is = refl

  pub put-there : (front : ℕ) → i < length places → front_from by_key number (fetched_at places i) ≡ Some front
      → fetched_at (set places i (Some (record { front = front; kept = keys }))) m
      ≡ with_part (λ _. by_key) number (i, keys) (fetched_at places) m
  put-there front lt is =
      fetched_at-set places i (record { front = front; kept = keys }) m lt
      ∙ by-place (Some (record { front = front; kept = keys })) (kept_from by_key number keys (fetched_at places m)) (λ same.
      ap (option_map {U = Fetched} (λ f. record { front = f; kept = keys })) (sym is) ∙ put-kept by_key number keys (fetched_at places i) ∙ ap (λ n. kept_from by_key number keys (fetched_at places n)) (sym same))
      (nat_eq m i) refl

  -- where there is no front, nothing was kept
  nothing-kept : (fetched : Option Fetched) → front_from by_key number fetched ≡ None
      → fetched ≡ kept_from by_key number keys fetched
  nothing-kept fetched is = by by_key fetched is
    where
      by : (b : Bool) (o : Option Fetched) → front_from b number o ≡ None → o ≡ kept_from b number keys o
      by true None e = refl
      by true (Some had) e = absurd cc
      by false o e = absurd cc

  pub put-nowhere : front_from by_key number (fetched_at places i) ≡ None
      → fetched_at places m ≡ with_part (λ _. by_key) number (i, keys) (fetched_at places) m
  put-nowhere is =
      sym (same-both (nat_eq m i) (fetched_at places m))
      ∙ by-place (fetched_at places m) (kept_from by_key number keys (fetched_at places m)) (λ same.
      nothing-kept (fetched_at places m) (ap (λ n. front_from by_key number (fetched_at places n)) same ∙ is)) (nat_eq m i) refl
    where
      same-both : (b : Bool) (o : Option Fetched) → cond b o o ≡ o
      same-both true o = refl
      same-both false o = refl

-- ---- a copy

-- what stands in the place of a mount is in the list of what stands in each
seen-at : (places : List (Option code.Fetched)) (m : ℕ)
    → fetched_at places m ≡ option_and_then (λ place. place) (slice_get (over (option_map fetched_of) places) m)
seen-at places m =
    by (slice_get places m)
    ∙ ap (option_and_then (λ (place : Option Fetched). place)) (sym (slice_get-map (option_map fetched_of) places m))
  where
    by : (o : Option (Option code.Fetched))
        → option_and_then (option_map fetched_of) o
        ≡ option_and_then (λ place. place) (option_map (option_map fetched_of) o)
    by None = refl
    by (Some place) = refl

pub fetched_at-same : (places others : List (Option code.Fetched))
    → over (option_map fetched_of) places ≡ over (option_map fetched_of) others → (m : ℕ)
    → fetched_at places m ≡ fetched_at others m
fetched_at-same places others same m =
    seen-at places m ∙ ap (λ all. option_and_then (λ (place : Option Fetched). place) (slice_get all m)) same
    ∙ sym (seen-at others m)
