-- The texts of an array of metadata are those of its items, up to the first that is missing.
use Rattle.std.proofs.Common.{◌≡◌, ℕ, suc, zero, ◌+◌, ◌<◌, ◌≤◌, List, [], ◌∷◌, length, Option, None, Some, arith, refl, sym, ap, ◌∙◌}
use Rattle.std.specs.Prelude.{◌^◌, slice_get}
use Rattle.std.specs.FinMap as finite
use Rattle.std.specs.List.{AllByRecursion}
use Rattle.model_maps.specs.Entry.{Meta, array_texts, item_name, texts_from}

items-from : (more : ℕ) (meta : Meta) (prefix : List ℕ) (index : ℕ) (texts : List (List ℕ))
    → ((i : ℕ) → i < length texts → finite.get meta (item_name prefix (index + i)) ≡ slice_get texts i)
    → finite.get meta (item_name prefix (index + length texts)) ≡ None
    → length texts ≤ more → texts ≡ texts_from more meta prefix index
items-from zero meta prefix index [] items ends few = refl
items-from (suc more) meta prefix index [] items ends few =
    let here : index ≡ index + 0 = omega arith in
    let none : finite.get meta (item_name prefix index) ≡ None = ap (λ n. finite.get meta (item_name prefix n)) here ∙ ends in
    ap (λ (found : Option (List ℕ)). elim found [ None ↦ [] | Some text ↦ text ∷ texts_from more meta prefix (index + 1) ]) (sym none)
items-from zero meta prefix index (text ∷ texts) items ends few = absurd (omega (arith, few))
items-from (suc more) meta prefix index (text ∷ texts) items ends few =
    let here : index ≡ index + 0 = omega arith in
    let this : finite.get meta (item_name prefix index) ≡ Some text = ap (λ n. finite.get meta (item_name prefix n)) here ∙ items 0 (omega arith) in
    let moved : (i : ℕ) → index + suc i ≡ index + 1 + i = λ i. omega arith in
    ap (λ ts. text ∷ ts) (items-from more meta prefix (index + 1) texts
    (λ i within. ap (λ n. finite.get meta (item_name prefix n)) (sym (moved i)) ∙ items (suc i) (omega (arith, within)))
    (ap (λ n. finite.get meta (item_name prefix n)) (sym (moved (length texts))) ∙ ends)
    (omega (arith, few)))
    ∙ ap (λ (found : Option (List ℕ)). elim found [ None ↦ [] | Some text ↦ text ∷ texts_from more meta prefix (index + 1) ]) (sym this)

pub array_texts-items : (meta : Meta) (prefix : List ℕ) (texts : List (List ℕ))
    → ((i : ℕ) → i < length texts → finite.get meta (item_name prefix i) ≡ slice_get texts i)
    → finite.get meta (item_name prefix (length texts)) ≡ None → length texts ≤ 2 ^ 64 → array_texts meta prefix ≡ texts
unfolding array_texts
array_texts-items meta prefix texts items ends few =
    let moved : (i : ℕ) → 0 + i ≡ i = λ i. omega arith in
    sym (items-from (2 ^ 64) meta prefix 0 texts
    (λ i within. ap (λ n. finite.get meta (item_name prefix n)) (moved i) ∙ items i within)
    (ap (λ n. finite.get meta (item_name prefix n)) (moved (length texts)) ∙ ends)
    few)

-- an array without a first item has no texts
pub array_texts-none : (meta : Meta) (prefix : List ℕ) → finite.get meta (item_name prefix 0) ≡ None
    → array_texts meta prefix ≡ []
array_texts-none meta prefix none =
    array_texts-items meta prefix [] (λ i within. absurd (omega (arith, within))) none (omega arith)

-- of the texts of an array holds what holds of each text of the metadata
pub array_texts-all : (P : List ℕ → Type 0) (meta : Meta) (prefix : List ℕ)
    → ((name text : List ℕ) → finite.get meta name ≡ Some text → P text) → AllByRecursion P (array_texts meta prefix)
unfolding array_texts
array_texts-all P meta prefix each = from (2 ^ 64) 0
  where
    from : (more index : ℕ) → AllByRecursion P (texts_from more meta prefix index)
    from zero index = tt
    from (suc more) index = by (from more (index + 1)) (finite.get meta (item_name prefix index)) refl
      where
        by : AllByRecursion P (texts_from more meta prefix (index + 1)) → (o : Option (List ℕ))
            → finite.get meta (item_name prefix index) ≡ o
            → AllByRecursion P (elim o [ None ↦ [] | Some t ↦ t ∷ texts_from more meta prefix (index + 1) ])
        by rest None e = tt
        by rest (Some t) e = (each (item_name prefix index) t e, rest)
