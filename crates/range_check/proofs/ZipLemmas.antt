-- The items of a range and their intervals, one by one.
use Rattle.std.specs.Prelude.{◌≡◌, ℕ, zero, suc, ◌+◌, ◌<◌, List, [], ◌∷◌, ◌++◌, length, map, take}
use Rattle.std.specs.List.{AllZip}
use Rattle.std.proofs.Common.{sym, ap, subst, ◌∙◌, arith, get_or, Bor}
use Rattle.std.proofs.lemmas.List.{take_more, map-append, length-map, get_or-map}
use Rattle.model_rules.specs.Range.{IsItem}
use Rattle.model_rules.specs.declared.intervals.Interval.{Interval}

AllZip-snoc : {A B : Type 0} (R : A → B → Type 0) (xs : List A) (ys : List B) (x : A) (y : B) → AllZip R xs ys → R x y
    → AllZip R (xs ++ x ∷ []) (ys ++ y ∷ [])
AllZip-snoc R [] [] x y zip r = (r, tt)
AllZip-snoc R [] (b ∷ ys) x y zip r = absurd zip
AllZip-snoc R (a ∷ xs) [] x y zip r = absurd zip
AllZip-snoc R (a ∷ xs) (b ∷ ys) x y zip r = (zip.0, AllZip-snoc R xs ys x y zip.1 r)

AllZip-at : {A B : Type 0} (R : A → B → Type 0) (xs : List A) (ys : List B) (k : ℕ) (d : A) → AllZip R xs ys
    → k < length xs → (y : B) × R (get_or xs k d) y
AllZip-at R [] ys k d zip h = absurd (omega arith)
AllZip-at R (a ∷ xs) [] k d zip h = absurd zip
AllZip-at R (a ∷ xs) (b ∷ ys) zero d zip h = (b, zip.0)
AllZip-at R (a ∷ xs) (b ∷ ys) (suc k) d zip h = AllZip-at R xs ys k d zip.1 (omega arith)

abbrev pub texts_of : List (Bor (List ℕ)) → List (List ℕ)
texts_of items = map (λ item. item.now) items

-- one item more
pub items_more : (items : List (Bor (List ℕ))) (i : ℕ) (d : Bor (List ℕ)) (ys : List Interval) (y : Interval)
    → i < length items → AllZip IsItem (texts_of (take i items)) ys → IsItem (get_or items i d).now y
    → AllZip IsItem (texts_of (take (i + 1) items)) (ys ++ y ∷ [])
items_more items i d ys y h zip is =
    let more : texts_of (take (i + 1) items) ≡ texts_of (take i items) ++ ((get_or items i d).now ∷ []) = ap texts_of (take_more items i d h) ∙ map-append _ (take i items) (get_or items i d ∷ []) in
    subst (λ texts. AllZip IsItem texts (ys ++ y ∷ [])) (sym more) (AllZip-snoc IsItem (texts_of (take i items)) ys (get_or items i d).now y zip is)

-- one item that is none
pub no_range : (items : List (Bor (List ℕ))) (texts : List (List ℕ)) (i : ℕ) (d : Bor (List ℕ)) → texts_of items ≡ texts
    → i < length items → ((interval : Interval) → IsItem (get_or items i d).now interval → ⊥)
    → (intervals : List Interval) → AllZip IsItem texts intervals → ⊥
no_range items texts i d e h none intervals zip =
    let here = subst (λ t. AllZip IsItem t intervals) (sym e) zip in
    let long : length (texts_of items) ≡ length items = simp length-map in
    let there : i < length (texts_of items) = omega (arith, long, h) in
    let found = AllZip-at IsItem (texts_of items) intervals i d.now here there in
    none found.0 (subst (λ t. IsItem t found.0) (get_or-map (λ (item : Bor (List ℕ)). item.now) items i d d.now h) found.1)
