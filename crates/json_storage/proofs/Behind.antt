-- A name stands behind all keys where it stands behind the last.
use Rattle.std.specs.Prelude.{◌≡◌, ℕ, zero, suc, ◌+◌, ◌<◌, T, List, [], ◌∷◌, ◌++◌, length, take, slice_get, None, Some}
use Rattle.std.proofs.Common.{sym, ap, subst, ◌∙◌, arith}
use Rattle.std.specs.FinMap.{is_sorted}
use Rattle.std.specs.List.{AllByRecursion}
use Rattle.std.specs.declared.cmp.Ordering.TheVariants.{Less}
use Rattle.std.proofs.lemmas.List.{drop_all}
use Rattle.general_words.proofs.Lists.{cut-next, all_append, all_back}
use Rattle.model_names.specs.Name.{Name}
use Rattle.model_names.specs.Order.{name_cmp}
use Rattle.model_names.proofs.OrderLemmas.{name_cmp_total}
use Rattle.model_maps.specs.Entry.{Entry}
use Rattle.model_lines.proofs.AllLemmas.{all-weaker}
use Rattle.model_lines.proofs.SortedKeys.{before_all}

abbrev pub AllBefore : Name → List (Name × Entry) → Type 0
AllBefore name es = AllByRecursion (λ (key : Name × Entry). name_cmp key.0 name ≡ Less) es

last-cut : (es : List (Name × Entry)) (i : ℕ) (key : Name × Entry) → length es ≡ i + 1 → Some key ≡ slice_get es i
    → es ≡ take i es ++ key ∷ []
last-cut es i key len there =
    cut-next es i key there ∙ ap (λ rest. take i es ++ key ∷ rest) (drop_all (i + 1) es (omega (arith, len)))

pub behind-last : (es : List (Name × Entry)) (i : ℕ) (key : Name × Entry) (name : Name) → T (is_sorted name_cmp es)
    → length es ≡ i + 1 → Some key ≡ slice_get es i → name_cmp key.0 name ≡ Less → AllBefore name es
behind-last es i key name sorted len there less =
    let cut = last-cut es i key len there in
    let front = before_all (take i es) key [] (subst (λ l. T (is_sorted name_cmp l)) cut sorted) in
    subst (AllBefore name) (sym cut)
    (all_append (λ (k : Name × Entry). name_cmp k.0 name ≡ Less) (take i es) (key ∷ [])
    (all-weaker (λ (k : Name × Entry). name_cmp k.0 key.0 ≡ Less) (λ (k : Name × Entry). name_cmp k.0 name ≡ Less) (λ k before. name_cmp_total.trans k.0 key.0 name before less) (take i es) front)
    (less, tt))

pub last-behind : (es : List (Name × Entry)) (i : ℕ) (key : Name × Entry) (name : Name) → length es ≡ i + 1
    → Some key ≡ slice_get es i → AllBefore name es → name_cmp key.0 name ≡ Less
last-behind es i key name len there all =
    (all_back (λ (k : Name × Entry). name_cmp k.0 name ≡ Less) (take i es) (key ∷ []) (subst (AllBefore name) (last-cut es i key len there) all)).0

pub some-there : (es : List (Name × Entry)) (i : ℕ) → i < length es → None ≡ slice_get es i → ⊥
some-there [] i less none = absurd (omega (arith, less))
some-there (key ∷ es) zero less none = absurd cc
some-there (key ∷ es) (suc i) less none = some-there es i (omega (arith, less)) none
