-- Blanks at the end of signs by the place up to which they are dropped.
use Rattle.std.proofs.Common.{◌≡◌, ℕ, ◌+◌, ◌<◌, Bool, true, false, List, [], ◌∷◌, ◌++◌, length, take, get_or, sym, ap, subst, ◌∙◌}
use Rattle.std.proofs.lemmas.List.{take_more}
use Rattle.model_ini.specs.Signs.{without_back}
use Rattle.model_ini.proofs.Trimming.{LastFails, without_back-last, without_back-same}

LastFails-end : {A : Type 0} (passes : A → Bool) (xs : List A) (x : A) → passes x ≡ false
    → LastFails passes (xs ++ x ∷ [])
LastFails-end passes [] x h = h
LastFails-end passes (y ∷ []) x h = h
LastFails-end passes (y ∷ z ∷ xs) x h = LastFails-end passes (z ∷ xs) x h

-- an end that passes is dropped, and one that fails stays
pub without_back-shorter : {A : Type 0} (passes : A → Bool) (xs : List A) (i : ℕ) (d : A) → i < length xs
    → passes (get_or xs i d) ≡ true → without_back passes (take i xs) ≡ without_back passes (take (i + 1) xs)
without_back-shorter passes xs i d lt h =
    sym (ap (without_back passes) (take_more xs i d lt) ∙ without_back-last passes (take i xs) (get_or xs i d) h)

pub without_back-stays : {A : Type 0} (passes : A → Bool) (xs : List A) (i : ℕ) (d : A) → i < length xs
    → passes (get_or xs i d) ≡ false → without_back passes (take (i + 1) xs) ≡ take (i + 1) xs
without_back-stays passes xs i d lt h =
    without_back-same passes (take (i + 1) xs) (subst (λ ys. LastFails passes ys) (sym (take_more xs i d lt)) (LastFails-end passes (take i xs) (get_or xs i d) h))
