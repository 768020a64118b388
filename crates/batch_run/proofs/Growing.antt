-- Lists that grow at their end, or are written from their beginning on: what holds at each place.
use Rattle.std.proofs.Common.{◌≡◌, ◌⊎◌, inl, inr, ℕ, ◌+◌, ◌<◌, ◌≤◌, List, [], ◌∷◌, ◌++◌, length, get_or, set, sym, ap, subst, ◌∙◌, arith, get_or-set_other, get_or-set_same}
use Rattle.std.proofs.lemmas.Bool.{cases_lt}
use Rattle.std.proofs.lemmas.List.{get_or_append_left, get_or_default, get_or_push, length_push}
use Rattle.std.specs.Global.{Vec}
use Rattle.batch_run.specs.Going.{IsExchanged}
use Rattle.batch_run.specs.declared.workers.Worker.{Worker}
use Rattle.kdb_handle.specs.declared.replies.Reply.{Reply}

-- below the next number, or it
less_next : (i k : ℕ) → i < k + 1 → (i < k) ⊎ (i ≡ k)
less_next i k lt = by (cases_lt i k)
  where
    by : (i < k) ⊎ (k ≤ i) → (i < k) ⊎ (i ≡ k)
    by (inl less) = inl less
    by (inr more) = inr (omega arith)

-- one element more
pub each-push : {A : Type 0} (P : ℕ → A → Type 0) (xs : List A) (x : A)
    → ((i : ℕ) (d : A) → i < length xs → P i (get_or xs i d)) → P (length xs) x → (i : ℕ) (d : A)
    → i < length (xs ++ x ∷ []) → P i (get_or (xs ++ x ∷ []) i d)
each-push P xs x each last i d lt = by (less_next i (length xs) (omega (arith, length_push xs x)))
  where
    by : (i < length xs) ⊎ (i ≡ length xs) → P i (get_or (xs ++ x ∷ []) i d)
    by (inl less) = subst (P i) (sym (get_or_append_left xs (x ∷ []) d i less)) (each i d less)
    by (inr same) = subst (P i) (sym (get_or_push xs x d i (sym same))) (subst (λ (k : ℕ). P k x) (sym same) last)

-- one place more was written
pub done-next : {A : Type 0} (P : ℕ → A → A → Type 0) (xs : List A) (k : ℕ) (y : A) → k < length xs
    → ((i : ℕ) (d : A) → i < k → P i d (get_or xs i d)) → ((d : A) → P k d y) → (i : ℕ) (d : A) → i < k + 1
    → P i d (get_or (set xs k y) i d)
done-next P xs k y within done here i d lt = by (less_next i k lt)
  where
    by : (i < k) ⊎ (i ≡ k) → P i d (get_or (set xs k y) i d)
    by (inl less) = subst (P i d) (sym (get_or-set_other xs k i y d (λ same. omega arith))) (done i d less)
    by (inr same) =
        subst (λ (j : ℕ). P j d (get_or (set xs k y) j d)) (sym same) (subst (P k d) (sym (get_or-set_same xs k y d within)) (here d))

-- and the places behind it weren't
pub left-next : {A : Type 0} (xs olds : List A) (k : ℕ) (y : A)
    → ((i : ℕ) (d : A) → k ≤ i → get_or xs i d ≡ get_or olds i d) → (i : ℕ) (d : A) → k + 1 ≤ i
    → get_or (set xs k y) i d ≡ get_or olds i d
left-next xs olds k y left i d le = get_or-set_other xs k i y d (λ same. omega arith) ∙ left i d (omega arith)

-- the same of two lists that are written together
pub exchanged-next : (workers : List Worker) (rooms : List (Vec Reply)) (olds : List Worker) (was : List (Vec Reply))
    (k : ℕ) (new : Worker) (left : Vec Reply) → k < length workers → k < length rooms
    → ((i : ℕ) (d : Worker) (e : Vec Reply) → i < k → IsExchanged (get_or olds i d) (get_or was i e) (get_or workers i d) (get_or rooms i e))
    → ((d : Worker) (e : Vec Reply) → IsExchanged (get_or olds k d) (get_or was k e) new left)
    → (i : ℕ) (d : Worker) (e : Vec Reply) → i < k + 1
    → IsExchanged (get_or olds i d) (get_or was i e) (get_or (set workers k new) i d) (get_or (set rooms k left) i e)
exchanged-next workers rooms olds was k new left within room done here i d e lt = by (less_next i k lt)
  where
    Is : ℕ → Worker → Vec Reply → Type 0
    Is j w v = IsExchanged (get_or olds j d) (get_or was j e) w v

    by : (i < k) ⊎ (i ≡ k) → Is i (get_or (set workers k new) i d) (get_or (set rooms k left) i e)
    by (inl less) =
        subst (λ (w : Worker). Is i w (get_or (set rooms k left) i e)) (sym (get_or-set_other workers k i new d (λ same. omega arith)))
        (subst (Is i (get_or workers i d)) (sym (get_or-set_other rooms k i left e (λ same. omega arith))) (done i d e less))
    by (inr same) =
        subst (λ (j : ℕ). Is j (get_or (set workers k new) j d) (get_or (set rooms k left) j e)) (sym same)
        (subst (λ (w : Worker). Is k w (get_or (set rooms k left) k e)) (sym (get_or-set_same workers k new d within)) (subst (Is k new) (sym (get_or-set_same rooms k left e room)) (here d e)))

-- what holds of each element so far, and of the next one
pub all-next : {A : Type 0} (P : A → Type 0) (xs olds : List A) (k : ℕ) (it : A) → k < length xs → xs ≡ olds
    → ((i : ℕ) (d : A) → i < k → P (get_or olds i d)) → P (get_or xs k it) → (i : ℕ) (d : A) → i < k + 1
    → P (get_or olds i d)
all-next P xs olds k it within same all here i d lt = by (less_next i k lt)
  where
    by : (i < k) ⊎ (i ≡ k) → P (get_or olds i d)
    by (inl less) = all i d less
    by (inr at) =
        subst (λ (j : ℕ). P (get_or olds j d)) (sym at) (subst P (get_or_default xs k it d within ∙ ap (λ l. get_or l k d) same) here)
