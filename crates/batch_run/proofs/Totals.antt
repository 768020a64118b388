-- Sums by sessions: what all sessions have in rows is what stands in all rows.
use Rattle.std.proofs.Common.{◌≡◌, ℕ, zero, suc, ◌+◌, ◌<◌, ◌≤◌, List, [], ◌∷◌, length, sum_by, refl, sym, ap, ◌∙◌, arith}
use Rattle.std.proofs.lemmas.List.{length-map}
use Rattle.std.proofs.lemmas.List.Sums.{sum_by-append, sum_by-cons}
use Rattle.std.specs.List.{AllByRecursion}
use Rattle.batch_script.specs.declared.steps.Phase.{Phase}
use Rattle.kdb_handle.specs.declared.replies.Reply.{Reply}
use Rattle.model_batch.specs.Fair.{in_row, of_session}
use Rattle.model_batch.specs.Scripts.{replies_in, rows_by}

-- what the first so many numbers come to
abbrev pub total : (ℕ → ℕ) → ℕ → ℕ
total f zero = 0
total f (suc n) = total f n + f n

pub total-same : (f g : ℕ → ℕ) (n : ℕ) → ((i : ℕ) → i < n → f i ≡ g i) → total f n ≡ total g n
total-same f g zero same = refl
total-same f g (suc n) same =
    let before = total-same f g n (λ i lt. same i (omega arith)) in
    let last = same n (omega arith) in
    omega arith

pub total-none : (f : ℕ → ℕ) (n : ℕ) → ((i : ℕ) → f i ≡ 0) → total f n ≡ 0
total-none f zero none = refl
total-none f (suc n) none = let before = total-none f n none in let last = none n in omega arith

total-add : (f g : ℕ → ℕ) (n : ℕ) → total (λ i. f i + g i) n ≡ total f n + total g n
total-add f g zero = omega arith
total-add f g (suc n) = let before = total-add f g n in omega arith

total-front : (f : ℕ → ℕ) (n : ℕ) → total f (suc n) ≡ f 0 + total (λ i. f (suc i)) n
total-front f zero = omega arith
total-front f (suc n) = let before = total-front f n in omega arith

-- ---- rows

-- no row has more sessions than there are
abbrev pub AreNarrow : {A : Type 0} → ℕ → List (List (List A)) → Type 0
AreNarrow {A} n rows = AllByRecursion (λ (row : List (List A)). length row ≤ n) rows

module _ {A : Type 0} (w : A → ℕ) where
  in-nothing : (i : ℕ) → sum_by w (in_row i []) ≡ 0
  in-nothing zero = refl
  in-nothing (suc i) = refl

  row-total : (row : List (List A)) (n : ℕ) → length row ≤ n
      → sum_by (sum_by w) row ≡ total (λ i. sum_by w (in_row i row)) n
  row-total [] n le = sym (total-none (λ i. sum_by w (in_row i [])) n in-nothing)
  row-total (x ∷ row) zero le = absurd (omega arith)
  row-total (x ∷ row) (suc n) le =
      sum_by-cons (sum_by w) x row ∙ ap (λ k. sum_by w x + k) (row-total row n (omega arith))
      ∙ sym (total-front (λ i. sum_by w (in_row i (x ∷ row))) n)

  pub rows-total : (n : ℕ) (rows : List (List (List A))) → AreNarrow n rows
      → sum_by (λ row. sum_by (sum_by w) row) rows ≡ total (λ i. sum_by w (of_session i rows)) n
  rows-total n [] narrow = sym (total-none (λ i. sum_by w (of_session {A = A} i [])) n (λ i. refl))
  rows-total n (row ∷ rows) narrow =
      let here = row-total row n narrow.0 in
      let rest = rows-total n rows narrow.1 in
      let both = total-add (λ i. sum_by w (in_row i row)) (λ i. sum_by w (of_session i rows)) n in
      let same = total-same (λ i. sum_by w (of_session i (row ∷ rows))) (λ i. sum_by w (in_row i row) + sum_by w (of_session i rows)) n (λ i lt. sum_by-append w (in_row i row) (of_session i rows)) in
      let split = sum_by-cons (λ r. sum_by (sum_by w) r) row rows in
      omega arith

-- the rows of a script's replies have a place for each session
pub reply-rows_narrow : (sessions : List ℕ) (phases : List Phase) (answers : List (List (List Reply)))
    → AreNarrow (length sessions) (rows_by sessions phases answers)
reply-rows_narrow sessions [] answers = tt
reply-rows_narrow sessions (phase ∷ phases) [] = tt
reply-rows_narrow sessions (phase ∷ phases) (one ∷ answers) =
    (omega (arith, length-map sessions (replies_in phase.sessions one)), reply-rows_narrow sessions phases answers)
