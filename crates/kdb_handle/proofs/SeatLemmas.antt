-- The seats of a store: those that no handle has, and the flusher's.
use Rattle.std.proofs.Common.{◌≡◌, ◌⊎◌, inl, inr, ℕ, zero, suc, ◌+◌, ◌-◌, ◌<◌, ◌≤◌, List, [], ◌∷◌, ◌++◌, length, slice_get, Option, Some, None, refl, sym, ap, subst, ◌∙◌, arith, append-nil}
use Rattle.std.proofs.lemmas.Bool.{cases_lt}
use Rattle.std.proofs.lemmas.List.{length_push}
use Rattle.std.specs.Option.{option_or}
use mathlib.Core.List.{IsPrefix}
use Rattle.atomic_table.specs.Seated.{TableId}
use Rattle.general_words.proofs.Lists.{some_is}
use Rattle.kdb_handle.specs.Handles.{seat_in}
use Rattle.kdb_handle.specs.Story.{Told}
use Rattle.kdb_handle.specs.Stores.{AreFree, HasFlusher, IsFlusher}
use Rattle.seat_lock.specs.Known.{Known, Place, knowledge}
use Rattle.seat_lock.specs.Story.{AreNew}
use Rattle.seat_lock.proofs.Prefixes.{prefix-more, prefix-self, prefix-trans}

-- what stands before the last element, and that
at-front : {A : Type 0} (xs : List A) (x : A) (k : ℕ) → k < length xs → slice_get (xs ++ x ∷ []) k ≡ slice_get xs k
at-front [] x k lt = absurd (omega arith)
at-front (y ∷ xs) x zero lt = refl
at-front (y ∷ xs) x (suc k) lt = at-front xs x k (omega arith)

at-end : {A : Type 0} (xs : List A) (x : A) → slice_get (xs ++ x ∷ []) (length xs) ≡ Some x
at-end [] x = refl
at-end (y ∷ xs) x = at-end xs x

-- ---- a new lock's seats

module _ (lock : Place Told) (all seats : List (Known Told)) (last : Known Told) (are : all ≡ seats ++ last ∷ []) (new : AreNew lock all) where
  long : length all ≡ length seats + 1
  long = ap (λ (l : List (Known Told)). length l) are ∙ length_push seats last

  pub dealt_free : (room : ℕ) → length all ≤ room → AreFree lock seats room
  dealt_free room fits = let many = long in let count = new.count in record {
    room_is = omega arith;
    some = omega arith;
    each = λ k lt.
        let same : k + 1 ≡ lock.seats - length seats + k = omega arith in
        sym (at-front seats last k lt) ∙ sym (ap (λ (l : List (Known Told)). slice_get l k) are) ∙ new.each k (omega arith) ∙ ap (λ n. Some (knowledge lock.place n lock.start [])) same;
  }

  pub dealt_flusher : IsFlusher lock last
  dealt_flusher =
      let many = long in
      let count = new.count in
      let same : length seats + 1 ≡ lock.seats = omega arith in
      let there : Some last ≡ Some (knowledge lock.place lock.seats lock.start []) =
      sym (at-end seats last) ∙ sym (ap (λ (l : List (Known Told)). slice_get l (length seats)) are)
      ∙ new.each (length seats) (omega arith)
      ∙ ap (λ n. Some (knowledge lock.place n lock.start [])) same in
      subst (IsFlusher lock) (sym (some_is last (knowledge lock.place lock.seats lock.start []) there)) (record { place = refl; number = refl; begins = prefix-self lock.start; own = refl })

-- ---- a turn of the flusher

pub still_flusher : (lock : Place Told) (was now : Known Told) (place : TableId) (number : ℕ)
    (seen own told : List Told) → IsFlusher lock was → IsPrefix was.seen seen → place ≡ was.place → number ≡ was.number
    → own ≡ was.own → told ≡ []
    → now ≡ knowledge place number (seen ++ told) (own ++ told) → IsFlusher lock now
still_flusher lock was now place number seen own told is sees at named made none now_is =
    subst (IsFlusher lock) (sym now_is) (record {
      place = at ∙ is.place;
      number = named ∙ is.number;
      begins = prefix-more lock.start seen told (prefix-trans lock.start was.seen seen is.begins sees);
      own = ap (λ (l : List Told). own ++ l) none ∙ append-nil own ∙ made ∙ is.own;
    })

-- ---- the seats that come back

-- the last seats of a lock, with which nothing was made
pub record AreUnused (lock : Place Told) (seats : List (Known Told)) : Type 0 where
  pub some : length seats ≤ lock.seats
  pub each : (k : ℕ) → k < length seats
      → (seen : List Told)
      × (slice_get seats k ≡ Some (knowledge lock.place (lock.seats - length seats + k + 1) seen []))

pub unused_all : (lock : Place Told) (seats : List (Known Told)) (room : ℕ) (kept given : Option (Known Told))
    → AreFree lock seats room → HasFlusher lock kept given
    → AreUnused lock (seats ++ seat_in (option_or kept given) ∷ [])
unused_all lock seats room kept given free has =
    subst (λ (o : Option (Known Told)). AreUnused lock (seats ++ seat_in o ∷ [])) (sym has.there) (record { some = let long = length_push seats last in let some = free.some in omega arith; each = λ k lt. by k lt (cases_lt k (length seats)) })
  where
    last : Known Told
    last = has.flusher

    whole : last ≡ knowledge lock.place lock.seats last.seen []
    whole =
        ap (λ (p : TableId). knowledge p last.number last.seen last.own) has.is.place
        ∙ ap (λ n. knowledge lock.place n last.seen last.own) has.is.number
        ∙ ap (λ (l : List Told). knowledge lock.place lock.seats last.seen l) has.is.own

    by : (k : ℕ) → k < length (seats ++ last ∷ []) → (k < length seats) ⊎ (length seats ≤ k)
        → (seen : List Told)
        × (slice_get (seats ++ last ∷ []) k ≡ Some (knowledge lock.place (lock.seats - length (seats ++ last ∷ []) + k + 1) seen []))
    by k within (inl lt) =
        let long = length_push seats last in
        let some = free.some in
        let same : lock.seats - length seats + k ≡ lock.seats - length (seats ++ last ∷ []) + k + 1 = omega arith in
        (lock.start, at-front seats last k lt ∙ free.each k lt ∙ ap (λ n. Some (knowledge lock.place n lock.start [])) same)
    by k within (inr le) =
        let long = length_push seats last in
        let some = free.some in
        let end : k ≡ length seats = omega arith in
        let same : lock.seats ≡ lock.seats - length (seats ++ last ∷ []) + k + 1 = omega arith in
        (last.seen, ap (λ n. slice_get (seats ++ last ∷ []) n) end ∙ at-end seats last ∙ ap Some whole ∙ ap (λ n. Some (knowledge lock.place n last.seen [])) same)
