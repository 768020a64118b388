-- Seats that are dealt when a lock is made, and gathered when it ends.
use Rattle.std.proofs.Common.{◌≡◌, ℕ, zero, suc, ◌+◌, ◌-◌, ◌<◌, List, [], ◌∷◌, ◌++◌, length, drop, take, get_or, slice_get, All, Some, sym, refl, ap, ◌∙◌, subst, length-append, arith}
use Rattle.std.proofs.lemmas.List.Elements.{All-cons, All-head, All-tail}
use mathlib.Core.List.{IsPrefix}
use mathlib.Core.Logic.{dite}
use native.Mathlib.Decide.{ℕ_discrete}
use Rattle.atomic_table.specs.Table.{Me}
use Rattle.atomic_table.specs.Seated.{TableId}
use Rattle.seat_lock.specs.declared.views.View.{View}
use Rattle.seat_lock.specs.Known.{Known, Place, knowledge, lock_of}
use Rattle.seat_lock.specs.Story.{made_by, IsClosed}
use Rattle.seat_lock.specs.Views.{idle_view, rest_view, dealt_view, joint_view, compared_view, numbers_from, seen_of, own_of}
use Rattle.seat_lock.specs.Rule.{Owns}
use Rattle.seat_lock.specs.Boards.{IsOutside, IsSeated, HasAll, IsShut}
use Rattle.seat_lock.proofs.Prefixes.{prefix-trans}

pub all-left : {X : Type 0} (P : X → Type 0) (xs ys : List X) → All P (xs ++ ys) → All P xs
all-left P [] ys h = λ k d lt. absurd (omega arith)
all-left P (x ∷ xs) ys h = All-cons P x xs (All-head P x (xs ++ ys) h) (all-left P xs ys (All-tail P x (xs ++ ys) h))

slice_get-snoc : {X : Type 0} (xs : List X) (x : X) (k : ℕ) → k < length xs
    → slice_get (xs ++ x ∷ []) k ≡ slice_get xs k
slice_get-snoc [] x k lt = absurd (omega arith)
slice_get-snoc (y ∷ ys) x zero lt = refl
slice_get-snoc (y ∷ ys) x (suc k) lt = slice_get-snoc ys x k (omega arith)

slice_get-last : {X : Type 0} (xs : List X) (x : X) → slice_get (xs ++ x ∷ []) (length xs) ≡ Some x
slice_get-last [] x = refl
slice_get-last (y ∷ ys) x = slice_get-last ys x

-- a list that has f k at each place k goes on by f of its length
pub gets-next : {X : Type 0} (f : ℕ → X) (xs ys : List X) (x : X) (n : ℕ) → ys ≡ xs ++ x ∷ [] → length xs ≡ n → x ≡ f n
    → ((k : ℕ) → k < n → slice_get xs k ≡ Some (f k)) → (k : ℕ) → k < n + 1 → slice_get ys k ≡ Some (f k)
gets-next f xs ys x n are long is each k lt =
    ap (λ l. slice_get l k) are
    ∙ dite (ℕ_discrete k n)
    (λ same. ap (slice_get (xs ++ x ∷ [])) (same ∙ sym long) ∙ (slice_get-last xs x ∙ ap (λ y. Some y) (is ∙ ap f (sym same))))
    (λ other. slice_get-snoc xs x k (omega arith) ∙ each k (omega arith))

module _ {E : Type 0} where
  numbers-next : (low count : ℕ) → low < count
      → numbers_from {E = E} low (count - low) ≡ (low + 1, []) ∷ numbers_from (low + 1) (count - (low + 1))
  numbers-next low count lt =
      let more : count - low ≡ suc (count - (low + 1)) = omega arith in
      let next : suc low ≡ low + 1 = omega arith in
      ap (numbers_from low) more ∙ ap (λ n. (n, []) ∷ numbers_from n (count - (low + 1))) next

  pub deals-left : {S : Type 0} (seen : List E) (low count : ℕ) (me after : Me S (View E)) → low < count
      → me ≡ (idle_view seen (numbers_from low (count - low)), []) → after ≡ (rest_view 1 me.0, [])
      → after ≡ (idle_view seen (numbers_from (low + 1) (count - (low + 1))), [])
  deals-left {S} seen low count me after lt was is =
      is
      ∙ (ap (λ (m : Me S (View E)). (rest_view 1 m.0, [])) was ∙ ap (λ (ns : List (ℕ × List E)). (idle_view seen (drop 1 ns), [])) (numbers-next low count lt))

  -- the views of a badge that was just dealt
  pub deals-new : {S : Type 0} (seen : List E) (low count : ℕ) (me new : Me S (View E)) (views : List (View E))
      → low < count → me ≡ (idle_view seen (numbers_from low (count - low)), []) → new ≡ (dealt_view 1 me.0, [])
      → views ≡ new.0 ∷ [] → views ≡ idle_view seen ((low + 1, []) ∷ []) ∷ []
  deals-new {S} seen low count me new views lt was is are =
      are
      ∙ ap (λ (m : Me S (View E)). m.0 ∷ []) (is ∙ (ap (λ (m : Me S (View E)). (dealt_view 1 m.0, [])) was ∙ ap (λ (ns : List (ℕ × List E)). (idle_view seen (take 1 ns), [])) (numbers-next low count lt)))

  pub seated-new : (seen own : List E) (number front : ℕ) (views : List (View E))
      → views ≡ idle_view seen ((number, own) ∷ []) ∷ [] → front ≡ length seen → IsSeated number front views
  seated-new seen own number front views are long = record {
    views_are = are ∙ (λ i. idle_view (sym (ap seen_of are) i) ((number, sym (ap own_of are) i) ∷ []) ∷ []);
    front_is = long ∙ ap length (sym (ap seen_of are));
  }

  pub known-new : (place other : TableId) (seen own : List E) (number : ℕ) (views : List (View E)) → place ≡ other
      → views ≡ idle_view seen ((number, own) ∷ []) ∷ []
      → knowledge place number (seen_of views) (own_of views) ≡ knowledge other number seen own
  known-new place other seen own number views same are =
      λ i. knowledge (same i) number (ap seen_of are i) (ap own_of are i)

  pub outside-next : {S : Type 0} (before after : Me S (View E)) (other : View E)
      → after ≡ (compared_view (joint_view before.0 other), []) → IsOutside before → IsOutside after
  outside-next {S} before after other is was = record {
    ticket = ap (λ (m : Me S (View E)). m.0.ticket) is ∙ was.ticket;
    free = ap (λ (m : Me S (View E)). m.0.holds) is ∙ was.free;
    hand = ap (λ (m : Me S (View E)). m.1) is;
  }

module _ {E : Type 0} (maker : E → ℕ) where
  owns-left : (log : List E) (xs ys : List (ℕ × List E)) → Owns maker log (xs ++ ys) → Owns maker log xs
  owns-left log [] ys a = tt
  owns-left log (x ∷ xs) ys a = (a.0, owns-left log xs ys a.1)

  owns-right : (log : List E) (xs ys : List (ℕ × List E)) → Owns maker log (xs ++ ys) → Owns maker log ys
  owns-right log [] ys a = a
  owns-right log (x ∷ xs) ys a = owns-right log xs ys a.1

  -- one seat more is taken in
  gathers-one : (rest : List (Known E)) (place : TableId) (number : ℕ) (seen own : List E) (v w : View E)
      → HasAll maker rest v → w ≡ compared_view (joint_view v (idle_view seen ((number, own) ∷ [])))
      → IsPrefix v.seen w.seen → IsPrefix seen w.seen → HasAll maker (knowledge place number seen own ∷ rest) w
  gathers-one rest place number seen own v w was is mine theirs =
      let seat = knowledge place number seen own in
      let parts : w.mine ≡ v.mine ++ (number, own) ∷ [] = ap (λ (u : View E). u.mine) is in record {
        count = (let long = ap length parts in let sum = length-append v.mine ((number, own) ∷ []) in let before = was.count in omega arith);
        seen = All-cons (λ (s : Known E). IsPrefix s.seen w.seen) seat rest theirs (λ k d lt. prefix-trans _ _ _ (was.seen k d lt) mine);
        own = (λ log owns.
            let both = subst (Owns maker log) parts owns in
            All-cons (λ (s : Known E). made_by maker s.number log ≡ s.own) seat rest (owns-right log v.mine ((number, own) ∷ []) both).0 (was.own log (owns-left log v.mine ((number, own) ∷ []) both)));
      }

  pub gathers-next : {S : Type 0} (rest : List (Known E)) (seat : Known E) (place : TableId) (number front : ℕ)
      (views : List (View E)) (before after : Me S (View E)) (o : View E) → IsSeated number front views → views ≡ o ∷ []
      → knowledge place number (seen_of views) (own_of views) ≡ seat → HasAll maker rest before.0
      → after ≡ (compared_view (joint_view before.0 o), []) → IsPrefix before.0.seen after.0.seen
      → IsPrefix o.seen after.0.seen
      → HasAll maker (seat ∷ rest) after.0
  gathers-next {S} rest seat place number front views before after o seated are is was new mine theirs =
      let there : o ≡ idle_view (seen_of views) ((number, own_of views) ∷ []) = ap (λ l. get_or l 0 o) (sym are ∙ seated.views_are) in
      subst (λ s. HasAll maker (s ∷ rest) after.0) is
      (gathers-one rest place number (seen_of views) (own_of views) before.0 after.0 was (ap (λ (m : Me S (View E)). m.0) new ∙ ap (λ u. compared_view (joint_view before.0 u)) there) mine
      (subst (λ l. IsPrefix l after.0.seen) (ap (λ (u : View E). u.seen) there) theirs))

pub length-next : {X : Type 0} (xs ys : List X) (x : X) (n : ℕ) → ys ≡ xs ++ x ∷ [] → length xs ≡ n → length ys ≡ n + 1
length-next xs ys x n are long = let sum = length-append xs (x ∷ []) in let same = ap length are in omega arith

-- what all seats know of the value that comes back
pub closes : {E V : Type 0} (maker : E → ℕ) (stands : V → List E → Type 0) (lock : Place E) (seats : List (Known E))
    (place : TableId) (count : ℕ) (start : List E) (v : View E) (value : V)
    → lock_of place count start ≡ lock → HasAll maker seats v → IsShut maker stands start count v value
    → IsClosed maker stands lock seats value
closes {E} {V} maker stands lock seats place count start v value is all shut =
    subst (λ (l : Place E). IsClosed maker stands l seats value) is
    record {
      log = shut.log;
      stands_for = shut.stands_for;
      seen = (λ k d lt. prefix-trans _ _ _ (all.seen k d lt) shut.seen);
      own = all.own shut.log shut.own;
      first = shut.first;
      others = shut.others;
    }
