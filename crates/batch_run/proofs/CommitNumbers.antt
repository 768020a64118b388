-- The numbers of a handle's commits, as the story goes on.
use Rattle.std.proofs.Common.{◌≡◌, ℕ, ◌+◌, ◌≤◌, Bool, true, false, cond, nat_eq, List, [], ◌∷◌, ◌++◌, length, refl, sym, ap, ◌∙◌, append-nil, eq-eqb, arith}
use mathlib.Core.List.{IsPrefix}
use Rattle.kdb_handle.specs.Handles.{HandleValue}
use Rattle.kdb_handle.specs.Story.{Told, Opened, Committed, Failed, Refused, maker_of, commits_of}
use Rattle.kdb_handle.proofs.CoverLemmas.{left-out, nothing-behind}
use Rattle.kdb_handle.proofs.StoryLemmas.{commits-append, commits-prefix}
use Rattle.model_batch.specs.Told.{numbers_by, numbers_from}
use Rattle.model_history.specs.History.{Commit}
use Rattle.seat_lock.specs.Story.{made_by}
use Rattle.seat_lock.proofs.Prefixes.{prefix-length, prefix-self, prefix-trans}

-- those of one history behind another
pub numbers_from-append : (number next : ℕ) (xs ys : List Commit)
    → numbers_from number next (xs ++ ys) ≡ numbers_from number next xs ++ numbers_from number (next + length xs) ys
numbers_from-append number next [] ys = ap (λ n. numbers_from number n ys) (omega arith)
numbers_from-append number next (x ∷ xs) ys =
    by (nat_eq x.handle number) (numbers_from-append number (next + 1) xs ys ∙ ap (λ n. numbers_from number (next + 1) xs ++ numbers_from number n ys) (omega arith))
  where
    by : (b : Bool)
        → numbers_from number (next + 1) (xs ++ ys)
        ≡ numbers_from number (next + 1) xs ++ numbers_from number (next + length (x ∷ xs)) ys
        → cond b (next ∷ numbers_from number (next + 1) (xs ++ ys)) (numbers_from number (next + 1) (xs ++ ys))
        ≡ cond b (next ∷ numbers_from number (next + 1) xs) (numbers_from number (next + 1) xs) ++ numbers_from number (next + length (x ∷ xs)) ys
    by true rest = ap (λ (l : List ℕ). next ∷ l) rest
    by false rest = rest

pub numbers-one : (number next : ℕ) (commit : Commit) → commit.handle ≡ number
    → numbers_from number next (commit ∷ []) ≡ next ∷ []
numbers-one number next commit own = ap (λ (b : Bool). cond b (next ∷ []) []) (eq-eqb commit.handle number own)

-- who made no entry made no commit
pub numbers-none : (number next : ℕ) (log : List Told) → made_by maker_of number log ≡ []
    → numbers_from number next (commits_of log) ≡ []
numbers-none number next [] none = refl
numbers-none number next (Opened opening ∷ log) none = numbers-none number next log (left-out _ _ _ none).1
numbers-none number next (Committed made ∷ log) none =
    let off = left-out (nat_eq made.handle number) _ _ none in
    let rest : List ℕ = numbers_from number (next + 1) (commits_of log) in
    ap (λ (b : Bool). cond b (next ∷ rest) rest) off.0 ∙ numbers-none number (next + 1) log off.1
numbers-none number next (Failed made ∷ log) none = numbers-none number next log (left-out _ _ _ none).1
numbers-none number next (Refused handle ∷ log) none = numbers-none number next log (left-out _ _ _ none).1

-- who sees more, and made nothing more, has the same
pub numbers-same : (number : ℕ) (seen found : List Told) → IsPrefix seen found
    → made_by maker_of number found ≡ made_by maker_of number seen
    → numbers_by number (commits_of found) ≡ numbers_by number (commits_of seen)
numbers-same number seen found p same =
    ap (λ (log : List Told). numbers_by number (commits_of log)) (sym p.1)
    ∙ ap (numbers_by number) (commits-append seen p.0)
    ∙ numbers_from-append number 1 (commits_of seen) (commits_of p.0)
    ∙ ap (λ (l : List ℕ). numbers_by number (commits_of seen) ++ l) (numbers-none number (1 + length (commits_of seen)) p.0 (nothing-behind number seen found p same))
    ∙ append-nil (numbers_by number (commits_of seen))

-- who has seen more of the story has seen no fewer commits
pub longer-commits : (seen longer : List Told) → IsPrefix seen longer
    → length (commits_of seen) ≤ length (commits_of longer)
longer-commits seen longer p = prefix-length (commits_of seen) (commits_of longer) (commits-prefix seen longer p)

-- ---- a handle that made nothing

-- it has one number, has seen more, and made nothing since it was another
pub record IsSince (old new : HandleValue) : Type 0 where
  pub number : new.number ≡ old.number
  pub seen : IsPrefix old.seen new.seen
  pub own : new.own ≡ old.own

pub since-self : (handle : HandleValue) → IsSince handle handle
since-self handle = record { number = refl; seen = prefix-self handle.seen; own = refl }

pub since-trans : (old mid new : HandleValue) → IsSince old mid → IsSince mid new → IsSince old new
since-trans old mid new one two =
    record {
      number = two.number ∙ one.number;
      seen = prefix-trans old.seen mid.seen new.seen one.seen two.seen;
      own = two.own ∙ one.own;
    }

-- so it has no new commits
pub numbers-since : (old new : HandleValue) → old.own ≡ made_by maker_of old.number old.seen
    → new.own ≡ made_by maker_of new.number new.seen → IsSince old new
    → numbers_by old.number (commits_of new.seen) ≡ numbers_by old.number (commits_of old.seen)
numbers-since old new was is since =
    numbers-same old.number old.seen new.seen since.seen (ap (λ (n : ℕ). made_by maker_of n new.seen) (sym since.number) ∙ sym is ∙ since.own ∙ was)
