-- Stories: what they tell together, and how they begin.
use Rattle.std.proofs.Common.{◌≡◌, ◌+◌, List, [], ◌∷◌, ◌++◌, length, sym, refl, ap, ◌∙◌, append-nil, arith, length-append}
use Rattle.std.proofs.lemmas.List.{nil_from_length}
use mathlib.Core.List.{IsPrefix}
use Rattle.model_history.specs.History.{Commit}
use Rattle.kdb_handle.specs.Story.{Told, Opening, Opened, Committed, Failed, Refused, BeginsNone, commits_of, failures_in, refusals_in}

pub commits-append : (log more : List Told) → commits_of (log ++ more) ≡ commits_of log ++ commits_of more
commits-append [] more = refl
commits-append (Opened opening ∷ log) more = commits-append log more
commits-append (Committed commit ∷ log) more = ap (λ (cs : List Commit). commit ∷ cs) (commits-append log more)
commits-append (Failed commit ∷ log) more = commits-append log more
commits-append (Refused handle ∷ log) more = commits-append log more

pub failures-append : (log more : List Told) → failures_in (log ++ more) ≡ failures_in log + failures_in more
failures-append [] more = omega arith
failures-append (Opened opening ∷ log) more = failures-append log more
failures-append (Committed commit ∷ log) more = failures-append log more
failures-append (Failed commit ∷ log) more = let rest = failures-append log more in omega arith
failures-append (Refused handle ∷ log) more = failures-append log more

pub refusals-append : (log more : List Told) → refusals_in (log ++ more) ≡ refusals_in log + refusals_in more
refusals-append [] more = omega arith
refusals-append (Opened opening ∷ log) more = refusals-append log more
refusals-append (Committed commit ∷ log) more = refusals-append log more
refusals-append (Failed commit ∷ log) more = refusals-append log more
refusals-append (Refused handle ∷ log) more = let rest = refusals-append log more in omega arith

-- where no set was begun by now, none had been before
pub begins_none-before : (log more : List Told) → BeginsNone (log ++ more) → BeginsNone log
begins_none-before log more none =
    let commits = sym (commits-append log more) ∙ none.commits in
    let failures = sym (failures-append log more) ∙ none.failures in
    record {
      commits = nil_from_length (commits_of log) (omega (arith, ap length commits, length-append (commits_of log) (commits_of more)));
      failures = omega arith;
    }

-- where one is told, one was begun
pub begins-commit : (log : List Told) (commit : Commit) → BeginsNone (log ++ Committed commit ∷ []) → ⊥
begins-commit log commit none =
    omega (arith, ap length (sym (commits-append log (Committed commit ∷ [])) ∙ none.commits), length-append (commits_of log) (commit ∷ []))

pub begins-failure : (log : List Told) (commit : Commit) → BeginsNone (log ++ Failed commit ∷ []) → ⊥
begins-failure log commit none =
    let one : failures_in (log ++ Failed commit ∷ []) ≡ failures_in log + 1 = failures-append log (Failed commit ∷ []) in omega (arith, one, none.failures)

-- who has seen more of the story has seen more of its history
pub commits-prefix : (log longer : List Told) → IsPrefix log longer → IsPrefix (commits_of log) (commits_of longer)
commits-prefix log longer p = (commits_of p.0, sym (commits-append log p.0) ∙ ap commits_of p.1)

-- it gains the commits of what the story gains
pub commits-behind : (log longer : List Told) → (p : IsPrefix log longer)
    → (commits-prefix log longer p).0 ≡ commits_of p.0
unfolding commits-prefix
commits-behind log longer p = refl

-- a story has one opening
abbrev opened_by : Opening → List Told → Opening
opened_by other [] = other
opened_by other (Opened opening ∷ log) = opening
opened_by other (Committed commit ∷ log) = other
opened_by other (Failed commit ∷ log) = other
opened_by other (Refused handle ∷ log) = other

pub one_opening : (first second : Opening) (log rest : List Told) → IsPrefix (Opened first ∷ []) log
    → log ≡ Opened second ∷ rest → first ≡ second
one_opening first second log rest p is = ap (opened_by first) (p.1 ∙ is)

-- two lists of which each begins the other are one
pub prefix-both : {E : Type 0} (xs ys : List E) → IsPrefix xs ys → IsPrefix ys xs → xs ≡ ys
prefix-both {E} xs ys p q =
    let long = ap length p.1 in let short = ap length q.1 in
    let a = length-append xs p.0 in let b = length-append ys q.0 in
    sym (append-nil xs) ∙ ap (λ (l : List E). xs ++ l) (sym (nil_from_length p.0 (omega arith))) ∙ p.1
