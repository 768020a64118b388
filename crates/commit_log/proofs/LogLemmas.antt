-- A history with one more commit: what it makes of keys, what it weighs, which commit is the first behind a front, and
-- its index.
use Rattle.std.proofs.Common.{◌≡◌, ℕ, zero, suc, ◌+◌, ◌-◌, ◌<◌, ◌≤◌, Bool, true, false, cond, ◌||◌, List, [], ◌∷◌, ◌++◌, length, drop, take, get_or, map, slice_get, Option, Some, None, refl, sym, ap, subst, ◌∙◌, arith, nat_lt, ◌^◌, min, All}
use Rattle.std.proofs.lemmas.List.{drop-map, length-drop, take_all, take-append-le, map_push, length-map}
use Rattle.std.proofs.lemmas.Bool.{ltb-true, ltb-false}
use Rattle.std.proofs.lemmas.List.Elements.{All-push}
use Rattle.std.proofs.lemmas.List.Folds.{list_any-append}
use Rattle.std.proofs.lemmas.List.Sums.{sum_by-append}
use Rattle.std.proofs.lemmas.Option.{slice_get-map}
use Rattle.std.specs.List.{list_any, position_from}
use Rattle.std.specs.Option.{option_map}
use Rattle.general_words.proofs.Lists.{some_is, at_place, take-next, same_default}
use Rattle.general_words.proofs.Places.{there_is, before-last, at-last}
use Rattle.model_names.specs.Name.{Name}
use Rattle.model_maps.specs.KeyMap.{KeyMap}
use Rattle.model_history.specs.Changes.{changed, changed_by}
use Rattle.model_history.specs.History.{Commit, replay, touches, is_among, first_after, changes_beside, first_change_after, history_weight, weight_of_commit}
use Rattle.model_history.proofs.HistoryLemmas.{replay-append, first_after-behind, first_after-within, first_after-there}
use Rattle.model_history.proofs.ChangeLemmas.{changed_by-snoc}
use Rattle.commit_log.specs.CommitView.{change_of, commit_of}
use Rattle.commit_log.specs.Index.{IsIndex, last_of}
use Rattle.commit_log.specs.declared.commits.Change as code
use Rattle.commit_log.specs.declared.commits.Commit as logged

-- ---- one more

pub make-next : (cs : List code.Change) (i : ℕ) (c : code.Change) (keys : KeyMap) → i < length cs → c ≡ get_or cs i c
    → changed_by (map change_of (take (i + 1) cs)) keys
    ≡ changed (changed_by (map change_of (take i cs)) keys) (change_of c)
make-next cs i c keys lt is =
    ap (λ xs. changed_by (map change_of xs) keys) (take-next cs i c (at_place cs i c lt is))
    ∙ ap (λ xs. changed_by xs keys) (map_push change_of (take i cs) c)
    ∙ changed_by-snoc (map change_of (take i cs)) (change_of c) keys

pub replay-next : (cs : List logged.Commit) (i : ℕ) (c : logged.Commit) (keys : KeyMap) → i < length cs
    → c ≡ get_or cs i c
    → replay keys (map commit_of (take (i + 1) cs))
    ≡ changed_by (map change_of c.changes) (replay keys (map commit_of (take i cs)))
replay-next cs i c keys lt is =
    ap (λ xs. replay keys (map commit_of xs)) (take-next cs i c (at_place cs i c lt is))
    ∙ ap (replay keys) (map_push commit_of (take i cs) c)
    ∙ replay-append keys (map commit_of (take i cs)) (commit_of c ∷ [])

-- the rest of a list by its length is the rest
pub rest_whole : (n : ℕ) (cs : List logged.Commit)
    → map commit_of (take (length cs - n) (drop n cs)) ≡ drop n (map commit_of cs)
rest_whole n cs =
    let count = length-drop n cs in
    ap (map commit_of) (take_all (length cs - n) (drop n cs) (omega arith)) ∙ sym (drop-map commit_of n cs)

-- ---- the first behind a front

drop-at : {A : Type 0} (xs : List A) (i : ℕ) (x : A) → slice_get xs i ≡ Some x → drop i xs ≡ x ∷ drop (i + 1) xs
drop-at [] i x there = absurd cc
drop-at (y ∷ ys) zero x there = ap (λ z. z ∷ ys) (some_is y x there)
drop-at (y ∷ ys) (suc i) x there =
    let more : suc (i + 1) ≡ suc i + 1 = omega arith in drop-at ys i x there ∙ ap (λ n. x ∷ drop n (y ∷ ys)) more

module _ (history : List Commit) (mount i : ℕ) (commit : Commit) (there : slice_get history i ≡ Some commit) where
  pub first_after-here : touches mount commit ≡ true → first_after history mount i ≡ Some (i + 1)
  first_after-here on =
      ap (position_from (touches mount) (i + 1)) (drop-at history i commit there)
      ∙ ap (λ b. cond b (Some (i + 1)) (position_from (touches mount) (i + 1 + 1) (drop (i + 1) history))) on

  pub first_after-next : touches mount commit ≡ false → first_after history mount i ≡ first_after history mount (i + 1)
  first_after-next off =
      ap (position_from (touches mount) (i + 1)) (drop-at history i commit there)
      ∙ ap (λ b. cond b (Some (i + 1)) (position_from (touches mount) (i + 1 + 1) (drop (i + 1) history))) off

-- the commit at a place, as the definitions have it
pub commit-at : (cs : List logged.Commit) (i : ℕ) (c : logged.Commit) → i < length cs → c ≡ get_or cs i c
    → slice_get (map commit_of cs) i ≡ Some (commit_of c)
commit-at cs i c lt is = slice_get-map commit_of cs i ∙ ap (option_map commit_of) (sym (at_place cs i c lt is))

-- ---- the index

-- where the index has a number up to a front, no commit behind the front touches the mount
pub nothing_behind : (history : List Commit) (last : List ℕ) (mount front : ℕ) → IsIndex history last
    → last_of last mount ≤ front → first_after history mount front ≡ None
nothing_behind history last mount front index le = by (first_after history mount front) refl
  where
    by : (o : Option ℕ) → first_after history mount front ≡ o → first_after history mount front ≡ None
    by None is = is
    by (Some number) is =
        let behind = first_after-behind history mount front number is in
        let within = first_after-within history mount front number is in
        let back : number - 1 + 1 ≡ number = omega arith in
        let commit = there_is history (number - 1) (omega arith) in
        let on = first_after-there history mount front (number - 1) commit.0 (is ∙ ap Some (sym back)) commit.1 in
        let lt = index mount (number - 1) commit.0 commit.1 on in
        absurd (omega arith)

-- a commit that is pushed is the last of the mounts that it touches
pub index-pushed : (history : List Commit) (commit : Commit) (last new : List ℕ) → IsIndex history last
    → ((mount : ℕ) → last_of new mount ≡ cond (is_among commit.touched mount) (length history + 1) (last_of last mount))
    → IsIndex (history ++ commit ∷ []) new
index-pushed history commit last new index marked = λ mount at other there on.
    elim (nat_lt at (length history)) as (λ b. nat_lt at (length history) ≡ b → at < last_of new mount) [
      | true ↦ λ lt. subst (λ n. at < n) (sym (marked mount)) (older mount at (is_among commit.touched mount) (ltb-true _ _ lt) (index mount at other (before-last history commit other at there (ltb-true _ _ lt)) on))
      | false ↦ λ le.
          let here = at-last history commit other at there (ltb-false _ _ le) in
          let among : is_among commit.touched mount ≡ true = ap (touches mount) here.1 ∙ on in
          omega (arith, marked mount ∙ ap (λ b. cond b (length history + 1) (last_of last mount)) among, here.0)
    ] refl
  where
    older : (mount at : ℕ) (b : Bool) → at < length history → at < last_of last mount
        → at < cond b (length history + 1) (last_of last mount)
    older mount at true lt old = omega arith
    older mount at false lt old = old

-- what was marked in a slice is what the vector has
pub written-back : (old new : List ℕ) (n : ℕ) → length new ≡ length old → n ≡ length old
    → take n (new ++ drop (length new) old) ≡ new
written-back old new n same is =
    take-append-le n new (drop (length new) old) (omega arith) ∙ take_all n new (omega arith)

-- ---- weights

pub history_weight-snoc : (history : List Commit) (commit : Commit)
    → history_weight (history ++ commit ∷ []) ≡ history_weight history + weight_of_commit commit
history_weight-snoc history commit =
    let plain : 0 + weight_of_commit commit ≡ weight_of_commit commit = omega arith in
    sum_by-append weight_of_commit history (commit ∷ []) ∙ ap (λ n. history_weight history + n) plain

pub map-pushed : (cs : List logged.Commit) (c : logged.Commit)
    → map commit_of (cs ++ c ∷ []) ≡ map commit_of cs ++ commit_of c ∷ []
map-pushed cs c = map_push commit_of cs c

-- a weight that is added within a limit is exact
pub added : (before one weight told all limit : ℕ) → all ≡ before + one → told ≡ min one (2 ^ 64 - 1) → weight ≡ before
    → all ≤ limit → limit < 2 ^ 64 - 1 → (weight + told ≡ all) × (weight + told ≤ limit)
added before one weight told all limit e is same le small = (omega arith, omega arith)

-- ---- places of the index

pub covered-next : (mounts : List ℕ) (i old new : ℕ) → i < length mounts → old ≤ new → get_or mounts i 0 < new
    → All (λ m. m < old) (take i mounts) → All (λ m. m < new) (take (i + 1) mounts)
covered-next mounts i old new lt le one all =
    subst (All (λ m. m < new)) (sym (take-next mounts i (get_or mounts i 0) (at_place mounts i (get_or mounts i 0) lt (same_default mounts i 0 (get_or mounts i 0) lt))))
    (All-push (λ m. m < new) (take i mounts) (get_or mounts i 0) (λ k d within. omega (arith, all k d within)) one)

pub covered-all : (mounts : List ℕ) (i n : ℕ) → length mounts ≤ i → All (λ m. m < n) (take i mounts)
    → All (λ m. m < n) mounts
covered-all mounts i n le all = subst (All (λ m. m < n)) (take_all i mounts le) all

-- ---- the changes of a commit

-- the change at a place, as the definitions have it
pub change-at : (cs : List code.Change) (i : ℕ) (c : code.Change) → i < length cs → c ≡ get_or cs i c
    → slice_get (map change_of cs) i ≡ Some (change_of c)
change-at cs i c lt is = slice_get-map change_of cs i ∙ ap (option_map change_of) (sym (at_place cs i c lt is))

-- none of the first elements passes, and the next one doesn't
pub none-next : {A : Type 0} (test : A → Bool) (xs : List A) (i : ℕ) (x : A) → slice_get xs i ≡ Some x
    → list_any test (take i xs) ≡ false → test x ≡ false → list_any test (take (i + 1) xs) ≡ false
none-next test xs i x there before not =
    ap (list_any test) (take-next xs i x (sym there))
    ∙ list_any-append test (take i xs) (x ∷ [])
    ∙ ap (λ b. b || (test x || false)) before
    ∙ ap (λ b. b || false) not

-- where the first elements are all, none passes
pub none-whole : {A B : Type 0} (test : B → Bool) (f : A → B) (xs : List A) (i : ℕ) → length xs ≤ i
    → list_any test (take i (map f xs)) ≡ false → list_any test (map f xs) ≡ false
none-whole test f xs i le none =
    let long = length-map xs f in ap (list_any test) (sym (take_all i (map f xs) (omega arith))) ∙ none

-- ---- the first commit behind a front that another handle made and that changes a name

module _ (history : List Commit) (name : Name) (i handle : ℕ) (commit : Commit) (there : slice_get history i ≡ Some commit) where
  pub first_change-here : changes_beside name handle commit ≡ true
      → first_change_after history name i handle ≡ Some (i + 1)
  first_change-here on =
      ap (position_from (changes_beside name handle) (i + 1)) (drop-at history i commit there)
      ∙ ap (λ b. cond b (Some (i + 1)) (position_from (changes_beside name handle) (i + 1 + 1) (drop (i + 1) history))) on

  pub first_change-next : changes_beside name handle commit ≡ false
      → first_change_after history name i handle ≡ first_change_after history name (i + 1) handle
  first_change-next off =
      ap (position_from (changes_beside name handle) (i + 1)) (drop-at history i commit there)
      ∙ ap (λ b. cond b (Some (i + 1)) (position_from (changes_beside name handle) (i + 1 + 1) (drop (i + 1) history))) off
