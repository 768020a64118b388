-- What an inverse makes of a map, name by name, and what a later commit leaves of it.
use Rattle.std.proofs.Common.{◌≡◌, ℕ, zero, suc, ◌+◌, ◌-◌, ◌<◌, ◌≤◌, Bool, true, false, cond, nat_eq, is_some, List, [], ◌∷◌, ◌++◌, length, take, drop, slice_get, map as over, Option, Some, None, refl, sym, ap, ap₂, ◌∙◌, arith}
use Rattle.std.proofs.lemmas.Bool.{eqb-false, ne_eqb}
use Rattle.std.proofs.lemmas.List.{drop_all, length-append, take-append-drop, take-append-le, take_all}
use Rattle.std.specs.FinMap as map
use Rattle.std.specs.FinMap.{find}
use Rattle.std.specs.Option.{option_map, option_map_or, option_or, unwrap_or}
use Rattle.std.specs.Ordering.{eq_by_cmp}
use Rattle.general_words.proofs.Lists.{some_is}
use Rattle.general_words.proofs.Orders.{tied}
use Rattle.general_words.proofs.Searches.{none_before, none_behind}
use Rattle.general_words.proofs.Tests.{cond_off}
use Rattle.model_names.specs.Name.{Name}
use Rattle.model_names.specs.Order.{name_cmp}
use Rattle.model_names.proofs.OrderLemmas.{name_cmp_total, name_cmp-IsAntisymmetric}
use Rattle.model_maps.specs.KeyMap.{KeyMap}
use Rattle.model_history.specs.Changes.{Change, changed, changed_by}
use Rattle.model_history.specs.History.{Commit, replay}
use Rattle.model_history.proofs.ChangeLemmas.{get-changed_by}
use Rattle.model_history.proofs.HistoryLemmas.{replay-append}
use Rattle.model_undo.specs.Undoing.{IsThere, Overtakes, changes_made, commit_at, first_name, first_with, inverse, is_changed, overtaken, turned_back}

-- ---- changes made, name by name

-- one change: at its name what it gives, and elsewhere what was there
get-made : (keys : KeyMap) (change : Change) (q : Name)
    → map.get (changed keys change) q ≡ cond (eq_by_cmp name_cmp q change.0) change.1 (map.get keys q)
get-made keys change q = get-changed_by (change ∷ []) keys q tt ∙ by (eq_by_cmp name_cmp q change.0)
  where
    by : (t : Bool) → unwrap_or (cond t (Some change.1) None) (map.get keys q) ≡ cond t change.1 (map.get keys q)
    by true = refl
    by false = refl

-- a name that none of them changes keeps what it had
pub get-untouched : (changes : List Change) (keys : KeyMap) (q : Name) → is_changed changes q ≡ false
    → map.get (changed_by changes keys) q ≡ map.get keys q
get-untouched [] keys q none = refl
get-untouched (change ∷ changes) keys q none =
    by (get-untouched changes (changed keys change) q) (eq_by_cmp name_cmp q change.0) refl none
  where
    by : (is_changed changes q ≡ false → map.get (changed_by changes (changed keys change)) q ≡ map.get (changed keys change) q)
        → (t : Bool) → eq_by_cmp name_cmp q change.0 ≡ t
        → is_some (cond t (Some change.1) (find name_cmp q changes)) ≡ false
        → map.get (changed_by changes (changed keys change)) q ≡ map.get keys q
    by rest true is none = absurd cc
    by rest false is none = rest none ∙ get-made keys change q ∙ ap (λ b. cond b change.1 (map.get keys q)) is

either : {A : Type 0} (t : Bool) (x : A) → cond t x x ≡ x
either true x = refl
either false x = refl

-- changes turned back to a map give their names what that has, and leave the others
pub get-turned_back : (before : KeyMap) (changes : List Change) (keys : KeyMap) (q : Name)
    → map.get (changed_by (over (turned_back before) changes) keys) q
    ≡ cond (is_changed changes q) (map.get before q) (map.get keys q)
get-turned_back before [] keys q = refl
get-turned_back before (change ∷ changes) keys q =
    get-turned_back before changes (changed keys (turned_back before change)) q
    ∙ ap (cond (is_changed changes q) (map.get before q)) (get-made keys (turned_back before change) q)
    ∙ by (eq_by_cmp name_cmp q change.0) refl
  where
    by : (t : Bool) → eq_by_cmp name_cmp q change.0 ≡ t
        → cond (is_changed changes q) (map.get before q) (cond t (map.get before change.0) (map.get keys q))
        ≡ cond (is_some (cond t (Some change.1) (find name_cmp q changes))) (map.get before q) (map.get keys q)
    by true is =
        let same : change.0 ≡ q = sym (name_cmp-IsAntisymmetric q change.0 (tied _ is)) in
        ap (λ n. cond (is_changed changes q) (map.get before q) (map.get before n)) same
        ∙ either (is_changed changes q) (map.get before q)
    by false is = refl

-- what was changed and turned back is what it was
pub back-again : (before : KeyMap) (changes : List Change)
    → changed_by (over (turned_back before) changes) (changed_by changes before) ≡ before
back-again before changes =
    map.same_map name_cmp_total name_cmp-IsAntisymmetric _ _ (λ q. get-turned_back before changes (changed_by changes before) q ∙ by q (is_changed changes q) refl)
  where
    by : (q : Name) (t : Bool) → is_changed changes q ≡ t
        → cond t (map.get before q) (map.get (changed_by changes before) q) ≡ map.get before q
    by q true is = refl
    by q false is = get-untouched changes before q is

-- ---- the commit of a number

pub commit_at-next : (history : List Commit) (n : ℕ) → commit_at history (n + 1) ≡ slice_get history n
commit_at-next history n =
    let later : nat_eq (n + 1) 0 ≡ false = ne_eqb (n + 1) 0 (λ e. omega arith) in
    let place : n + 1 - 1 ≡ n = omega arith in
    ap (λ b. cond b None (slice_get history (n + 1 - 1))) later ∙ ap (slice_get history) place

-- it stands at a place
pub stands-at : (history : List Commit) (number : ℕ) (commit : Commit) → commit_at history number ≡ Some commit
    → (1 ≤ number) × (slice_get history (number - 1) ≡ Some commit)
stands-at history number commit there = by (nat_eq number 0) refl there
  where
    by : (t : Bool) → nat_eq number 0 ≡ t → cond t None (slice_get history (number - 1)) ≡ Some commit
        → (1 ≤ number) × (slice_get history (number - 1) ≡ Some commit)
    by true is found = absurd cc
    by false is found = (omega (arith, eqb-false number 0 is), found)

-- what it changes
pub made-there : (history : List Commit) (number : ℕ) (commit : Commit) → commit_at history number ≡ Some commit
    → changes_made history number ≡ commit.changes
made-there history number commit there = ap (λ (o : Option Commit). option_map_or (λ found. found.changes) o []) there

-- ---- the last commit

at-end : {A : Type 0} (xs : List A) (x : A) → slice_get (xs ++ x ∷ []) (length xs) ≡ Some x
at-end [] x = refl
at-end (y ∷ xs) x = at-end xs x

front : {A : Type 0} (xs : List A) (x : A) → take (length xs + 1 - 1) (xs ++ x ∷ []) ≡ xs
front xs x =
    let long : length xs + 1 - 1 ≡ length xs = omega arith in
    ap (λ n. take n (xs ++ x ∷ [])) long ∙ take-append-le (length xs) xs (x ∷ []) (omega arith)
    ∙ take_all (length xs) xs (omega arith)

module _ (history : List Commit) (last : Commit) where
  made-last : changes_made (history ++ last ∷ []) (length history + 1) ≡ last.changes
  made-last =
      made-there (history ++ last ∷ []) (length history + 1) last (commit_at-next (history ++ last ∷ []) (length history) ∙ at-end history last)

  pub undone-last : (start : KeyMap)
      → changed_by (inverse start (history ++ last ∷ []) (length history + 1)) (replay start (history ++ last ∷ []))
      ≡ replay start history
  undone-last start =
      ap₂ (λ before changes. changed_by (over (turned_back (replay start before)) changes) (replay start (history ++ last ∷ []))) (front history last) made-last
      ∙ ap (changed_by (over (turned_back (replay start history)) last.changes)) (replay-append start history (last ∷ []))
      ∙ back-again (replay start history) last.changes

  long : length (history ++ last ∷ []) ≡ length history + 1
  long = length-append history (last ∷ [])

  pub last-there : IsThere (history ++ last ∷ []) (length history + 1)
  last-there = record {
    some = omega arith;
    within = omega (arith, long);
    latest = ap (first_with (is_changed (changes_made (history ++ last ∷ []) (length history + 1))) (length history + 1 + 1)) (drop_all (length history + 1) (history ++ last ∷ []) (omega (arith, long)));
  }

-- ---- what no later commit changes

-- a name that passes is not changed where no name of the changes passes
unchanged : (test : Name → Bool) (changes : List Change) (q : Name) → first_name test changes ≡ None → test q ≡ true
    → is_changed changes q ≡ false
unchanged test [] q none passes = refl
unchanged test (change ∷ changes) q none passes =
    by (unchanged test changes q (none_behind (cond (test change.0) (Some change.0) None) (first_name test changes) none) passes) (eq_by_cmp name_cmp q change.0) refl
  where
    by : is_changed changes q ≡ false → (t : Bool) → eq_by_cmp name_cmp q change.0 ≡ t
        → is_some (cond t (Some change.1) (find name_cmp q changes)) ≡ false
    by rest true is =
        let same : q ≡ change.0 = name_cmp-IsAntisymmetric q change.0 (tied _ is) in
        let on : test change.0 ≡ true = ap test (sym same) ∙ passes in
        let off : test change.0 ≡ false = cond_off (test change.0) change.0 (none_before (cond (test change.0) (Some change.0) None) (first_name test changes) none) in
        absurd cc
    by rest false is = rest

unnumbered : (n : ℕ) (o : Option Name) → ◌≡◌ {A = Option (ℕ × Name)} (option_map (λ name. (n, name)) o) None → o ≡ None
unnumbered n None e = refl
unnumbered n (Some name) e = absurd cc

-- so it keeps what it had through commits of which none has such a name
kept-from : (test : Name → Bool) (n : ℕ) (commits : List Commit) (keys : KeyMap) (q : Name)
    → first_with test n commits ≡ None → test q ≡ true → map.get (replay keys commits) q ≡ map.get keys q
kept-from test n [] keys q none passes = refl
kept-from test n (commit ∷ commits) keys q none passes =
    let here : Option (ℕ × Name) = option_map (λ name. (n, name)) (first_name test commit.changes) in
    let later : Option (ℕ × Name) = first_with test (n + 1) commits in
    kept-from test (n + 1) commits (changed_by commit.changes keys) q (none_behind here later none) passes
    ∙ get-untouched commit.changes keys q (unchanged test commit.changes q (unnumbered n (first_name test commit.changes) (none_before here later none)) passes)

pub stands-still : (start : KeyMap) (history : List Commit) (number : ℕ) (q : Name) → overtaken history number ≡ None
    → is_changed (changes_made history number) q ≡ true
    → map.get (replay start history) q ≡ map.get (replay start (take number history)) q
stands-still start history number q none is =
    ap (λ h. map.get (replay start h) q) (sym (take-append-drop number history))
    ∙ ap (λ keys. map.get keys q) (replay-append start (take number history) (drop number history))
    ∙ kept-from (is_changed (changes_made history number)) (number + 1) (drop number history) (replay start (take number history)) q none is

-- ---- the first later commit

-- the commit that is told is one of those, and those before it have no such name
record IsFirst (test : Name → Bool) (n : ℕ) (commits : List Commit) (by : ℕ) (name : Name) : Type 0 where
  place : ℕ
  commit : Commit
  stands : slice_get commits place ≡ Some commit
  is : by ≡ n + place
  passes : first_name test commit.changes ≡ Some name
  before : (j : ℕ) (other : Commit) → j < place → slice_get commits j ≡ Some other
      → first_name test other.changes ≡ None

module _ (test : Name → Bool) (by : ℕ) (name : Name) where
  next : (n : ℕ) (commit : Commit) (commits : List Commit) → first_name test commit.changes ≡ None
      → IsFirst test (n + 1) commits by name → IsFirst test n (commit ∷ commits) by name
  next n commit commits none rest =
      record {
        place = suc rest.place;
        commit = rest.commit;
        stands = rest.stands;
        is = omega (arith, rest.is);
        passes = rest.passes;
        before = earlier;
      }
    where
      earlier : (j : ℕ) (other : Commit) → j < suc rest.place → slice_get (commit ∷ commits) j ≡ Some other
          → first_name test other.changes ≡ None
      earlier zero other lt there =
          ap (λ (c : Commit). first_name test c.changes) (sym (some_is commit other there)) ∙ none
      earlier (suc j) other lt there = rest.before j other (omega arith) there

  with-first : (n : ℕ) (commits : List Commit) → first_with test n commits ≡ Some (by, name)
      → IsFirst test n commits by name
  with-first n [] e = absurd cc
  with-first n (commit ∷ commits) e = at (with-first (n + 1) commits) (first_name test commit.changes) refl e
    where
      at : (first_with test (n + 1) commits ≡ Some (by, name) → IsFirst test (n + 1) commits by name)
          → (o : Option Name) → first_name test commit.changes ≡ o
          → option_or (option_map (λ found. (n, found)) o) (first_with test (n + 1) commits) ≡ Some (by, name)
          → IsFirst test n (commit ∷ commits) by name
      at rest None is h = next n commit commits is (rest h)
      at rest (Some found) is h =
          let pair : ◌≡◌ {A = ℕ × Name} (n, found) (by, name) = some_is (n, found) (by, name) h in
          record {
            place = 0;
            commit = commit;
            stands = refl;
            is = omega (arith, ap (λ (p : ℕ × Name). p.0) pair);
            passes = is ∙ ap (λ (p : ℕ × Name). Some p.1) pair;
            before = λ j other lt there. absurd (omega arith);
          }

-- where none is told, none has such a name
with-none : (test : Name → Bool) (n : ℕ) (commits : List Commit) (j : ℕ) (other : Commit)
    → first_with test n commits ≡ None → slice_get commits j ≡ Some other → first_name test other.changes ≡ None
with-none test n [] j other none there = absurd cc
with-none test n (commit ∷ commits) zero other none there =
    ap (λ (c : Commit). first_name test c.changes) (sym (some_is commit other there))
    ∙ unnumbered n (first_name test commit.changes) (none_before (option_map (λ name. (n, name)) (first_name test commit.changes)) (first_with test (n + 1) commits) none)
with-none test n (commit ∷ commits) (suc j) other none there =
    with-none test (n + 1) commits j other (none_behind (option_map (λ name. (n, name)) (first_name test commit.changes)) (first_with test (n + 1) commits) none) there

-- what stands behind a number
behind : {A : Type 0} (xs : List A) (number j : ℕ) → slice_get (drop number xs) j ≡ slice_get xs (number + j)
behind xs zero j = let same : j ≡ 0 + j = omega arith in ap (slice_get xs) same
behind [] (suc number) j = refl
behind (x ∷ xs) (suc number) j =
    let same : suc (number + j) ≡ suc number + j = omega arith in behind xs number j ∙ ap (slice_get (x ∷ xs)) same

module _ (history : List Commit) (number : ℕ) where
  commit-behind : (j : ℕ) → slice_get (drop number history) j ≡ commit_at history (number + 1 + j)
  commit-behind j =
      let same : number + j + 1 ≡ number + 1 + j = omega arith in
      behind history number j ∙ sym (commit_at-next history (number + j)) ∙ ap (commit_at history) same

  -- a later commit as one of those behind the number
  later-at : (at : ℕ) (other : Commit) → number < at → commit_at history at ≡ Some other
      → slice_get (drop number history) (at - number - 1) ≡ Some other
  later-at at other lt there =
      let same : number + 1 + (at - number - 1) ≡ at = omega arith in
      commit-behind (at - number - 1) ∙ ap (commit_at history) same ∙ there

  pub overtaken-none : (at : ℕ) (other : Commit) → overtaken history number ≡ None → number < at
      → commit_at history at ≡ Some other → first_name (is_changed (changes_made history number)) other.changes ≡ None
  overtaken-none at other none lt there =
      with-none (is_changed (changes_made history number)) (number + 1) (drop number history) (at - number - 1) other none (later-at at other lt there)

  pub overtaken-some : (by : ℕ) (name : Name) → overtaken history number ≡ Some (by, name)
      → Overtakes history number by name
  overtaken-some by name e =
      let first = with-first (is_changed (changes_made history number)) by name (number + 1) (drop number history) e in
      record {
        commit = first.commit;
        stands = ap (commit_at history) first.is ∙ sym (commit-behind first.place) ∙ first.stands;
        later = omega (arith, first.is);
        first = first.passes;
        between = λ at other lt before there. first.before (at - number - 1) other (omega (arith, first.is)) (later-at at other lt there);
      }
