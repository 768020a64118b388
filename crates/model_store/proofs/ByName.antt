-- Names that no other handle changed behind a front, and what a mount by key that nothing blocks has of them.
use Rattle.std.proofs.Common.{◌≡◌, ℕ, ◌+◌, Bool, true, false, cond, not, ◌&&◌, List, [], ◌∷◌, take, drop, Option, Some, None, refl, sym, ap, ◌∙◌}
use Rattle.std.specs.FinMap as map
use Rattle.std.specs.FinMap.{find}
use Rattle.std.specs.List.{list_any, position_from}
use Rattle.std.specs.Ordering.{eq_by_cmp}
use Rattle.std.proofs.lemmas.Bool.{or_parts}
use Rattle.general_words.proofs.Orders.{tied}
use Rattle.model_names.specs.Name.{Name}
use Rattle.model_names.specs.Order.{name_cmp, name_eq}
use Rattle.model_names.proofs.OrderLemmas.{name_cmp-IsAntisymmetric, name_decides}
use Rattle.model_maps.specs.Entry.{Entry}
use Rattle.model_maps.specs.KeyMap.{KeyMap}
use Rattle.model_history.specs.Changes.{Change, changed, changed_by}
use Rattle.model_history.specs.History.{Commit, changes_beside, changes_name, commits_by, first_change_after, is_by, replay}
use Rattle.model_history.proofs.ChangeLemmas.{get-changed}
use Rattle.model_store.specs.Records.{seen_from}
use Rattle.model_store.specs.Sets.{Prepared}
use Rattle.model_store.specs.Verdicts.{changes_same, first_same}
use Rattle.model_store.proofs.Histories.{replay-cut}
use Rattle.set_split.specs.Involved.{owns}

-- ---- one name

-- names that the test finds different don't tie
apart : (q name : Name) → name_eq q name ≡ false → eq_by_cmp name_cmp q name ≡ false
apart q name off = elim (eq_by_cmp name_cmp q name) as (λ b. eq_by_cmp name_cmp q name ≡ b → b ≡ false) [
  | true ↦ λ is. let same : name_eq q name ≡ true = (name_decides q name).1 (name_cmp-IsAntisymmetric q name (tied _ is)) in absurd cc
  | false ↦ λ is. refl
] refl

-- changes leave a name that none of them has
pub unchanged : (changes : List Change) (keys : KeyMap) (q : Name)
    → list_any (λ (change : Change). name_eq q change.0) changes ≡ false
    → map.get (changed_by changes keys) q ≡ map.get keys q
unchanged [] keys q off = refl
unchanged (change ∷ changes) keys q off =
    let both = or_parts (name_eq q change.0) (list_any (λ (change : Change). name_eq q change.0) changes) off in
    unchanged changes (changed keys change) q both.1
    ∙ get-changed keys change q
    ∙ ap (λ b. cond b change.1 (map.get keys q)) (apart q change.0 both.0)

-- and give two maps the same where these had the same
changed_alike : (changes : List Change) (keys other : KeyMap) (q : Name) → map.get keys q ≡ map.get other q
    → map.get (changed_by changes keys) q ≡ map.get (changed_by changes other) q
changed_alike [] keys other q same = same
changed_alike (change ∷ changes) keys other q same =
    changed_alike changes (changed keys change) (changed other change) q
    (get-changed keys change q ∙ ap (cond (eq_by_cmp name_cmp q change.0) change.1) same ∙ sym (get-changed other change q))

-- where no other handle changes a name, all commits make of it what those of the handle make
beside_alike : (q : Name) (handle i : ℕ) (commits : List Commit) (keys other : KeyMap)
    → map.get keys q ≡ map.get other q → position_from (changes_beside q handle) i commits ≡ None
    → map.get (replay keys commits) q ≡ map.get (replay other (commits_by handle commits)) q
beside_alike q handle i [] keys other same none = same
beside_alike q handle i (commit ∷ commits) keys other same none = elim (is_by handle commit) as (λ b. cond (not b && changes_name q commit) (Some i) (position_from (changes_beside q handle) (i + 1) commits) ≡ None
    → map.get (replay keys (commit ∷ commits)) q ≡ map.get (replay other (cond b (commit ∷ commits_by handle commits) (commits_by handle commits))) q) [
      | true ↦ λ h. beside_alike q handle (i + 1) commits (changed_by commit.changes keys) (changed_by commit.changes other) (changed_alike commit.changes keys other q same) h
      | false ↦ λ h. elim (changes_name q commit) as (λ b. changes_name q commit ≡ b → cond b (Some i) (position_from (changes_beside q handle) (i + 1) commits) ≡ None
          → map.get (replay (changed_by commit.changes keys) commits) q ≡ map.get (replay other (commits_by handle commits)) q) [
            | true ↦ λ is k. absurd cc
            | false ↦ λ is k. beside_alike q handle (i + 1) commits (changed_by commit.changes keys) other (unchanged commit.changes keys q is ∙ same) k
          ] refl h
    ] none

-- a name that no other handle changed behind a front is in the present map what the handle has of it
pub as_seen : (start : KeyMap) (history : List Commit) (handle front : ℕ) (name : Name)
    → first_change_after history name front handle ≡ None
    → map.get (replay start history) name ≡ map.get (seen_from true start history handle front) name
as_seen start history handle front name none =
    ap (λ keys. map.get keys name) (replay-cut front start history)
    ∙ beside_alike name handle (front + 1) (drop front history) (replay start (take front history)) (replay start (take front history)) refl none

-- ---- the names of a set

-- where no change's name passes a test, that of one that is found doesn't
none_passes : (test : Name → Bool) (changes : List Change) (q : Name) (new : Option Entry)
    → list_any (λ (change : Change). test change.0) changes ≡ false → find name_cmp q changes ≡ Some new
    → test q ≡ false
none_passes test [] q new none found = absurd cc
none_passes test (change ∷ changes) q new none found =
    let both = or_parts (test change.0) (list_any (λ (change : Change). test change.0) changes) none in
    elim (eq_by_cmp name_cmp q change.0) as (λ b. eq_by_cmp name_cmp q change.0 ≡ b → cond b (Some change.1) (find name_cmp q changes) ≡ Some new → test q ≡ false) [
      | true ↦ λ is h. ap test (name_cmp-IsAntisymmetric q change.0 (tied _ is)) ∙ both.0
      | false ↦ λ is h. none_passes test changes q new both.1 h
    ] refl found

module _ (points : List Name) (set : Prepared) (m : ℕ) (q : Name) (new : Option Entry) (mine : owns points m q ≡ true) (found : find name_cmp q (map.entries set.changes) ≡ Some new) where
  not_beside : (commit : Commit) → changes_same points set m commit ≡ false → changes_beside q set.handle commit ≡ false
  not_beside commit off =
      sym (ap (λ b. b && changes_beside q set.handle commit) mine)
      ∙ none_passes (λ name. owns points m name && changes_beside name set.handle commit) (map.entries set.changes) q new off found

  none_beside : (i : ℕ) (commits : List Commit) → position_from (changes_same points set m) i commits ≡ None
      → position_from (changes_beside q set.handle) i commits ≡ None
  none_beside i [] none = refl
  none_beside i (commit ∷ commits) none = elim (changes_same points set m commit) as (λ b. changes_same points set m commit ≡ b → cond b (Some i) (position_from (changes_same points set m) (i + 1) commits) ≡ None
      → position_from (changes_beside q set.handle) i (commit ∷ commits) ≡ None) [
        | true ↦ λ is h. absurd cc
        | false ↦ λ is h. ap (λ b. cond b (Some i) (position_from (changes_beside q set.handle) (i + 1) commits)) (not_beside commit is) ∙ none_beside (i + 1) commits h
      ] refl none

  -- where nothing blocks a mount by key, no other handle changed behind the front a name that the set changes there
  pub none_same : (history : List Commit) (front : ℕ) → first_same points history set m front ≡ None
      → first_change_after history q front set.handle ≡ None
  none_same history front none = none_beside (front + 1) (drop front history) none
