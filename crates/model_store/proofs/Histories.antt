-- What a legal history leaves of a mount that none of its commits touches.
use Rattle.std.proofs.Common.{◌≡◌, ℕ, zero, suc, ◌+◌, true, false, cond, List, [], ◌∷◌, ◌++◌, take, drop, Option, Some, None, refl, ap, subst, ◌∙◌}
use Rattle.std.specs.FinMap as map
use Rattle.std.specs.FinMap.{find}
use Rattle.std.specs.List.{position_from}
use Rattle.std.specs.Option.{unwrap_or}
use Rattle.general_words.proofs.Tests.{true_is}
use Rattle.model_names.specs.Name.{Name}
use Rattle.model_names.specs.Order.{name_cmp}
use Rattle.model_maps.specs.Entry.{Entry}
use Rattle.model_maps.specs.KeyMap.{KeyMap}
use Rattle.model_history.specs.Changes.{changed_by}
use Rattle.model_history.specs.History.{Commit, replay, touches, first_after, is_among}
use Rattle.model_history.proofs.ChangeLemmas.{get-changed_by}
use Rattle.model_store.specs.Store.{Store, Formats, points_of}
use Rattle.model_store.specs.Legal.{IsLegalCommit, AreLegal}
use Rattle.model_store.proofs.Owners.{one_owner, same_owned, owner_among}
use Rattle.set_split.specs.Involved.{owns}
use Rattle.set_split.specs.Parts.{owned_by}

-- a history makes what its first commits make, and then the others
pub replay-cut : (n : ℕ) (keys : KeyMap) (commits : List Commit)
    → replay keys commits ≡ replay (replay keys (take n commits)) (drop n commits)
replay-cut zero keys commits = refl
replay-cut (suc n) keys [] = refl
replay-cut (suc n) keys (commit ∷ commits) = replay-cut n (changed_by commit.changes keys) commits

module _ (formats : Formats) (store : Store) where
  -- a legal commit leaves what is owned by a mount that it doesn't touch, also in another map than that on which it is
  -- legal
  pub untouched : (before keys : KeyMap) (commit : Commit) (m : ℕ) → IsLegalCommit formats store before commit
      → touches m commit ≡ false
      → owned_by (points_of store) m (changed_by commit.changes keys) ≡ owned_by (points_of store) m keys
  untouched before keys commit m legal off =
      same_owned (points_of store) m _ _ (λ q mine. get-changed_by commit.changes keys q (true_is _ legal.names) ∙ by q mine (find name_cmp q commit.changes) refl)
    where
      by : (q : Name) → owns (points_of store) m q ≡ true → (o : Option (Option Entry))
          → find name_cmp q commit.changes ≡ o → unwrap_or o (map.get keys q) ≡ map.get keys q
      by q mine None is = refl
      by q mine (Some new) is =
          let owner = owner_among (points_of store) commit.touched q (legal.owned q new is) in
          let same : owner.mount ≡ m = one_owner (points_of store) owner.mount m q owner.owned mine in
          let on : is_among commit.touched m ≡ true = subst (λ n. is_among commit.touched n ≡ true) same owner.among in
          absurd cc

  pub all_untouched : (before : KeyMap) (i : ℕ) (commits : List Commit) (m : ℕ) → AreLegal formats store before commits
      → position_from (touches m) i commits ≡ None
      → owned_by (points_of store) m (replay before commits) ≡ owned_by (points_of store) m before
  all_untouched before i [] m legal none = refl
  all_untouched before i (commit ∷ commits) m legal none = elim (touches m commit) as (λ b. touches m commit ≡ b → cond b (Some i) (position_from (touches m) (i + 1) commits) ≡ None → owned_by (points_of store) m (replay before (commit ∷ commits)) ≡ owned_by (points_of store) m before) [
    | true ↦ λ is h. absurd cc
    | false ↦ λ is h. all_untouched (changed_by commit.changes before) (i + 1) commits m legal.1 h ∙ untouched before before commit m legal.0 is
  ] refl none

  pub legal-drop : (n : ℕ) (before : KeyMap) (commits : List Commit) → AreLegal formats store before commits
      → AreLegal formats store (replay before (take n commits)) (drop n commits)
  legal-drop zero before commits legal = legal
  legal-drop (suc n) before [] legal = legal
  legal-drop (suc n) before (commit ∷ commits) legal = legal-drop n (changed_by commit.changes before) commits legal.1

  pub legal-more : (before : KeyMap) (commits : List Commit) (commit : Commit) → AreLegal formats store before commits
      → IsLegalCommit formats store (replay before commits) commit
      → AreLegal formats store before (commits ++ commit ∷ [])
  legal-more before [] commit legal one = (one, tt)
  legal-more before (first ∷ commits) commit legal one =
      (legal.0, legal-more (changed_by first.changes before) commits commit legal.1 one)

  -- where no commit behind a front touches a mount, the mount has what it had at the front
  pub unblocked : (history : List Commit) (m front : ℕ) → AreLegal formats store store.start history
      → first_after history m front ≡ None
      → owned_by (points_of store) m (replay store.start history)
      ≡ owned_by (points_of store) m (replay store.start (take front history))
  unblocked history m front legal none =
      ap (owned_by (points_of store) m) (replay-cut front store.start history)
      ∙ all_untouched (replay store.start (take front history)) (front + 1) (drop front history) m (legal-drop front store.start history legal) none
