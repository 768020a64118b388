-- Names that were gathered, the first commit with one of them, and the commit of a number.
use Rattle.std.proofs.Common.{◌≡◌, ℕ, ◌+◌, ◌-◌, ◌≤◌, Bool, true, false, cond, is_some, List, [], ◌∷◌, length, take, drop, slice_get, map as over, Option, Some, None, refl, sym, ap, ◌∙◌, arith}
use Rattle.std.proofs.lemmas.List.{drop_more, map-append}
use Rattle.std.proofs.lemmas.Option.{slice_get_within, get_or_from_slice_get}
use Rattle.std.specs.FinMap as map
use Rattle.std.specs.FinMap.{find}
use Rattle.std.specs.FinMap.Entries.{put, find-put}
use Rattle.std.specs.Option.{option_map, option_or}
use Rattle.std.specs.Ordering.{eq_by_cmp}
use Rattle.general_words.specs.Searches.{first_some}
use Rattle.general_words.proofs.Entries.{find-both}
use Rattle.general_words.proofs.Lists.{take-next}
use Rattle.general_words.proofs.Searches.{first_some-map, or_none}
use Rattle.model_names.specs.Name.{Name}
use Rattle.model_names.specs.Order.{name_cmp}
use Rattle.model_names.proofs.OrderLemmas.{name_cmp_total}
use Rattle.model_maps.specs.Entry.{Entry}
use Rattle.model_maps.specs.KeyMap.{KeyMap}
use Rattle.model_history.specs.Changes as model
use Rattle.model_history.specs.History.{Commit}
use Rattle.model_undo.specs.Undoing.{commit_at, first_name, first_with, is_changed, turned_back}
use Rattle.model_undo.proofs.UndoLemmas.{stands-at}
use Rattle.commit_log.specs.CommitView.{change_of}
use Rattle.commit_log.specs.declared.commits.Change.{Change}

-- ---- names that were gathered

either_way : (o : Option (Option Entry)) (e : Option Entry) → is_some (option_or o (Some e)) ≡ true
either_way None e = refl
either_way (Some x) e = refl

-- one more name is put among them
pub names-next : {V : Type 0} (changes : List Change) (i : ℕ) (change : Change) (v : V) (names new : List (Name × V))
    → Some change ≡ slice_get changes i → new ≡ put name_cmp change.name v names
    → ((q : Name) → is_some (find name_cmp q names) ≡ is_changed (over change_of (take i changes)) q) → (q : Name)
    → is_some (find name_cmp q new) ≡ is_changed (over change_of (take (i + 1) changes)) q
names-next changes i change v names new there put_is so_far q =
    ap (λ es. is_some (find name_cmp q es)) put_is
    ∙ ap is_some (find-put name_cmp name_cmp_total q change.name v names)
    ∙ by (eq_by_cmp name_cmp q change.name)
    ∙ sym (ap (λ cs. is_changed cs q) (ap (over change_of) (take-next changes i change there) ∙ map-append change_of (take i changes) (change ∷ []))
    ∙ ap is_some (find-both name_cmp (over change_of (take i changes)) (change_of change ∷ []) q))
  where
    before : Option (Option Entry)
    before = find name_cmp q (over change_of (take i changes))

    by : (t : Bool)
        → is_some (cond t (Some v) (find name_cmp q names))
        ≡ is_some (option_or before (cond t (Some (change_of change).1) None))
    by true = sym (either_way before (change_of change).1)
    by false = so_far q ∙ ap is_some (sym (or_none before))

-- ---- the first commit with a name that passes

drop-at : {A : Type 0} (xs : List A) (i : ℕ) (x : A) → slice_get xs i ≡ Some x → drop i xs ≡ x ∷ drop (i + 1) xs
drop-at xs i x there =
    drop_more xs i x (slice_get_within xs i x there)
    ∙ ap (λ y. y ∷ drop (i + 1) xs) (get_or_from_slice_get xs i x x there)

module _ (test : Name → Bool) (history : List Commit) (i : ℕ) (commit : Commit) (there : slice_get history i ≡ Some commit) where
  with-at : (o : Option Name) → first_name test commit.changes ≡ o
      → first_with test (i + 1) (drop i history)
      ≡ option_or (option_map (λ name. (i + 1, name)) o) (first_with test (i + 1 + 1) (drop (i + 1) history))
  with-at o is =
      ap (first_with test (i + 1)) (drop-at history i commit there)
      ∙ ap (λ (p : Option Name). option_or (option_map (λ name. (i + 1, name)) p) (first_with test (i + 1 + 1) (drop (i + 1) history))) is

  pub first_with-here : (name : Name) → first_name test commit.changes ≡ Some name
      → first_with test (i + 1) (drop i history) ≡ Some (i + 1, name)
  first_with-here name is = with-at (Some name) is

  pub first_with-next : first_name test commit.changes ≡ None
      → first_with test (i + 1) (drop i history) ≡ first_with test (i + 1 + 1) (drop (i + 1) history)
  first_with-next is = with-at None is

-- the names of changes as the code has them
abbrev pub passing : (Name → Bool) → Change → Option Name
passing test change = cond (test change.name) (Some change.name) None

pub first_name-seen : (test : Name → Bool) (changes : List Change)
    → first_name test (over change_of changes) ≡ first_some (passing test) changes
first_name-seen test changes =
    first_some-map (λ (change : model.Change). cond (test change.0) (Some change.0) None) change_of changes

-- ---- changes turned back

-- a change as the code has it, turned back to a map
abbrev pub turned : KeyMap → Change → model.Change
turned before change = (change.name, map.get before change.name)

pub turned-seen : (before : KeyMap) (changes : List Change)
    → over (turned_back before) (over change_of changes) ≡ over (turned before) changes
turned-seen before [] = refl
turned-seen before (change ∷ changes) = ap (λ rest. turned before change ∷ rest) (turned-seen before changes)

-- ---- the commit of a number

pub number-there : (history : List Commit) (number : ℕ) (commit : Commit) → commit_at history number ≡ Some commit
    → (1 ≤ number) × (number ≤ length history)
number-there history number commit there =
    let at = stands-at history number commit there in
    (at.0, omega (arith, at.0, slice_get_within history (number - 1) commit at.1))
