-- The parent of the mounts that a commit touched involves each of them, and a get of it shows what they have: so the
-- commit can be undone from that.
use Rattle.std.proofs.Common.{◌≡◌, ℕ, zero, suc, ◌+◌, ◌-◌, ◌<◌, ◌≤◌, nat_eq, Bool, true, false, true≢false, cond, ◌||◌, ◌==◌, List, [], ◌∷◌, length, take, get_or, slice_get, Option, Some, None, refl, sym, ap, subst, ◌∙◌, eqb-true, inl, inr, arith}
use Rattle.std.specs.FinMap as map
use Rattle.std.specs.List.{list_any, range_with_len}
use Rattle.std.specs.Option.{option_map_or, option_or, unwrap_or}
use Rattle.std.proofs.lemmas.Bool.{eqb-false, and_parts, cond-false, false_from_ne_true, ne_eqb, or_left, or_right}
use Rattle.std.proofs.lemmas.List.Quantifiers.{position-Some}
use Rattle.std.proofs.lemmas.List.Sums.{AllPass-from_list_all}
use Rattle.std.proofs.lemmas.Option.{slice_get-get_or, slice_get_within}
use Rattle.general_words.proofs.Lists.{some_is}
use Rattle.general_words.proofs.Maps.{get-retain}
use Rattle.key_name.specs.Owner.{IsPoints, is_longest}
use Rattle.key_set.specs.WithAll.{with_all}
use Rattle.key_set.proofs.WithAllLemmas.{get-with_all}
use Rattle.model_names.specs.declared.namespaces.Namespace.{Namespace}
use Rattle.model_names.specs.declared.namespaces.Namespace.TheVariants.{Proc}
use Rattle.model_names.specs.Below.{IsBelowOrSame, is_at_or_below}
use Rattle.model_names.specs.Name.{Name, Part, rank}
use Rattle.model_names.specs.Namespaces.{file_namespaces, has_files}
use Rattle.model_names.proofs.BelowLemmas.{is_at_or_below-Decides}
use Rattle.model_names.proofs.OrderLemmas.{name_cmp_total, name_cmp-IsAntisymmetric, same_rank}
use Rattle.model_maps.specs.Entry.{Entry}
use Rattle.model_maps.specs.KeyMap.{KeyMap}
use Rattle.model_history.specs.Changes.{changed_by}
use Rattle.model_history.specs.History.{Commit, is_among, replay}
use Rattle.model_store.specs.Events.{got, shows_proc}
use Rattle.model_store.specs.Legal.{AreLegal, HasChange, IsLegal, IsLegalCommit}
use Rattle.model_store.specs.Store.{Store, Formats, points_of}
use Rattle.model_store.proofs.Members.{among-first, from_all}
use Rattle.model_store.proofs.Owners.{owned-among, same_owned}
use Rattle.model_undo.specs.Undoing.{IsThere, commit_at}
use Rattle.model_undo.proofs.UndoLemmas.{stands-at}
use Rattle.model_undone.specs.UndoSets.{CanUndo, cascading_root, parent_over, undo_parent}
use Rattle.model_undone.proofs.InverseSets.{into-filter}
use Rattle.set_split.specs.Involved.{involved_in, is_involved, is_involved_at, owns, stands_below}
use Rattle.set_split.specs.Parts.{in_reach, is_reached, owned_by}
use Rattle.set_split.proofs.MountLemmas.{any-map}
use Rattle.set_split.proofs.OwningLemmas.{owner_is}

-- ---- the commit of a number

-- it is legal where it stands
legal-at : (formats : Formats) (store : Store) (k : ℕ) (before : KeyMap) (commits : List Commit) (commit : Commit)
    → AreLegal formats store before commits → slice_get commits k ≡ Some commit
    → IsLegalCommit formats store (replay before (take k commits)) commit
legal-at formats store k before [] commit legal there = absurd cc
legal-at formats store zero before (first ∷ commits) commit legal there =
    subst (IsLegalCommit formats store before) (some_is first commit there) legal.0
legal-at formats store (suc k) before (first ∷ commits) commit legal there =
    legal-at formats store k (changed_by first.changes before) commits commit legal.1 there

-- there is one where the inverse is there
no_commit : Commit
no_commit = record { handle = 0; touched = []; changes = [] }

there-is : (history : List Commit) (number : ℕ) → IsThere history number
    → commit_at history number ≡ Some (get_or history (number - 1) no_commit)
there-is history number there =
    let later : nat_eq number 0 ≡ false = ne_eqb number 0 (λ e. omega (arith, e, there.some)) in
    ap (λ b. cond b None (slice_get history (number - 1))) later
    ∙ slice_get-get_or history (number - 1) no_commit (omega (arith, there.some, there.within))

-- ---- numbers of mounts

range-among : (a n m : ℕ) → a ≤ m → m < a + n → is_among (range_with_len a n) m ≡ true
range-among a zero m from to = absurd (omega (arith, from, to))
range-among a (suc n) m from to = by (λ later. range-among (a + 1) n m later (omega (arith, to))) (nat_eq m a) refl
  where
    by : (a + 1 ≤ m → is_among (range_with_len (a + 1) n) m ≡ true) → (t : Bool) → nat_eq m a ≡ t
        → (t || is_among (range_with_len (a + 1) n) m) ≡ true
    by rest true is = refl
    by rest false is = rest (omega (arith, from, eqb-false m a is))

-- a weaker test passes too
any-weaker : {A : Type 0} (p q : A → Bool) (xs : List A) → ((x : A) → p x ≡ true → q x ≡ true) → list_any p xs ≡ true
    → list_any q xs ≡ true
any-weaker p q [] each some = absurd cc
any-weaker p q (x ∷ xs) each some = by (any-weaker p q xs each) (p x) refl some
  where
    by : (list_any p xs ≡ true → list_any q xs ≡ true) → (t : Bool) → p x ≡ t → (t || list_any p xs) ≡ true
        → (q x || list_any q xs) ≡ true
    by rest true is h = or_left (q x) (list_any q xs) (each x is)
    by rest false is h = or_right (q x) (list_any q xs) (rest h)

-- ---- names

-- a name is itself or below, and the root of its namespace is above it
at_itself : (name : Name) → is_at_or_below name name ≡ true
at_itself name = (is_at_or_below-Decides name name).1 (inl refl)

root_above : (namespace : Namespace) (name : Name) → name.namespace ≡ namespace
    → is_at_or_below (record { namespace = namespace; parts = [] }) name ≡ true
root_above namespace name same =
    (is_at_or_below-Decides (record { namespace = namespace; parts = [] }) name).1 (by name.parts refl)
  where
    by : (parts : List Part) → name.parts ≡ parts → IsBelowOrSame name (record { namespace = namespace; parts = [] })
    by [] is = inl (λ i. record { namespace = same i; parts = is i })
    by (part ∷ rest) is =
        inr (record { same_namespace = same; more = part ∷ rest; some_more = λ e. absurd cc; parts = is })

-- a namespace with files has none of these places
not_at : (namespace : Namespace) (n : ℕ) → has_files namespace ≡ true
    → list_any (λ other. nat_eq n (rank other)) file_namespaces ≡ false → rank namespace ≡ n → ⊥
not_at namespace n files none is =
    true≢false (sym files ∙ ap (λ r. list_any (λ other. nat_eq r (rank other)) file_namespaces) is ∙ none)

module _ (points : List Name) (is : IsPoints points) where
  -- the point of a mount that owns a name
  record IsOwnPoint (m : ℕ) (name : Name) : Type 0 where
    point : Name
    there : slice_get points m ≡ Some point
    files : has_files point.namespace ≡ true
    above : is_at_or_below point name ≡ true

  own_point : (m : ℕ) (name : Name) → owns points m name ≡ true → IsOwnPoint m name
  own_point m name mine =
      let found = position-Some (is_longest points name) points m name (owner_is points m name mine) in
      record {
        point = get_or points m name;
        there = slice_get-get_or points m name found.0;
        files = AllPass-from_list_all (λ point. has_files point.namespace) points is.in_files m name found.0;
        above = (and_parts (is_at_or_below (get_or points m name) name) _ found.1).0;
      }

  -- no mount owns a name in `proc`
  not_proc : (m : ℕ) (name : Name) → owns points m name ≡ true → name.namespace ≡ Proc → ⊥
  not_proc m name mine proc =
      let own = own_point m name mine in
      let same : rank name.namespace ≡ rank own.point.namespace = eqb-true _ _ (and_parts (nat_eq (rank name.namespace) (rank own.point.namespace)) _ own.above).0 in
      not_at own.point.namespace 2 own.files refl (sym same ∙ ap rank proc)

  -- ---- a parent involves each touched mount

  involved_if : (parent : Name) (m : ℕ) → m < length points → is_involved points parent m ≡ true
      → is_among (involved_in points parent) m ≡ true
  involved_if parent m within passes =
      into-filter (is_involved points parent) (range_with_len 0 (length points)) m (range-among 0 (length points) m (omega arith) (omega (arith, within))) passes

  -- its own point
  at_point : (m : ℕ) (point : Name) → slice_get points m ≡ Some point → has_files point.namespace ≡ true
      → is_among (involved_in points point) m ≡ true
  at_point m point there files =
      let named : (rank point.namespace == 0) ≡ false = false_from_ne_true _ (λ e. not_at point.namespace 0 files refl (eqb-true _ _ e)) in
      let here : is_involved_at points m point ≡ true = or_right (owns points m point) _ (ap (stands_below point) there ∙ at_itself point) in
      involved_if point m (slice_get_within points m point there)
      (ap (list_any (is_involved_at points m)) (cond-false (rank point.namespace == 0) _ (point ∷ []) named) ∙ or_left (is_involved_at points m point) false here)

  -- the cascading root
  abbrev root_in : Namespace → Name
  root_in namespace = record { namespace = namespace; parts = [] }

  at_root : (m : ℕ) (point : Name) → slice_get points m ≡ Some point → has_files point.namespace ≡ true
      → is_among (involved_in points cascading_root) m ≡ true
  at_root m point there files =
      involved_if cascading_root m (slice_get_within points m point there)
      (any-map root_in (is_involved_at points m) file_namespaces
      ∙ any-weaker (λ other. nat_eq (rank point.namespace) (rank other)) (λ other. is_involved_at points m (root_in other)) file_namespaces below files)
    where
      below : (other : Namespace) → nat_eq (rank point.namespace) (rank other) ≡ true
          → is_involved_at points m (root_in other) ≡ true
      below other same =
          or_right (owns points m (root_in other)) _ (ap (stands_below (root_in other)) there ∙ root_above other point (same_rank point.namespace other (eqb-true _ _ same)))

  reached : (touched : List ℕ) → ((m : ℕ) → is_among touched m ≡ true → (name : Name) × (owns points m name ≡ true))
      → (m : ℕ) → is_among touched m ≡ true → is_among (involved_in points (parent_over points touched)) m ≡ true
  reached [] each m among = absurd cc
  reached (n ∷ []) each m among =
      let own = own_point n (each n (among-first n [])).0 (each n (among-first n [])).1 in
      let only : m ≡ n = one (nat_eq m n) refl among in
      subst (λ k. is_among (involved_in points (parent_over points (n ∷ []))) k ≡ true) (sym only)
      (subst (λ (parent : Name). is_among (involved_in points parent) n ≡ true) (sym (ap (λ o. unwrap_or o cascading_root) own.there)) (at_point n own.point own.there own.files))
    where
      one : (t : Bool) → nat_eq m n ≡ t → (t || false) ≡ true → m ≡ n
      one true is e = eqb-true m n is
      one false is e = absurd cc
  reached (n ∷ k ∷ touched) each m among =
      let own = own_point m (each m among).0 (each m among).1 in
      at_root m own.point own.there own.files

  -- ---- a get shows what the mounts have

  module _ (procs : KeyMap) (are_proc : (name : Name) (entry : Entry) → map.get procs name ≡ Some entry → name.namespace ≡ Proc) (present : KeyMap) (parent : Name) (m : ℕ) (among : is_among (involved_in points parent) m ≡ true) where
    in-reach : (name : Name) → owns points m name ≡ true
        → map.get (in_reach points parent present) name ≡ map.get present name
    in-reach name mine =
        get-retain name_cmp_total name_cmp-IsAntisymmetric present (is_reached points parent) name
        ∙ ap (λ b. cond b (map.get present name) None) (owned-among points (involved_in points parent) m name among mine)

    none-proc : (name : Name) → owns points m name ≡ true → map.get procs name ≡ None
    none-proc name mine = by (map.get procs name) refl
      where
        by : (o : Option Entry) → map.get procs name ≡ o → map.get procs name ≡ None
        by None is = is
        by (Some entry) is = absurd (not_proc m name mine (are_proc name entry is))

    with-proc : (b : Bool) (name : Name) → owns points m name ≡ true
        → map.get (cond b (with_all procs (in_reach points parent present)) (in_reach points parent present)) name
        ≡ map.get present name
    with-proc true name mine =
        get-with_all procs (in_reach points parent present) name
        ∙ ap (λ o. option_or o (map.get (in_reach points parent present) name)) (none-proc name mine)
        ∙ in-reach name mine
    with-proc false name mine = in-reach name mine

    shown : owned_by points m (cond (shows_proc parent.namespace) (with_all procs (in_reach points parent present)) (in_reach points parent present))
        ≡ owned_by points m present
    shown = same_owned points m _ present (with-proc (shows_proc parent.namespace))

module _ (formats : Formats) (store : Store) (procs : ℕ → KeyMap) (history : List Commit) (handle number : ℕ) (points : IsPoints (points_of store)) (are_proc : (name : Name) (entry : Entry) → map.get (procs handle) name ≡ Some entry → name.namespace ≡ Proc)
    (legal : IsLegal formats store history) (there : IsThere history number) where
  abbrev commit : Commit
  commit = get_or history (number - 1) no_commit

  abbrev parent : Name
  parent = undo_parent store history number

  stands : commit_at history number ≡ Some commit
  stands = there-is history number there

  legal_here : IsLegalCommit formats store (replay store.start (take (number - 1) history)) commit
  legal_here =
      legal-at formats store (number - 1) store.start history commit legal.each (stands-at history number commit stands).1

  -- each touched mount has a change, of a name that it owns
  each : (m : ℕ) → is_among commit.touched m ≡ true → (name : Name) × (owns (points_of store) m name ≡ true)
  each m among =
      let has = from_all (HasChange (points_of store) commit.changes) commit.touched m legal_here.each among in (has.name, has.owned)

  parent_is : parent ≡ parent_over (points_of store) commit.touched
  parent_is = ap (λ (o : Option Commit). parent_over (points_of store) (option_map_or (λ c. c.touched) o [])) stands

  pub can_undo : CanUndo formats store history parent (got (record store { procs = procs }) (replay store.start history) handle parent) number
  can_undo = record {
    commit = commit;
    stands = stands;
    legal = legal_here;
    latest = there.latest;
    reached = λ m among. subst (λ (p : Name). is_among (involved_in (points_of store) p) m ≡ true) (sym parent_is) (reached (points_of store) points commit.touched each m among);
    shown = λ m among. shown (points_of store) points (procs handle) are_proc (replay store.start history) parent m among;
  }
