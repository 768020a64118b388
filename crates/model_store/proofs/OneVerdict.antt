-- A set has one early and one late verdict, over formats that store a map or break at one key of it.
use Rattle.std.proofs.Common.{◌≡◌, ◌⊎◌, ℕ, ◌≤◌, Bool, true, false, not, T, List, [], ◌∷◌, ◌++◌, length, slice_get, Option, Some, None, refl, sym, ap, ap₂, subst, ◌∙◌, inl, inr}
use Rattle.std.specs.List.{AllByRecursion}
use Rattle.std.proofs.lemmas.Bool.{true≢false}
use Rattle.general_words.proofs.Lists.{some_is}
use Rattle.kdb_outside.specs.declared.kinds.Kind.{Kind}
use Rattle.key_name.specs.Joining.{joined}
use Rattle.model_names.specs.Name.{Name}
use Rattle.model_maps.specs.Entry.{Entry}
use Rattle.model_maps.specs.KeyMap.{KeyMap, weight}
use Rattle.model_history.specs.Changes.{after}
use Rattle.model_history.specs.History.{Commit, history_weight}
use Rattle.mount_table.specs.declared.mounts.Mount.{Mount}
use Rattle.model_rules.specs.Rules.{longest_pattern}
use Rattle.model_specified.specs.Violations.{BeginWith, checked_keys, is_owned}
use Rattle.model_specified.specs.declared.violations.Violation.{Violation}
use Rattle.model_specified.proofs.FirstsOnce.{first-once, first-none}
use Rattle.model_specified.proofs.Refusals.{AreOfKeys-none, first-as, first-caused, first_or_none}
use Rattle.model_store.specs.Fitting.{Early, NotStorable, IsStorableAt, BreaksAtMount}
use Rattle.model_store.specs.Sets.{Prepared}
use Rattle.model_store.specs.Store.{Store, Formats, contents, points_of}
use Rattle.model_store.specs.Verdicts.{Late, Invalid, Commits, Follows, Checks, BreaksRules, IsEarly, IsLate, BreaksFirst, FromFormats, wanted_in, before_formats, behind_formats, conflict, commit_of, if_untouched, if_heavy, if_full, is_certain, too_large}
use Rattle.model_store.proofs.Judged.{is_breach, is_invalid}
use Rattle.model_store.proofs.VerdictLemmas.{not_conflict, not_large, not_same}

-- what follows a step is told once where it is told once without it
follows-once : {A : Type 0} (o : Option A) (a b : Option A) (P Q : Type 0) → (P → Q → a ≡ b) → Follows o a P
    → Follows o b Q → a ≡ b
follows-once None a b P Q once p q = once p q
follows-once (Some told) a b P Q once p q = p ∙ sym q

-- ---- before the history is asked

module _ (formats : Formats)
    (breaks_nowhere : (kind : Kind) (keys : KeyMap) (name : Name) → formats.IsStorable kind keys → formats.BreaksAt kind keys name → ⊥)
    (one_break : (kind : Kind) (keys : KeyMap) (name other : Name) → formats.BreaksAt kind keys name → formats.BreaksAt kind keys other → name ≡ other)
    (store : Store) where
  module _ (wanted : ℕ → KeyMap) where
    abbrev can : ℕ → Type 0
    can = IsStorableAt formats store wanted

    abbrev breaks : ℕ → Name → Type 0
    breaks = BreaksAtMount formats store wanted

    -- what can be stored doesn't break
    apart : (m : ℕ) (name : Name) → can m → breaks m name → ⊥
    apart m name is b =
        breaks_nowhere b.mount.kind (contents store m b.mount (wanted m)) b.key (is b.mount b.there) b.breaks

    none_breaks : (before : List ℕ) (m : ℕ) (behind : List ℕ) (name : Name) → AllByRecursion can (before ++ m ∷ behind)
        → breaks m name → ⊥
    none_breaks [] m behind name all b = apart m name all.0 b
    none_breaks (n ∷ before) m behind name all b = none_breaks before m behind name all.1 b

    -- a mount breaks at one key
    one_name : (m : ℕ) (k l : Name) → breaks m k → breaks m l → k ≡ l
    one_name m k l p q =
        let same : p.mount ≡ q.mount = some_is p.mount q.mount (sym p.there ∙ q.there) in
        let there = subst (λ (x : Mount). formats.BreaksAt x.kind (contents store m x (wanted m)) q.key) (sym same) q.breaks in
        let key = one_break p.mount.kind (contents store m p.mount (wanted m)) p.key q.key p.breaks there in
        p.is ∙ ap₂ (λ (x : Mount) (n : Name). joined x.at n) same key ∙ sym q.is

    -- the first mount that breaks is one
    first_breaks : (ones others : List ℕ) (m n : ℕ) (xs ys : List ℕ) (k l : Name) → ones ++ m ∷ xs ≡ others ++ n ∷ ys
        → AllByRecursion can ones → AllByRecursion can others → breaks m k → breaks n l → m ≡ n
    first_breaks [] [] m n xs ys k l same p q b c = cc
    first_breaks [] (o ∷ others) m n xs ys k l same p q b c =
        let is : m ≡ o = cc in absurd (apart m k (subst can (sym is) q.0) b)
    first_breaks (o ∷ ones) [] m n xs ys k l same p q b c =
        let is : o ≡ n = cc in absurd (apart n l (subst can is p.0) c)
    first_breaks (o ∷ ones) (r ∷ others) m n xs ys k l same p q b c =
        let rest : ones ++ m ∷ xs ≡ others ++ n ∷ ys = cc in first_breaks ones others m n xs ys k l rest p.1 q.1 b c

  module _ (set : Prepared) where
    abbrev wanted : ℕ → KeyMap
    wanted = wanted_in store set

    Breaks-once : (answer other : Option Early) → BreaksFirst formats store set answer
        → BreaksFirst formats store set other → answer ≡ other
    Breaks-once answer other p q =
        let same : p.mount ≡ q.mount = first_breaks wanted p.before q.before p.mount q.mount p.behind q.behind p.name q.name (sym p.stand ∙ q.stand) p.storable q.storable p.breaks q.breaks in
        let name : p.name ≡ q.name = one_name wanted p.mount p.name q.name p.breaks (subst (λ m. BreaksAtMount formats store wanted m q.name) (sym same) q.breaks) in
        p.is ∙ ap₂ (λ m (n : Name). Some (NotStorable m n)) same name ∙ sym q.is

    not_both : (answer : Option Early) → BreaksFirst formats store set answer
        → AllByRecursion (IsStorableAt formats store wanted) set.touched → ⊥
    not_both answer p all =
        none_breaks wanted p.before p.mount p.behind p.name (subst (AllByRecursion (IsStorableAt formats store wanted)) p.stand all) p.breaks

    otherwise_once : (answer other : Option Early) → FromFormats formats store set answer
        → FromFormats formats store set other → answer ≡ other
    otherwise_once answer other (inl p) (inl q) = Breaks-once answer other p q
    otherwise_once answer other (inl p) (inr q) = absurd (not_both answer p q.0)
    otherwise_once answer other (inr p) (inl q) = absurd (not_both other q p.0)
    otherwise_once answer other (inr p) (inr q) = p.1 ∙ sym q.1

    pub IsEarly-once : (early other : Option Early) → IsEarly formats store set early → IsEarly formats store set other
        → early ≡ other
    IsEarly-once early other p q =
        follows-once (before_formats store set) early other (FromFormats formats store set early) (FromFormats formats store set other) (otherwise_once early other) p q

module _ (formats : Formats)
    (storable_or_breaks : (kind : Kind) (keys : KeyMap) → formats.IsStorable kind keys ⊎ ((name : Name) × formats.BreaksAt kind keys name))
    (store : Store) (set : Prepared) where
  abbrev wants_of : ℕ → KeyMap
  wants_of = wanted_in store set

  -- a mount's file can be stored, or breaks
  storable_at : (m : ℕ)
      → IsStorableAt formats store wants_of m ⊎ ((name : Name) × BreaksAtMount formats store wants_of m name)
  storable_at m = by (slice_get store.mounts m) refl
    where
      by : (o : Option Mount) → slice_get store.mounts m ≡ o
          → IsStorableAt formats store wants_of m ⊎ ((name : Name) × BreaksAtMount formats store wants_of m name)
      by None none = inl (λ mount there. absurd (let both : None ≡ Some mount = sym none ∙ there in cc))
      by (Some found) is = told (storable_or_breaks found.kind (contents store m found (wants_of m)))
        where
          told : formats.IsStorable found.kind (contents store m found (wants_of m))
              ⊎ ((name : Name) × formats.BreaksAt found.kind (contents store m found (wants_of m)) name)
              → IsStorableAt formats store wants_of m ⊎ ((name : Name) × BreaksAtMount formats store wants_of m name)
          told (inl can) =
              inl (λ mount there. subst (λ (x : Mount). formats.IsStorable x.kind (contents store m x (wants_of m))) (some_is found mount (sym is ∙ there)) can)
          told (inr b) =
              inr (joined found.at b.0, record { mount = found; there = is; key = b.0; breaks = b.1; is = refl })

  -- some mounts can all be stored, or a first of them breaks
  record FirstOf (ms : List ℕ) : Type 0 where
    before : List ℕ
    mount : ℕ
    behind : List ℕ
    stand : ms ≡ before ++ mount ∷ behind
    storable : AllByRecursion (IsStorableAt formats store wants_of) before
    name : Name
    breaks : BreaksAtMount formats store wants_of mount name

  first_or_all : (ms : List ℕ) → FirstOf ms ⊎ AllByRecursion (IsStorableAt formats store wants_of) ms
  first_or_all [] = inr tt
  first_or_all (m ∷ ms) = by (storable_at m) (first_or_all ms)
    where
      by : IsStorableAt formats store wants_of m ⊎ ((name : Name) × BreaksAtMount formats store wants_of m name)
          → FirstOf ms ⊎ AllByRecursion (IsStorableAt formats store wants_of) ms
          → FirstOf (m ∷ ms) ⊎ AllByRecursion (IsStorableAt formats store wants_of) (m ∷ ms)
      by (inr b) rest =
          inl (record { before = []; mount = m; behind = ms; stand = refl; storable = tt; name = b.0; breaks = b.1 })
      by (inl can) (inr all) = inr (can, all)
      by (inl can) (inl later) =
          inl (record { before = m ∷ later.before; mount = later.mount; behind = later.behind; stand = ap (λ l. m ∷ l) later.stand; storable = (can, later.storable); name = later.name; breaks = later.breaks })

  pub IsEarly-some : (early : Option Early) × IsEarly formats store set early
  IsEarly-some = by (before_formats store set)
    where
      otherwise : FirstOf set.touched ⊎ AllByRecursion (IsStorableAt formats store wants_of) set.touched
          → (early : Option Early) × FromFormats formats store set early
      otherwise (inl b) =
          (Some (NotStorable b.mount b.name), inl (record { before = b.before; mount = b.mount; behind = b.behind; stand = b.stand; storable = b.storable; name = b.name; breaks = b.breaks; is = refl }))
      otherwise (inr all) = (behind_formats formats store set, inr (all, refl))

      by : (o : Option Early) → (early : Option Early) × Follows o early (FromFormats formats store set early)
      by (Some told) = (Some told, refl)
      by None = otherwise (first_or_all set.touched)

-- ---- what the history decides

module _ (formats : Formats) (store : Store) (history : List Commit) (keys : KeyMap) (set : Prepared) where
  abbrev points : List Name
  points = points_of store

  abbrev later : KeyMap
  later = after keys set.changes

  abbrev chosen : List (Name × Entry)
  chosen = checked_keys (is_owned points set.touched) later

  abbrev Full : Late → Type 0
  Full answer =
      Follows (if_full (history_weight (history ++ commit_of set ∷ []))) (Some answer) (answer ≡ Commits (commit_of set) set.aside)

  abbrev Heavy : Late → Type 0
  Heavy answer = Follows (if_heavy (weight later)) (Some answer) (Full answer)

  abbrev Checked : Late → Type 0
  Checked answer = Checks points keys set answer (Heavy answer)

  abbrev Large : Late → Type 0
  Large answer = Follows (too_large formats store keys set) (Some answer) (Checked answer)

  abbrev Blocked : Late → Type 0
  Blocked answer = Follows (conflict store history set) (Some answer) (Large answer)

  -- a certain violation was found without a refusal
  sure : (answer : Late) → is_certain answer ≡ true → (breaks : BreaksRules points keys set answer)
      → BeginWith ⊥ chosen breaks.violation
  sure answer certain breaks = by breaks.risen (sym (ap is_certain breaks.is) ∙ certain) breaks.first
    where
      by : (risen : Bool) → not risen ≡ true → BeginWith (T risen) chosen breaks.violation
          → BeginWith ⊥ chosen breaks.violation
      by true off first = absurd cc
      by false off first = first

  told : (answer : Late) → is_certain answer ≡ true → (breaks : BreaksRules points keys set answer)
      → answer ≡ Invalid breaks.violation false
  told answer certain breaks = breaks.is ∙ by breaks.risen (sym (ap is_certain breaks.is) ∙ certain)
    where
      by : (risen : Bool) → not risen ≡ true → Invalid breaks.violation risen ≡ Invalid breaks.violation false
      by true off = absurd cc
      by false off = refl

  checked_once : (late other : Late) → is_certain late ≡ true → is_certain other ≡ true
      → (Heavy late → Heavy other → late ≡ other) → Checked late → Checked other → late ≡ other
  checked_once late other c d once (inl p) (inl q) =
      told late c p
      ∙ ap (λ (v : Violation). Invalid v false) (first-once chosen p.violation q.violation (sure late c p) (sure other d q))
      ∙ sym (told other d q)
  checked_once late other c d once (inl p) (inr q) = absurd (first-none chosen p.violation q.0 (sure late c p))
  checked_once late other c d once (inr p) (inl q) = absurd (first-none chosen q.violation p.0 (sure other d q))
  checked_once late other c d once (inr p) (inr q) = once p.1 q.1

  pub IsLate-once : (late other : Late) → is_certain late ≡ true → is_certain other ≡ true
      → IsLate formats store history keys set late → IsLate formats store history keys set other → late ≡ other
  IsLate-once late other c d p q =
      some_is late other
      (follows-once (if_untouched set.touched set.aside) (Some late) (Some other) (Blocked late) (Blocked other)
      (follows-once (conflict store history set) (Some late) (Some other) (Large late) (Large other)
      (follows-once (too_large formats store keys set) (Some late) (Some other) (Checked late) (Checked other)
      (λ a b. ap Some (checked_once late other c d
      (λ x y. some_is late other
      (follows-once (if_heavy (weight later)) (Some late) (Some other) (Full late) (Full other)
      (follows-once (if_full (history_weight (history ++ commit_of set ∷ []))) (Some late) (Some other) (late ≡ Commits (commit_of set) set.aside) (other ≡ Commits (commit_of set) set.aside)
      (λ a b. ap Some (a ∙ sym b)))
      x y))
      a b))))
      p q)

  -- it is absurd that no verdict is one of a kind
  abbrev Has : (Late → Type 0) → Type 0
  Has P = ((late : Late) → P late → ⊥) → ⊥

  pub IsLate-some : ((late : Late) → IsLate formats store history keys set late → ⊥) → ⊥
  IsLate-some =
      step (if_untouched set.touched set.aside) Blocked
      (step (conflict store history set) Large
      (step (too_large formats store keys set) Checked
      (checks
      (step (if_heavy (weight later)) Full
      (step (if_full (history_weight (history ++ commit_of set ∷ []))) (λ late. late ≡ Commits (commit_of set) set.aside)
      (λ off. off (Commits (commit_of set) set.aside) refl))))))
    where
      step : (o : Option Late) (P : Late → Type 0) → Has P → Has (λ late. Follows o (Some late) (P late))
      step None P other off = other off
      step (Some told) P other off = off told refl

      checks : Has Heavy → Has Checked
      checks other off = first_or_none (T true) tt chosen
          (λ violation first. off (Invalid violation true) (inl (record { violation = violation; risen = true; first = first; is = refl })))
          (λ none. other (λ late heavy. off late (inr (AreOfKeys-none (T true) ⊥ chosen none, heavy))))

  -- a pattern that isn't too long is told by rule 6 only where the count of refusals rose
  pub breach-caused : (violation : Violation) (risen : Bool)
      → IsLate formats store history keys set (Invalid violation risen) → violation.rule ≡ 6
      → length violation.given ≤ longest_pattern → risen ≡ true
  breach-caused violation risen late six short =
      by risen (is_breach formats store history keys set violation risen late)
    where
      by : (rose : Bool) → BeginWith (T rose) chosen violation → rose ≡ true
      by true first = refl
      by false first = absurd (first-caused ⊥ chosen violation first six short)

  -- of a violation's own pattern alone it matters whether it was refused
  pub breach-as : (violation : Violation) (risen other : Bool)
      → (violation.rule ≡ 6 → length violation.given ≤ longest_pattern → T risen → T other)
      → IsLate formats store history keys set (Invalid violation risen)
      → IsLate formats store history keys set (Invalid violation other)
  breach-as violation risen other so late =
      passes (if_untouched set.touched set.aside) (λ e. true≢false (not_same is_invalid set.touched set.aside (Invalid violation risen) refl e))
      (passes (conflict store history set) (λ e. true≢false (not_conflict is_invalid store history set set.touched (Invalid violation risen) (λ m by. refl) e))
      (passes (too_large formats store keys set) (λ e. true≢false (not_large is_invalid formats store later set.touched (Invalid violation risen) (λ m size. refl) e))
      (λ _. inl (record { violation = violation; risen = other; first = first-as (T risen) (T other) chosen violation so (is_breach formats store history keys set violation risen late); is = refl })))) late
    where
      passes : {P Q : Type 0} (o : Option Late) → (o ≡ Some (Invalid violation risen) → ⊥) → (P → Q)
          → Follows o (Some (Invalid violation risen)) P → Follows o (Some (Invalid violation other)) Q
      passes None off more h = more h
      passes (Some told) off more h = absurd (off (sym h))
