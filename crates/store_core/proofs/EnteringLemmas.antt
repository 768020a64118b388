-- A set that is a commit joins a history that stays legal, and the texts of the commit are an entry that the journal
-- can hold.
use Rattle.std.proofs.Common.{◌≡◌, ◌≢◌, ℕ, ◌<◌, ◌≤◌, Bool, true, false, ◌||◌, nat_eq, List, [], ◌∷◌, ◌++◌, length, slice_get, Option, Some, None, refl, sym, ap, ap₂, subst, ◌∙◌, arith, eqb-true}
use Rattle.std.specs.List.{AllByRecursion, list_any}
use Rattle.std.proofs.lemmas.Bool.{or_parts}
use Rattle.std.proofs.lemmas.List.{length-map}
use Rattle.std.specs.FinMap as map
use Rattle.model_files.specs.Files.{table_files}
use Rattle.model_files.specs.Texts.{Texts, as_entry, entry_of, texts_at, with_text}
use Rattle.model_files.proofs.EntryLemmas.{is_entry}
use Rattle.model_files.proofs.NameLemmas.{entry_listed, names_are_header}
use Rattle.model_history.specs.Changes.{after, changed_by}
use Rattle.model_history.specs.History as past
use Rattle.model_history.specs.History.{is_among, replay, history_weight, heaviest_history}
use Rattle.model_maps.specs.KeyMap.{KeyMap}
use Rattle.model_store.specs.Cores as cores
use Rattle.model_store.specs.Cores.{JudgementMade, accepts, core_after}
use Rattle.model_store.specs.Events.{Commit, Judged}
use Rattle.model_store.specs.Legal.{AreLegal, IsLegalCommit}
use Rattle.model_names.specs.Name.{Name}
use Rattle.model_store.specs.Promise.{IsSet}
use Rattle.model_store.specs.Records.{Record}
use Rattle.model_store.specs.Remaking.{CanRemake}
use Rattle.model_store.specs.Sets.{Prepared}
use Rattle.model_store.specs.Store.{Store, Formats, contents, counts_keys, points_of}
use Rattle.model_store.specs.Verdicts.{Late, Commits, IsLate, commit_of, conflict}
use Rattle.model_store.specs.Worlds.{World, Asked}
use Rattle.model_store.proofs.Judged.{is_committed}
use Rattle.model_store.proofs.Members.{among-first, among-rest}
use Rattle.model_store.proofs.Owning.{Goes, follows}
use Rattle.model_store.proofs.Remade.{can_remake}
use Rattle.mount_table.specs.declared.mounts.Mount.{Mount}
use Rattle.set_split.specs.Involved.{involved_in}
use Rattle.set_split.specs.Parts.{owned_by}
use Rattle.store_core.specs.Cores.{StandsIn, core_with}
use Rattle.store_core.specs.declared.cores.Core.{Core}
use Rattle.store_phases.specs.Phases.{IsOfRun}
use Rattle.store_verdict.proofs.SetLemmas.{filter-within, involved-within}

-- ---- texts

module _ (formats : Formats) (store : Store) (keys other : KeyMap) where
  abbrev Alike : ℕ → Type 0
  Alike m = owned_by (points_of store) m keys ≡ owned_by (points_of store) m other

  with-alike : (m : ℕ) (mount : Option Mount) (one two : Texts) → Alike m → one ≡ two
      → with_text formats store keys m mount one ≡ with_text formats store other m mount two
  with-alike m None one two same e = e
  with-alike m (Some mount) one two same e =
      ap₂ (λ (owned : KeyMap) (ts : Texts). map.insert ts mount.file (formats.text mount.kind (contents store m mount owned))) same e

  -- the texts of some mounts go by what these own
  pub texts-alike : (ms : List ℕ) → ((m : ℕ) → is_among ms m ≡ true → Alike m)
      → texts_at formats store keys ms ≡ texts_at formats store other ms
  texts-alike [] same = refl
  texts-alike (m ∷ ms) same =
      with-alike m (slice_get store.mounts m) _ _ (same m (among-first m ms)) (texts-alike ms (λ k among. same k (among-rest m k ms among)))

-- where no number has something, none of them has
none_counts : (p : ℕ → Bool) (ms : List ℕ) (m : ℕ) → list_any p ms ≡ false → is_among ms m ≡ true → p m ≡ false
none_counts p [] m none among = absurd cc
none_counts p (n ∷ ms) m none among = elim (nat_eq m n) as (λ b. nat_eq m n ≡ b → (b || is_among ms m) ≡ true → p m ≡ false) [
  | true ↦ λ is e. ap p (eqb-true m n is) ∙ (or_parts (p n) (list_any p ms) none).0
  | false ↦ λ is e. none_counts p ms m (or_parts (p n) (list_any p ms) none).1 e
] refl among

-- ---- the history

-- the last commit of a legal history is legal
last_legal : (formats : Formats) (store : Store) (before : KeyMap) (history : List past.Commit) (commit : past.Commit)
    → AreLegal formats store before (history ++ commit ∷ [])
    → IsLegalCommit formats store (replay before history) commit
last_legal formats store before [] commit legal = legal.0
last_legal formats store before (first ∷ history) commit legal =
    last_legal formats store (changed_by first.changes before) history commit legal.1

-- a prepared set touches mounts of the table alone
set-within : (formats : Formats) (store : Store) (history : List past.Commit) (asked : Option Asked) (set : Prepared)
    → IsSet formats store history asked (Some set) → AllByRecursion (λ m. m < length store.mounts) set.touched
set-within formats store history None set is = absurd is
set-within formats store history (Some asked) set is =
    let points : List Name = points_of store in
    let k : ℕ = length store.mounts in
    let count : length points ≡ k = length-map store.mounts (λ (mount : Mount). mount.at) in
    subst (λ (s : Prepared). AllByRecursion (λ m. m < k) s.touched) (sym is.is)
    (filter-within k _ (involved_in points asked.parent) (involved-within points asked.parent k (omega (arith, count))))

module _ (formats : Formats) {D P : Type 0} (store : Store) (core : Core D P) (records : ℕ → Record) (sets : ℕ → Option Prepared) (world : World) (st : StandsIn formats store core records sets world)
    (r p : ℕ) (set : Prepared) (is_set : sets p ≡ Some set) (accepted : accepts (records r) r set ≡ true) where
  abbrev old : cores.Core
  old = core_with core records sets

  -- a verdict of the history is one of the definitions
  abbrev pub judgement : (late : Late) → IsLate formats store core.history.commits core.keys set late → JudgementMade formats store old r p (length core.history.commits) late
  judgement late is = record { set = set; is_set = is_set; accepted = accepted; front_is = refl; late_is = is }

  pub present : replay store.start core.history.commits ≡ core.keys
  present = ap (replay store.start) st.stands.history ∙ sym st.stands.keys

  -- where nothing blocks the set, the texts of its files can be made anew of the keys after it
  pub remade : conflict store core.history.commits set ≡ None → CanRemake formats store core.keys set
  remade free = can_remake formats store world old st.stands r p set is_set accepted free

  -- each touched mount is one of the table
  pub within : AllByRecursion (λ m. m < length store.mounts) set.touched
  within =
      set-within formats store world.history (world.asked p) set (subst (IsSet formats store world.history (world.asked p)) is_set (st.stands.sets p))

  module _ (commit : past.Commit) (aside : ℕ) (late : IsLate formats store core.history.commits core.keys set (Commits commit aside)) where
    abbrev next : cores.Core
    next = core_after store old r set (Commits commit aside)

    goes : Goes formats store world (Commit r p) (Judged (length core.history.commits) (Commits commit aside)) next
    goes =
        follows formats store world old (Commit r p) (Judged (length core.history.commits) (Commits commit aside)) next st.stands (record { judged = judgement (Commits commit aside) late; next_is = refl })

    joined : goes.after.history ≡ core.history.commits ++ commit ∷ []
    joined = sym goes.stands.history

    pub light : history_weight (core.history.commits ++ commit ∷ []) ≤ heaviest_history
    light = subst (λ h. history_weight h ≤ heaviest_history) joined goes.stands.legal.not_full

    pub legal : IsLegalCommit formats store core.keys commit
    legal = subst (λ k. IsLegalCommit formats store k commit) present
        (last_legal formats store store.start core.history.commits commit (subst (AreLegal formats store store.start) joined goes.stands.legal.each))

    pub commit_is_set : commit ≡ commit_of set
    commit_is_set = (is_committed formats store core.history.commits core.keys set commit aside late).is

    -- where no touched mount counts by key, the texts of what was wanted are those of the commit
    pub entry_is : list_any (counts_keys store) set.touched ≡ false
        → as_entry (texts_at formats store set.keys set.touched) ≡ entry_of formats store core.keys (commit_of set)
    entry_is none =
        let made = remade (is_committed formats store core.history.commits core.keys set commit aside late).free in
        ap as_entry (texts-alike formats store set.keys (after core.keys set.changes) set.touched (λ m among. sym (made.wanted m among (none_counts (counts_keys store) set.touched m none among))))

    -- some mount is touched, so there is one
    some_mount : (ms : List ℕ) → ms ≢ [] → AllByRecursion (λ m. m < length store.mounts) ms → 1 ≤ length store.mounts
    some_mount [] some all = absurd (some refl)
    some_mount (m ∷ ms) some all = omega (arith, all.0)

    pub entry : IsOfRun (table_files store) (entry_of formats store core.keys (commit_of set))
    entry =
        let is_legal = subst (λ c. IsLegalCommit formats store core.keys c) commit_is_set legal in
        record {
          header = names_are_header store.mounts st.files (some_mount set.touched is_legal.some within);
          entry = is_entry formats store st.files core.keys (commit_of set) is_legal;
          named = entry_listed formats store core.keys (commit_of set);
        }
