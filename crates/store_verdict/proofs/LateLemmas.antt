-- What the history decides, step by step.
use Rattle.std.proofs.Common.{◌≡◌, ℕ, ◌<◌, ◌≤◌, nat_lt, Bool, true, false, cond, List, [], ◌∷◌, ◌++◌, length, Option, Some, None, inl, inr, refl, sym, ap, subst, ◌∙◌, arith}
use Rattle.std.proofs.lemmas.Bool.{cond-true, cond-false, lt-ltb, le-ltb}
use Rattle.general_words.specs.Saturated.{saturated}
use Rattle.general_words.specs.Searches.{first_some}
use Rattle.commit_log.specs.CommitView as log
use Rattle.commit_log.specs.declared.commits.Commit as code
use Rattle.journal_codec.specs.declared.files.FileText.{FileText}
use Rattle.kdb_outside.specs.Faults.{HasRisen}
use Rattle.model_names.specs.Name.{Name}
use Rattle.model_maps.specs.KeyMap.{KeyMap, weight, heaviest_map}
use Rattle.model_specified.specs.Violations.{IsFirstViolation, checked_keys, is_owned}
use Rattle.model_specified.specs.declared.violations.Violation.{Violation}
use Rattle.model_specified.proofs.Refusals.{AreOfKeys-none}
use Rattle.model_history.specs.Changes.{after}
use Rattle.model_history.specs.History.{Commit, history_weight, heaviest_history}
use Rattle.model_store.specs.Sets.{Prepared}
use Rattle.model_store.specs.Store.{Store, Formats, points_of}
use Rattle.model_store.specs.Rules.{FirstBreach, KeepRules, has_risen}
use Rattle.model_store.specs.Verdicts.{Late, Conflict, TooLarge, Invalid, DatabaseFull, HistoryFull, Commits, Follows, Checks, IsLate, commit_of, conflict, if_untouched, if_heavy, if_full, too_large, too_large_at}
use Rattle.model_store.proofs.Risen.{first-tested}
use Rattle.store_verdict.specs.declared.judging.Late.TheVariants as verdict
use Rattle.store_verdict.specs.LateView.{late_of, unless_full}

-- a step that tells something is the answer, and one that tells nothing leaves it to the others
told : {A : Type 0} (o : Option A) (x : A) (P : Type 0) → o ≡ Some x → Follows o (Some x) P
told None x P e = absurd cc
told (Some y) x P e = sym e

behind : {A : Type 0} (o answer : Option A) (P : Type 0) → o ≡ None → P → Follows o answer P
behind None answer P e p = p
behind (Some y) answer P e p = absurd cc

touched-none : (touched : List ℕ) (aside : ℕ) → 0 < length touched → if_untouched touched aside ≡ None
touched-none [] aside lt = absurd (omega arith)
touched-none (m ∷ touched) aside lt = refl

-- the last test, by its outcome
abbrev at_last : Bool → Bool → ℕ → code.Commit → ℕ → Option (List FileText) → Late
at_last full risen h commit aside renewed =
    late_of risen (cond full (verdict.HistoryFull (saturated h)) (verdict.Commits commit aside renewed))

full-step : (risen : Bool) (h full : ℕ) → full ≡ h → (commit : code.Commit) (made : Commit)
    → log.commit_of commit ≡ made → (aside : ℕ) (renewed : Option (List FileText))
    → Follows (if_full full) (Some (late_of risen (unless_full h commit aside renewed))) (late_of risen (unless_full h commit aside renewed) ≡ Commits made aside)
full-step risen h full e commit made same aside renewed =
    subst (λ n. Follows (if_full n) (Some (late_of risen (unless_full h commit aside renewed))) (late_of risen (unless_full h commit aside renewed) ≡ Commits made aside)) (sym e) (at (nat_lt heaviest_history h))
  where
    at : (b : Bool)
        → Follows (cond b (Some (HistoryFull (saturated h))) None) (Some (at_last b risen h commit aside renewed)) (at_last b risen h commit aside renewed ≡ Commits made aside)
    at true = refl
    at false = ap (λ c. Commits c aside) same

-- a set that a commit blocks is told so
pub late-blocked : (formats : Formats) (store : Store) (history : List Commit) (keys : KeyMap) (set : Prepared)
    (m by : ℕ) → 0 < length set.touched → conflict store history set ≡ Some (Conflict m by)
    → IsLate formats store history keys set (Conflict m by)
late-blocked formats store history keys set m by some blocked =
    behind (if_untouched set.touched set.aside) (Some (Conflict m by)) _ (touched-none set.touched set.aside some) (told (conflict store history set) (Conflict m by) _ blocked)

module _ (formats : Formats) (store : Store) (history : List Commit) (keys : KeyMap) (set : Prepared) (some : 0 < length set.touched) (free : conflict store history set ≡ None) where
  abbrev points : List Name
  points = points_of store

  -- what is told of a commit behind the last tests
  abbrev ToCommit : Late → Type 0
  ToCommit answer =
      Follows (if_heavy (weight (after keys set.changes))) (Some answer) (Follows (if_full (history_weight (history ++ commit_of set ∷ []))) (Some answer) (answer ≡ Commits (commit_of set) set.aside))

  -- of a set that nothing blocks the files are measured
  late-unblocked : (answer : Late)
      → Follows (too_large formats store keys set) (Some answer) (Checks points keys set answer (ToCommit answer))
      → IsLate formats store history keys set answer
  late-unblocked answer follows =
      behind (if_untouched set.touched set.aside) (Some answer) _ (touched-none set.touched set.aside some)
      (behind (conflict store history set) (Some answer) _ free follows)

  module _ (later : KeyMap) (later_is : later ≡ after keys set.changes) where
    measured : (o : Option Late) → first_some (too_large_at formats store later) set.touched ≡ o
        → too_large formats store keys set ≡ o
    measured o is = ap (λ k. first_some (too_large_at formats store k) set.touched) (sym later_is) ∙ is

    pub late-large : (m bytes : ℕ) → first_some (too_large_at formats store later) set.touched ≡ Some (TooLarge m bytes)
        → IsLate formats store history keys set (TooLarge m bytes)
    late-large m bytes large =
        late-unblocked (TooLarge m bytes) (told (too_large formats store keys set) (TooLarge m bytes) _ (measured (Some (TooLarge m bytes)) large))

    module _ (small : first_some (too_large_at formats store later) set.touched ≡ None) where
      -- where none of them is too large, it is judged by the rules
      late-small : (answer : Late) → Checks points keys set answer (ToCommit answer)
          → IsLate formats store history keys set answer
      late-small answer checks =
          late-unblocked answer (behind (too_large formats store keys set) (Some answer) _ (measured None small) checks)

      pub late-invalid : (before now : ℕ) (violation : Violation)
          → IsFirstViolation (HasRisen before now) (is_owned points set.touched) later (Some violation)
          → IsLate formats store history keys set (Invalid violation (has_risen before now))
      late-invalid before now violation first = late-small (Invalid violation (has_risen before now)) (inl (record {
        violation = violation;
        risen = has_risen before now;
        first = subst (λ k. FirstBreach points set.touched k violation (has_risen before now)) later_is (first-tested before now (is_owned points set.touched) later violation first);
        is = refl;
      }))

      module _ (before now : ℕ) (none : IsFirstViolation (HasRisen before now) (is_owned points set.touched) later None) where
        kept : KeepRules points set.touched (after keys set.changes)
        kept =
            subst (KeepRules points set.touched) later_is (AreOfKeys-none (HasRisen before now) ⊥ (checked_keys (is_owned points set.touched) later) none)

        pub late-heavy : (w : ℕ) → w ≡ saturated (weight later) → heaviest_map < w
            → IsLate formats store history keys set (DatabaseFull w)
        late-heavy w is lt =
            let n : ℕ = weight (after keys set.changes) in
            let same : w ≡ saturated n = is ∙ ap (λ k. saturated (weight k)) later_is in
            let heavy : heaviest_map < n = omega (arith, same, lt) in
            late-small (DatabaseFull w)
            (inr (kept, told (if_heavy n) (DatabaseFull w) _ (cond-true (nat_lt heaviest_map n) (Some (DatabaseFull (saturated n))) None (lt-ltb heaviest_map n heavy) ∙ ap (λ k. Some (DatabaseFull k)) (sym same))))

        pub late-light : (w : ℕ) → w ≡ saturated (weight later) → w ≤ heaviest_map → (commit : code.Commit)
            → log.commit_of commit ≡ commit_of set → (risen : Bool) (renewed : Option (List FileText))
            → IsLate formats store history keys set (late_of risen (unless_full (history_weight (history ++ log.commit_of commit ∷ [])) commit set.aside renewed))
        late-light w is le commit same risen renewed =
            let n : ℕ = weight (after keys set.changes) in
            let w_is : w ≡ saturated n = is ∙ ap (λ k. saturated (weight k)) later_is in
            let light : n ≤ heaviest_map = omega (arith, w_is, le) in
            let h : ℕ = history_weight (history ++ log.commit_of commit ∷ []) in
            let answer : Late = late_of risen (unless_full h commit set.aside renewed) in
            late-small answer (inr (
              kept,
              behind (if_heavy n) (Some answer) _ (cond-false (nat_lt heaviest_map n) (Some (DatabaseFull (saturated n))) None (le-ltb heaviest_map n light))
                  (full-step risen h (history_weight (history ++ commit_of set ∷ [])) (ap (λ c. history_weight (history ++ c ∷ [])) (sym same)) commit (commit_of set) same set.aside renewed),
            ))
