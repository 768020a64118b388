-- Verdicts by which texts may be refused as patterns. Where none of them is a pattern a set has one at most; where each
-- text that is no pattern is among them it is absurd that it has none.
use Rattle.std.proofs.Common.{◌≡◌, ℕ, nat_lt, Bool, true, false, T, List, [], ◌∷◌, ◌++◌, Option, Some, None, refl, sym, ap, subst, ◌∙◌, inl, inr}
use Rattle.general_words.specs.Saturated.{saturated}
use Rattle.general_words.proofs.Lists.{some_is}
use Rattle.model_names.specs.Name.{Name}
use Rattle.model_maps.specs.Entry.{Entry}
use Rattle.model_maps.specs.KeyMap.{KeyMap, weight, heaviest_map}
use Rattle.model_history.specs.Changes.{after}
use Rattle.model_history.specs.History.{Commit, history_weight, heaviest_history}
use Rattle.model_specified.specs.Violations.{checked_keys, is_owned}
use Rattle.model_specified.specs.declared.violations.Violation.{Violation}
use Rattle.model_specified.proofs.FirstsOnce.{first_by-none, first_by-once}
use Rattle.model_specified.proofs.Refusals.{RefusesEach}
use Rattle.model_specified.proofs.ViolationsOnce.{RefusesNoPattern}
use Rattle.model_store.specs.Sets.{Prepared}
use Rattle.model_store.specs.Store.{Store, Formats, points_of}
use Rattle.model_store.specs.Verdicts.{Late, Same, Conflict, TooLarge, Invalid, DatabaseFull, HistoryFull, Commits, Follows, Checks, IsLate, conflict, commit_of, if_untouched, if_heavy, if_full, too_large}
use Rattle.model_store.proofs.VerdictLemmas.{not_same, not_conflict, not_large, not_limited}
use Rattle.tool_single.proofs.FirstRefusals.{first-or_none}

-- a verdict whose violation, if it tells one that goes by a refusal, tells a text that may be refused
abbrev pub IsPermitted : (List ℕ → Type 0) → Late → Type 0
IsPermitted MayRefuse (Same aside) = Unit {0}
IsPermitted MayRefuse (Conflict m by) = Unit {0}
IsPermitted MayRefuse (TooLarge m size) = Unit {0}
IsPermitted MayRefuse (Invalid violation risen) = T risen → MayRefuse violation.given
IsPermitted MayRefuse (DatabaseFull n) = Unit {0}
IsPermitted MayRefuse (HistoryFull n) = Unit {0}
IsPermitted MayRefuse (Commits commit aside) = Unit {0}

-- what a verdict tells, whether or not it goes by a refusal
abbrev pub told_alone : Late → Late
told_alone (Same aside) = Same aside
told_alone (Conflict m by) = Conflict m by
told_alone (TooLarge m size) = TooLarge m size
told_alone (Invalid violation risen) = Invalid violation false
told_alone (DatabaseFull n) = DatabaseFull n
told_alone (HistoryFull n) = HistoryFull n
told_alone (Commits commit aside) = Commits commit aside

abbrev is_violation : Late → Bool
is_violation (Invalid violation risen) = true
is_violation late = false

other_permitted : (MayRefuse : List ℕ → Type 0) (late : Late) → is_violation late ≡ false → IsPermitted MayRefuse late
other_permitted MayRefuse (Same aside) other = tt
other_permitted MayRefuse (Conflict m by) other = tt
other_permitted MayRefuse (TooLarge m size) other = tt
other_permitted MayRefuse (Invalid violation risen) other = absurd cc
other_permitted MayRefuse (DatabaseFull n) other = tt
other_permitted MayRefuse (HistoryFull n) other = tt
other_permitted MayRefuse (Commits commit aside) other = tt

module _ (MayRefuse : List ℕ → Type 0) (formats : Formats) (store : Store) (history : List Commit) (keys : KeyMap) (set : Prepared) where
  abbrev later : KeyMap
  later = after keys set.changes

  abbrev chosen : List (Name × Entry)
  chosen = checked_keys (is_owned (points_of store) set.touched) later

  abbrev weighs : ℕ
  weighs = weight later

  abbrev in_all : ℕ
  in_all = history_weight (history ++ commit_of set ∷ [])

  abbrev Full : Late → Type 0
  Full answer = Follows (if_full in_all) (Some answer) (answer ≡ Commits (commit_of set) set.aside)

  abbrev Heavy : Late → Type 0
  Heavy answer = Follows (if_heavy weighs) (Some answer) (Full answer)

  abbrev Checked : Late → Type 0
  Checked answer = Checks (points_of store) keys set answer (Heavy answer)

  abbrev Sized : Late → Type 0
  Sized answer = Follows (too_large formats store keys set) (Some answer) (Checked answer)

  abbrev Blocked : Late → Type 0
  Blocked answer = Follows (conflict store history set) (Some answer) (Sized answer)

  -- ---- one at most

  step_once : (late other : Late) (o : Option Late) (P Q : Type 0) → (P → Q → told_alone late ≡ told_alone other)
      → Follows o (Some late) P → Follows o (Some other) Q → told_alone late ≡ told_alone other
  step_once late other None P Q once p q = once p q
  step_once late other (Some told) P Q once p q = ap told_alone (some_is late told p ∙ sym (some_is other told q))

  checked_once : RefusesNoPattern MayRefuse → (late other : Late) → IsPermitted MayRefuse late
      → IsPermitted MayRefuse other → (Heavy late → Heavy other → told_alone late ≡ told_alone other) → Checked late
      → Checked other → told_alone late ≡ told_alone other
  checked_once off late other may might once (inl p) (inl q) =
      let same : p.violation ≡ q.violation = first_by-once MayRefuse off (T p.risen) (T q.risen) chosen p.violation q.violation (subst (IsPermitted MayRefuse) p.is may) (subst (IsPermitted MayRefuse) q.is might) p.first q.first in
      ap told_alone p.is ∙ ap (λ (v : Violation). Invalid v false) same ∙ sym (ap told_alone q.is)
  checked_once off late other may might once (inl p) (inr q) =
      absurd (first_by-none MayRefuse off (T p.risen) chosen p.violation (subst (IsPermitted MayRefuse) p.is may) q.0 p.first)
  checked_once off late other may might once (inr p) (inl q) =
      absurd (first_by-none MayRefuse off (T q.risen) chosen q.violation (subst (IsPermitted MayRefuse) q.is might) p.0 q.first)
  checked_once off late other may might once (inr p) (inr q) = once p.1 q.1

  pub verdict-once : RefusesNoPattern MayRefuse → (late other : Late) → IsPermitted MayRefuse late
      → IsPermitted MayRefuse other → IsLate formats store history keys set late
      → IsLate formats store history keys set other → told_alone late ≡ told_alone other
  verdict-once off late other may might =
      step_once late other (if_untouched set.touched set.aside) (Blocked late) (Blocked other)
      (step_once late other (conflict store history set) (Sized late) (Sized other)
      (step_once late other (too_large formats store keys set) (Checked late) (Checked other)
      (checked_once off late other may might
      (step_once late other (if_heavy weighs) (Full late) (Full other)
      (step_once late other (if_full in_all) (late ≡ Commits (commit_of set) set.aside) (other ≡ Commits (commit_of set) set.aside) (λ p q. ap told_alone (p ∙ sym q)))))))

  -- ---- some

  -- it is absurd that none of a kind is permitted
  abbrev Has : (Late → Type 0) → Type 0
  Has P = ((late : Late) → P late → IsPermitted MayRefuse late → ⊥) → ⊥

  step_some : (o : Option Late) (P : Late → Type 0) → ((told : Late) → o ≡ Some told → is_violation told ≡ false)
      → Has P → Has (λ late. Follows o (Some late) (P late))
  step_some None P apart other off = other off
  step_some (Some told) P apart other off = off told refl (other_permitted MayRefuse told (apart told refl))

  checks_some : RefusesEach MayRefuse → Has Heavy → Has Checked
  checks_some each other off =
      first-or_none MayRefuse each chosen
      (λ violation risen may first. off (Invalid violation risen) (inl (record { violation = violation; risen = risen; first = first; is = refl })) may)
      (λ none. other (λ late heavy may. off late (inr (none, heavy)) may))

  pub verdict-some : RefusesEach MayRefuse → Has (IsLate formats store history keys set)
  verdict-some each =
      step_some (if_untouched set.touched set.aside) Blocked (λ late. not_same is_violation set.touched set.aside late refl)
      (step_some (conflict store history set) Sized (λ late. not_conflict is_violation store history set set.touched late (λ m by. refl))
      (step_some (too_large formats store keys set) Checked (λ late. not_large is_violation formats store later set.touched late (λ m size. refl))
      (checks_some each
      (step_some (if_heavy weighs) Full (λ late. not_limited is_violation (nat_lt heaviest_map weighs) (DatabaseFull (saturated weighs)) late refl)
      (step_some (if_full in_all) (λ late. late ≡ Commits (commit_of set) set.aside) (λ late. not_limited is_violation (nat_lt heaviest_history in_all) (HistoryFull (saturated in_all)) late refl)
      (λ off. off (Commits (commit_of set) set.aside) refl tt))))))
