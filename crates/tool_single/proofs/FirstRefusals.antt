-- First violations by which texts may be refused as patterns: where each text that is no pattern is among them, it is
-- absurd that some keys have neither one nor none.
use Rattle.std.proofs.Common.{◌≡◌, ℕ, ◌≤◌, Bool, true, false, T, List, [], ◌∷◌, ◌++◌, map, length, Option, Some, None, refl, sym, ap, subst, arith, append-nil}
use Rattle.std.specs.Option.{option_to_list}
use Rattle.general_words.proofs.Lists.{head_is}
use Rattle.model_names.specs.Name.{Name}
use Rattle.model_maps.specs.Entry.{Entry, Meta}
use Rattle.model_rules.specs.Rules.{BreaksType, BreaksRange, BreaksEnum, BreaksPattern, LongPattern, BadPattern, Mismatch, Tells, longest_pattern}
use Rattle.model_rules.specs.declared.breaches.Broken.{Broken}
use Rattle.regex_check.specs.Grammar.{Misses}
use Rattle.model_specified.specs.Violations.{AreBreachesBy, AreOfKeyBy, AreOfKeys, AreOfKeysBy, BeginWith, BreaksAtFirst, ByType, ByRange, ByEnum, TellsPatternBy, violation_at}
use Rattle.model_specified.specs.declared.violations.Violation.{Violation}
use Rattle.model_specified.proofs.Refusals.{AreOfKeys-none, RefusesEach, begin-with, first-as, first-caused, some_by_keys}
use Rattle.model_specified.proofs.ViolationLemmas.{AreOfKeysBy-still}

-- a key that breaks a rule first begins the violations of the keys from it on
here_first : (M : Type 0) (key : Name × Entry) (behind : List (Name × Entry)) (broken : Broken)
    → BreaksAtFirst M key.1.value key.1.meta broken → BeginWith M (key ∷ behind) (violation_at key.0 broken)
here_first M key behind broken first =
    record {
      front = [];
      key = key;
      behind = behind;
      all = refl;
      none = refl;
      broken = broken;
      first = first;
      is = refl;
    }

-- ---- one or none

module _ (MayRefuse : List ℕ → Type 0) where
  -- rule 6 of a text that isn't too long for a pattern tells one that may be refused
  abbrev IsOwned : Violation → Type 0
  IsOwned violation = violation.rule ≡ 6 → length violation.given ≤ longest_pattern → MayRefuse violation.given

  of_another : (key : Name × Entry) (broken : Broken) → BreaksAtFirst ⊥ key.1.value key.1.meta broken
      → IsOwned (violation_at key.0 broken)
  of_another key broken first six short =
      absurd (first-caused ⊥ (key ∷ []) (violation_at key.0 broken) (here_first ⊥ key [] broken first) six short)

  of_pattern : (name : Name) (value : List ℕ) (meta : Meta) (broken : Broken)
      → BreaksPattern MayRefuse Misses value meta broken → IsOwned (violation_at name broken)
  of_pattern name value meta broken (LongPattern pattern get long is) six short =
      absurd (omega (arith, long, short, ap (λ (b : Broken). length b.given) is))
  of_pattern name value meta broken (BadPattern pattern get small may is) six short =
      subst MayRefuse (sym (ap (λ (b : Broken). b.given) is)) may
  of_pattern name value meta broken (Mismatch pattern get small misses is) six short =
      absurd (let seven : broken.rule ≡ 7 = ap (λ (b : Broken). b.rule) is in omega (arith, six, seven))

  -- the first violation of a list is such a one
  of_breaches : (key : Name × Entry) (broken : Broken) (more : List Broken)
      → AreBreachesBy MayRefuse key.1.value key.1.meta (broken ∷ more) → IsOwned (violation_at key.0 broken)
  of_breaches key broken more h =
      by h.by_type h.by_range h.by_enum h.by_pattern h.of_type h.of_range h.of_enum h.of_pattern h.all
    where
      value : List ℕ
      value = key.1.value

      meta : Meta
      meta = key.1.meta

      by : (t r e p : Option Broken) → Tells (BreaksType value meta) t → Tells (BreaksRange value meta) r
          → Tells (BreaksEnum value meta) e → TellsPatternBy MayRefuse value meta p
          → broken ∷ more ≡ option_to_list t ++ (option_to_list r ++ (option_to_list e ++ option_to_list p))
          → IsOwned (violation_at key.0 broken)
      by (Some b) r e p of_t of_r of_e of_p all =
          of_another key broken (ByType (subst (BreaksType value meta) (sym (head_is broken b _ _ all)) of_t))
      by None (Some b) e p of_t of_r of_e of_p all =
          of_another key broken (ByRange of_t (subst (BreaksRange value meta) (sym (head_is broken b _ _ all)) of_r))
      by None None (Some b) p of_t of_r of_e of_p all =
          of_another key broken (ByEnum of_t of_r (subst (BreaksEnum value meta) (sym (head_is broken b _ _ all)) of_e))
      by None None None (Some b) of_t of_r of_e of_p all =
          of_pattern key.0 value meta broken (subst (BreaksPattern MayRefuse Misses value meta) (sym (head_is broken b _ _ all)) of_p)
      by None None None None of_t of_r of_e of_p all = absurd cc

  of_key : (key : Name × Entry) (violation : Violation) (more : List Violation)
      → AreOfKeyBy MayRefuse key (violation ∷ more) → IsOwned violation
  of_key key violation more h = by h.breaches h.are h.all
    where
      by : (breaches : List Broken) → AreBreachesBy MayRefuse key.1.value key.1.meta breaches
          → violation ∷ more ≡ map (violation_at key.0) breaches → IsOwned violation
      by [] are all = absurd cc
      by (broken ∷ breaches) are all =
          subst IsOwned (sym (head_is violation (violation_at key.0 broken) _ _ all)) (of_breaches key broken breaches are)

  of_list : (keys : List (Name × Entry)) (violation : Violation) (more : List Violation)
      → AreOfKeysBy MayRefuse keys (violation ∷ more) → IsOwned violation
  of_list [] violation more h = absurd cc
  of_list (key ∷ keys) violation more (own, rest, is_of_key, of_rest, all) =
      by own rest is_of_key of_rest all (of_list keys violation more)
    where
      by : (own rest : List Violation) → AreOfKeyBy MayRefuse key own → AreOfKeysBy MayRefuse keys rest
          → violation ∷ more ≡ own ++ rest → (AreOfKeysBy MayRefuse keys (violation ∷ more) → IsOwned violation)
          → IsOwned violation
      by [] rest is_of_key of_rest all again = again (subst (AreOfKeysBy MayRefuse keys) (sym all) of_rest)
      by (v ∷ own) rest is_of_key of_rest all again =
          subst IsOwned (sym (head_is violation v _ _ all)) (of_key key v own is_of_key)

  -- it is absurd that some keys have neither a first violation that tells a text which may be refused, if it goes by a
  -- refusal, nor none
  pub first-or_none : RefusesEach MayRefuse → (keys : List (Name × Entry))
      → ((violation : Violation) (risen : Bool) → (T risen → MayRefuse violation.given) → BeginWith (T risen) keys violation → ⊥)
      → (AreOfKeys ⊥ keys [] → ⊥) → ⊥
  first-or_none each keys some none = some_by_keys MayRefuse each keys by
    where
      by : (violations : List Violation) → AreOfKeysBy MayRefuse keys violations → ⊥
      by [] h =
          none (AreOfKeys-none (T true) ⊥ keys (AreOfKeysBy-still MayRefuse (λ _. T true) keys [] (λ pattern may. tt) h))
      by (violation ∷ more) h =
          let all = AreOfKeysBy-still MayRefuse (λ _. T true) keys (violation ∷ more) (λ pattern may. tt) h in
          let first = subst (λ ks. BeginWith (T true) ks violation) (append-nil keys) (begin-with (T true) keys [] violation more all) in
          some violation false (λ risen. absurd risen)
          (first-as (T true) ⊥ keys violation (λ six short risen. some violation true (λ rose. of_list keys violation more h six short) first) first)
