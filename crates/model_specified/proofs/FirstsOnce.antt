-- Where no text that is a pattern may be refused, some keys have one first violation at most, and none where they have
-- no violations.
use Rattle.std.proofs.Common.{◌≡◌, ℕ, Bool, List, [], ◌∷◌, ◌++◌, Option, Some, None, refl, sym, ap, ap₂, subst, ◌∙◌}
use Rattle.std.specs.Option.{option_to_list}
use Rattle.general_words.proofs.Lists.{head_is, tail_is}
use Rattle.model_names.specs.Name.{Name}
use Rattle.model_maps.specs.Entry.{Entry, Meta}
use Rattle.model_maps.specs.KeyMap.{KeyMap}
use Rattle.model_rules.specs.Rules.{BreaksType, BreaksRange, BreaksEnum, BreaksPattern, LongPattern, BadPattern, Mismatch, Tells}
use Rattle.model_rules.specs.declared.breaches.Broken.{Broken}
use Rattle.model_rules.proofs.RulesOnce.{BreaksType-once, BreaksRange-once, BreaksEnum-once}
use Rattle.regex_check.specs.Grammar.{Misses}
use Rattle.model_specified.specs.Violations.{AreBreaches, AreOfKey, AreOfKeys, BeginWith, BreaksAtFirst, ByType, ByRange, ByEnum, ByPattern, IsFirstViolation, TellsPattern, checked_keys, violation_at}
use Rattle.model_specified.specs.declared.violations.Violation.{Violation}
use Rattle.model_specified.proofs.Refusals.{no_breaches, nothing_of}
use Rattle.model_specified.proofs.ViolationsOnce.{RefusesNoPattern, breaks-once, keeps-none}

-- each of some keys that have no violations has none
none_of : (front behind : List (Name × Entry)) (key : Name × Entry) → AreOfKeys ⊥ (front ++ key ∷ behind) []
    → AreOfKey ⊥ key []
none_of [] behind key (own, rest, of_key, of_rest, all) = subst (AreOfKey ⊥ key) (nothing_of own rest all).0 of_key
none_of (k ∷ front) behind key (own, rest, of_key, of_rest, all) =
    none_of front behind key (subst (AreOfKeys ⊥ (front ++ key ∷ behind)) (nothing_of own rest all).1 of_rest)

-- nor have the keys behind the first one
none_behind : (key : Name × Entry) (keys : List (Name × Entry)) → AreOfKeys ⊥ (key ∷ keys) [] → AreOfKeys ⊥ keys []
none_behind key keys (own, rest, of_key, of_rest, all) = subst (AreOfKeys ⊥ keys) (nothing_of own rest all).1 of_rest

-- a key with another in its place
first_in : (M : Type 0) (broken : Broken) (key other : Name × Entry) → key ≡ other
    → BreaksAtFirst M key.1.value key.1.meta broken → BreaksAtFirst M other.1.value other.1.meta broken
first_in M broken key other is = subst (λ (k : Name × Entry). BreaksAtFirst M k.1.value k.1.meta broken) is

-- ---- by which texts may be refused; a violation that goes by a refusal tells its text

module _ (MayRefuse : List ℕ → Type 0) (off : RefusesNoPattern MayRefuse) where
  by_own : (M : Type 0) (value : List ℕ) (meta : Meta) (broken : Broken) → (M → MayRefuse broken.given)
      → BreaksPattern (λ _. M) Misses value meta broken → BreaksPattern MayRefuse Misses value meta broken
  by_own M value meta broken may (LongPattern pattern get long is) = LongPattern pattern get long is
  by_own M value meta broken may (BadPattern pattern get short m is) =
      BadPattern pattern get short (subst MayRefuse (ap (λ (b : Broken). b.given) is) (may m)) is
  by_own M value meta broken may (Mismatch pattern get short misses is) = Mismatch pattern get short misses is

  -- a value breaks one rule first
  breach_once : (M N : Type 0) (value : List ℕ) (meta : Meta) (a b : Broken) → (M → MayRefuse a.given)
      → (N → MayRefuse b.given) → BreaksAtFirst M value meta a → BreaksAtFirst N value meta b → a ≡ b
  breach_once M N value meta a b may might (ByType p) (ByType q) = BreaksType-once value meta a b p q
  breach_once M N value meta a b may might (ByType p) (ByRange typed q) = absurd (typed a p)
  breach_once M N value meta a b may might (ByType p) (ByEnum typed ranged q) = absurd (typed a p)
  breach_once M N value meta a b may might (ByType p) (ByPattern typed ranged chosen q) = absurd (typed a p)
  breach_once M N value meta a b may might (ByRange untyped p) (ByType q) = absurd (untyped b q)
  breach_once M N value meta a b may might (ByRange untyped p) (ByRange typed q) = BreaksRange-once value meta a b p q
  breach_once M N value meta a b may might (ByRange untyped p) (ByEnum typed ranged q) = absurd (ranged a p)
  breach_once M N value meta a b may might (ByRange untyped p) (ByPattern typed ranged chosen q) = absurd (ranged a p)
  breach_once M N value meta a b may might (ByEnum untyped less p) (ByType q) = absurd (untyped b q)
  breach_once M N value meta a b may might (ByEnum untyped less p) (ByRange typed q) = absurd (less b q)
  breach_once M N value meta a b may might (ByEnum untyped less p) (ByEnum typed ranged q) =
      BreaksEnum-once value meta a b p q
  breach_once M N value meta a b may might (ByEnum untyped less p) (ByPattern typed ranged chosen q) =
      absurd (chosen a p)
  breach_once M N value meta a b may might (ByPattern untyped less least p) (ByType q) = absurd (untyped b q)
  breach_once M N value meta a b may might (ByPattern untyped less least p) (ByRange typed q) = absurd (less b q)
  breach_once M N value meta a b may might (ByPattern untyped less least p) (ByEnum typed ranged q) = absurd (least b q)
  breach_once M N value meta a b may might (ByPattern untyped less least p) (ByPattern typed ranged chosen q) =
      breaks-once MayRefuse off value meta a b (by_own M value meta a may p) (by_own N value meta b might q)

  -- and one without breaches breaks none
  no_breach_first : (M : Type 0) (value : List ℕ) (meta : Meta) (broken : Broken) → (M → MayRefuse broken.given)
      → AreBreaches ⊥ value meta [] → BreaksAtFirst M value meta broken → ⊥
  no_breach_first M value meta broken may h first =
      by h.by_type h.by_range h.by_enum h.by_pattern h.of_type h.of_range h.of_enum h.of_pattern h.all first
    where
      by : (t r e p : Option Broken) → Tells (BreaksType value meta) t → Tells (BreaksRange value meta) r
          → Tells (BreaksEnum value meta) e → TellsPattern ⊥ value meta p
          → [] ≡ option_to_list t ++ (option_to_list r ++ (option_to_list e ++ option_to_list p))
          → BreaksAtFirst M value meta broken → ⊥
      by (Some b) r e p of_t of_r of_e of_p all f = absurd cc
      by None (Some b) e p of_t of_r of_e of_p all f = absurd cc
      by None None (Some b) p of_t of_r of_e of_p all f = absurd cc
      by None None None (Some b) of_t of_r of_e of_p all f = absurd cc
      by None None None None of_t of_r of_e of_p all (ByType breaks) = of_t broken breaks
      by None None None None of_t of_r of_e of_p all (ByRange typed breaks) = of_r broken breaks
      by None None None None of_t of_r of_e of_p all (ByEnum typed ranged breaks) = of_e broken breaks
      by None None None None of_t of_r of_e of_p all (ByPattern typed ranged chosen breaks) =
          keeps-none MayRefuse off value meta broken of_p (by_own M value meta broken may breaks)

  -- a key without violations breaks nothing
  no_key_first : (M : Type 0) (key : Name × Entry) (broken : Broken) → (M → MayRefuse broken.given) → AreOfKey ⊥ key []
      → BreaksAtFirst M key.1.value key.1.meta broken → ⊥
  no_key_first M key broken may h =
      no_breach_first M key.1.value key.1.meta broken may (subst (AreBreaches ⊥ key.1.value key.1.meta) (no_breaches key.0 h.breaches h.all) h.are)

  -- of two places where the keys begin with a violation each, both are one
  one_place : (M N : Type 0) (front other behind beyond : List (Name × Entry)) (key one : Name × Entry) (a b : Broken)
      → (M → MayRefuse a.given) → (N → MayRefuse b.given)
      → front ++ key ∷ behind ≡ other ++ one ∷ beyond → AreOfKeys ⊥ front [] → AreOfKeys ⊥ other []
      → BreaksAtFirst M key.1.value key.1.meta a → BreaksAtFirst N one.1.value one.1.meta b
      → violation_at key.0 a ≡ violation_at one.0 b
  one_place M N [] [] behind beyond key one a b may might same p q f h =
      let is : key ≡ one = head_is key one behind beyond same in
      ap₂ (λ (k : Name × Entry) (broken : Broken). violation_at k.0 broken) is (breach_once M N one.1.value one.1.meta a b may might (first_in M a key one is f) h)
  one_place M N [] (k ∷ other) behind beyond key one a b may might same p q f h =
      absurd (no_key_first M k a may (none_of [] other k q) (first_in M a key k (head_is key k behind (other ++ one ∷ beyond) same) f))
  one_place M N (k ∷ front) [] behind beyond key one a b may might same p q f h =
      absurd (no_key_first N k b might (none_of [] front k p) (first_in N b one k (sym (head_is k one (front ++ key ∷ behind) beyond same)) h))
  one_place M N (k ∷ front) (l ∷ other) behind beyond key one a b may might same p q f h =
      one_place M N front other behind beyond key one a b may might (tail_is k l (front ++ key ∷ behind) (other ++ one ∷ beyond) same) (none_behind k front p) (none_behind l other q) f h

  -- a first violation tells what its breach does
  own_given : (M : Type 0) (keys : List (Name × Entry)) (violation : Violation) → (M → MayRefuse violation.given)
      → (h : BeginWith M keys violation) → M → MayRefuse h.broken.given
  own_given M keys violation may h m = subst MayRefuse (ap (λ (v : Violation). v.given) h.is) (may m)

  pub first_by-once : (M N : Type 0) (keys : List (Name × Entry)) (v w : Violation) → (M → MayRefuse v.given)
      → (N → MayRefuse w.given) → BeginWith M keys v → BeginWith N keys w → v ≡ w
  first_by-once M N keys v w may might p q =
      p.is
      ∙ one_place M N p.front q.front p.behind q.behind p.key q.key p.broken q.broken (own_given M keys v may p) (own_given N keys w might q) (sym p.all ∙ q.all) p.none q.none p.first q.first
      ∙ sym q.is

  pub first_by-none : (M : Type 0) (keys : List (Name × Entry)) (v : Violation) → (M → MayRefuse v.given)
      → AreOfKeys ⊥ keys [] → BeginWith M keys v → ⊥
  first_by-none M keys v may none p =
      no_key_first M p.key p.broken (own_given M keys v may p) (none_of p.front p.behind p.key (subst (λ ks. AreOfKeys ⊥ ks []) p.all none)) p.first

-- ---- where none may be refused

pub first-once : (keys : List (Name × Entry)) (v w : Violation) → BeginWith ⊥ keys v → BeginWith ⊥ keys w → v ≡ w
first-once keys v w = first_by-once (λ _. ⊥) (λ pattern may. absurd may) ⊥ ⊥ keys v w (λ may. may) (λ may. may)

pub first-none : (keys : List (Name × Entry)) (v : Violation) → AreOfKeys ⊥ keys [] → BeginWith ⊥ keys v → ⊥
first-none keys v = first_by-none (λ _. ⊥) (λ pattern may. absurd may) ⊥ keys v (λ may. may)

pub firsts-once : (is_chosen : Name → Bool) (keys : KeyMap) (a b : Option Violation)
    → IsFirstViolation ⊥ is_chosen keys a → IsFirstViolation ⊥ is_chosen keys b → a ≡ b
firsts-once is_chosen keys None None p q = refl
firsts-once is_chosen keys None (Some w) p q = absurd (first-none (checked_keys is_chosen keys) w p q)
firsts-once is_chosen keys (Some v) None p q = absurd (first-none (checked_keys is_chosen keys) v q p)
firsts-once is_chosen keys (Some v) (Some w) p q = ap Some (first-once (checked_keys is_chosen keys) v w p q)
