-- Where no text that is a pattern may be refused, a set has one list of violations at most.
use Rattle.std.proofs.Common.{◌≡◌, ℕ, ◌<◌, ◌≤◌, List, [], ◌∷◌, ◌++◌, map, length, Option, Some, None, refl, sym, ap, ap₂, subst, ◌∙◌, arith, codes}
use Rattle.std.specs.FinMap as finite
use Rattle.std.specs.Option.{option_to_list}
use Rattle.general_words.proofs.Lists.{found_once}
use Rattle.model_names.specs.Name.{Name}
use Rattle.model_maps.specs.Entry.{Entry, Meta}
use Rattle.model_rules.specs.Rules.{BreaksType, BreaksRange, BreaksEnum, BreaksPattern, LongPattern, BadPattern, Mismatch, KeepsPattern, Tells, breach, longest_pattern}
use Rattle.model_rules.specs.declared.breaches.Broken.{Broken}
use Rattle.model_rules.proofs.RulesOnce.{BreaksType-once, BreaksRange-once, BreaksEnum-once}
use Rattle.regex_check.specs.Grammar.{Matches, Misses}
use Rattle.model_specified.specs.Violations.{AreBreachesBy, AreOfKeys, AreOfKeysBy, IsNoPattern, TellsPatternBy, violation_at}
use Rattle.model_specified.specs.declared.violations.Violation.{Violation}

-- a check has one answer
tells-once : (Breaks : Broken → Type 0) (a b : Option Broken) → ((x y : Broken) → Breaks x → Breaks y → x ≡ y)
    → Tells Breaks a → Tells Breaks b → a ≡ b
tells-once Breaks None None once p q = refl
tells-once Breaks None (Some y) once p q = absurd (p y q)
tells-once Breaks (Some x) None once p q = absurd (q x p)
tells-once Breaks (Some x) (Some y) once p q = ap Some (once x y p q)

-- what is refused is no pattern
abbrev pub RefusesNoPattern : (List ℕ → Type 0) → Type 0
RefusesNoPattern MayRefuse = (pattern : List ℕ) → MayRefuse pattern → IsNoPattern pattern

module _ (MayRefuse : List ℕ → Type 0) (off : RefusesNoPattern MayRefuse) (value : List ℕ) (meta : Meta) where
  abbrev Breaks : Broken → Type 0
  Breaks broken = BreaksPattern MayRefuse Misses value meta broken

  -- a value that keeps its pattern breaks no rule on it
  pub keeps-none : (x : Broken) → KeepsPattern Matches value meta → Breaks x → ⊥
  keeps-none x keeps (LongPattern pattern get long is) = omega (arith, long, (keeps pattern get).0)
  keeps-none x keeps (BadPattern pattern get short may is) = off pattern may (keeps pattern get).1.grammar
  keeps-none x keeps (Mismatch pattern get short misses is) =
      let yes = (keeps pattern get).1.is in let no = misses.is in absurd cc

  -- a text that is too long for a pattern breaks no rule on one that is short
  too_long : (pattern other : List ℕ) → finite.get meta (codes "check/validation") ≡ Some pattern
      → finite.get meta (codes "check/validation") ≡ Some other → longest_pattern < length pattern
      → length other ≤ longest_pattern → ⊥
  too_long pattern other get got long short =
      let small : length pattern ≤ longest_pattern = subst (λ p. length p ≤ longest_pattern) (found_once other pattern got get) short in omega (arith, long, small)

  -- a pattern that is refused has no place where it is missing
  not_missing : (pattern other : List ℕ) → finite.get meta (codes "check/validation") ≡ Some pattern
      → finite.get meta (codes "check/validation") ≡ Some other → MayRefuse pattern → Misses other value → ⊥
  not_missing pattern other get got may misses =
      off pattern may (subst (λ p. Misses p value) (found_once other pattern got get) misses).grammar

  -- and one that breaks a rule on it breaks one
  pub breaks-once : (x y : Broken) → Breaks x → Breaks y → x ≡ y
  breaks-once x y (LongPattern pattern get long is) (LongPattern other got large has) =
      is ∙ ap (breach 6) (found_once pattern other get got) ∙ sym has
  breaks-once x y (LongPattern pattern get long is) (BadPattern other got short may has) =
      absurd (too_long pattern other get got long short)
  breaks-once x y (LongPattern pattern get long is) (Mismatch other got short misses has) =
      absurd (too_long pattern other get got long short)
  breaks-once x y (BadPattern pattern get short may is) (LongPattern other got large has) =
      absurd (too_long other pattern got get large short)
  breaks-once x y (BadPattern pattern get short may is) (BadPattern other got small might has) =
      is ∙ ap (breach 6) (found_once pattern other get got) ∙ sym has
  breaks-once x y (BadPattern pattern get short may is) (Mismatch other got small misses has) =
      absurd (not_missing pattern other get got may misses)
  breaks-once x y (Mismatch pattern get short misses is) (LongPattern other got large has) =
      absurd (too_long other pattern got get large short)
  breaks-once x y (Mismatch pattern get short misses is) (BadPattern other got small may has) =
      absurd (not_missing other pattern got get may misses)
  breaks-once x y (Mismatch pattern get short misses is) (Mismatch other got small lacks has) = is ∙ sym has

  pattern-once : (a b : Option Broken) → TellsPatternBy MayRefuse value meta a → TellsPatternBy MayRefuse value meta b
      → a ≡ b
  pattern-once None None p q = refl
  pattern-once None (Some y) p q = absurd (keeps-none y p q)
  pattern-once (Some x) None p q = absurd (keeps-none x q p)
  pattern-once (Some x) (Some y) p q = ap Some (breaks-once x y p q)

  breaches-once : (a b : List Broken) → AreBreachesBy MayRefuse value meta a → AreBreachesBy MayRefuse value meta b
      → a ≡ b
  breaches-once a b p q =
      p.all
      ∙ ap₂ (λ s t. option_to_list s ++ t) (tells-once (BreaksType value meta) p.by_type q.by_type (BreaksType-once value meta) p.of_type q.of_type)
      (ap₂ (λ s t. option_to_list s ++ t) (tells-once (BreaksRange value meta) p.by_range q.by_range (BreaksRange-once value meta) p.of_range q.of_range)
      (ap₂ (λ s t. option_to_list s ++ option_to_list t) (tells-once (BreaksEnum value meta) p.by_enum q.by_enum (BreaksEnum-once value meta) p.of_enum q.of_enum)
      (pattern-once p.by_pattern q.by_pattern p.of_pattern q.of_pattern)))
      ∙ sym q.all

pub AreOfKeysBy-once : (MayRefuse : List ℕ → Type 0) → RefusesNoPattern MayRefuse
    → (keys : List (Name × Entry)) (a b : List Violation) → AreOfKeysBy MayRefuse keys a → AreOfKeysBy MayRefuse keys b
    → a ≡ b
AreOfKeysBy-once MayRefuse off [] a b p q = p ∙ sym q
AreOfKeysBy-once MayRefuse off (key ∷ keys) a b (own, rest, of_key, of_rest, all) (own', rest', of_key', of_rest', all') =
    all
    ∙ ap₂ (λ (s t : List Violation). s ++ t) (of_key.all ∙ ap (map (violation_at key.0)) (breaches-once MayRefuse off key.1.value key.1.meta of_key.breaches of_key'.breaches of_key.are of_key'.are) ∙ sym of_key'.all)
    (AreOfKeysBy-once MayRefuse off keys rest rest' of_rest of_rest')
    ∙ sym all'

pub AreOfKeys-once : (keys : List (Name × Entry)) (a b : List Violation) → AreOfKeys ⊥ keys a → AreOfKeys ⊥ keys b
    → a ≡ b
AreOfKeys-once = AreOfKeysBy-once (λ _. ⊥) (λ pattern may. absurd may)
