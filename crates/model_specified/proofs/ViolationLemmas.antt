-- Lists of violations: one more key, and more that may be refused.
use Rattle.std.proofs.Common.{ℕ, List, [], ◌∷◌, ◌++◌, Option, Some, None, refl, sym, ap, subst, ◌∙◌, append-nil, append_assoc}
use Rattle.model_names.specs.Name.{Name}
use Rattle.model_maps.specs.Entry.{Entry, Meta}
use Rattle.model_rules.specs.Rules.{BreaksPattern, LongPattern, BadPattern, Mismatch}
use Rattle.model_rules.specs.declared.breaches.Broken.{Broken}
use Rattle.regex_check.specs.Grammar.{Misses}
use Rattle.model_specified.specs.Violations.{AreBreachesBy, AreOfKey, AreOfKeyBy, AreOfKeys, AreOfKeysBy, TellsPatternBy}
use Rattle.model_specified.specs.declared.violations.Violation.{Violation}

-- the violations of keys and of further ones
pub AreOfKeys-append : (M : Type 0) (keys others : List (Name × Entry)) (some more : List Violation)
    → AreOfKeys M keys some → AreOfKeys M others more → AreOfKeys M (keys ++ others) (some ++ more)
AreOfKeys-append M [] others some more e h = subst (λ vs. AreOfKeys M others (vs ++ more)) (sym e) h
AreOfKeys-append M (key ∷ keys) others some more (own, rest, of_key, of_rest, all) h =
    (own, rest ++ more, of_key, AreOfKeys-append M keys others rest more of_rest h, ap (λ vs. vs ++ more) all ∙ append_assoc own rest more)

-- the violations of one key
pub AreOfKeys-one : (M : Type 0) (key : Name × Entry) (own : List Violation) → AreOfKey M key own
    → AreOfKeys M (key ∷ []) own
AreOfKeys-one M key own h = (own, [], h, refl, sym (append-nil own))

-- where more patterns may be refused
abbrev pub RefusesMore : (List ℕ → Type 0) → (List ℕ → Type 0) → Type 0
RefusesMore Fewer More = (pattern : List ℕ) → Fewer pattern → More pattern

breaks_still : {M N : List ℕ → Type 0} (value : List ℕ) (meta : Meta) (broken : Broken) → RefusesMore M N
    → BreaksPattern M Misses value meta broken → BreaksPattern N Misses value meta broken
breaks_still value meta broken more (LongPattern pattern get long is) = LongPattern pattern get long is
breaks_still value meta broken more (BadPattern pattern get short may is) =
    BadPattern pattern get short (more pattern may) is
breaks_still value meta broken more (Mismatch pattern get short misses is) = Mismatch pattern get short misses is

tells_still : {M N : List ℕ → Type 0} (value : List ℕ) (meta : Meta) (answer : Option Broken) → RefusesMore M N
    → TellsPatternBy M value meta answer → TellsPatternBy N value meta answer
tells_still value meta None more h = h
tells_still value meta (Some broken) more h = breaks_still value meta broken more h

AreBreachesBy-still : {M N : List ℕ → Type 0} (value : List ℕ) (meta : Meta) (breaches : List Broken) → RefusesMore M N
    → AreBreachesBy M value meta breaches → AreBreachesBy N value meta breaches
AreBreachesBy-still value meta breaches more h = record {
  by_type = h.by_type;
  by_range = h.by_range;
  by_enum = h.by_enum;
  by_pattern = h.by_pattern;
  of_type = h.of_type;
  of_range = h.of_range;
  of_enum = h.of_enum;
  of_pattern = tells_still value meta h.by_pattern more h.of_pattern;
  all = h.all;
}

AreOfKeyBy-still : (M N : List ℕ → Type 0) (key : Name × Entry) (violations : List Violation) → RefusesMore M N
    → AreOfKeyBy M key violations → AreOfKeyBy N key violations
AreOfKeyBy-still M N key violations more h =
    record {
      breaches = h.breaches;
      are = AreBreachesBy-still key.1.value key.1.meta h.breaches more h.are;
      all = h.all;
    }

pub AreOfKeysBy-still : (M N : List ℕ → Type 0) (keys : List (Name × Entry)) (violations : List Violation)
    → RefusesMore M N → AreOfKeysBy M keys violations → AreOfKeysBy N keys violations
AreOfKeysBy-still M N [] violations more h = h
AreOfKeysBy-still M N (key ∷ keys) violations more (own, rest, of_key, of_rest, all) =
    (own, rest, AreOfKeyBy-still M N key own more of_key, AreOfKeysBy-still M N keys rest more of_rest, all)

pub AreOfKey-still : {M N : Type 0} (key : Name × Entry) (violations : List Violation) → (M → N)
    → AreOfKey M key violations → AreOfKey N key violations
AreOfKey-still {M} {N} key violations more h = AreOfKeyBy-still (λ _. M) (λ _. N) key violations (λ _. more) h

pub AreOfKeys-still : (M N : Type 0) (keys : List (Name × Entry)) (violations : List Violation) → (M → N)
    → AreOfKeys M keys violations → AreOfKeys N keys violations
AreOfKeys-still M N keys violations more = AreOfKeysBy-still (λ _. M) (λ _. N) keys violations (λ _. more)
