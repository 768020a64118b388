-- What a refused pattern can have to do with violations: with none, with rule 6 of a short pattern, and with whether
-- there is a list at all; and what a text has that is no pattern.
use Rattle.std.proofs.Common.{◌≡◌, ℕ, ◌≤◌, Bool, true, false, nat_le, List, [], ◌∷◌, ◌++◌, map, length, Option, Some, None, refl, sym, ap, subst, ◌∙◌, arith, append-nil, codes}
use Rattle.std.specs.FinMap as finite
use Rattle.std.specs.Option.{option_to_list}
use Rattle.std.proofs.lemmas.Bool.{leb-true, leb-false}
use Rattle.general_words.proofs.Lists.{found_once, head_is}
use Rattle.model_names.specs.Name.{Name}
use Rattle.model_maps.specs.Entry.{Entry, Meta}
use Rattle.model_rules.specs.Rules.{BreaksType, UnknownType, WrongType, BreaksRange, BadRange, OutOfRange, BreaksEnum, BreaksPattern, LongPattern, BadPattern, Mismatch, Tells, breach, longest_pattern}
use Rattle.model_rules.specs.declared.breaches.Broken.{Broken}
use Rattle.regex_check.specs.Grammar.{IsInGrammar, Matches, Misses, matches_in}
use Rattle.model_specified.specs.Violations.{AreBreaches, AreOfKey, AreOfKeyBy, AreOfKeys, AreOfKeysBy, BeginWith, BreaksAtFirst, ByType, ByRange, ByEnum, ByPattern, IsNoPattern, TellsPattern, TellsPatternBy, violation_at}
use Rattle.model_specified.specs.declared.violations.Violation.{Violation}
use Rattle.model_specified.proofs.ViolationLemmas.{AreOfKeys-append}

-- ---- no violations

-- two lists that are nothing together are nothing each
pub nothing_of : {A : Type 0} (xs ys : List A) → [] ≡ xs ++ ys → (xs ≡ []) × (ys ≡ [])
nothing_of [] ys e = (refl, sym e)
nothing_of (x ∷ xs) ys e = absurd cc

-- a key without violations has no breaches
pub no_breaches : (name : Name) (breaches : List Broken) → [] ≡ map (violation_at name) breaches → breaches ≡ []
no_breaches name [] e = refl
no_breaches name (broken ∷ breaches) e = absurd cc

no_breach : {M N : Type 0} (value : List ℕ) (meta : Meta) → AreBreaches M value meta [] → AreBreaches N value meta []
no_breach {M} {N} value meta h = record {
  by_type = h.by_type;
  by_range = h.by_range;
  by_enum = h.by_enum;
  by_pattern = h.by_pattern;
  of_type = h.of_type;
  of_range = h.of_range;
  of_enum = h.of_enum;
  of_pattern = by h.by_pattern (nothing_of (option_to_list h.by_enum) _ (sym (nothing_of (option_to_list h.by_range) _ (sym (nothing_of (option_to_list h.by_type) _ h.all).1)).1)).1 h.of_pattern;
  all = h.all;
}
  where
    by : (o : Option Broken) → option_to_list o ≡ [] → TellsPattern M value meta o → TellsPattern N value meta o
    by None e tells = tells
    by (Some broken) e tells = absurd cc

pub no_violation : {M N : Type 0} (key : Name × Entry) → AreOfKey M key [] → AreOfKey N key []
no_violation {M} {N} key h =
    record {
      breaches = [];
      are = no_breach key.1.value key.1.meta (subst (AreBreaches M key.1.value key.1.meta) (no_breaches key.0 h.breaches h.all) h.are);
      all = refl;
    }

-- to find no violations nothing has to be refused
pub AreOfKeys-none : (M N : Type 0) (keys : List (Name × Entry)) → AreOfKeys M keys [] → AreOfKeys N keys []
AreOfKeys-none M N [] h = h
AreOfKeys-none M N (key ∷ keys) (own, rest, of_key, of_rest, all) =
    let none = nothing_of own rest all in
    ([], [], no_violation key (subst (AreOfKey M key) none.0 of_key), AreOfKeys-none M N keys (subst (AreOfKeys M keys) none.1 of_rest), refl)

-- ---- rule 6

-- rule 6 of a pattern that isn't too long has a cause
abbrev pub HasCauseIn : Type 0 → Violation → Type 0
HasCauseIn M violation = violation.rule ≡ 6 → length violation.given ≤ longest_pattern → M

module _ (M : Type 0) (name : Name) where
  abbrev Caused : Broken → Type 0
  Caused broken = HasCauseIn M (violation_at name broken)

  other_rule : (rule : ℕ) (given : List ℕ) (broken : Broken) → (rule ≡ 6 → ⊥) → broken ≡ breach rule given
      → Caused broken
  other_rule rule given broken off is six short = absurd (off (sym (ap (λ (b : Broken). b.rule) is) ∙ six))

  by_type : (value : List ℕ) (meta : Meta) (broken : Broken) → BreaksType value meta broken → Caused broken
  by_type value meta broken (UnknownType word get none is) = other_rule 1 word broken (λ e. omega (arith, e)) is
  by_type value meta broken (WrongType word kind get known off is) =
      other_rule 2 value broken (λ e. omega (arith, e)) is

  by_range : (value : List ℕ) (meta : Meta) (broken : Broken) → BreaksRange value meta broken → Caused broken
  by_range value meta broken (BadRange text get off is) = other_rule 3 text broken (λ e. omega (arith, e)) is
  by_range value meta broken (OutOfRange text intervals get range off is) =
      other_rule 4 value broken (λ e. omega (arith, e)) is

  by_pattern : (value : List ℕ) (meta : Meta) (broken : Broken) → BreaksPattern (λ _. M) Misses value meta broken
      → Caused broken
  by_pattern value meta broken (LongPattern pattern get long is) six short =
      absurd (omega (arith, long, short, ap (λ (b : Broken). length b.given) is))
  by_pattern value meta broken (BadPattern pattern get small may is) six short = may
  by_pattern value meta broken (Mismatch pattern get small misses is) six short =
      other_rule 7 value broken (λ e. omega (arith, e)) is six short

  by_first : (value : List ℕ) (meta : Meta) (broken : Broken) → BreaksAtFirst M value meta broken → Caused broken
  by_first value meta broken (ByType breaks) = by_type value meta broken breaks
  by_first value meta broken (ByRange typed breaks) = by_range value meta broken breaks
  by_first value meta broken (ByEnum typed ranged breaks) = other_rule 5 value broken (λ e. omega (arith, e)) breaks.is
  by_first value meta broken (ByPattern typed ranged chosen breaks) = by_pattern value meta broken breaks

pub first-caused : (M : Type 0) (keys : List (Name × Entry)) (violation : Violation) → BeginWith M keys violation
    → HasCauseIn M violation
first-caused M keys violation h =
    subst (HasCauseIn M) (sym h.is) (by_first M h.key.0 h.key.1.value h.key.1.meta h.broken h.first)

-- a first violation has that cause alone: it stays where its own has another
breaks_as : (M N : Type 0) (value : List ℕ) (meta : Meta) (broken : Broken)
    → (broken.rule ≡ 6 → length broken.given ≤ longest_pattern → M → N) → BreaksAtFirst M value meta broken
    → BreaksAtFirst N value meta broken
breaks_as M N value meta broken so (ByType breaks) = ByType breaks
breaks_as M N value meta broken so (ByRange typed breaks) = ByRange typed breaks
breaks_as M N value meta broken so (ByEnum typed ranged breaks) = ByEnum typed ranged breaks
breaks_as M N value meta broken so (ByPattern typed ranged chosen breaks) = ByPattern typed ranged chosen (by breaks)
  where
    by : BreaksPattern (λ _. M) Misses value meta broken → BreaksPattern (λ _. N) Misses value meta broken
    by (LongPattern pattern get long is) = LongPattern pattern get long is
    by (BadPattern pattern get short may is) =
        BadPattern pattern get short (so (ap (λ (b : Broken). b.rule) is) (subst (λ (b : Broken). length b.given ≤ longest_pattern) (sym is) short) may) is
    by (Mismatch pattern get short misses is) = Mismatch pattern get short misses is

pub first-as : (M N : Type 0) (keys : List (Name × Entry)) (violation : Violation)
    → (violation.rule ≡ 6 → length violation.given ≤ longest_pattern → M → N) → BeginWith M keys violation
    → BeginWith N keys violation
first-as M N keys violation so h = record {
  front = h.front;
  key = h.key;
  behind = h.behind;
  all = h.all;
  none = h.none;
  broken = h.broken;
  first = breaks_as M N h.key.1.value h.key.1.meta h.broken (subst (λ (v : Violation). v.rule ≡ 6 → length v.given ≤ longest_pattern → M → N) h.is so) h.first;
  is = h.is;
}

-- ---- the first of a list

first_breach : (M : Type 0) (value : List ℕ) (meta : Meta) (broken : Broken) (more : List Broken)
    → AreBreaches M value meta (broken ∷ more) → BreaksAtFirst M value meta broken
first_breach M value meta broken more h =
    by h.by_type h.by_range h.by_enum h.by_pattern h.of_type h.of_range h.of_enum h.of_pattern h.all
  where
    by : (t r e p : Option Broken) → Tells (BreaksType value meta) t → Tells (BreaksRange value meta) r
        → Tells (BreaksEnum value meta) e → TellsPattern M value meta p
        → broken ∷ more ≡ option_to_list t ++ (option_to_list r ++ (option_to_list e ++ option_to_list p))
        → BreaksAtFirst M value meta broken
    by (Some b) r e p of_t of_r of_e of_p all =
        ByType (subst (BreaksType value meta) (sym (head_is broken b _ _ all)) of_t)
    by None (Some b) e p of_t of_r of_e of_p all =
        ByRange of_t (subst (BreaksRange value meta) (sym (head_is broken b _ _ all)) of_r)
    by None None (Some b) p of_t of_r of_e of_p all =
        ByEnum of_t of_r (subst (BreaksEnum value meta) (sym (head_is broken b _ _ all)) of_e)
    by None None None (Some b) of_t of_r of_e of_p all =
        ByPattern of_t of_r of_e (subst (BreaksPattern (λ _. M) Misses value meta) (sym (head_is broken b _ _ all)) of_p)
    by None None None None of_t of_r of_e of_p all = absurd cc

first_of_key : (M : Type 0) (key : Name × Entry) (violation : Violation) (more : List Violation)
    → AreOfKey M key (violation ∷ more)
    → (broken : Broken) × BreaksAtFirst M key.1.value key.1.meta broken × (violation ≡ violation_at key.0 broken)
first_of_key M key violation more h = by h.breaches h.are h.all
  where
    by : (breaches : List Broken) → AreBreaches M key.1.value key.1.meta breaches
        → violation ∷ more ≡ map (violation_at key.0) breaches
        → (broken : Broken) × BreaksAtFirst M key.1.value key.1.meta broken × (violation ≡ violation_at key.0 broken)
    by [] are all = absurd cc
    by (broken ∷ breaches) are all =
        (broken, first_breach M key.1.value key.1.meta broken breaches are, head_is violation (violation_at key.0 broken) _ _ all)

-- keys whose list has a first violation begin with it, whatever keys come behind
pub begin-with : (M : Type 0) (keys others : List (Name × Entry)) (violation : Violation) (more : List Violation)
    → AreOfKeys M keys (violation ∷ more) → BeginWith M (keys ++ others) violation
begin-with M [] others violation more h = absurd cc
begin-with M (key ∷ keys) others violation more (own, rest, of_key, of_rest, all) =
    by own rest of_key of_rest all (begin-with M keys others violation more)
  where
    by : (own rest : List Violation) → AreOfKey M key own → AreOfKeys M keys rest → violation ∷ more ≡ own ++ rest
        → (AreOfKeys M keys (violation ∷ more) → BeginWith M (keys ++ others) violation)
        → BeginWith M (key ∷ (keys ++ others)) violation
    by [] rest of_key of_rest all again =
        let later = again (subst (AreOfKeys M keys) (sym all) of_rest) in
        record {
          front = key ∷ later.front;
          key = later.key;
          behind = later.behind;
          all = ap (λ ks. key ∷ ks) later.all;
          none = ([], [], no_violation key of_key, later.none, refl);
          broken = later.broken;
          first = later.first;
          is = later.is;
        }
    by (v ∷ own) rest of_key of_rest all again =
        let here = first_of_key M key v own of_key in
        record {
          front = [];
          key = key;
          behind = keys ++ others;
          all = refl;
          none = refl;
          broken = here.0;
          first = here.1;
          is = head_is violation v _ _ all ∙ here.2;
        }

-- where a key has a list, it has one that begins with what it breaks first
list_of_key : (M : Type 0) (key : Name × Entry) (own : List Violation) (broken : Broken)
    → BreaksAtFirst M key.1.value key.1.meta broken → AreOfKey M key own
    → (more : List Violation) × AreOfKey M key (violation_at key.0 broken ∷ more)
list_of_key M key own broken first h = by first
  where
    are : AreBreaches M key.1.value key.1.meta h.breaches
    are = h.are

    listed : (more : List Broken) → AreBreaches M key.1.value key.1.meta (broken ∷ more)
        → (more : List Violation) × AreOfKey M key (violation_at key.0 broken ∷ more)
    listed more all = (map (violation_at key.0) more, record { breaches = broken ∷ more; are = all; all = refl })

    by : BreaksAtFirst M key.1.value key.1.meta broken
        → (more : List Violation) × AreOfKey M key (violation_at key.0 broken ∷ more)
    by (ByType breaks) =
        listed _ (record { by_type = Some broken; by_range = are.by_range; by_enum = are.by_enum; by_pattern = are.by_pattern; of_type = breaks; of_range = are.of_range; of_enum = are.of_enum; of_pattern = are.of_pattern; all = refl })
    by (ByRange typed breaks) =
        listed _ (record { by_type = None; by_range = Some broken; by_enum = are.by_enum; by_pattern = are.by_pattern; of_type = typed; of_range = breaks; of_enum = are.of_enum; of_pattern = are.of_pattern; all = refl })
    by (ByEnum typed ranged breaks) =
        listed _ (record { by_type = None; by_range = None; by_enum = Some broken; by_pattern = are.by_pattern; of_type = typed; of_range = ranged; of_enum = breaks; of_pattern = are.of_pattern; all = refl })
    by (ByPattern typed ranged chosen breaks) =
        listed _ (record { by_type = None; by_range = None; by_enum = None; by_pattern = Some broken; of_type = typed; of_range = ranged; of_enum = chosen; of_pattern = breaks; all = refl })

pub begins-list : (M : Type 0) (keys : List (Name × Entry)) (violation : Violation) (first : BeginWith M keys violation)
    (others : List Violation) → AreOfKeys M (first.key ∷ first.behind) others
    → (more : List Violation) × AreOfKeys M keys (violation ∷ more)
begins-list M keys violation first others (own, rest, of_key, of_rest, all) =
    let here = list_of_key M first.key own first.broken first.first of_key in
    let listed : AreOfKeys M (first.key ∷ first.behind) (violation_at first.key.0 first.broken ∷ (here.0 ++ rest)) = (violation_at first.key.0 first.broken ∷ here.0, rest, here.1, of_rest, refl) in (
      here.0 ++ rest,
      subst (λ ks. AreOfKeys M ks (violation ∷ (here.0 ++ rest))) (sym first.all)
          (AreOfKeys-append M first.front (first.key ∷ first.behind) [] (violation ∷ (here.0 ++ rest)) (AreOfKeys-none ⊥ M first.front first.none)
          (subst (λ (v : Violation). AreOfKeys M (first.key ∷ first.behind) (v ∷ (here.0 ++ rest))) (sym first.is) listed)),
    )

-- ---- there is a list

-- it is absurd that a check has no answer
some_told : (Breaks : Broken → Type 0) → ((o : Option Broken) → Tells Breaks o → ⊥) → ⊥
some_told Breaks off = off None (λ broken breaks. off (Some broken) breaks)

-- each text that is no pattern may be refused
abbrev pub RefusesEach : (List ℕ → Type 0) → Type 0
RefusesEach MayRefuse = (pattern : List ℕ) → IsNoPattern pattern → MayRefuse pattern

module _ (MayRefuse : List ℕ → Type 0) (each : RefusesEach MayRefuse) where
  -- a short text is a pattern that matches, or one that doesn't, or none
  some_short : (value : List ℕ) (meta : Meta) (pattern : List ℕ)
      → finite.get meta (codes "check/validation") ≡ Some pattern → length pattern ≤ longest_pattern
      → ((o : Option Broken) → TellsPatternBy MayRefuse value meta o → ⊥) → ⊥
  some_short value meta pattern is short off =
      off (Some (breach 6 pattern)) (BadPattern pattern is short (each pattern (λ grammar. by grammar (matches_in pattern value) refl)) refl)
    where
      by : IsInGrammar pattern → (b : Bool) → matches_in pattern value ≡ b → ⊥
      by grammar true found =
          off None (λ other get. subst (λ p. (length p ≤ longest_pattern) × Matches p value) (found_once pattern other is get) (short, record { grammar = grammar; is = found }))
      by grammar false missing =
          off (Some (breach 7 value)) (Mismatch pattern is short (record { grammar = grammar; is = missing }) refl)

  some_pattern : (value : List ℕ) (meta : Meta) → ((o : Option Broken) → TellsPatternBy MayRefuse value meta o → ⊥) → ⊥
  some_pattern value meta off = by (finite.get meta (codes "check/validation")) refl
    where
      by : (o : Option (List ℕ)) → finite.get meta (codes "check/validation") ≡ o → ⊥
      by None none = off None (λ pattern get. absurd (let both : None ≡ Some pattern = sym none ∙ get in cc))
      by (Some pattern) is = elim (nat_le (length pattern) longest_pattern) as (λ b. nat_le (length pattern) longest_pattern ≡ b → ⊥) [
        | true ↦ λ short. some_short value meta pattern is (leb-true (length pattern) longest_pattern short) off
        | false ↦ λ long. off (Some (breach 6 pattern)) (LongPattern pattern is (leb-false (length pattern) longest_pattern long) refl)
      ] refl

  some_of_key : (key : Name × Entry) → ((violations : List Violation) → AreOfKeyBy MayRefuse key violations → ⊥) → ⊥
  some_of_key key off =
      some_told (BreaksType key.1.value key.1.meta) (λ t of_type.
      some_told (BreaksRange key.1.value key.1.meta) (λ r of_range.
      some_told (BreaksEnum key.1.value key.1.meta) (λ e of_enum.
      some_pattern key.1.value key.1.meta (λ p of_pattern.
      off (map (violation_at key.0) (option_to_list t ++ (option_to_list r ++ (option_to_list e ++ option_to_list p))))
      (record {
        breaches = option_to_list t ++ (option_to_list r ++ (option_to_list e ++ option_to_list p));
        are = record { by_type = t; by_range = r; by_enum = e; by_pattern = p; of_type = of_type; of_range = of_range; of_enum = of_enum; of_pattern = of_pattern; all = refl };
        all = refl;
      })))))

  pub some_by_keys : (keys : List (Name × Entry))
      → ((violations : List Violation) → AreOfKeysBy MayRefuse keys violations → ⊥) → ⊥
  some_by_keys [] off = off [] refl
  some_by_keys (key ∷ keys) off =
      some_of_key key (λ own of_key. some_by_keys keys (λ rest of_rest. off (own ++ rest) (own, rest, of_key, of_rest, refl)))

pub some_of_keys : (M : Type 0) → M → (keys : List (Name × Entry))
    → ((violations : List Violation) → AreOfKeys M keys violations → ⊥) → ⊥
some_of_keys M may keys = some_by_keys (λ _. M) (λ pattern off. may) keys

-- where a pattern may be refused it is absurd that some keys have neither a first violation nor none
pub first_or_none : (M : Type 0) → M → (keys : List (Name × Entry))
    → ((violation : Violation) → BeginWith M keys violation → ⊥) → (AreOfKeys M keys [] → ⊥) → ⊥
first_or_none M may keys some none = some_of_keys M may keys by
  where
    by : (violations : List Violation) → AreOfKeys M keys violations → ⊥
    by [] h = none h
    by (violation ∷ more) h =
        some violation (subst (λ ks. BeginWith M ks violation) (append-nil keys) (begin-with M keys [] violation more h))

-- ---- a text that is no pattern

-- it breaks rule 6, whatever else may be refused
pub no_pattern-breaks : (M : Type 0) (value : List ℕ) (meta : Meta) (pattern : List ℕ) (answer : Option Broken)
    → finite.get meta (codes "check/validation") ≡ Some pattern → length pattern ≤ longest_pattern → IsNoPattern pattern
    → TellsPattern M value meta answer → answer ≡ Some (breach 6 pattern)
no_pattern-breaks M value meta pattern None get short off keeps = absurd (off (keeps pattern get).1.grammar)
no_pattern-breaks M value meta pattern (Some broken) get short off (LongPattern other got long is) =
    absurd (let small : length other ≤ longest_pattern = subst (λ p. length p ≤ longest_pattern) (found_once pattern other get got) short in omega (arith, long, small))
no_pattern-breaks M value meta pattern (Some broken) get short off (BadPattern other got small may is) =
    ap Some (is ∙ ap (breach 6) (found_once other pattern got get))
no_pattern-breaks M value meta pattern (Some broken) get short off (Mismatch other got small misses is) =
    absurd (off (subst (λ p. Misses p value) (found_once other pattern got get) misses).grammar)
