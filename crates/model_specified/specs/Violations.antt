-- Which rules the keys of a set break, as its specifications have them. (After Elektra's plugins `type`, `range` and
-- `validation`.)
use Rattle.std.specs.Prelude.{◌≡◌, ◌⊎◌, ℕ, nat_eq, Bool, false, ◌&&◌, ◌||◌, List, [], ◌∷◌, ◌++◌, map, Option, None, MatchOption}
use Rattle.std.specs.FinMap as finite
use Rattle.std.specs.List.{filter, list_any}
use Rattle.std.specs.Option.{option_map_or, option_to_list}
use Rattle.key_name.specs.Owner.{owner_of}
use Rattle.model_names.specs.declared.namespaces.Namespace.TheVariants.{Cascading}
use Rattle.model_names.specs.Below.{is_at_or_below}
use Rattle.model_names.specs.Name.{Name}
use Rattle.model_maps.specs.Entry.{Meta, Entry}
use Rattle.model_maps.specs.KeyMap.{KeyMap}
use Rattle.model_rules.specs.Rules.{BreaksType, BreaksRange, BreaksEnum, BreaksPattern, KeepsPattern, Tells}
use Rattle.model_rules.specs.declared.breaches.Broken.{Broken}
use Rattle.regex_check.specs.Grammar.{IsInGrammar, Matches, Misses}
use Rattle.model_specified.specs.Specified.{is_specified, specified}
use Rattle.model_specified.specs.declared.violations.Violation.{Violation}

-- the answer of the check of patterns, by which patterns may be refused
abbrev pub TellsPatternBy : (List ℕ → Type 0) → List ℕ → Meta → Option Broken → Type 0
TellsPatternBy MayRefuse value meta answer =
    MatchOption answer (KeepsPattern Matches value meta) (BreaksPattern MayRefuse Misses value meta)

-- what a value breaks under its metadata: the four checks in their order, each of which has one breach at most
pub record AreBreachesBy (MayRefuse : List ℕ → Type 0) (value : List ℕ) (meta : Meta) (breaches : List Broken) : Type 0 where
  pub by_type : Option Broken
  pub by_range : Option Broken
  pub by_enum : Option Broken
  pub by_pattern : Option Broken
  pub of_type : Tells (BreaksType value meta) by_type
  pub of_range : Tells (BreaksRange value meta) by_range
  pub of_enum : Tells (BreaksEnum value meta) by_enum
  pub of_pattern : TellsPatternBy MayRefuse value meta by_pattern
  pub all : breaches
      ≡ option_to_list by_type ++ (option_to_list by_range ++ (option_to_list by_enum ++ option_to_list by_pattern))

-- a breach at a key
abbrev pub violation_at : Name → Broken → Violation
violation_at name broken = record { key = name; rule = broken.rule; given = broken.given }

-- the violations of a key, by rule
pub record AreOfKeyBy (MayRefuse : List ℕ → Type 0) (key : Name × Entry) (violations : List Violation) : Type 0 where
  pub breaches : List Broken
  pub are : AreBreachesBy MayRefuse key.1.value key.1.meta breaches
  pub all : violations ≡ map (violation_at key.0) breaches

-- the violations of some keys, one key after the other
abbrev pub AreOfKeysBy : (List ℕ → Type 0) → List (Name × Entry) → List Violation → Type 0
AreOfKeysBy MayRefuse [] violations = violations ≡ []
AreOfKeysBy MayRefuse (key ∷ keys) violations =
    (own : List Violation) × (others : List Violation) × AreOfKeyBy MayRefuse key own × AreOfKeysBy MayRefuse keys others × (violations ≡ own ++ others)

-- the calls of a matcher refuse patterns only where its count of refusals rose, those outside the grammar too: so it is
-- said of all patterns alike
abbrev pub TellsPattern : Type 0 → List ℕ → Meta → Option Broken → Type 0
TellsPattern HasRisen value meta answer = TellsPatternBy (λ _. HasRisen) value meta answer

abbrev pub AreBreaches : Type 0 → List ℕ → Meta → List Broken → Type 0
AreBreaches HasRisen value meta breaches = AreBreachesBy (λ _. HasRisen) value meta breaches

abbrev pub AreOfKey : Type 0 → Name × Entry → List Violation → Type 0
AreOfKey HasRisen key violations = AreOfKeyBy (λ _. HasRisen) key violations

abbrev pub AreOfKeys : Type 0 → List (Name × Entry) → List Violation → Type 0
AreOfKeys HasRisen keys violations = AreOfKeysBy (λ _. HasRisen) keys violations

-- a name is checked: it is chosen, and neither in `spec:` nor cascading
abbrev pub is_checked : (Name → Bool) → Name → Bool
is_checked is_chosen name = is_specified name.namespace && is_chosen name

-- those keys of the specified set that are checked, in key order
abbrev pub checked_keys : (Name → Bool) → KeyMap → List (Name × Entry)
checked_keys is_chosen keys = filter (λ key. is_checked is_chosen key.0) (finite.entries (specified keys))

-- the violations of the chosen keys of a set, in key order and for each key by rule, by which patterns may be refused
abbrev pub AreViolationsBy : (List ℕ → Type 0) → (Name → Bool) → KeyMap → List Violation → Type 0
AreViolationsBy MayRefuse is_chosen keys violations = AreOfKeysBy MayRefuse (checked_keys is_chosen keys) violations

-- those that a call tells. Which lists are allowed is a function of the set, but for patterns that the matcher refused
abbrev pub AreViolations : Type 0 → (Name → Bool) → KeyMap → List Violation → Type 0
AreViolations HasRisen is_chosen keys violations = AreOfKeys HasRisen (checked_keys is_chosen keys) violations

-- a text is no pattern
abbrev pub IsNoPattern : List ℕ → Type 0
IsNoPattern pattern = IsInGrammar pattern → ⊥

-- a text breaks the rule on patterns freely where it is no pattern, and a pattern only where the matcher's count of
-- refusals rose
abbrev pub MayBeRefused : Type 0 → List ℕ → Type 0
MayBeRefused HasRisen pattern = HasRisen ⊎ IsNoPattern pattern

-- what a value breaks first under its metadata: no check before has a breach, and those behind aren't asked
pub data BreaksAtFirst (HasRisen : Type 0) (value : List ℕ) (meta : Meta) (broken : Broken) : Type 0 where
  ByType : BreaksType value meta broken → BreaksAtFirst HasRisen value meta broken
  ByRange : Tells (BreaksType value meta) None → BreaksRange value meta broken
      → BreaksAtFirst HasRisen value meta broken
  ByEnum : Tells (BreaksType value meta) None → Tells (BreaksRange value meta) None → BreaksEnum value meta broken
      → BreaksAtFirst HasRisen value meta broken
  ByPattern : Tells (BreaksType value meta) None → Tells (BreaksRange value meta) None
      → Tells (BreaksEnum value meta) None → BreaksPattern (λ _. HasRisen) Misses value meta broken
      → BreaksAtFirst HasRisen value meta broken

-- some keys have a first violation: those in front of its key have none, and the key breaks this rule first. No pattern
-- that comes behind it has a part in it
pub record BeginWith (HasRisen : Type 0) (keys : List (Name × Entry)) (violation : Violation) : Type 0 where
  pub front : List (Name × Entry)
  pub key : Name × Entry
  pub behind : List (Name × Entry)
  pub all : keys ≡ front ++ key ∷ behind
  pub none : AreOfKeys ⊥ front []
  pub broken : Broken
  pub first : BreaksAtFirst HasRisen key.1.value key.1.meta broken
  pub is : violation ≡ violation_at key.0 broken

-- the first violation of the chosen keys of a set, or none where they have none
abbrev pub IsFirstViolation : Type 0 → (Name → Bool) → KeyMap → Option Violation → Type 0
IsFirstViolation HasRisen is_chosen keys answer =
    MatchOption answer (AreViolations HasRisen is_chosen keys []) (BeginWith HasRisen (checked_keys is_chosen keys))

-- a name is another one or below it; a cascading one stands for its path in every namespace
abbrev pub is_within : Name → Name → Bool
is_within at name = is_at_or_below at name || is_at_or_below at (record { namespace = Cascading; parts = name.parts })

-- a name is owned by one of some mounts
abbrev pub is_owned : List Name → List ℕ → Name → Bool
is_owned points mounts name = option_map_or (λ owner. list_any (nat_eq owner) mounts) (owner_of points name) false
