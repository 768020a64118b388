-- The violations so far, in the midst of a walk over the keys of a set.
use Rattle.std.proofs.Common.{◌≡◌, ℕ, Bool, true, false, cond, List, [], ◌∷◌, ◌++◌, length, map, Option, Some, refl, sym, ap, ap₂, subst, ◌∙◌, append-nil, append_assoc}
use Rattle.std.specs.Prelude.{slice_get, Result, IfOk, if◌then◌else◌}
use Rattle.std.specs.FinMap as finite
use Rattle.std.specs.List.{filter}
use Rattle.std.specs.Option.{option_to_list}
use Rattle.std.proofs.lemmas.List.{map-append}
use Rattle.general_words.proofs.Lists.{appended_four}
use Rattle.model_names.specs.Name.{Name}
use Rattle.model_maps.specs.Entry.{Entry, Meta}
use Rattle.model_maps.specs.KeyMap.{KeyMap}
use Rattle.model_rules.specs.Rules.{BreaksType, BreaksRange, BreaksEnum, Tells}
use Rattle.model_rules.specs.declared.breaches.Broken.{Broken}
use Rattle.model_specified.specs.SpecMeta.{laid_over, said_of, spec_keys}
use Rattle.model_specified.specs.Specified.{is_specified, specified_key, specified_value, with_defaults}
use Rattle.model_specified.specs.Violations.{AreOfKeys, AreViolations, BeginWith, IsFirstViolation, TellsPattern, checked_keys, is_checked, violation_at}
use Rattle.model_specified.specs.declared.violations.Violation.{Violation}
use Rattle.model_specified.proofs.LaidOver.{laid_over-alone, laid_over-empty}
use Rattle.model_specified.proofs.Refusals.{begin-with}
use Rattle.model_specified.proofs.SpecifiedLemmas.{entries-specified}
use Rattle.model_specified.proofs.ViolationLemmas.{AreOfKey-still, AreOfKeys-append, AreOfKeys-one, AreOfKeys-still}
use Rattle.plugin_chain.specs.Steps.{Adds, AddsIf, IsFirstOf, checked}
use Rattle.plugin_chain.proofs.LayerLemmas.{bare_more}
use Rattle.plugin_chain.proofs.SetLemmas.{value_under_said}

-- what is added to a list that is as another was added to that one
pub added_to : {A : Type 0} (now room after more : List A) → after ≡ room ++ more → room ≡ now → after ≡ now ++ more
added_to now room after more added same = added ∙ ap (λ items. items ++ more) same

-- ---- the four checks of a value

module _ (name : Name) where
  abbrev at : Option Broken → List Violation
  at broken = map (violation_at name) (option_to_list broken)

  all_four : (a b c d : Option Broken)
      → map (violation_at name) (option_to_list a ++ (option_to_list b ++ (option_to_list c ++ option_to_list d)))
      ≡ at a ++ (at b ++ (at c ++ at d))
  all_four a b c d =
      map-append (violation_at name) (option_to_list a) (option_to_list b ++ (option_to_list c ++ option_to_list d))
      ∙ ap (λ vs. at a ++ vs) (map-append (violation_at name) (option_to_list b) (option_to_list c ++ option_to_list d)
      ∙ ap (λ vs. at b ++ vs) (map-append (violation_at name) (option_to_list c) (option_to_list d)))

  pub four_checks : (M : Type 0) (value : List ℕ) (meta : Meta) (l0 l1 l2 l3 l4 : List Violation)
      (a b c d : Option Broken)
      → Tells (BreaksType value meta) a → Tells (BreaksRange value meta) b → Tells (BreaksEnum value meta) c
      → TellsPattern M value meta d
      → l1 ≡ l0 ++ at a → l2 ≡ l1 ++ at b → l3 ≡ l2 ++ at c → l4 ≡ l3 ++ at d
      → Adds M (name, record { value = value; meta = meta }) l0 l4
  four_checks M value meta l0 l1 l2 l3 l4 a b c d ta tb tc td e1 e2 e3 e4 = record {
    own = at a ++ (at b ++ (at c ++ at d));
    are = record {
      breaches = option_to_list a ++ (option_to_list b ++ (option_to_list c ++ option_to_list d));
      are = record { by_type = a; by_range = b; by_enum = c; by_pattern = d; of_type = ta; of_range = tb; of_enum = tc; of_pattern = td; all = refl };
      all = sym (all_four a b c d);
    };
    all = appended_four l0 l1 l2 l3 l4 (at a) (at b) (at c) (at d) e1 e2 e3 e4;
  }

-- ---- a walk

one_before : (b : Bool) (key : Name × Entry) (all keys others : List (Name × Entry)) → all ≡ keys ++ others
    → cond b (key ∷ all) all ≡ cond b (key ∷ keys) keys ++ others
one_before true key all keys others e = ap (λ ks. key ∷ ks) e
one_before false key all keys others e = e

checked-append : (specs : KeyMap) (is_chosen : Name → Bool) (keys others : List (Name × Entry))
    → checked specs is_chosen (keys ++ others) ≡ checked specs is_chosen keys ++ checked specs is_chosen others
checked-append specs is_chosen [] others = refl
checked-append specs is_chosen (key ∷ keys) others =
    one_before (is_checked is_chosen key.0) (specified_key specs key) (checked specs is_chosen (keys ++ others)) (checked specs is_chosen keys) (checked specs is_chosen others) (checked-append specs is_chosen keys others)

-- the keys that the walk has passed, and their violations
pub record Reached (M : Type 0) (specs : KeyMap) (is_chosen : Name → Bool) (all rest : List (Name × Entry)) (violations : List Violation) : Type 0 where
  pub front : List (Name × Entry)
  pub is : all ≡ front ++ rest
  pub are : AreOfKeys M (checked specs is_chosen front) violations

pub reached_first : (M : Type 0) (specs : KeyMap) (is_chosen : Name → Bool) (all : List (Name × Entry))
    → Reached M specs is_chosen all all []
reached_first M specs is_chosen all = record { front = []; is = refl; are = refl }

-- what one key adds to those of the keys before it
added : (M N : Type 0) (specs : KeyMap) (is_chosen : Name → Bool) (key : Name × Entry) (b : Bool)
    (before after : List Violation) → is_checked is_chosen key.0 ≡ b → (M → N)
    → AddsIf b M (specified_key specs key) before after
    → (own : List Violation) × AreOfKeys N (checked specs is_chosen (key ∷ [])) own × (after ≡ before ++ own)
added M N specs is_chosen key true before after is more h =
    (h.own, subst (λ t. AreOfKeys N (cond t (specified_key specs key ∷ []) []) h.own) (sym is) (AreOfKeys-one N (specified_key specs key) h.own (AreOfKey-still (specified_key specs key) h.own more h.are)), h.all)
added M N specs is_chosen key false before after is more h =
    ([], subst (λ t. AreOfKeys N (cond t (specified_key specs key ∷ []) []) []) (sym is) refl, h ∙ sym (append-nil before))

pub reached_next : (M L N : Type 0) (specs : KeyMap) (is_chosen : Name → Bool) (all keys rest : List (Name × Entry))
    (key : Name × Entry) (b : Bool) (before after : List Violation) → keys ≡ key ∷ rest → b ≡ is_checked is_chosen key.0
    → (M → N) → (L → N) → AddsIf b L (specified_key specs key) before after → Reached M specs is_chosen all keys before
    → Reached N specs is_chosen all rest after
reached_next M L N specs is_chosen all keys rest key b before after are is earlier here adds so_far =
    let step = added L N specs is_chosen key b before after (sym is) here adds in
    record {
      front = so_far.front ++ key ∷ [];
      is = so_far.is ∙ ap (λ ks. so_far.front ++ ks) are ∙ sym (append_assoc so_far.front (key ∷ []) rest);
      are = subst (λ vs. AreOfKeys N (checked specs is_chosen (so_far.front ++ key ∷ [])) vs) (sym step.2)
          (subst (λ ks. AreOfKeys N ks (before ++ step.0)) (sym (checked-append specs is_chosen so_far.front (key ∷ [])))
          (AreOfKeys-append N (checked specs is_chosen so_far.front) (checked specs is_chosen (key ∷ [])) before step.0 (AreOfKeys-still M N (checked specs is_chosen so_far.front) before earlier so_far.are) step.1));
    }

-- the same where the key's violations alone are listed
pub reached_next_from : (M L N : Type 0) (specs : KeyMap) (is_chosen : Name → Bool)
    (all keys rest : List (Name × Entry)) (key : Name × Entry) (b : Bool) (before after : List Violation) → before ≡ []
    → keys ≡ key ∷ rest → b ≡ is_checked is_chosen key.0
    → (M → N) → (L → N) → AddsIf b L (specified_key specs key) before after → Reached M specs is_chosen all keys []
    → Reached N specs is_chosen all rest after
reached_next_from M L N specs is_chosen all keys rest key b before after none are is earlier here adds so_far =
    reached_next M L N specs is_chosen all keys rest key b [] after are is earlier here (subst (λ vs. AddsIf b L (specified_key specs key) vs after) none adds) so_far

-- no key is left
pub reached_last : (M : Type 0) (specs : KeyMap) (is_chosen : Name → Bool) (all rest : List (Name × Entry))
    (violations : List Violation) → rest ≡ []
    → Reached M specs is_chosen all rest violations → AreOfKeys M (checked specs is_chosen all) violations
reached_last M specs is_chosen all rest violations none h =
    let whole : all ≡ h.front = h.is ∙ ap (λ ks. h.front ++ ks) none ∙ append-nil h.front in
    subst (λ ks. AreOfKeys M ks violations) (ap (checked specs is_chosen) (sym whole)) h.are

begun : (violations : List Violation) (violation : Violation) → Some violation ≡ slice_get violations 0
    → (more : List Violation) × (violations ≡ violation ∷ more)
begun [] violation is = absurd cc
begun (v ∷ more) violation is = (more, ap (λ w. w ∷ more) (let same : v ≡ violation = cc in same))

-- a violation is there
pub reached_found : (M : Type 0) (specs : KeyMap) (is_chosen : Name → Bool) (all rest : List (Name × Entry))
    (violations : List Violation) (violation : Violation) → Some violation ≡ slice_get violations 0
    → Reached M specs is_chosen all rest violations → BeginWith M (checked specs is_chosen all) violation
reached_found M specs is_chosen all rest violations violation is h =
    let there = begun violations violation is in
    subst (λ ks. BeginWith M ks violation) (sym (ap (checked specs is_chosen) h.is ∙ checked-append specs is_chosen h.front rest))
    (begin-with M (checked specs is_chosen h.front) (checked specs is_chosen rest) violation there.0 (subst (AreOfKeys M (checked specs is_chosen h.front)) there.1 h.are))

-- ---- the checked keys of a set

pub checked_are : (keys specs made : KeyMap) (is_chosen : Name → Bool) → specs ≡ spec_keys keys
    → made ≡ with_defaults specs keys → checked specs is_chosen (finite.entries made) ≡ checked_keys is_chosen keys
checked_are keys specs made is_chosen is_specs is_made =
    ap₂ (λ ss ms. checked ss is_chosen (finite.entries ms)) is_specs (is_made ∙ ap (λ ss. with_defaults ss keys) is_specs)
    ∙ sym (ap (filter (λ (key : Name × Entry). is_checked is_chosen key.0)) (entries-specified keys))

pub all_are : (M : Type 0) (keys specs made : KeyMap) (is_chosen : Name → Bool) (violations : List Violation)
    → specs ≡ spec_keys keys → made ≡ with_defaults specs keys
    → AreOfKeys M (checked specs is_chosen (finite.entries made)) violations → AreViolations M is_chosen keys violations
all_are M keys specs made is_chosen violations is_specs is_made h =
    subst (λ ks. AreOfKeys M ks violations) (checked_are keys specs made is_chosen is_specs is_made) h

pub first_is : {E : Type 0} (M : Type 0) (keys specs made : KeyMap) (is_chosen : Name → Bool)
    (r : Result (Option Violation) E) → specs ≡ spec_keys keys → made ≡ with_defaults specs keys
    → IfOk r (IsFirstOf M (checked specs is_chosen (finite.entries made))) → IfOk r (IsFirstViolation M is_chosen keys)
first_is M keys specs made is_chosen r is_specs is_made h =
    subst (λ ks. IfOk r (IsFirstOf M ks)) (checked_are keys specs made is_chosen is_specs is_made) h

-- ---- a key as the specifications have it

-- by the metadata that it comes to
pub key_under : (specs : KeyMap) (name : Name) (entry : Entry) (said meta : Meta) (value : List ℕ)
    → said ≡ (if is_specified name.namespace then said_of specs name.parts else finite.empty)
    → meta ≡ laid_over (said ∷ entry.meta ∷ []) → value ≡ entry.value
    → (name, record { value = specified_value meta value; meta = meta }) ≡ specified_key specs (name, entry)
key_under specs name entry said meta value is made same =
    ap (λ e. (name, e)) (value_under_said specs name entry said meta (specified_value meta value) is made (ap (specified_value meta) same))

-- where nothing is said
pub key_alone : (specs : KeyMap) (name : Name) (entry : Entry) (said : Meta) (value : List ℕ)
    → said ≡ (if is_specified name.namespace then said_of specs name.parts else finite.empty) → said ≡ finite.empty
    → value ≡ entry.value
    → (name, record { value = specified_value entry.meta value; meta = entry.meta }) ≡ specified_key specs (name, entry)
key_alone specs name entry said value is nothing same =
    key_under specs name entry said entry.meta value is (sym (ap (λ m. laid_over (m ∷ entry.meta ∷ [])) nothing ∙ laid_over-empty (entry.meta ∷ []) ∙ laid_over-alone entry.meta)) same

-- where it has no metadata of its own
pub key_said : (specs : KeyMap) (name : Name) (entry : Entry) (said meta : Meta) (value : List ℕ)
    → said ≡ (if is_specified name.namespace then said_of specs name.parts else finite.empty) → meta ≡ said
    → length (finite.entries entry.meta) ≡ 0 → value ≡ entry.value
    → (name, record { value = specified_value meta value; meta = meta }) ≡ specified_key specs (name, entry)
key_said specs name entry said meta value is same bare own =
    key_under specs name entry said meta value is (same ∙ bare_more said entry.meta bare) own
