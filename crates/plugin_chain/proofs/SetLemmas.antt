-- The defaults and the specified entries of a set, key by key.
use Rattle.std.proofs.Common.{◌≡◌, ℕ, Bool, true, false, cond, T, List, [], ◌∷◌, Option, Some, None, refl, sym, ap, ap₂, subst, ◌∙◌, inl, inr}
use Rattle.std.specs.Prelude.{if◌then◌else◌, codes, Result, Ok, Err, IfOk}
use Rattle.std.specs.Bool.{Decides, one_answer}
use Rattle.std.specs.FinMap as finite
use Rattle.std.specs.FinMap.{find, is_sorted}
use Rattle.std.specs.Option.{option_map, option_map_or, option_or, option_to_list, unwrap_or}
use Rattle.std.specs.Ordering.{eq_by_cmp}
use Rattle.general_words.proofs.Entries.{find-below}
use Rattle.general_words.proofs.Lookups.{tied_or_not}
use Rattle.general_words.proofs.Orders.{itself}
use Rattle.general_words.proofs.Tests.{first, second}
use Rattle.model_names.specs.Glob.{HasGlob}
use Rattle.model_names.specs.Name.{Name, Part}
use Rattle.model_names.specs.Order.{name_cmp}
use Rattle.model_names.proofs.OrderLemmas.{name_cmp_total, name_cmp-IsAntisymmetric}
use Rattle.model_maps.specs.Entry.{Entry, Meta, plain_entry}
use Rattle.model_maps.specs.KeyMap.{KeyMap}
use Rattle.key_set.specs.WithAll.{with_keys}
use Rattle.model_specified.specs.Globs.{has_glob}
use Rattle.model_specified.specs.SpecMeta.{laid_over, said_of, spec_keys}
use Rattle.model_specified.specs.Specified.{bit_under, default_name, default_of, is_specified, specified, specified_entry, specified_meta, specified_value, with_defaults}
use Rattle.model_specified.proofs.GlobTests.{has_glob-Decides}
use Rattle.model_specified.proofs.LaidOver.{laid_over-alone, laid_over-empty}
use Rattle.model_specified.proofs.SpecifiedLemmas.{changed, find-changed, get-specified}

-- ---- defaults

abbrev made_when : Bool → Option (List ℕ) → List Part → KeyMap → KeyMap
made_when glob text path keys =
    with_keys (if glob then [] else option_to_list (option_map (λ t. (default_name path, plain_entry t)) text)) keys

glob_told : (path : List Part) (glob b : Bool) → Decides glob (HasGlob path) → glob ≡ b → has_glob path ≡ b
glob_told path glob b decides is = one_answer (has_glob path) glob (has_glob-Decides path) decides ∙ is

-- a name with a glob makes none
pub no_default : (spec : Name × Entry) (keys : KeyMap) (glob : Bool) → Decides glob (HasGlob spec.0.parts) → glob ≡ true
    → keys ≡ with_keys (default_of spec) keys
no_default spec keys glob decides is =
    ap (λ b. made_when b (finite.get spec.1.meta (codes "default")) spec.0.parts keys) (sym (glob_told spec.0.parts glob true decides is))

-- a key with the metadata makes one
pub one_default : (spec : Name × Entry) (keys : KeyMap) (glob : Bool) (text : List ℕ)
    → Decides glob (HasGlob spec.0.parts) → glob ≡ false → finite.get spec.1.meta (codes "default") ≡ Some text
    → finite.insert keys (default_name spec.0.parts) (plain_entry text) ≡ with_keys (default_of spec) keys
one_default spec keys glob text decides is got =
    ap (λ o. made_when false o spec.0.parts keys) (sym got)
    ∙ ap (λ b. made_when b (finite.get spec.1.meta (codes "default")) spec.0.parts keys) (sym (glob_told spec.0.parts glob false decides is))

-- ---- the entry of a key

-- what is said of a key is laid over its own metadata, also where nothing is said
pub meta_is : (specs : KeyMap) (name : Name) (own said : Meta)
    → said ≡ (if is_specified name.namespace then said_of specs name.parts else finite.empty)
    → laid_over (said ∷ own ∷ []) ≡ specified_meta specs name own
meta_is specs name own said is = ap (λ m. laid_over (m ∷ own ∷ [])) is ∙ by (is_specified name.namespace)
  where
    by : (b : Bool)
        → laid_over ((if b then said_of specs name.parts else finite.empty) ∷ own ∷ [])
        ≡ (if b then laid_over (said_of specs name.parts ∷ own ∷ []) else own)
    by true = refl
    by false = laid_over-empty (own ∷ []) ∙ laid_over-alone own

abbrev entry_with : Meta → List ℕ → Entry
entry_with meta value = record { value = value; meta = meta }

value_or : (own : Meta) (value : List ℕ) (o : Option (List ℕ))
    → unwrap_or (option_map (entry_with own) o) (entry_with own value) ≡ entry_with own (unwrap_or o value)
value_or own value None = refl
value_or own value (Some bit) = refl

-- where nothing is said, only the value may change
pub value_alone : (specs : KeyMap) (name : Name) (entry : Entry) (said : Meta) (o : Option Entry)
    → said ≡ (if is_specified name.namespace then said_of specs name.parts else finite.empty) → said ≡ finite.empty
    → o ≡ option_map (entry_with entry.meta) (bit_under entry.meta entry.value)
    → unwrap_or o entry ≡ specified_entry specs name entry
value_alone specs name entry said o is nothing changed =
    let own : entry.meta ≡ specified_meta specs name entry.meta = sym (ap (λ m. laid_over (m ∷ entry.meta ∷ [])) nothing ∙ laid_over-empty (entry.meta ∷ []) ∙ laid_over-alone entry.meta) ∙ meta_is specs name entry.meta said is in
    ap (λ p. unwrap_or p entry) changed
    ∙ value_or entry.meta entry.value (bit_under entry.meta entry.value)
    ∙ ap (λ (meta : Meta). entry_with meta (specified_value meta entry.value)) own

-- the same of a call that may fail
pub value_alone_ok : {E : Type 0} {X : Type 0} (view : X → Entry) (specs : KeyMap) (name : Name) (entry : Entry)
    (said : Meta) (r : Result (Option X) E)
    → said ≡ (if is_specified name.namespace then said_of specs name.parts else finite.empty)
    → said ≡ finite.empty
    → IfOk r (λ o. option_map view o ≡ option_map (entry_with entry.meta) (bit_under entry.meta entry.value))
    → IfOk r (λ o. unwrap_or (option_map view o) entry ≡ specified_entry specs name entry)
value_alone_ok view specs name entry said (Ok o) is nothing changed =
    value_alone specs name entry said (option_map view o) is nothing changed
value_alone_ok view specs name entry said (Err e) is nothing changed = changed

-- where something is said, the value goes by what is said over its own metadata
pub value_under_said : (specs : KeyMap) (name : Name) (entry : Entry) (said meta : Meta) (value : List ℕ)
    → said ≡ (if is_specified name.namespace then said_of specs name.parts else finite.empty)
    → meta ≡ laid_over (said ∷ entry.meta ∷ []) → value ≡ specified_value meta entry.value
    → entry_with meta value ≡ specified_entry specs name entry
value_under_said specs name entry said meta value is laid by_meta =
    ap (entry_with meta) by_meta
    ∙ ap (λ (m : Meta). entry_with m (specified_value m entry.value)) (laid ∙ meta_is specs name entry.meta said is)

-- ---- the specified set

-- what stands of it in the midst of a walk over all keys
pub record StandsSo (f : Name → Entry → Entry) (rest : List (Name × Entry)) (set all : KeyMap) : Type 0 where
  pub sorted : T (is_sorted name_cmp rest)
  pub to_come : (q : Name) (entry : Entry) → find name_cmp q rest ≡ Some entry → finite.get set q ≡ Some entry
  pub each : (q : Name)
      → option_or (find name_cmp q (changed name_cmp f rest)) (finite.get set q) ≡ option_map (f q) (finite.get all q)

mapped : {A : Type 0} (g : A → A) (o : Option A) → option_or (option_map g o) o ≡ option_map g o
mapped g None = refl
mapped g (Some x) = refl

pub stands_first : (f : Name → Entry → Entry) (all : KeyMap) → StandsSo f (finite.entries all) all all
stands_first f all = record {
  sorted = finite.entries_sorted all;
  to_come = λ q entry found. finite.get-entries all q ∙ found;
  each = λ q.
      ap (λ o. option_or o (finite.get all q)) (find-changed name_cmp f name_cmp-IsAntisymmetric q (finite.entries all) ∙ ap (option_map (f q)) (sym (finite.get-entries all q)))
      ∙ mapped (f q) (finite.get all q);
}

-- what the set has at a name once one more key is set
set_at : (set : KeyMap) (name : Name) (o : Option Entry) (q : Name) → eq_by_cmp name_cmp q name ≡ false
    → finite.get (option_map_or (λ entry. finite.insert set name entry) o set) q ≡ finite.get set q
set_at set name None q apart = refl
set_at set name (Some entry) q apart =
    finite.get-insert name_cmp_total set name entry q ∙ ap (λ b. cond b (Some entry) (finite.get set q)) apart

set_there : (set : KeyMap) (name : Name) (own new : Entry) (o : Option Entry) → finite.get set name ≡ Some own
    → unwrap_or o own ≡ new → finite.get (option_map_or (λ entry. finite.insert set name entry) o set) name ≡ Some new
set_there set name own new None got is = got ∙ ap Some is
set_there set name own new (Some entry) got is =
    finite.get-insert name_cmp_total set name entry name
    ∙ ap (λ b. cond b (Some entry) (finite.get set name)) (itself name_cmp_total name) ∙ ap Some is

module _ (f : Name → Entry → Entry) (key : Name × Entry) (rest : List (Name × Entry)) (set all : KeyMap) (o : Option Entry) (now : StandsSo f (key ∷ rest) set all) (is : unwrap_or o key.1 ≡ f key.0 key.1) where
  abbrev after : KeyMap
  after = option_map_or (λ entry. finite.insert set key.0 entry) o set

  gone : find name_cmp key.0 rest ≡ None
  gone = find-below name_cmp key.0 rest (first _ _ now.sorted)

  own_there : finite.get set key.0 ≡ Some key.1
  own_there =
      now.to_come key.0 key.1 (ap (λ b. cond b (Some key.1) (find name_cmp key.0 rest)) (itself name_cmp_total key.0))

  each_here : option_or (find name_cmp key.0 (changed name_cmp f rest)) (finite.get after key.0)
      ≡ option_map (f key.0) (finite.get all key.0)
  each_here =
      ap (λ p. option_or p (finite.get after key.0)) (find-changed name_cmp f name_cmp-IsAntisymmetric key.0 rest ∙ ap (option_map (f key.0)) gone)
      ∙ set_there set key.0 key.1 (f key.0 key.1) o own_there is
      ∙ sym (ap (λ b. option_or (cond b (Some (f key.0 key.1)) (find name_cmp key.0 (changed name_cmp f rest))) (finite.get set key.0)) (itself name_cmp_total key.0))
      ∙ now.each key.0

  each_next : (q : Name)
      → option_or (find name_cmp q (changed name_cmp f rest)) (finite.get after q) ≡ option_map (f q) (finite.get all q)
  each_next q = elim (tied_or_not name_cmp-IsAntisymmetric q key.0) as (λ _. option_or (find name_cmp q (changed name_cmp f rest)) (finite.get after q) ≡ option_map (f q) (finite.get all q)) [
    | inl apart ↦
        ap (option_or (find name_cmp q (changed name_cmp f rest))) (set_at set key.0 o q apart)
        ∙ ap (λ b. option_or (cond b (Some (f key.0 key.1)) (find name_cmp q (changed name_cmp f rest))) (finite.get set q)) (sym apart)
        ∙ now.each q
    | inr same ↦ subst (λ n. option_or (find name_cmp n (changed name_cmp f rest)) (finite.get after n) ≡ option_map (f n) (finite.get all n)) (sym same.1) each_here
  ]

  come_next : (q : Name) (entry : Entry) → find name_cmp q rest ≡ Some entry → finite.get after q ≡ Some entry
  come_next q entry found = elim (tied_or_not name_cmp-IsAntisymmetric q key.0) as (λ _. finite.get after q ≡ Some entry) [
    | inl apart ↦ set_at set key.0 o q apart ∙ now.to_come q entry (ap (λ b. cond b (Some key.1) (find name_cmp q rest)) apart ∙ found)
    | inr same ↦ let none : find name_cmp q rest ≡ None = ap (λ n. find name_cmp n rest) same.1 ∙ gone in absurd cc
  ]

  pub stands_next : StandsSo f rest after all
  stands_next = record { sorted = second _ _ now.sorted; to_come = come_next; each = each_next }

-- one more key of a walk
pub stands_more : (f : Name → Entry → Entry) (keys rest : List (Name × Entry)) (key : Name × Entry)
    (set all new : KeyMap) (o : Option Entry) → keys ≡ key ∷ rest → unwrap_or o key.1 ≡ f key.0 key.1
    → new ≡ option_map_or (λ entry. finite.insert set key.0 entry) o set → StandsSo f keys set all
    → StandsSo f rest new all
stands_more f keys rest key set all new o are is made now =
    subst (λ m. StandsSo f rest m all) (sym made) (stands_next f key rest set all o (subst (λ ks. StandsSo f ks set all) are now) is)

-- no key is left
pub stands_last : (f : Name → Entry → Entry) (rest : List (Name × Entry)) (set all : KeyMap) → rest ≡ []
    → StandsSo f rest set all → (q : Name) → finite.get set q ≡ option_map (f q) (finite.get all q)
stands_last f rest set all none now =
    λ q. ap (λ es. option_or (find name_cmp q (changed name_cmp f es)) (finite.get set q)) (sym none) ∙ now.each q

-- the set that has each key of another as the specifications have it is the specified one
pub set_is_specified : (keys specs made set : KeyMap) → specs ≡ spec_keys keys → made ≡ with_defaults specs keys
    → ((q : Name) → finite.get set q ≡ option_map (specified_entry specs q) (finite.get made q)) → set ≡ specified keys
set_is_specified keys specs made set is_specs is_made each = finite.same_map name_cmp_total name_cmp-IsAntisymmetric set (specified keys) (λ q.
    each q
    ∙ ap₂ (λ ss ms. option_map (specified_entry ss q) (finite.get ms q)) is_specs (is_made ∙ ap (λ ss. with_defaults ss keys) is_specs)
    ∙ sym (get-specified keys q))

pub set_is_specified_ok : {E : Type 0} (keys specs made : KeyMap) (r : Result KeyMap E) → specs ≡ spec_keys keys
    → made ≡ with_defaults specs keys
    → IfOk r (λ set. (q : Name) → finite.get set q ≡ option_map (specified_entry specs q) (finite.get made q))
    → IfOk r (λ set. set ≡ specified keys)
set_is_specified_ok keys specs made (Ok set) is_specs is_made each =
    set_is_specified keys specs made set is_specs is_made each
set_is_specified_ok keys specs made (Err e) is_specs is_made each = each

-- one more key of a walk, where its entry is seen in another way
pub stands_next_of : {X : Type 0} (view : X → Entry) (f : Name → Entry → Entry) (keys rest : List (Name × Entry))
    (key : Name × Entry) (set all new : KeyMap) (o : Option X) → keys ≡ key ∷ rest
    → unwrap_or (option_map view o) key.1 ≡ f key.0 key.1
    → new ≡ option_map_or (λ entry. finite.insert set key.0 (view entry)) o set → StandsSo f keys set all
    → StandsSo f rest new all
stands_next_of {X = X} view f keys rest key set all new o are is made now =
    stands_more f keys rest key set all new (option_map view o) are is (made ∙ through o) now
  where
    through : (o : Option X)
        → option_map_or (λ entry. finite.insert set key.0 (view entry)) o set
        ≡ option_map_or (λ entry. finite.insert set key.0 entry) (option_map view o) set
    through None = refl
    through (Some x) = refl
