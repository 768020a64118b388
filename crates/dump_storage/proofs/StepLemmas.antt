-- A step of the code is a record's reading, or shows that there is none.
use Rattle.std.proofs.Common.{◌≡◌, ◌≢◌, ◌⊎◌, ℕ, ◌+◌, ◌<◌, ◌≤◌, Bool, true, false, List, ◌∷◌, length, Option, Some, None, refl, sym, ap, subst, ◌∙◌, inl, inr, arith}
use Rattle.std.specs.FinMap as map
use Rattle.std.specs.Option.{option_map, is_some}
use Rattle.std.proofs.lemmas.Cmp.{nat_list_cmp_total}
use Rattle.model_names.specs.Name.{Name}
use Rattle.model_names.specs.Spelling.{path}
use Rattle.model_names.specs.Spells.{Spells}
use Rattle.model_names.proofs.OrderLemmas.{name_cmp_total, name_cmp-IsAntisymmetric}
use Rattle.general_words.specs.Texts.{text_cmp}
use Rattle.model_maps.specs.Entry.{Entry, plain_entry, IsValue, IsMetaName, with_meta}
use Rattle.model_maps.specs.KeyMap.{KeyMap, weight, key_weight, heaviest_map}
use Rattle.model_dump.specs.Adds.{Progress, Adds}
use Rattle.dump_storage.specs.declared.progress.Present.{Present}
use Rattle.dump_storage.specs.declared.progress.Progress as code
use Rattle.dump_storage.specs.ProgressView.{AddsNothing, HasMetaNames, IsSound, PutsInto, CannotPut, with_present, progress_of}
use Rattle.general_words.proofs.Maps.{get-insert_same}
use Rattle.general_words.proofs.Lookups.{get-elsewhere, get-cases, get-apart}
use Rattle.dump_storage.proofs.ProgressLemmas as lemmas
use Rattle.dump_storage.proofs.ProgressLemmas.{key_record, meta_record, copy_record, HasMetaNames-insert, weight-key, weight-meta, behind_key}
use Rattle.general_words.proofs.Texts.{text_cmp-IsAntisymmetric}

-- there is a value where there is one behind a function
pub is_some-mapped : {A B : Type 0} (f : A → B) (o : Option A) (m : Option B) → option_map f o ≡ m
    → (is_some o ≡ true → m ≢ None) × (m ≢ None → is_some o ≡ true)
is_some-mapped f None m e = (λ some. absurd cc, λ some. absurd (some (sym e)))
is_some-mapped f (Some x) m e = (λ _ none. let clash = e ∙ none in absurd cc, λ _. refl)

-- the keys with the present one have its name
pub is_present-found : (keys : KeyMap) (present : Option Present) (name : Name)
    → option_map (λ (p : Present). p.name) present ≡ Some name → map.get (with_present keys present) name ≢ None
is_present-found keys None name is none = absurd cc
is_present-found keys (Some present) name is none =
    let same : present.name ≡ name = cc in
    let here = sym (get-insert_same name_cmp_total keys present.name present.entry) ∙ ap (map.get (map.insert keys present.name present.entry)) same ∙ none in
    absurd cc

-- any other name is found among the keys before it
pub is_before : (keys : KeyMap) (present : Option Present) (name : Name)
    → option_map (λ (p : Present). p.name) present ≢ Some name
    → map.get (with_present keys present) name ≡ map.get keys name
is_before keys None name other = refl
is_before keys (Some present) name other =
    get-elsewhere name_cmp_total name_cmp-IsAntisymmetric keys present.name present.entry name (λ same. other (ap Some (sym same)))

plain_names : (entry : Entry) (value : List ℕ) → entry ≡ plain_entry value → (name text : List ℕ)
    → map.get entry.meta name ≡ Some text → IsMetaName name
plain_names entry value plain name text has =
    let none : ◌≡◌ {A = Option (List ℕ)} None (Some text) = sym (ap (λ (e : Entry). map.get e.meta name) plain ∙ map.get-empty text_cmp name) ∙ has in
    absurd cc

-- a key that was read
module _ (p : code.Progress) (sound : IsSound p) (text value : List ℕ) (name : Name) (spells : Spells (47 ∷ text) name) where
  pub key_heavy : heaviest_map < p.weight + (key_weight + length (path name)) + length value
      → AddsNothing (progress_of p) (key_record text value)
  key_heavy heavy =
      lemmas.AddsNothing-heavy_key (progress_of p) text value name spells (omega (arith, heavy, sound.weighed))

  module _ (none : map.get (progress_of p).keys name ≡ None) (keys : KeyMap) (entry : Entry) (weighed : ℕ) (passed : keys ≡ (progress_of p).keys) (plain : entry ≡ plain_entry value) (weighs : weighed ≡ p.weight + (key_weight + length (path name)) + length value) (light : weighed ≤ heaviest_map) where
    abbrev pub after_key : code.Progress
    after_key = record { keys = keys; present = Some (record { name = name; entry = entry }); weight = weighed }

    same_progress : behind_key (progress_of p) text value name ≡ progress_of after_key
    same_progress = λ i. record { keys = map.insert (sym passed i) name (sym plain i); present = Some name }

    pub key_step : IsValue value → Adds (progress_of p) (key_record text value) (progress_of after_key)
    key_step is_value =
        subst (Adds (progress_of p) (key_record text value)) same_progress
        (lemmas.Adds-key (progress_of p) text value name spells none is_value (omega (arith, weighs, light, sound.weighed)))

    pub key_sound : IsSound after_key
    key_sound = record {
      apart = ap (λ (m : KeyMap). map.get m name) passed ∙ none;
      weighed = let same = ap (λ (q : Progress). weight q.keys) same_progress in omega (arith, weighs, same, sound.weighed, weight-key (progress_of p) text value name spells none);
      light = light;
      meta_names = HasMetaNames-insert keys name entry (subst HasMetaNames (sym passed) sound.meta_names) (plain_names entry value plain);
    }

-- a progress with a present key
module _ (p : code.Progress) (present : Present) (is : p.present ≡ Some present) (sound : IsSound p) where
  abbrev pub with_key : Present → ℕ → code.Progress
  with_key key weighed = record { keys = p.keys; present = Some key; weight = weighed }

  whole : p ≡ with_key present p.weight
  whole = λ i. record { keys = p.keys; present = is i; weight = p.weight }

  pub unchanged : (after : Present) → after ≡ present → with_key after p.weight ≡ p
  unchanged after same = ap (λ (key : Present). with_key key p.weight) same ∙ sym whole

  sound_key : IsSound (with_key present p.weight)
  sound_key = subst IsSound whole sound

  -- the progress that the lemmas speak of
  is_at_key : progress_of p ≡ lemmas.at_key p.keys present.name present.entry sound_key.apart present.entry
  is_at_key = ap progress_of whole

  cannot : (name text : List ℕ) → CannotPut present p.weight name text
      → lemmas.CannotPut p.keys present.name present.entry sound_key.apart name text
  cannot name text refused none = omega (arith, refused none, sound_key.weighed)

  after_put : (name text : List ℕ) (after : Present) (weighed : ℕ) → PutsInto present p.weight name text after weighed
      → lemmas.at_key p.keys present.name present.entry sound_key.apart (with_meta present.entry name text)
      ≡ progress_of (with_key after weighed)
  after_put name text after weighed puts =
      λ i. record { keys = map.insert p.keys (sym puts.same_name i) (sym puts.added i); present = Some (sym puts.same_name i) }

  put_light : (name text : List ℕ) (after : Present) (weighed : ℕ) → PutsInto present p.weight name text after weighed
      → weight (map.insert p.keys present.name present.entry) + length name + length text ≤ heaviest_map
  put_light name text after weighed puts = omega (arith, puts.weighs, puts.light, sound_key.weighed)

  own_names : (name text : List ℕ) → IsMetaName name → (after : Present) (weighed : ℕ)
      → PutsInto present p.weight name text after weighed → (n t : List ℕ) → map.get after.entry.meta n ≡ Some t
      → IsMetaName n
  own_names name text is_name after weighed puts n t has =
      cases (get-cases nat_list_cmp_total text_cmp-IsAntisymmetric present.entry.meta name text n t (ap (λ (e : Entry). map.get e.meta n) (sym puts.added) ∙ has))
    where
      cases : (map.get present.entry.meta n ≡ Some t) ⊎ ((n ≡ name) × (text ≡ t)) → IsMetaName n
      cases (inl before) =
          sound_key.meta_names present.name present.entry n t (get-insert_same name_cmp_total p.keys present.name present.entry) before
      cases (inr here) = subst IsMetaName (sym here.0) is_name

  -- metadata that was put
  module _ (name text : List ℕ) (is_name : IsMetaName name) (after : Present) (weighed : ℕ) (puts : PutsInto present p.weight name text after weighed) where
    pub put_sound : IsSound (with_key after weighed)
    put_sound = record {
      apart = ap (map.get p.keys) puts.same_name ∙ sound_key.apart;
      weighed =
          let same = ap (λ (q : Progress). weight q.keys) (after_put name text after weighed puts) in
          omega (arith, puts.weighs, same, sound_key.weighed, weight-meta p.keys present.name present.entry sound_key.apart name text puts.is_new);
      light = puts.light;
      meta_names = HasMetaNames-insert p.keys after.name after.entry before_names (own_names name text is_name after weighed puts);
    }
      where
        -- the keys before the present one are found among all
        before_names : HasMetaNames p.keys
        before_names q e n t found has =
            sound_key.meta_names q e n t
            (get-elsewhere name_cmp_total name_cmp-IsAntisymmetric p.keys present.name present.entry q (get-apart name_cmp_total name_cmp-IsAntisymmetric p.keys present.name present.entry q e sound_key.apart found) ∙ found)
            has

    pub meta_step : IsValue text → Adds (progress_of p) (meta_record name text) (progress_of (with_key after weighed))
    meta_step is_value =
        let step = lemmas.Adds-meta p.keys present.name present.entry sound_key.apart name text is_name is_value puts.is_new (put_light name text after weighed puts) in
        subst (λ (q : Progress). Adds q (meta_record name text) (progress_of (with_key after weighed))) (sym is_at_key)
        (subst (Adds (lemmas.at_key p.keys present.name present.entry sound_key.apart present.entry) (meta_record name text)) (after_put name text after weighed puts) step)

    pub copy_step : (source_text : List ℕ) (source : Name) (e : Entry) → Spells (47 ∷ source_text) source
        → map.get p.keys source ≡ Some e → map.get e.meta name ≡ Some text
        → Adds (progress_of p) (copy_record source_text name) (progress_of (with_key after weighed))
    copy_step source_text source e spells found has =
        let step = lemmas.Adds-copy p.keys present.name present.entry sound_key.apart source_text source spells e found name text has puts.is_new (put_light name text after weighed puts) in
        subst (λ (q : Progress). Adds q (copy_record source_text name) (progress_of (with_key after weighed))) (sym is_at_key)
        (subst (Adds (lemmas.at_key p.keys present.name present.entry sound_key.apart present.entry) (copy_record source_text name)) (after_put name text after weighed puts) step)

  -- what shows that there is no reading at the present key
  pub meta_refused : (name text : List ℕ) → CannotPut present p.weight name text
      → AddsNothing (progress_of p) (meta_record name text)
  meta_refused name text refused =
      subst (λ (q : Progress). AddsNothing q (meta_record name text)) (sym is_at_key)
      (lemmas.AddsNothing-put p.keys present.name present.entry sound_key.apart name text (cannot name text refused))

  module _ (text : List ℕ) (source : Name) (spells : Spells (47 ∷ text) source) (name : List ℕ) where
    copy_back : AddsNothing (lemmas.at_key p.keys present.name present.entry sound_key.apart present.entry) (copy_record text name)
        → AddsNothing (progress_of p) (copy_record text name)
    copy_back nothing = subst (λ (q : Progress). AddsNothing q (copy_record text name)) (sym is_at_key) nothing

    pub copy_no_earlier : map.get p.keys source ≡ None → AddsNothing (progress_of p) (copy_record text name)
    copy_no_earlier none =
        copy_back (lemmas.AddsNothing-no_earlier p.keys present.name present.entry sound_key.apart text source spells name none)

    pub copy_no_meta : (e : Entry) → map.get p.keys source ≡ Some e → map.get e.meta name ≡ None
        → AddsNothing (progress_of p) (copy_record text name)
    copy_no_meta e found none =
        copy_back (lemmas.AddsNothing-no_meta p.keys present.name present.entry sound_key.apart text source spells e found name none)

    pub copy_refused : (e : Entry) (copied : List ℕ) → map.get p.keys source ≡ Some e
        → map.get e.meta name ≡ Some copied → CannotPut present p.weight name copied
        → AddsNothing (progress_of p) (copy_record text name)
    copy_refused e copied found has refused =
        copy_back (lemmas.AddsNothing-put_copy p.keys present.name present.entry sound_key.apart text source spells e found name copied has (cannot name copied refused))

-- what isn't something is nothing
pub none-by_test : {A : Type 0} (o : Option A) (b : Bool) → ((b ≡ true → o ≢ None) × (o ≢ None → b ≡ true)) → b ≡ false
    → o ≡ None
none-by_test None b test no_more = refl
none-by_test (Some x) b test no_more = let is = test.1 (λ none. absurd cc) in absurd cc

-- the same under the name and the text that bytes are
pub puts-renamed : (before after : Present) (m n : ℕ) (name text a b : List ℕ) → name ≡ a → text ≡ b
    → PutsInto before m name text after n → PutsInto before m a b after n
puts-renamed before after m n name text a b names texts puts =
    subst (λ (x : List ℕ). PutsInto before m x b after n) names (subst (λ (y : List ℕ). PutsInto before m name y after n) texts puts)

pub cannot-renamed : (before : Present) (m : ℕ) (name text a b : List ℕ) → name ≡ a → text ≡ b
    → CannotPut before m name text → CannotPut before m a b
cannot-renamed before m name text a b names texts refused =
    subst (λ (x : List ℕ). CannotPut before m x b) names (subst (λ (y : List ℕ). CannotPut before m name y) texts refused)
