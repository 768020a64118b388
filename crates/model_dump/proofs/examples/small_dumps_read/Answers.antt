use Rattle.std.specs.Prelude.{◌≡◌, ℕ, ◌+◌, List, [], ◌∷◌, codes, Option, None, Some}
use Rattle.std.specs.Fmt.{digits}
use Rattle.std.specs.FinMap as map
use Rattle.std.proofs.Common.{refl, sym, ap, ap₂, ◌∙◌, arith, get_or, lit<, lit≤, inl, inr}
use Rattle.std.specs.Option.{option_map_or}
use Rattle.std.proofs.lemmas.Cmp.{nat_list_cmp_total}
use Rattle.model_names.specs.declared.namespaces.Namespace.TheVariants.{Cascading}
use Rattle.model_names.specs.Name.{Name}
use Rattle.model_names.specs.Order.{name_cmp}
use Rattle.model_names.proofs.OrderLemmas.{name_cmp_total, name_cmp-IsAntisymmetric}
use Rattle.model_names.proofs.SpellsLemmas.{Spells-from_tests}
use Rattle.general_words.specs.Texts.{text_cmp}
use Rattle.model_maps.specs.Entry.{Entry, plain_entry, with_meta}
use Rattle.model_maps.specs.KeyMap.{KeyMap, no_keys, weight, weight_of_key}
use Rattle.model_dump.specs.Record.{Record, KeyKind, MetaKind, CopyKind}
use Rattle.model_dump.specs.Adds.{Progress, start, Adds}
use Rattle.model_dump.specs.Dump.{Leads}
use Rattle.model_dump.proofs.Begins.{Begins-start}
use Rattle.model_maps.proofs.SmallMaps.{name_a, plain_a, plain_a_has}
use Rattle.model_dump.proofs.SmallDumps.{small, record_a, after_a, adds_a}
use Rattle.general_words.proofs.Maps.{insert-insert}
use Rattle.model_maps.proofs.MapLemmas.{weight-insert, weight-no_keys, weight_of_key-plain, weight_of_key-meta, IsValue-from_ascii}
use Rattle.model_dump.proofs.examples.small_dumps_read.Goals as goal

pub returns-clause-no_line_feed : goal.returns-clause-no_line_feed
returns-clause-no_line_feed c =
    inr (record { records = []; progress = start; rest = codes "$end"; begins = Begins-start Adds _ _ refl; ends = inl refl; made = refl })

pub returns-clause-no_records : goal.returns-clause-no_records
returns-clause-no_records c =
    inr (record { records = []; progress = start; rest = codes "$end\n"; begins = Begins-start Adds _ _ refl; ends = inr refl; made = refl })

abbrev name_b : Name
name_b = record { namespace = Cascading; parts = codes "b" ∷ [] }

abbrev typed : List ℕ → Entry
typed value = with_meta (plain_entry value) (codes "type") (codes "string")

-- the map after the first key's metadata, and with the second key
abbrev only_a : KeyMap
only_a = map.insert no_keys name_a (typed (codes "1"))

abbrev plain_b : KeyMap
plain_b = map.insert only_a name_b (plain_entry (codes "2"))

abbrev both : KeyMap
both = map.insert only_a name_b (typed (codes "2"))

meta_made : map.insert plain_a name_a (typed (codes "1")) ≡ only_a
meta_made = insert-insert name_cmp_total name_cmp-IsAntisymmetric no_keys name_a _ _

copy_made : map.insert plain_b name_b (typed (codes "2")) ≡ both
copy_made = insert-insert name_cmp_total name_cmp-IsAntisymmetric only_a name_b _ _

-- what the maps hold
b_is_new : map.get only_a name_b ≡ None
b_is_new = map.get-insert name_cmp_total no_keys name_a _ name_b ∙ map.get-empty name_cmp name_b

plain_b_has_a : map.get plain_b name_a ≡ Some (typed (codes "1"))
plain_b_has_a =
    map.get-insert name_cmp_total only_a name_b _ name_a ∙ map.get-insert name_cmp_total no_keys name_a _ name_a

plain_b_has_b : map.get plain_b name_b ≡ Some (plain_entry (codes "2"))
plain_b_has_b = map.get-insert name_cmp_total only_a name_b _ name_b

-- what they weigh
typed_weighs : (name : Name) (value : List ℕ)
    → weight_of_key name (typed value) ≡ weight_of_key name (plain_entry value) + 10
typed_weighs name value =
    omega (arith, weight_of_key-meta name (plain_entry value) (codes "type") (codes "string") (map.get-empty text_cmp (codes "type")))

only_a_weighs : weight only_a ≡ 77
only_a_weighs =
    weight-insert no_keys name_a _ (map.get-empty name_cmp name_a)
    ∙ ap₂ (λ m n. m + n) weight-no_keys (typed_weighs name_a (codes "1") ∙ ap (λ n. n + 10) (weight_of_key-plain name_a (codes "1")))

plain_b_weighs : weight plain_b ≡ 144
plain_b_weighs =
    weight-insert only_a name_b _ b_is_new ∙ ap₂ (λ m n. m + n) only_a_weighs (weight_of_key-plain name_b (codes "2"))

both_weighs : weight both ≡ 154
both_weighs =
    weight-insert only_a name_b _ b_is_new
    ∙ ap₂ (λ m n. m + n) only_a_weighs (typed_weighs name_b (codes "2") ∙ ap (λ n. n + 10) (weight_of_key-plain name_b (codes "2")))

-- the records
abbrev record_meta : Record
record_meta = record { kind = MetaKind; first = codes "type"; second = codes "string" }

abbrev record_b : Record
record_b = record { kind = KeyKind; first = codes "b"; second = codes "2" }

abbrev record_copy : Record
record_copy = record { kind = CopyKind; first = codes "a"; second = codes "type" }

-- how far a dump was read behind each of them
abbrev after_meta : Progress
after_meta = record { keys = only_a; present = Some name_a }

abbrev after_b : Progress
after_b = record { keys = plain_b; present = Some name_b }

abbrev after_copy : Progress
after_copy = record { keys = both; present = Some name_b }

-- what each of them adds
adds_meta : Adds after_a record_meta after_meta
adds_meta = record {
  adds = record {
    is_name = record { utf8 = (IsValue-from_ascii (codes "type") (omega arith) (lit≤ tt)).utf8; some = lit< tt; limit = lit≤ tt };
    is_value = IsValue-from_ascii (codes "string") (omega arith) (lit≤ tt);
    puts = record {
      key = name_a;
      present = refl;
      entry = plain_entry (codes "1");
      found = plain_a_has;
      is_new = map.get-empty text_cmp (codes "type");
      added = λ i. record { keys = sym meta_made i; present = Some name_a };
    };
  };
  light = omega (arith, only_a_weighs);
}

adds_b : Adds after_meta record_b after_b
adds_b = record {
  adds = record {
    name = name_b;
    spelled = Spells-from_tests _ _ (codes "b") refl refl refl (lit≤ tt);
    is_new = b_is_new;
    is_value = IsValue-from_ascii (codes "2") (omega arith) (lit≤ tt);
    added = refl;
  };
  light = omega (arith, plain_b_weighs);
}

others : ◌≡◌ {A = Option Name} (Some name_b) (Some name_a) → ⊥
others same =
    let byte : ◌≡◌ {A = ℕ} 98 97 = ap (λ (name : Option Name). get_or (option_map_or (λ (n : Name). get_or n.parts 0 []) name []) 0 0) same in omega arith

copies : Adds after_b record_copy after_copy
copies = record {
  adds = record {
    source = name_a;
    spelled = Spells-from_tests _ _ (codes "a") refl refl refl (lit≤ tt);
    earlier = others;
    entry = typed (codes "1");
    found = plain_b_has_a;
    text = codes "string";
    has = map.get-insert nat_list_cmp_total map.empty (codes "type") (codes "string") (codes "type");
    puts = record {
      key = name_b;
      present = refl;
      entry = plain_entry (codes "2");
      found = plain_b_has_b;
      is_new = map.get-empty text_cmp (codes "type");
      added = λ i. record { keys = sym copy_made i; present = Some name_b };
    };
  };
  light = omega (arith, both_weighs);
}

abbrev records : List Record
records = record_a ∷ record_meta ∷ record_b ∷ record_copy ∷ []

leads : Leads Adds start records after_copy
leads =
    let behind_b : Leads Adds after_b (record_copy ∷ []) after_copy = (_, small record_copy (lit< tt) (lit< tt), copies, refl) in
    let behind_meta : Leads Adds after_meta (record_b ∷ record_copy ∷ []) after_copy = (_, small record_b (lit< tt) (lit< tt), adds_b, behind_b) in
    let behind_a : Leads Adds after_a (record_meta ∷ record_b ∷ record_copy ∷ []) after_copy = (_, small record_meta (lit< tt) (lit< tt), adds_meta, behind_meta) in
    (_, small record_a (lit< tt) (lit< tt), adds_a, behind_a)

pub returns-clause-metadata : goal.returns-clause-metadata
unfolding digits
returns-clause-metadata c =
    inr (record { records = records; progress = after_copy; rest = codes "$end\n"; begins = record { leads = leads; whole = refl }; ends = inr refl; made = refl })
