use Rattle.std.specs.Prelude.{◌≡◌, ℕ, List, [], ◌∷◌, ◌++◌, codes, None, Some}
use Rattle.std.specs.Fmt.{digits}
use Rattle.std.specs.FinMap as map
use Rattle.std.proofs.Common.{refl, sym, ap, ◌∙◌, arith, lit<, lit≤}
use Rattle.std.proofs.lemmas.Cmp.{nat_list_cmp_total}
use Rattle.model_names.specs.declared.namespaces.Namespace.TheVariants.{Cascading}
use Rattle.model_names.specs.Name.{Name}
use Rattle.model_names.specs.Order.{name_cmp}
use Rattle.model_names.proofs.OrderLemmas.{name_cmp_total, name_cmp-IsAntisymmetric}
use Rattle.model_names.proofs.SpellsLemmas.{Spells-once, Spells-from_tests}
use Rattle.general_words.specs.Texts.{text_cmp}
use Rattle.model_maps.specs.Entry.{Entry, plain_entry, with_meta}
use Rattle.model_maps.specs.KeyMap.{KeyMap, no_keys, weight}
use Rattle.model_dump.specs.Record.{Record, KeyKind, MetaKind, CopyKind, spelled_record}
use Rattle.model_dump.specs.Adds.{Progress, start, Adds}
use Rattle.model_dump.specs.Dump.{Begins, Inside}
use Rattle.model_dump.proofs.Begins.{Begins-start, Begins-more}
use Rattle.general_words.proofs.Maps.{get-insert_same, insert-insert}
use Rattle.model_maps.proofs.MapLemmas.{weight-insert, weight-no_keys, weight_of_key-plain, weight_of_key-meta, IsValue-from_ascii}
use Rattle.model_maps.proofs.SmallMaps.{name_a, plain_a, plain_a_has}
use Rattle.model_dump.proofs.SmallDumps.{small, record_a, after_a, spells_a, adds_a, HasNoNext-record}
use Rattle.model_dump.proofs.examples.records_without_reading_stop.Goals as goal
use Rattle.general_words.proofs.Lists.{some_is, none_is_no_some}

-- behind the key `/a` = `1` stands this record
behind_a : (r : Record) (more bytes : List ℕ)
    → bytes ≡ codes "kdbOpen 2\n$key string 1 1\na\n1\n" ++ (spelled_record r ++ more)
    → Begins Adds bytes (record_a ∷ []) after_a (spelled_record r ++ more)
unfolding digits
behind_a r more bytes e =
    Begins-more Adds bytes [] start after_a record_a (spelled_record r ++ more) (Begins-start Adds bytes _ e) (small record_a (lit< tt) (lit< tt)) adds_a

-- a second key of the same name
abbrev again : Record
again = record { kind = KeyKind; first = codes "a"; second = codes "2" }

not_again : (after : Progress) → Adds after_a again after → ⊥
not_again after step =
    let name : step.adds.name ≡ name_a = Spells-once (codes "/a") step.adds.name name_a step.adds.spelled spells_a in
    none_is_no_some (plain_entry (codes "1")) (sym step.adds.is_new ∙ ap (map.get plain_a) name ∙ plain_a_has)

pub returns-clause-key_twice : goal.returns-clause-key_twice
unfolding digits
returns-clause-key_twice c = Inside (record {
  records = record_a ∷ [];
  progress = after_a;
  rest = codes "$key string 1 1\na\n2\n$end\n";
  begins = behind_a again (codes "$end\n") _ refl;
  stops = HasNoNext-record after_a again (codes "$end\n") (small again (lit< tt) (lit< tt)) not_again;
  at = refl;
})

-- metadata
abbrev meta_x : Record
meta_x = record { kind = MetaKind; first = codes "m"; second = codes "x" }

not_first : (after : Progress) → Adds start meta_x after → ⊥
not_first after step = none_is_no_some step.adds.puts.key step.adds.puts.present

pub returns-clause-no_key_yet : goal.returns-clause-no_key_yet
unfolding digits
returns-clause-no_key_yet c = Inside (record {
  records = [];
  progress = start;
  rest = codes "$meta 1 1\nm\nx\n$end\n";
  begins = Begins-start Adds _ _ refl;
  stops = HasNoNext-record start meta_x (codes "$end\n") (small meta_x (lit< tt) (lit< tt)) not_first;
  at = refl;
})

-- the key has metadata already
abbrev marked : Entry
marked = with_meta (plain_entry (codes "1")) (codes "m") (codes "x")

abbrev marked_a : KeyMap
marked_a = map.insert plain_a name_a marked

abbrev after_meta : Progress
after_meta = record { keys = marked_a; present = Some name_a }

marked_a_weighs : weight marked_a ≡ 69
marked_a_weighs =
    let key = weight_of_key-meta name_a (plain_entry (codes "1")) (codes "m") (codes "x") (map.get-empty text_cmp (codes "m")) in
    ap weight (insert-insert name_cmp_total name_cmp-IsAntisymmetric no_keys name_a (plain_entry (codes "1")) marked)
    ∙ omega (arith, weight-insert no_keys name_a marked (map.get-empty name_cmp name_a), weight-no_keys, key, weight_of_key-plain name_a (codes "1"))

adds_meta : Adds after_a meta_x after_meta
adds_meta = record {
  adds = record {
    is_name = record { utf8 = (IsValue-from_ascii (codes "m") (omega arith) (lit≤ tt)).utf8; some = lit< tt; limit = lit≤ tt };
    is_value = IsValue-from_ascii (codes "x") (omega arith) (lit≤ tt);
    puts = record {
      key = name_a;
      present = refl;
      entry = plain_entry (codes "1");
      found = plain_a_has;
      is_new = map.get-empty text_cmp (codes "m");
      added = refl;
    };
  };
  light = omega (arith, marked_a_weighs);
}

abbrev meta_y : Record
meta_y = record { kind = MetaKind; first = codes "m"; second = codes "y" }

not_another : (after : Progress) → Adds after_meta meta_y after → ⊥
not_another after step =
    let key : name_a ≡ step.adds.puts.key = some_is name_a step.adds.puts.key step.adds.puts.present in
    let entry : marked ≡ step.adds.puts.entry = some_is marked step.adds.puts.entry (sym (get-insert_same name_cmp_total plain_a name_a marked) ∙ ap (map.get marked_a) key ∙ step.adds.puts.found) in
    none_is_no_some (codes "x") (sym step.adds.puts.is_new ∙ ap (λ (e : Entry). map.get e.meta (codes "m")) (sym entry) ∙ get-insert_same nat_list_cmp_total map.empty (codes "m") (codes "x"))

pub returns-clause-meta_twice : goal.returns-clause-meta_twice
unfolding digits
returns-clause-meta_twice c = Inside (record {
  records = record_a ∷ meta_x ∷ [];
  progress = after_meta;
  rest = codes "$meta 1 1\nm\ny\n$end\n";
  begins = Begins-more Adds _ (record_a ∷ []) after_a after_meta meta_x (codes "$meta 1 1\nm\ny\n$end\n") (behind_a meta_x (codes "$meta 1 1\nm\ny\n$end\n") _ refl) (small meta_x (lit< tt) (lit< tt)) adds_meta;
  stops = HasNoNext-record after_meta meta_y (codes "$end\n") (small meta_y (lit< tt) (lit< tt)) not_another;
  at = refl;
})

-- copied metadata
abbrev copy_of : List ℕ → Record
copy_of name = record { kind = CopyKind; first = name; second = codes "m" }

not_itself : (after : Progress) → Adds after_a (copy_of (codes "a")) after → ⊥
not_itself after step =
    let source : name_a ≡ step.adds.source = Spells-once (codes "/a") name_a step.adds.source spells_a step.adds.spelled in
    step.adds.earlier (ap Some source)

pub returns-clause-copied_from_itself : goal.returns-clause-copied_from_itself
unfolding digits
returns-clause-copied_from_itself c = Inside (record {
  records = record_a ∷ [];
  progress = after_a;
  rest = codes "$copymeta 1 1\na\nm\n$end\n";
  begins = behind_a (copy_of (codes "a")) (codes "$end\n") _ refl;
  stops = HasNoNext-record after_a (copy_of (codes "a")) (codes "$end\n") (small (copy_of (codes "a")) (lit< tt) (lit< tt)) not_itself;
  at = refl;
})

abbrev name_b : Name
name_b = record { namespace = Cascading; parts = codes "b" ∷ [] }

b_is_missing : map.get plain_a name_b ≡ None
b_is_missing = map.get-insert name_cmp_total no_keys name_a _ name_b ∙ map.get-empty name_cmp name_b

not_missing : (after : Progress) → Adds after_a (copy_of (codes "b")) after → ⊥
not_missing after step =
    let source : step.adds.source ≡ name_b = Spells-once (codes "/b") step.adds.source name_b step.adds.spelled (Spells-from_tests _ _ (codes "b") refl refl refl (lit≤ tt)) in
    none_is_no_some step.adds.entry (sym b_is_missing ∙ ap (map.get plain_a) (sym source) ∙ step.adds.found)

pub returns-clause-copied_from_nowhere : goal.returns-clause-copied_from_nowhere
unfolding digits
returns-clause-copied_from_nowhere c = Inside (record {
  records = record_a ∷ [];
  progress = after_a;
  rest = codes "$copymeta 1 1\nb\nm\n$end\n";
  begins = behind_a (copy_of (codes "b")) (codes "$end\n") _ refl;
  stops = HasNoNext-record after_a (copy_of (codes "b")) (codes "$end\n") (small (copy_of (codes "b")) (lit< tt) (lit< tt)) not_missing;
  at = refl;
})
