-- For worked dumps: a first key, and records that have no reading.
use Rattle.std.specs.Prelude.{ℕ, ◌<◌, List, [], ◌∷◌, ◌++◌, length, codes, Some}
use Rattle.std.specs.FinMap as map
use Rattle.std.proofs.Common.{refl, sym, subst, arith, lit≤}
use Rattle.model_names.specs.Order.{name_cmp}
use Rattle.model_names.specs.Spells.{Spells}
use Rattle.model_names.proofs.SpellsLemmas.{Spells-from_tests}
use Rattle.model_maps.proofs.MapLemmas.{IsValue-from_ascii}
use Rattle.model_maps.proofs.SmallMaps.{name_a, plain_a, plain_a_weighs}
use Rattle.model_dump.specs.Record.{Record, KeyKind, IsSized, spelled_record}
use Rattle.model_dump.specs.Adds.{Progress, start, Adds}
use Rattle.model_dump.specs.Dump.{HasNoNext}
use Rattle.model_dump.proofs.SpelledRecords.{spelled_record-once, spelled_record-ending}

-- short texts have sizes that can be written
pub small : (r : Record) → length r.first < 10 → length r.second < 10 → IsSized r
small r first second = record { first = omega arith; second = omega arith }

abbrev pub record_a : Record
record_a = record { kind = KeyKind; first = codes "a"; second = codes "1" }

abbrev pub after_a : Progress
after_a = record { keys = plain_a; present = Some name_a }

pub spells_a : Spells (codes "/a") name_a
spells_a = Spells-from_tests _ _ (codes "a") refl refl refl (lit≤ tt)

pub adds_a : Adds start record_a after_a
adds_a = record {
  adds = record {
    name = name_a;
    spelled = spells_a;
    is_new = map.get-empty name_cmp name_a;
    is_value = IsValue-from_ascii (codes "1") (omega arith) (lit≤ tt);
    added = refl;
  };
  light = omega (arith, plain_a_weighs);
}

-- where a record stands that adds nothing, nothing has a reading
pub HasNoNext-record : (progress : Progress) (r : Record) (more : List ℕ) → IsSized r
    → ((after : Progress) → Adds progress r after → ⊥) → HasNoNext Adds progress (spelled_record r ++ more)
HasNoNext-record progress r more sized none = record {
  no_record = λ s after x s_sized step e.
      let one = (spelled_record-once s r x more (sym e) s_sized sized).0 in
      none after (subst (λ k. Adds progress k after) one step);
  no_end = λ e. spelled_record-ending r more [] e;
  no_end_line = λ x e. spelled_record-ending r more (10 ∷ x) e;
}
