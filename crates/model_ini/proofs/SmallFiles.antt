-- For worked files: the line of the key `/a` = `1`, and lines without a reading.
use Rattle.std.specs.Prelude.{◌≡◌, ◌≢◌, ℕ, List, [], ◌∷◌, codes, Option, None, Some, true}
use Rattle.std.proofs.Common.{refl, sym, ap, subst, ◌∙◌, arith, lit≤}
use Rattle.std.specs.FinMap as finite
use Rattle.std.specs.List.{list_all}
use Rattle.model_names.specs.declared.namespaces.Namespace.TheVariants.{Cascading}
use Rattle.model_names.specs.Name.{Name}
use Rattle.model_names.specs.Order.{name_cmp}
use Rattle.model_names.specs.Spells.{Spells}
use Rattle.model_names.proofs.PartLemmas.{text_from_test}
use Rattle.model_names.proofs.SpellsLemmas.{is_ascii_text_byte, Spells-once, Spells-from_tests}
use Rattle.model_maps.specs.Entry.{Entry, plain_entry}
use Rattle.model_maps.specs.KeyMap.{KeyMap, no_keys}
use Rattle.model_maps.proofs.SmallMaps.{name_a, plain_a, plain_a_has, plain_a_weighs}
use Rattle.model_maps.proofs.MapLemmas.{IsValue-from_ascii}
use Rattle.model_ini.specs.Line.{Skipped, Pair, meaning}
use Rattle.model_ini.specs.Ini.{AddsKey, Does, Step}

some_parts : ◌≢◌ {A = List (List ℕ)} (codes "a" ∷ []) []
some_parts e = absurd cc

-- a text that spells its name adds it,
pub adds_a : (text : List ℕ) → Spells (47 ∷ text) name_a → AddsKey no_keys text (codes "1") plain_a
adds_a text spelled = record {
  name = name_a;
  spelled = spelled;
  below = some_parts;
  is_new = finite.get-empty name_cmp name_a;
  is_value = IsValue-from_ascii (codes "1") (omega arith) (lit≤ tt);
  added = refl;
  light = omega (arith, plain_a_weighs);
}

-- and nothing adds it again
pub adds_a-once : (text value : List ℕ) (after : KeyMap) → Spells (47 ∷ text) name_a → AddsKey plain_a text value after
    → ⊥
adds_a-once text value after spelled adds =
    let same = Spells-once (47 ∷ text) adds.name name_a adds.spelled spelled in
    let none : ◌≡◌ {A = Option Entry} None (Some (plain_entry (codes "1"))) = sym adds.is_new ∙ ap (finite.get plain_a) same ∙ plain_a_has in
    absurd cc

-- no text adds the mountpoint
pub adds_no_root : (value : List ℕ) (before after : KeyMap) → AddsKey before [] value after → ⊥
adds_no_root value before after adds =
    let root : Name = record { namespace = Cascading; parts = [] } in
    let same : adds.name ≡ root = Spells-once (codes "/") adds.name root adds.spelled (Spells-from_tests (codes "/") root [] refl refl refl (lit≤ tt)) in
    adds.below (ap (λ (n : Name). n.parts) same)

-- a line that is skipped leads on
pub skips : (line : List ℕ) (keys : KeyMap) → list_all is_ascii_text_byte line ≡ true → meaning line ≡ Skipped
    → Step keys line keys
skips line keys ascii skipped =
    record { utf8 = (text_from_test line ascii).utf8; does = subst (λ m. Does m keys keys) (sym skipped) refl }

-- and so does the line of an entry
pub enters : (line text value : List ℕ) (before after : KeyMap) → list_all is_ascii_text_byte line ≡ true
    → meaning line ≡ Pair text value → AddsKey before text value after → Step before line after
enters line text value before after ascii pair adds =
    record { utf8 = (text_from_test line ascii).utf8; does = subst (λ m. Does m before after) (sym pair) adds }
