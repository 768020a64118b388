-- When a key can be added, and how texts are appended.
use Rattle.std.proofs.Common.{◌≡◌, ◌≢◌, ℕ, ◌+◌, ◌<◌, ◌≤◌, List, [], ◌∷◌, length, map, None, refl, sym, ap, subst, ◌∙◌, arith}
use Rattle.std.specs.Prelude.{Bool, ◌==◌}
use Rattle.std.specs.Bool.{Decides}
use Rattle.std.proofs.lemmas.Bool.{eqb-true}
use Rattle.general_words.specs.Texts.{text_cmp}
use Rattle.std.specs.FinMap as finite
use Rattle.model_names.specs.Name.{Name, Part}
use Rattle.model_names.specs.Spelling.{spelling}
use Rattle.model_names.specs.Spells.{Spells}
use Rattle.model_names.proofs.SpellsLemmas.{Spells-once}
use Rattle.model_maps.specs.Entry.{Meta, Entry, plain_entry, IsValue}
use Rattle.model_maps.specs.KeyMap.{KeyMap, weight, heaviest_map}
use Rattle.general_words.proofs.Maps.{entries-empty}
use Rattle.model_maps.proofs.MapLemmas.{weight-insert, weight_of_key-plain}
use Rattle.model_ini.specs.Ini.{AddsKey, IsIniKey}
use Rattle.model_ini.specs.Text.{cover_blank, at_last}
use Rattle.ini_storage.specs.SideView.{sign_at, first_at, signs_at}
use Rattle.ini_storage.specs.declared.writing.Side.{Side}
use Rattle.ini_storage.specs.declared.writing.Side.TheVariants as sides

some_parts : (parts : List Part) → length parts ≢ 0 → parts ≢ []
some_parts parts h e = h (ap length e)

module _ (before : KeyMap) (text value : List ℕ) (name : Name) (spelled : Spells (47 ∷ text) name) where
  same : (after : KeyMap) → (adds : AddsKey before text value after) → adds.name ≡ name
  same after adds = Spells-once (47 ∷ text) adds.name name adds.spelled spelled

  pub weight-plain : finite.get before name ≡ None
      → weight (finite.insert before name (plain_entry value))
      ≡ weight before + 64 + length (spelling name) + length value
  weight-plain new = omega (arith, weight-insert before name (plain_entry value) new, weight_of_key-plain name value)

  pub heavy-not_added : heaviest_map < weight before + 64 + length (spelling name) + length value → (after : KeyMap)
      → AddsKey before text value after → ⊥
  heavy-not_added heavy after adds =
      let e = same after adds in
      let new : finite.get before name ≡ None = subst (λ n. finite.get before n ≡ None) e adds.is_new in
      let light : weight (finite.insert before name (plain_entry value)) ≤ heaviest_map = subst (λ n. weight (finite.insert before n (plain_entry value)) ≤ heaviest_map) e (subst (λ keys. weight keys ≤ heaviest_map) adds.added adds.light) in
      absurd (omega (arith, weight-plain new))

  pub key-added : length name.parts ≢ 0 → finite.get before name ≡ None → IsValue value
      → weight before + 64 + length (spelling name) + length value ≤ heaviest_map
      → AddsKey before text value (finite.insert before name (plain_entry value))
  key-added some new is_value light = record {
    name = name;
    spelled = spelled;
    below = some_parts name.parts some;
    is_new = new;
    is_value = is_value;
    added = refl;
    light = omega (arith, weight-plain new);
  }

-- a text of two bytes or more, sign by sign
pub signs_at-long : (side : Side) (b : ℕ) (rest : List ℕ) → 0 < length rest
    → signs_at side (b ∷ rest) ≡ first_at side (sign_at side b) ∷ at_last cover_blank (map (sign_at side) rest)
signs_at-long sides.Name b [] some = absurd (omega arith)
signs_at-long sides.Name b (c ∷ rest) some = refl
signs_at-long sides.Value b [] some = absurd (omega arith)
signs_at-long sides.Value b (c ∷ rest) some = refl

-- a key below the mountpoint can be stored exactly where it has no metadata
pub ini_key-decides : (name : Name) (entry : Entry) (is : Bool) → 0 < length name.parts
    → is ≡ (length (finite.entries entry.meta) == 0) → Decides is (IsIniKey name entry)
ini_key-decides name entry is some test = (
  λ passes. record { below = λ none. absurd (omega (arith, ap length none)); no_meta = finite.empty_of_len entry.meta (finite.len-entries entry.meta ∙ eqb-true (length (finite.entries entry.meta)) 0 (sym test ∙ passes)) },
  λ key. test ∙ ap (λ (meta : Meta). length (finite.entries meta) == 0) key.no_meta ∙ ap (λ (items : List (List ℕ × List ℕ)). length items == 0) (entries-empty text_cmp (List ℕ)),
)
