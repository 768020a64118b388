-- The union of what mounts own: a name has its entry where one of them owns it.
use Rattle.std.proofs.Common.{◌≡◌, ℕ, Bool, true, false, cond, ◌||◌, List, [], ◌∷◌, ◌++◌, map as over, Option, Some, None, refl, sym, ap, ap₂, ◌∙◌}
use Rattle.std.specs.FinMap as map
use Rattle.std.specs.List.{list_any}
use Rattle.std.specs.Option.{option_or}
use Rattle.model_names.specs.Name.{Name}
use Rattle.model_names.specs.Order.{name_cmp}
use Rattle.model_names.proofs.OrderLemmas.{name_cmp_total, name_cmp-IsAntisymmetric}
use Rattle.model_maps.specs.Entry.{Entry}
use Rattle.model_maps.specs.KeyMap.{KeyMap, no_keys}
use Rattle.set_split.specs.Involved.{involved_in, owns}
use Rattle.set_split.specs.Parts.{owned_by, parts_of, is_reached, in_reach}
use Rattle.set_split.specs.Union.{IsUnion, last_entry}
use Rattle.general_words.proofs.Maps.{get-retain}

either : (a b : Bool) (o : Option Entry) → option_or (cond b o None) (cond a o None) ≡ cond (a || b) o None
either true true None = refl
either true true (Some x) = refl
either true false o = refl
either false true None = refl
either false true (Some x) = refl
either false false o = refl

last_entry-owned : (points : List Name) (keys : KeyMap) (name : Name) (mounts : List ℕ)
    → last_entry (over (λ (part : ℕ × KeyMap). part.1) (over (λ m. (m, owned_by points m keys)) mounts)) name
    ≡ cond (list_any (λ m. owns points m name) mounts) (map.get keys name) None
last_entry-owned points keys name [] = refl
last_entry-owned points keys name (m ∷ mounts) =
    ap₂ option_or (last_entry-owned points keys name mounts) (get-retain name_cmp_total name_cmp-IsAntisymmetric keys (owns points m) name)
    ∙ either (owns points m name) (list_any (λ m. owns points m name) mounts) (map.get keys name)

-- so the parts of a split make the keys in reach
pub united-again : (points : List Name) (parent : Name) (keys united : KeyMap)
    → IsUnion (over (λ (part : ℕ × KeyMap). part.1) (parts_of points parent keys)) united
    → united ≡ in_reach points parent keys
united-again points parent keys united is = map.same_map name_cmp_total name_cmp-IsAntisymmetric united (in_reach points parent keys) (λ name.
    is name
    ∙ last_entry-owned points keys name (involved_in points parent)
    ∙ sym (get-retain name_cmp_total name_cmp-IsAntisymmetric keys (is_reached points parent) name))

-- ---- one map more

-- another map behind some
pub last_entry-next : (maps : List KeyMap) (keys : KeyMap) (name : Name)
    → last_entry (maps ++ keys ∷ []) name ≡ option_or (map.get keys name) (last_entry maps name)
last_entry-next [] keys name = by (map.get keys name)
  where
    by : (o : Option Entry) → option_or None o ≡ option_or o None
    by None = refl
    by (Some x) = refl
last_entry-next (first ∷ maps) keys name =
    ap (λ o. option_or o (map.get first name)) (last_entry-next maps keys name)
    ∙ by (map.get keys name) (last_entry maps name) (map.get first name)
  where
    by : (a b c : Option Entry) → option_or (option_or a b) c ≡ option_or a (option_or b c)
    by None b c = refl
    by (Some x) b c = refl

pub IsUnion-none : IsUnion [] no_keys
IsUnion-none name = map.get-empty name_cmp name

pub IsUnion-next : (maps : List KeyMap) (before others after : KeyMap) → IsUnion maps before
    → ((name : Name) → map.get after name ≡ option_or (map.get others name) (map.get before name))
    → IsUnion (maps ++ others ∷ []) after
IsUnion-next maps before others after is adds name =
    adds name ∙ ap (option_or (map.get others name)) (is name) ∙ sym (last_entry-next maps others name)
