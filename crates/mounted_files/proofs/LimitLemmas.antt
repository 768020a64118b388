-- Keys with sound names and short texts that weigh little enough are within the limits of a file, and such keys have
-- short texts.
use Rattle.std.proofs.Common.{◌≡◌, ℕ, ◌≤◌, nat_lt, Bool, true, false, cond, List, [], ◌∷◌, length, map as over, Some, None, refl, sym, ap, subst, ◌∙◌}
use Rattle.std.specs.FinMap as map
use Rattle.std.specs.FinMap.{find}
use Rattle.std.specs.List.{AllByRecursion}
use Rattle.std.specs.Option.{option_or}
use Rattle.std.specs.Ordering.{eq_by_cmp}
use Rattle.std.proofs.lemmas.Bool.{cond-false, ltb-false, le-ltb}
use Rattle.std.proofs.lemmas.Cmp.{nat_list_cmp_total}
use Rattle.model_names.specs.Name.{Name}
use Rattle.general_words.specs.Searches.{first_some}
use Rattle.general_words.specs.Texts.{text_cmp}
use Rattle.model_maps.specs.Entry.{Entry, longest_value}
use Rattle.model_maps.specs.KeyMap.{KeyMap, weight, heaviest_map}
use Rattle.model_maps.specs.Limits.{IsLimited, IsLimitedKey}
use Rattle.mounted_files.specs.Setting.{if_long}
use Rattle.mounted_files.specs.Short.{AreShort}
use Rattle.mounted_files.specs.Sound.{AreSound, AreCascading}
use Rattle.general_words.proofs.Maps.{get-at}
use Rattle.general_words.proofs.Lists.{all_from_places}
use Rattle.general_words.proofs.Searches.{none_before, none_behind}

not_long : (text : List ℕ) → if_long text ≡ None → length text ≤ longest_value
not_long text e = ltb-false longest_value (length text) (by (nat_lt longest_value (length text)) e)
  where
    by : (b : Bool) → cond b (Some (length text)) None ≡ None → b ≡ false
    by true h = absurd cc
    by false h = refl

is_short : (text : List ℕ) → length text ≤ longest_value → if_long text ≡ None
is_short text le =
    cond-false (nat_lt longest_value (length text)) (Some (length text)) None (le-ltb longest_value (length text) le)

-- what is found among short texts is short
short-find : (items : List (List ℕ × List ℕ)) (name text : List ℕ)
    → first_some if_long (over (λ item. item.1) items) ≡ None → find text_cmp name items ≡ Some text
    → length text ≤ longest_value
short-find [] name text short found = absurd cc
short-find (item ∷ items) name text short found =
    elim (eq_by_cmp text_cmp name item.0) as (λ b. cond b (Some item.1) (find text_cmp name items) ≡ Some text → length text ≤ longest_value) [
      | true ↦ λ e. let this : item.1 ≡ text = cc in subst (λ (t : List ℕ). length t ≤ longest_value) this (not_long item.1 (none_before _ _ short))
      | false ↦ λ e. short-find items name text (none_behind _ _ short) e
    ] found

-- short texts are not long
short-all : (items : List (List ℕ × List ℕ))
    → AllByRecursion (λ (item : List ℕ × List ℕ). length item.1 ≤ longest_value) items
    → first_some if_long (over (λ item. item.1) items) ≡ None
short-all [] all = refl
short-all (item ∷ items) all =
    ap (λ o. option_or o (first_some if_long (over (λ i. i.1) items))) (is_short item.1 all.0) ∙ short-all items all.1

-- keys that are within the limits have short texts
pub short-limited : (keys : KeyMap) → IsLimited keys → AreShort keys
short-limited keys limited name entry found =
    let key = limited.each name entry found in
    let metas = all_from_places (λ (item : List ℕ × List ℕ). length item.1 ≤ longest_value) (map.entries entry.meta) (λ i item there. (key.each_meta item.0 item.1 (get-at nat_list_cmp_total entry.meta i item there)).is_value.limit) in
    ap (λ o. option_or o (first_some if_long (over (λ (i : List ℕ × List ℕ). i.1) (map.entries entry.meta)))) (is_short entry.value key.is_value.limit)
    ∙ short-all (map.entries entry.meta) metas

-- they have cascading names
pub cascading-limited : (keys : KeyMap) → IsLimited keys → AreCascading keys
cascading-limited keys limited name entry found = (limited.each name entry found).cascading

-- sound keys with short texts that weigh little enough are within the limits
pub limited-from : (point : Name) (keys : KeyMap) → AreSound point keys → AreShort keys → weight keys ≤ heaviest_map
    → IsLimited keys
limited-from point keys sound short light = record { each = each; light = light }
  where
    each : (name : Name) (entry : Entry) → map.get keys name ≡ Some entry → IsLimitedKey name entry
    each name entry found =
        let key = sound name entry found in
        let none = short name entry found in
        record {
          is_name = key.is_name;
          cascading = key.cascading;
          is_value = record { utf8 = key.value; limit = not_long entry.value (none_before (if_long entry.value) (first_some if_long (over (λ (i : List ℕ × List ℕ). i.1) (map.entries entry.meta))) none) };
          each_meta = λ meta_name text there. record {
            is_name = key.meta_names meta_name text there;
            is_value = record { utf8 = key.meta_texts meta_name text there; limit = short-find (map.entries entry.meta) meta_name text (none_behind (if_long entry.value) (first_some if_long (over (λ (i : List ℕ × List ℕ). i.1) (map.entries entry.meta))) none) (sym (map.get-entries entry.meta meta_name) ∙ there) };
          };
        }
