-- Keys that are made of others have short texts, where these have.
use Rattle.std.proofs.Common.{◌≡◌, ℕ, Bool, true, false, cond, List, [], ◌∷◌, map as over, filter_map, Option, Some, None, refl, sym, ap, subst, ◌∙◌}
use Rattle.std.specs.FinMap as map
use Rattle.std.specs.FinMap.{find}
use Rattle.std.specs.List.{AllByRecursion, cons_option, list_any}
use Rattle.std.specs.Option.{option_map, option_or}
use Rattle.std.specs.Ordering.{eq_by_cmp}
use Rattle.key_name.specs.Joining.{way_to}
use Rattle.key_set.specs.WithAll.{with_all}
use Rattle.model_names.specs.Name.{Name}
use Rattle.model_names.specs.Order.{name_cmp}
use Rattle.general_words.specs.Searches.{first_some}
use Rattle.model_names.proofs.OrderLemmas.{name_cmp_total, name_cmp-IsAntisymmetric}
use Rattle.model_maps.specs.Entry.{Entry}
use Rattle.model_maps.specs.KeyMap.{KeyMap, no_keys}
use Rattle.set_split.specs.Involved.{owns}
use Rattle.set_split.specs.Parts.{owned_by}
use Rattle.general_words.proofs.Maps.{get-retain}
use Rattle.general_words.proofs.Orders.{tied}
use Rattle.general_words.proofs.Tests.{cond_some}
use Rattle.mounted_files.specs.Setting.{first_long_in, long_in, long_text}
use Rattle.mounted_files.specs.Short.{AreShort}
use Rattle.mounted_files.specs.Whole.{as_way, as_whole, relative, whole}
use Rattle.mounted_files.proofs.MapLemmas.{each-with_keys, each-none, all-entries}

-- keys that pass a test are short where all are
pub short-kept : (keys : KeyMap) (p : Name → Bool) → AreShort keys → AreShort (map.retain_keys keys p)
short-kept keys p short name entry found =
    short name entry (cond_some (p name) (map.get keys name) entry (sym (get-retain name_cmp_total name_cmp-IsAntisymmetric keys p name) ∙ found)).1

all_over : (f : Name × Entry → Name × Entry) → ((e : Name × Entry) → (f e).1 ≡ e.1) → (es : List (Name × Entry))
    → AllByRecursion (λ (e : Name × Entry). long_text e.1 ≡ None) es
    → AllByRecursion (λ (e : Name × Entry). long_text e.1 ≡ None) (over f es)
all_over f same [] all = tt
all_over f same (e ∷ es) all = (ap long_text (same e) ∙ all.0, all_over f same es all.1)

-- whole keys are short where the keys of the file are
pub short-whole : (point : Name) (keys : KeyMap) → AreShort keys → AreShort (whole point keys)
short-whole point keys short =
    each-with_keys (λ (x : Entry). long_text x ≡ None) (over (as_whole point) (map.entries keys)) no_keys
    (all_over (as_whole point) (λ e. refl) (map.entries keys) (all-entries (λ (x : Entry). long_text x ≡ None) keys short))
    (each-none (λ _ (x : Entry). long_text x ≡ None))

one_way : (e : Name × Entry) (o : Option Name) (rest : List (Name × Entry)) → long_text e.1 ≡ None
    → AllByRecursion (λ (e : Name × Entry). long_text e.1 ≡ None) rest
    → AllByRecursion (λ (e : Name × Entry). long_text e.1 ≡ None) (cons_option (option_map {U = Name × Entry} (λ w. (w, e.1)) o) rest)
one_way e None rest short all = all
one_way e (Some way) rest short all = (short, all)

all_ways : (point : Name) (es : List (Name × Entry)) → AllByRecursion (λ (e : Name × Entry). long_text e.1 ≡ None) es
    → AllByRecursion (λ (e : Name × Entry). long_text e.1 ≡ None) (filter_map (as_way point) es)
all_ways point [] all = tt
all_ways point (e ∷ es) all =
    one_way e (way_to point e.0) (filter_map (as_way point) es) all.0 (all_ways point es all.1)

pub short-relative : (point : Name) (keys : KeyMap) → AreShort keys → AreShort (relative point keys)
short-relative point keys short =
    each-with_keys (λ (x : Entry). long_text x ≡ None) (filter_map (as_way point) (map.entries keys)) no_keys
    (all_ways point (map.entries keys) (all-entries (λ (x : Entry). long_text x ≡ None) keys short))
    (each-none (λ _ (x : Entry). long_text x ≡ None))

pub short-with_all : (others keys : KeyMap) → AreShort others → AreShort keys → AreShort (with_all others keys)
short-with_all others keys short before =
    each-with_keys (λ (x : Entry). long_text x ≡ None) (map.entries others) keys (all-entries (λ (x : Entry). long_text x ≡ None) others short) before

-- nothing is told of a key that is found among keys of which nothing is told
none-find : (f : Name × Entry → Option (Name × ℕ)) (es : List (Name × Entry)) (name : Name) (entry : Entry)
    → first_some f es ≡ None → find name_cmp name es ≡ Some entry → f (name, entry) ≡ None
none-find f [] name entry none found = absurd cc
none-find f (e ∷ es) name entry none found =
    elim (eq_by_cmp name_cmp name e.0) as (λ b. eq_by_cmp name_cmp name e.0 ≡ b → cond b (Some e.1) (find name_cmp name es) ≡ Some entry → f (name, entry) ≡ None) [
      | true ↦ λ is h.
          let same : e.0 ≡ name = sym (name_cmp-IsAntisymmetric name e.0 (tied _ is)) in
          let this : e.1 ≡ entry = cc in
          subst (λ (k : Name × Entry). f k ≡ None) (λ i. (same i, this i)) (front (f e) none)
      | false ↦ λ is h. none-find f es name entry (back (f e) none) h
    ] refl found
  where
    front : (o : Option (Name × ℕ)) → option_or o (first_some f es) ≡ None → o ≡ None
    front None h = refl
    front (Some x) h = h

    back : (o : Option (Name × ℕ)) → option_or o (first_some f es) ≡ None → first_some f es ≡ None
    back None h = h
    back (Some x) h = absurd cc

module _ (points : List Name) (keys : KeyMap) (mounts : List ℕ) (none : first_long_in points mounts keys ≡ None) where
  -- the keys that one of the mounts owns are short
  pub owned-short : (i : ℕ)
      → ((name : Name) → owns points i name ≡ true → list_any (λ j. owns points j name) mounts ≡ true)
      → AreShort (owned_by points i keys)
  owned-short i within name entry found =
      let kept = cond_some (owns points i name) (map.get keys name) entry (sym (get-retain name_cmp_total name_cmp-IsAntisymmetric keys (owns points i) name) ∙ found) in
      by name (list_any (λ j. owns points j name) mounts) (within name kept.0) (long_text entry) (none-find (long_in points mounts) (map.entries keys) name entry none (sym (map.get-entries keys name) ∙ kept.1))
    where
      by : (n : Name) (b : Bool) → b ≡ true → (o : Option ℕ)
          → cond b (option_map {U = Name × ℕ} (λ bytes. (n, bytes)) o) None ≡ None → o ≡ None
      by n true is None h = refl
      by n true is (Some k) h = absurd cc
      by n false is o h = absurd cc
