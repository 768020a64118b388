-- Of all visible keys a mount owns those of its file, where each file shows only keys that its mount owns.
use Rattle.std.proofs.Common.{◌≡◌, ◌≢◌, ℕ, zero, suc, Bool, true, false, true≢false, cond, List, [], ◌∷◌, slice_get, Option, Some, None, refl, sym, ap, ◌∙◌, arith}
use Rattle.std.specs.FinMap as map
use Rattle.std.specs.List.{fold}
use Rattle.std.specs.Option.{option_or}
use Rattle.general_words.proofs.Lists.{some_is}
use Rattle.general_words.proofs.Maps.{get-retain}
use Rattle.general_words.proofs.Searches.{or_none}
use Rattle.key_set.specs.WithAll.{with_all}
use Rattle.key_set.proofs.WithAllLemmas.{get-with_all}
use Rattle.model_names.specs.Name.{Name}
use Rattle.model_names.specs.Order.{name_cmp}
use Rattle.model_names.proofs.OrderLemmas.{name_cmp_total, name_cmp-IsAntisymmetric}
use Rattle.model_maps.specs.Entry.{Entry}
use Rattle.model_maps.specs.KeyMap.{KeyMap, no_keys}
use Rattle.set_split.specs.Involved.{owns}
use Rattle.set_split.specs.Parts.{owned_by}
use Rattle.set_split.proofs.OwningLemmas.{owner_is}
use Rattle.mounted_files.specs.Visible.{visible_keys, visible_of}
use Rattle.mounted_files.specs.declared.files.MountedFile.{MountedFile}

module _ (name : Name) where
  shown-more : (keys : KeyMap) (file : MountedFile)
      → map.get (with_all (visible_of file.state) keys) name
      ≡ option_or (map.get (visible_of file.state) name) (map.get keys name)
  shown-more keys file = get-with_all (visible_of file.state) keys name

  -- files that show nothing there
  none-shown : (files : List MountedFile) (keys : KeyMap)
      → ((i : ℕ) (file : MountedFile) → slice_get files i ≡ Some file → map.get (visible_of file.state) name ≡ None)
      → map.get (fold (λ (all : KeyMap) (file : MountedFile). with_all (visible_of file.state) all) keys files) name
      ≡ map.get keys name
  none-shown [] keys none = refl
  none-shown (file ∷ files) keys none =
      none-shown files (with_all (visible_of file.state) keys) (λ i other there. none (suc i) other there)
      ∙ shown-more keys file
      ∙ ap (λ o. option_or o (map.get keys name)) (none zero file refl)

  -- one alone may show something
  one-shown : (files : List MountedFile) (m : ℕ) (file : MountedFile) (keys : KeyMap) → slice_get files m ≡ Some file
      → ((i : ℕ) (other : MountedFile) → i ≢ m → slice_get files i ≡ Some other → map.get (visible_of other.state) name ≡ None)
      → map.get (fold (λ (all : KeyMap) (f : MountedFile). with_all (visible_of f.state) all) keys files) name
      ≡ option_or (map.get (visible_of file.state) name) (map.get keys name)
  one-shown [] m file keys there none = absurd cc
  one-shown (first ∷ files) zero file keys there none =
      none-shown files (with_all (visible_of first.state) keys) (λ i other at. none (suc i) other (λ same. absurd cc) at)
      ∙ shown-more keys first
      ∙ ap (λ (f : MountedFile). option_or (map.get (visible_of f.state) name) (map.get keys name)) (some_is first file there)
  one-shown (first ∷ files) (suc m) file keys there none =
      one-shown files m file (with_all (visible_of first.state) keys) there (λ i other apart at. none (suc i) other (λ same. apart (omega (arith, same))) at)
      ∙ ap (option_or (map.get (visible_of file.state) name)) (shown-more keys first ∙ ap (λ o. option_or o (map.get keys name)) (none zero first (λ same. absurd cc) refl))

module _ (points : List Name) (files : List MountedFile) (owned : (i : ℕ) (file : MountedFile) → slice_get files i ≡ Some file → (name : Name) (entry : Entry) → map.get (visible_of file.state) name ≡ Some entry → owns points i name ≡ true) where
  -- a name that a mount owns isn't shown by another's file
  apart : (m i : ℕ) (name : Name) (file : MountedFile) → owns points m name ≡ true → i ≢ m
      → slice_get files i ≡ Some file → map.get (visible_of file.state) name ≡ None
  apart m i name file mine other there = by (map.get (visible_of file.state) name) refl
    where
      by : (o : Option Entry) → map.get (visible_of file.state) name ≡ o → map.get (visible_of file.state) name ≡ None
      by None is = is
      by (Some entry) is =
          let theirs = owned i file there name entry is in
          absurd (other (some_is i m (sym (owner_is points i name theirs) ∙ owner_is points m name mine)))

  pub owned-visible : (m : ℕ) (file : MountedFile) → slice_get files m ≡ Some file
      → owned_by points m (visible_keys files) ≡ visible_of file.state
  owned-visible m file there = map.same_map name_cmp_total name_cmp-IsAntisymmetric _ _ (λ name.
      get-retain name_cmp_total name_cmp-IsAntisymmetric (visible_keys files) (owns points m) name
      ∙ by name (owns points m name) refl)
    where
      outside : (name : Name) → owns points m name ≡ false → (o : Option Entry)
          → map.get (visible_of file.state) name ≡ o → None ≡ o
      outside name off None is = refl
      outside name off (Some entry) is = absurd (true≢false (sym (owned m file there name entry is) ∙ off))

      by : (name : Name) (b : Bool) → owns points m name ≡ b
          → cond (owns points m name) (map.get (visible_keys files) name) None ≡ map.get (visible_of file.state) name
      by name true on =
          ap (λ b. cond b (map.get (visible_keys files) name) None) on
          ∙ one-shown name files m file no_keys there (λ i other other_place at. apart m i name other on other_place at)
          ∙ ap (option_or (map.get (visible_of file.state) name)) (map.get-empty {X = Entry} name_cmp name)
          ∙ or_none (map.get (visible_of file.state) name)
      by name false off =
          ap (λ b. cond b (map.get (visible_keys files) name) None) off
          ∙ outside name off (map.get (visible_of file.state) name) refl
