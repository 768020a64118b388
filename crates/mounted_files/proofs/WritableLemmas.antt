-- Files that can be written again: what bytes hold can, weighing keeps that, and one more file joins those before it.
use Rattle.std.proofs.Common.{◌≡◌, ◌⊎◌, ℕ, ◌+◌, ◌≤◌, nat_lt, Bool, true, false, cond, List, [], ◌∷◌, ◌++◌, length, map as over, slice_get, Some, inl, inr, sym, ap, subst, ◌∙◌}
use Rattle.std.specs.List.{insert}
use Rattle.std.proofs.lemmas.Option.{none-some}
use Rattle.general_words.specs.Saturated.{saturated}
use Rattle.general_words.proofs.Places.{last_or_before}
use Rattle.model_names.specs.Name.{Name}
use Rattle.model_maps.specs.KeyMap.{KeyMap, weight, heaviest_map}
use Rattle.mount_table.specs.Table.{own_mount}
use Rattle.mount_table.specs.declared.mounts.Mount.{Mount}
use Rattle.set_split.specs.Parts.{owned_by}
use Rattle.mounted_files.specs.Begun.{Begun, number_of}
use Rattle.mounted_files.specs.Files.{points_of}
use Rattle.mounted_files.specs.Holding.{IsStateOf}
use Rattle.mounted_files.specs.Owned.{not_owned_by}
use Rattle.mounted_files.specs.Weighed.{is_own, weighed_behind, weighed_file}
use Rattle.mounted_files.specs.Whole.{relative}
use Rattle.mounted_files.specs.Writable.{Storing, CanBeStored, CanBeTable, CanBeWritten, CanBeWrittenSoFar, AllCanBeWritten}
use Rattle.mounted_files.specs.declared.causes.Cause.TheVariants.{TooHeavy}
use Rattle.mounted_files.specs.declared.files.FileState.{FileState}
use Rattle.mounted_files.specs.declared.files.FileState.TheVariants as state
use Rattle.mounted_files.specs.declared.files.MountedFile.{MountedFile}
use Rattle.mounted_files.specs.declared.holding.Holding.{Holding}
use Rattle.mounted_files.specs.declared.holding.Holding.TheVariants.{Keys, Bad}
use Rattle.mounted_files.proofs.BegunLemmas.{slice_get-insert}
use Rattle.mounted_files.proofs.WayLemmas.{owned-own, parts-together}

module _ (IsStorable : Storing) where
  -- ---- one file

  -- keys that can be stored, parted by whether the mount owns them
  good-writable : (points : List Name) (i : ℕ) (mount : Mount) (keys : KeyMap)
      → IsStorable mount.kind (relative mount.at keys)
      → CanBeWritten IsStorable points i mount (state.Good (owned_by points i keys) (not_owned_by points i keys))
  good-writable points i mount keys storable = record {
    owned = owned-own points i keys;
    storable = subst (λ (all : KeyMap). IsStorable mount.kind (relative mount.at all)) (sym (parts-together points i keys)) storable;
  }

  -- what bytes hold
  pub held-writable : (points : List Name) (i : ℕ) (mount : Mount) (holding : Holding) (found : FileState)
      → CanBeStored IsStorable mount.at mount.kind holding → IsStateOf points i holding found
      → CanBeWritten IsStorable points i mount found
  held-writable points i mount (Keys keys) found storable is =
      subst (λ (s : FileState). CanBeWritten IsStorable points i mount s) (sym is) (good-writable points i mount keys storable)
  held-writable points i mount (Bad cause) found storable is =
      subst (λ (s : FileState). CanBeWritten IsStorable points i mount s) (sym is) (record {})

  -- a file that is weighed can be written still, or is bad
  pub weighed-writable : (points : List Name) (i : ℕ) (mount : Mount) (sum : ℕ) (found : FileState)
      → CanBeWritten IsStorable points i mount found → CanBeWritten IsStorable points i mount (weighed_behind sum found)
  weighed-writable points i mount sum (state.Good visible shadow) can = by (nat_lt heaviest_map (sum + weight visible))
    where
      by : (b : Bool)
          → CanBeWritten IsStorable points i mount (cond b (state.Bad (TooHeavy (saturated (sum + weight visible)))) (state.Good visible shadow))
      by true = record {}
      by false = can
  weighed-writable points i mount sum (state.Bad cause) can = record {}

  -- ---- the files so far

  -- the table's own file alone
  pub writable-first : (begun : Begun) (table : List Mount) (keys : KeyMap) → CanBeTable IsStorable keys
      → begun.table ≡ table
      → begun.own
      ≡ weighed_behind 0 (state.Good (owned_by (over (λ (mount : Mount). mount.at) table) begun.place keys) (not_owned_by (over (λ (mount : Mount). mount.at) table) begun.place keys))
      → begun.files ≡ [] → CanBeWrittenSoFar IsStorable begun
  writable-first begun table keys storable table_is own_is none = record {
    own =
        subst (λ (t : List Mount). CanBeWritten IsStorable (over (λ (mount : Mount). mount.at) t) begun.place own_mount begun.own) (sym table_is)
        (subst (λ (s : FileState). CanBeWritten IsStorable (over (λ (mount : Mount). mount.at) table) begun.place own_mount s) (sym own_is)
        (weighed-writable points begun.place own_mount 0 (state.Good (owned_by points begun.place keys) (not_owned_by points begun.place keys)) (good-writable points begun.place own_mount keys storable)));
    others = λ i file there. absurd (none-some file (ap (λ files. slice_get files i) (sym none) ∙ there));
  }
    where
      points : List Name
      points = over (λ (mount : Mount). mount.at) table

  -- one more file
  pub writable-more : (begun : Begun) (sum : ℕ) (file : MountedFile) → CanBeWrittenSoFar IsStorable begun
      → CanBeWritten IsStorable (over (λ mount. mount.at) begun.table) (number_of begun.place (length begun.files)) file.mount file.state
      → CanBeWrittenSoFar IsStorable (record begun { files = begun.files ++ weighed_file sum file ∷ [] })
  writable-more begun sum file before can =
      record {
        own = before.own;
        others = λ i other there. by i other (last_or_before begun.files (weighed_file sum file) other i there);
      }
    where
      points : List Name
      points = over (λ mount. mount.at) begun.table

      by : (i : ℕ) (other : MountedFile)
          → (slice_get begun.files i ≡ Some other) ⊎ ((i ≡ length begun.files) × (weighed_file sum file ≡ other))
          → CanBeWritten IsStorable points (number_of begun.place i) other.mount other.state
      by i other (inl there) = before.others i other there
      by i other (inr last) =
          subst (λ (f : MountedFile). CanBeWritten IsStorable points (number_of begun.place i) f.mount f.state) last.1
          (subst (λ (n : ℕ). CanBeWritten IsStorable points (number_of begun.place n) file.mount (weighed_file sum file).state) (sym last.0)
          (weighed-writable points (number_of begun.place (length begun.files)) file.mount (cond (is_own file) 0 sum) file.state can))

  -- all files together
  pub all-writable : (begun : Begun) (files : List MountedFile) → CanBeWrittenSoFar IsStorable begun
      → begun.place ≤ length begun.files
      → files ≡ insert begun.files begun.place (record { mount = own_mount; state = begun.own })
      → over (λ mount. mount.at) begun.table ≡ points_of files → AllCanBeWritten IsStorable files
  all-writable begun files can within is points_are i file there =
      subst (λ (points : List Name). CanBeWritten IsStorable points i file.mount file.state) points_are
      (by (slice_get-insert begun.files begun.place (record { mount = own_mount; state = begun.own }) i file within (ap (λ all. slice_get all i) (sym is) ∙ there)))
    where
      points : List Name
      points = over (λ mount. mount.at) begun.table

      by : ((i ≡ begun.place) × (record { mount = own_mount; state = begun.own } ≡ file))
          ⊎ ((j : ℕ) × (number_of begun.place j ≡ i) × (slice_get begun.files j ≡ Some file))
          → CanBeWritten IsStorable points i file.mount file.state
      by (inl here) =
          subst (λ (f : MountedFile). CanBeWritten IsStorable points i f.mount f.state) here.1
          (subst (λ (n : ℕ). CanBeWritten IsStorable points n own_mount begun.own) (sym here.0) can.own)
      by (inr other) =
          subst (λ (n : ℕ). CanBeWritten IsStorable points n file.mount file.state) other.1 (can.others other.0 file other.2)
