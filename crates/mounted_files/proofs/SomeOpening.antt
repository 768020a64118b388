-- All files mean something: each has a state, and all of them an opening or its refusal.
use Rattle.std.specs.Prelude.{◌≡◌, ◌⊎◌, ℕ, ◌≤◌, ◌<◌, zero, suc, true, false, Bool, List, [], ◌∷◌, length, slice_get, map as over, Some, Result, Ok, Err}
use Rattle.std.proofs.Common.{refl, sym, ap, ◌∙◌, subst, inl, inr}
use Rattle.std.proofs.lemmas.Bool.{cases_lt}
use Rattle.std.proofs.lemmas.Option.{none-some, same_Some}
use Rattle.kdb_outside.specs.declared.kinds.Kind.{Kind}
use Rattle.kdb_outside.specs.declared.kinds.Kind.TheVariants.{Dump}
use Rattle.model_names.specs.Name.{Name}
use Rattle.model_maps.specs.KeyMap.{KeyMap}
use Rattle.mount_table.specs.Points.{own_point}
use Rattle.mount_table.specs.Table.{table_of, own_mount}
use Rattle.mount_table.specs.declared.faults.TableFault.{TableFault}
use Rattle.mount_table.specs.declared.mounts.Mount.{Mount}
use Rattle.backend_files.specs.WholeFile.{longest_file}
use Rattle.mounted_files.specs.Whole.{whole, all_fit}
use Rattle.mounted_files.specs.Owned.{not_owned_by}
use Rattle.set_split.specs.Parts.{owned_by}
use Rattle.mounted_files.specs.Files.{Badness, Holds, IsCause, IsState, Reading}
use Rattle.mounted_files.specs.Opening.{IsMade, IsMadeByKeys, IsOpened, Opens}
use Rattle.mounted_files.specs.Weighed.{own_weight, weighed}
use Rattle.mounted_files.specs.declared.causes.Cause.{Cause}
use Rattle.mounted_files.specs.declared.causes.Cause.TheVariants.{TooLong, BadFile, TooHeavy}
use Rattle.mounted_files.specs.declared.files.FileState.{FileState}
use Rattle.mounted_files.specs.declared.files.FileState.TheVariants.{Good, Bad}
use Rattle.mounted_files.specs.declared.files.MountedFile.{MountedFile}
use Rattle.mounted_files.specs.declared.refusals.OpenRefusal.{OpenRefusal}
use Rattle.mounted_files.specs.declared.refusals.OpenRefusal.TheVariants as refusal
use Rattle.mounted_files.proofs.PointLemmas.{points-of_mounts}
use Rattle.mounted_files.proofs.WeighLemmas.{mounts-from}

few_or_many : (n : ℕ) → (n ≤ longest_file) ⊎ (longest_file < n)
few_or_many n = by (cases_lt longest_file n)
  where
    by : (longest_file < n) ⊎ (n ≤ longest_file) → (n ≤ longest_file) ⊎ (longest_file < n)
    by (inl many) = inr many
    by (inr few) = inl few

-- for formats whose bytes read as a map, or are bad at a line
module _ (Reads : Reading) (IsBad : Badness) (reads_or_bad : (kind : Kind) (bytes : List ℕ) → ((keys : KeyMap) × Reads kind bytes keys) ⊎ ((line : ℕ) × IsBad kind bytes line)) where
  -- what holds no keys is bad for a cause
  pub Holds-or_bad : (point : Name) (kind : Kind) (bytes : List ℕ)
      → ((keys : KeyMap) × Holds Reads point kind bytes keys)
      ⊎ ((cause : Cause) × IsCause Reads IsBad point kind bytes cause)
  Holds-or_bad point kind bytes = by_length (few_or_many (length bytes))
    where
      by_fit : (keys : KeyMap) → length bytes ≤ longest_file → Reads kind bytes keys → (b : Bool)
          → all_fit point keys ≡ b
          → ((found : KeyMap) × Holds Reads point kind bytes found)
          ⊎ ((cause : Cause) × IsCause Reads IsBad point kind bytes cause)
      by_fit keys few reads true fit =
          inl (whole point keys, record { keys = keys; reads_as = record { few = few; reads = reads }; fit = fit; is = refl })
      by_fit keys few reads false fit =
          inr (BadFile 0, inr (record { keys = keys; reads_as = record { few = few; reads = reads }; too_long = fit; is = refl }))

      by_reading : length bytes ≤ longest_file
          → ((keys : KeyMap) × Reads kind bytes keys) ⊎ ((line : ℕ) × IsBad kind bytes line)
          → ((found : KeyMap) × Holds Reads point kind bytes found)
          ⊎ ((cause : Cause) × IsCause Reads IsBad point kind bytes cause)
      by_reading few (inl r) = by_fit r.0 few r.1 (all_fit point r.0) refl
      by_reading few (inr b) = inr (BadFile b.0, inl (record { few = few; bad = b.1 }))

      by_length : (length bytes ≤ longest_file) ⊎ (longest_file < length bytes)
          → ((found : KeyMap) × Holds Reads point kind bytes found)
          ⊎ ((cause : Cause) × IsCause Reads IsBad point kind bytes cause)
      by_length (inl few) = by_reading few (reads_or_bad kind bytes)
      by_length (inr long) = inr (TooLong (length bytes), record { long = long; is = refl })

  State-some : (points : List Name) (i : ℕ) (mount : Mount) (bytes : List ℕ)
      → (state : FileState) × IsState Reads IsBad points i mount bytes state
  State-some points i mount bytes = by (Holds-or_bad mount.at mount.kind bytes)
    where
      by : ((keys : KeyMap) × Holds Reads mount.at mount.kind bytes keys)
          ⊎ ((cause : Cause) × IsCause Reads IsBad mount.at mount.kind bytes cause)
          → (state : FileState) × IsState Reads IsBad points i mount bytes state
      by (inl h) = (Good (owned_by points i h.0) (not_owned_by points i h.0), (h.0, h.1, refl, refl))
      by (inr b) = (Bad b.0, b.1)

  -- mounts have files with states, whatever their numbers
  States-some : (bytes_of : List ℕ → List ℕ) (points : List Name) (number : ℕ → ℕ) (mounts : List Mount)
      → (files : List MountedFile) × (over (λ file. file.mount) files ≡ mounts)
      × ((i : ℕ) (file : MountedFile) → slice_get files i ≡ Some file → IsState Reads IsBad points (number i) file.mount (bytes_of file.mount.file) file.state)
  States-some bytes_of points number [] = ([], refl, λ i file there. absurd (none-some file there))
  States-some bytes_of points number (mount ∷ mounts) =
      more (State-some points (number 0) mount (bytes_of mount.file)) (States-some bytes_of points (λ i. number (suc i)) mounts)
    where
      more : ((state : FileState) × IsState Reads IsBad points (number 0) mount (bytes_of mount.file) state)
          → ((files : List MountedFile) × (over (λ file. file.mount) files ≡ mounts) × ((i : ℕ) (file : MountedFile) → slice_get files i ≡ Some file → IsState Reads IsBad points (number (suc i)) file.mount (bytes_of file.mount.file) file.state))
          → (files : List MountedFile) × (over (λ file. file.mount) files ≡ mount ∷ mounts)
          × ((i : ℕ) (file : MountedFile) → slice_get files i ≡ Some file → IsState Reads IsBad points (number i) file.mount (bytes_of file.mount.file) file.state)
      more first rest = (this ∷ rest.0, ap (λ l. mount ∷ l) rest.1, at)
        where
          this : MountedFile
          this = record { mount = mount; state = first.0 }

          at : (i : ℕ) (file : MountedFile) → slice_get (this ∷ rest.0) i ≡ Some file
              → IsState Reads IsBad points (number i) file.mount (bytes_of file.mount.file) file.state
          at zero file there =
              subst (λ (f : MountedFile). IsState Reads IsBad points (number 0) f.mount (bytes_of f.mount.file) f.state) (same_Some this file there) first.1
          at (suc i) file there = rest.2 i file there

  -- all files mean an opening, or its refusal
  pub Opens-some : (bytes_of : List ℕ → List ℕ)
      → (opened : Result (List MountedFile) OpenRefusal) × Opens Reads IsBad bytes_of opened × IsMade opened
  Opens-some bytes_of = by (Holds-or_bad own_point Dump (bytes_of own_mount.file))
    where
      by_table : (keys : KeyMap) → Holds Reads own_point Dump (bytes_of own_mount.file) keys
          → (made : Result (List Mount) TableFault) → table_of keys ≡ made
          → (opened : Result (List MountedFile) OpenRefusal) × Opens Reads IsBad bytes_of opened × IsMade opened
      by_table keys holds (Err fault) is =
          (Err (refusal.BadTable fault), λ _. record { keys = keys; holds = holds; is = is }, λ e. absurd cc)
      by_table keys holds (Ok mounts) is =
          let some = States-some bytes_of (over (λ (mount : Mount). mount.at) mounts) (λ i. i) mounts in
          let points = ap (over (λ (mount : Mount). mount.at)) (sym some.1) ∙ points-of_mounts some.0 in (
            Ok (weighed some.0),
            record {
              unweighed = some.0;
              table = record { keys = keys; holds = holds; is = is ∙ ap Ok (sym some.1) };
              states = subst (λ (ps : List Name). (i : ℕ) (file : MountedFile) → slice_get some.0 i ≡ Some file → IsState Reads IsBad ps i file.mount (bytes_of file.mount.file) file.state) points some.2;
              is = refl;
            },
            tt,
          )

      by : ((keys : KeyMap) × Holds Reads own_point Dump (bytes_of own_mount.file) keys)
          ⊎ ((cause : Cause) × IsCause Reads IsBad own_point Dump (bytes_of own_mount.file) cause)
          → (opened : Result (List MountedFile) OpenRefusal) × Opens Reads IsBad bytes_of opened × IsMade opened
      by (inl h) = by_table h.0 h.1 (table_of h.0) refl
      by (inr b) = by_cause b.0 b.1
        where
          by_cause : (cause : Cause) → IsCause Reads IsBad own_point Dump (bytes_of own_mount.file) cause
              → (opened : Result (List MountedFile) OpenRefusal) × Opens Reads IsBad bytes_of opened × IsMade opened
          by_cause (TooLong n) bad = (Err (refusal.TooLong n), λ _. bad, λ e. absurd cc)
          by_cause (BadFile line) bad = (Err (refusal.BadFile line), λ _. bad, λ e. absurd cc)
          by_cause (TooHeavy weight) bad = absurd bad

-- the mounts of opened files are those of a table
pub opened-made : (Reads : Reading) (IsBad : Badness) (bytes_of : List ℕ → List ℕ) (files : List MountedFile)
    → IsOpened Reads IsBad bytes_of files → IsMadeByKeys (over (λ file. file.mount) files)
opened-made Reads IsBad bytes_of files opened = record {
  keys = opened.table.keys;
  is = opened.table.is ∙ ap Ok (sym (ap (over (λ (file : MountedFile). file.mount)) opened.is ∙ mounts-from (own_weight opened.unweighed) opened.unweighed));
}
