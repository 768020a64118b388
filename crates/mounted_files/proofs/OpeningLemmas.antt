-- One more file joins those that were added, and all of them are what the files mean.
use Rattle.std.proofs.Common.{◌≡◌, ◌⊎◌, ℕ, ◌+◌, ◌≤◌, Bool, true, false, cond, List, [], ◌∷◌, ◌++◌, length, map as over, slice_get, Some, Ok, inl, inr, refl, sym, ap, subst, ◌∙◌, arith}
use Rattle.std.specs.List.{insert, sum_by}
use Rattle.std.specs.List.Sorted.{IsStrictlySortedBy}
use Rattle.std.specs.Option.{option_map}
use Rattle.std.proofs.lemmas.List.{length-map}
use Rattle.std.proofs.lemmas.Option.{none-some, slice_get_within, slice_get-map}
use Rattle.kdb_outside.specs.declared.kinds.Kind.TheVariants.{Dump}
use Rattle.model_names.specs.Name.{Name}
use Rattle.model_maps.specs.KeyMap.{KeyMap}
use Rattle.set_split.specs.Parts.{owned_by}
use Rattle.mounted_files.specs.Owned.{not_owned_by}
use Rattle.mounted_files.specs.declared.files.FileState.TheVariants.{Good}
use Rattle.model_names.specs.Order.{name_cmp}
use Rattle.mount_table.specs.Points.{own_point}
use Rattle.mount_table.specs.Table.{own_mount, table_of}
use Rattle.mount_table.specs.declared.mounts.Mount.{Mount}
use Rattle.mounted_files.specs.Begins.{Begins}
use Rattle.mounted_files.specs.Begun.{Begun, number_of, others}
use Rattle.mounted_files.specs.Files.{AreStates, Badness, Holds, IsState, Reading, points_of}
use Rattle.mounted_files.specs.Opening.{IsOpened, MakesTable}
use Rattle.mounted_files.specs.Weighed.{added_weight, is_own, visible_weight, weighed, weighed_behind, weighed_file, weighed_from}
use Rattle.mounted_files.specs.declared.files.FileState.{FileState}
use Rattle.mounted_files.specs.declared.files.MountedFile.{MountedFile}
use Rattle.mounted_files.proofs.BegunLemmas.{insert-remove, length-remove, length-weighed, number_of-other, over-insert, own_weight-insert, slice_get-insert, slice_get-remove, weighed_from-append, weighed_from-insert}
use Rattle.model_names.proofs.OrderLemmas.{name_decides}
use Rattle.mount_table.proofs.OwnFileLemmas.{one_place}
use Rattle.mounted_files.proofs.PlaceLemmas.{own-name_eq}
use Rattle.mounted_files.proofs.PointLemmas.{points-of_mounts}
use Rattle.general_words.proofs.Places.{last_or_before}
use Rattle.mounted_files.proofs.WeighLemmas.{mounts-from}

module _ (Reads : Reading) (IsBad : Badness) (bytes_of : List ℕ → List ℕ) where
  -- nothing was added yet
  pub begins-first : (begun : Begun) (table : List Mount) (keys : KeyMap)
      → Holds Reads own_point Dump (bytes_of own_mount.file) keys → table_of keys ≡ Ok table → begun.table ≡ table
      → begun.own
      ≡ weighed_behind 0 (Good (owned_by (over (λ (mount : Mount). mount.at) table) begun.place keys) (not_owned_by (over (λ (mount : Mount). mount.at) table) begun.place keys))
      → begun.files ≡ [] → Begins Reads IsBad bytes_of begun
  begins-first begun table keys holds makes table_is own_is none = record {
    table = record { keys = keys; holds = holds; is = makes ∙ ap Ok (sym table_is) };
    own_state = Good (owned_by (over (λ (mount : Mount). mount.at) begun.table) begun.place keys) (not_owned_by (over (λ (mount : Mount). mount.at) begun.table) begun.place keys);
    own_is = (keys, holds, refl, refl);
    own = own_is ∙ ap (λ (t : List Mount). weighed_behind 0 (Good (owned_by (over (λ (mount : Mount). mount.at) t) begun.place keys) (not_owned_by (over (λ (mount : Mount). mount.at) t) begun.place keys))) (sym table_is);
    unweighed = [];
    states = λ i file there. absurd (none-some file there);
    is = none;
  }

  -- one more file
  pub begins-more : (begun : Begun) (sum : ℕ) (file : MountedFile) → Begins Reads IsBad bytes_of begun
      → sum ≡ visible_weight begun.own + sum_by added_weight begun.files
      → IsState Reads IsBad (over (λ mount. mount.at) begun.table) (number_of begun.place (length begun.files)) file.mount (bytes_of file.mount.file) file.state
      → Begins Reads IsBad bytes_of (record begun { files = begun.files ++ weighed_file sum file ∷ [] })
  begins-more begun sum file b sum_is state = record {
    table = b.table;
    own_state = b.own_state;
    own_is = b.own_is;
    own = b.own;
    unweighed = b.unweighed ++ file ∷ [];
    states = λ i other there. by i other (last_or_before b.unweighed file other i there);
    is = ap (λ l. l ++ weighed_file sum file ∷ []) b.is ∙ (ap (λ n. weighed_from own b.unweighed ++ weighed_file n file ∷ []) same_sum ∙ sym (weighed_from-append own b.unweighed (file ∷ [])));
  }
    where
      own : ℕ
      own = visible_weight begun.own

      same_sum : sum
          ≡ visible_weight begun.own + sum_by added_weight (weighed_from (visible_weight begun.own) b.unweighed)
      same_sum = sum_is ∙ ap (λ l. visible_weight begun.own + sum_by added_weight l) b.is

      counted : length begun.files ≡ length b.unweighed
      counted = ap length b.is ∙ length-weighed (visible_weight begun.own) b.unweighed

      by : (i : ℕ) (other : MountedFile)
          → (slice_get b.unweighed i ≡ Some other) ⊎ ((i ≡ length b.unweighed) × (file ≡ other))
          → IsState Reads IsBad (over (λ mount. mount.at) begun.table) (number_of begun.place i) other.mount (bytes_of other.mount.file) other.state
      by i other (inl before) = b.states i other before
      by i other (inr last) =
          subst (λ (f : MountedFile). IsState Reads IsBad (over (λ mount. mount.at) begun.table) (number_of begun.place i) f.mount (bytes_of f.mount.file) f.state) last.1
          (subst (λ (n : ℕ). IsState Reads IsBad (over (λ mount. mount.at) begun.table) (number_of begun.place n) file.mount (bytes_of file.mount.file) file.state) (counted ∙ sym last.0) state)

  module _ (begun : Begun) (b : Begins Reads IsBad bytes_of begun) (own_there : slice_get begun.table begun.place ≡ Some own_mount) (sorted : IsStrictlySortedBy name_cmp (over (λ (mount : Mount). mount.at) begun.table)) (mounts : over (λ (file : MountedFile). file.mount) begun.files ≡ others begun) where
    abbrev own_file : MountedFile
    own_file = record { mount = own_mount; state = b.own_state }

    abbrev all : List MountedFile
    all = insert b.unweighed begun.place own_file

    its_own : is_own own_file ≡ true
    its_own = own-name_eq own_point refl

    other_mounts : over (λ (file : MountedFile). file.mount) b.unweighed ≡ others begun
    other_mounts =
        sym (mounts-from (visible_weight begun.own) b.unweighed)
        ∙ (ap (over (λ (file : MountedFile). file.mount)) (sym b.is) ∙ mounts)

    all_mounts : over (λ (file : MountedFile). file.mount) all ≡ begun.table
    all_mounts =
        over-insert (λ (file : MountedFile). file.mount) b.unweighed begun.place own_file
        ∙ (ap (λ ms. insert ms begun.place own_mount) other_mounts ∙ insert-remove begun.table begun.place own_mount own_there)

    points : over (λ (mount : Mount). mount.at) begun.table ≡ points_of all
    points = ap (over (λ (mount : Mount). mount.at)) (sym all_mounts) ∙ points-of_mounts all

    within : begun.place ≤ length b.unweighed
    within =
        let counted : length (over (λ (file : MountedFile). file.mount) b.unweighed) ≡ length b.unweighed = length-map b.unweighed (λ (file : MountedFile). file.mount) in
        let same = ap length other_mounts in
        let one_more = length-remove begun.table begun.place own_mount own_there in
        let below = slice_get_within begun.table begun.place own_mount own_there in
        omega (arith, counted, same, one_more, below)

    states : AreStates Reads IsBad bytes_of (points_of all) all
    states j file there = by (slice_get-insert b.unweighed begun.place own_file j file within there)
      where
        by : ((j ≡ begun.place) × (own_file ≡ file))
            ⊎ ((i : ℕ) × (number_of begun.place i ≡ j) × (slice_get b.unweighed i ≡ Some file))
            → IsState Reads IsBad (points_of all) j file.mount (bytes_of file.mount.file) file.state
        by (inl here) =
            subst (λ (f : MountedFile). IsState Reads IsBad (points_of all) j f.mount (bytes_of f.mount.file) f.state) here.1
            (subst (λ (ps : List Name). IsState Reads IsBad ps j own_mount (bytes_of own_mount.file) b.own_state) points
            (subst (λ (n : ℕ). IsState Reads IsBad (over (λ mount. mount.at) begun.table) n own_mount (bytes_of own_mount.file) b.own_state) (sym here.0) b.own_is))
        by (inr other) =
            subst (λ (ps : List Name). IsState Reads IsBad ps j file.mount (bytes_of file.mount.file) file.state) points
            (subst (λ (n : ℕ). IsState Reads IsBad (over (λ mount. mount.at) begun.table) n file.mount (bytes_of file.mount.file) file.state) other.1 (b.states other.0 file other.2))

    point_at : (n : ℕ) (mount : Mount) → slice_get begun.table n ≡ Some mount
        → slice_get (over (λ (m : Mount). m.at) begun.table) n ≡ Some mount.at
    point_at n mount there =
        slice_get-map (λ (m : Mount). m.at) begun.table n ∙ ap (option_map (λ (m : Mount). m.at)) there

    none_own : (i : ℕ) (file : MountedFile) → slice_get b.unweighed i ≡ Some file → is_own file ≡ false
    none_own i file there = by (is_own file) refl
      where
        mount_there : slice_get begun.table (number_of begun.place i) ≡ Some file.mount
        mount_there =
            sym (slice_get-remove begun.table begun.place i)
            ∙ (ap (λ ms. slice_get ms i) (sym other_mounts) ∙ (slice_get-map (λ (f : MountedFile). f.mount) b.unweighed i ∙ ap (option_map (λ (f : MountedFile). f.mount)) there))

        by : (test : Bool) → is_own file ≡ test → is_own file ≡ false
        by false is = is
        by true is =
            let point = (name_decides file.mount.at own_point).0 is in
            let at = point_at (number_of begun.place i) file.mount mount_there ∙ ap Some point in
            absurd (number_of-other begun.place i (one_place (over (λ (m : Mount). m.at) begun.table) own_point (number_of begun.place i) begun.place sorted at (point_at begun.place own_mount own_there)))

    weights : insert begun.files begun.place (record { mount = own_mount; state = begun.own }) ≡ weighed all
    weights =
        ap (λ l. insert l begun.place (record { mount = own_mount; state = begun.own })) b.is
        ∙ (ap (λ f. insert (weighed_from (visible_weight begun.own) b.unweighed) begun.place f) own_weighed
        ∙ (sym (weighed_from-insert own_file its_own (visible_weight begun.own) b.unweighed begun.place within)
        ∙ ap (λ n. weighed_from n all) (ap visible_weight b.own ∙ sym (own_weight-insert own_file its_own b.unweighed begun.place within none_own))))
      where
        both : (test : Bool) (state : FileState) → weighed_behind 0 state ≡ weighed_behind (cond test 0 0) state
        both true state = refl
        both false state = refl

        own_weighed : record { mount = own_mount; state = begun.own } ≡ weighed_file 0 own_file
        own_weighed = λ k. record { mount = own_mount; state = (b.own ∙ both (is_own own_file) b.own_state) k }

    -- all files together
    pub is-opened : (mounted : List MountedFile)
        → mounted ≡ insert begun.files begun.place (record { mount = own_mount; state = begun.own })
        → IsOpened Reads IsBad bytes_of mounted
    is-opened mounted is = record {
      unweighed = all;
      table = subst (λ t. MakesTable Reads (bytes_of own_mount.file) (Ok t)) (sym all_mounts) b.table;
      states = states;
      is = is ∙ weights;
    }
