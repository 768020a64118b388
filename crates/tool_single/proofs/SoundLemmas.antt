-- The store of opened files is sound: what a file was read from can be written again, and its texts are short.
use Rattle.std.proofs.Common.{◌≡◌, ℕ, zero, suc, ◌+◌, cond, List, [], ◌∷◌, map as over, slice_get, Some, refl, sym, ap, ap₂, subst, ◌∙◌}
use Rattle.std.proofs.lemmas.Option.{none-some, same_Some}
use Rattle.all_formats.specs.Laws as laws
use Rattle.all_formats.specs.Meanings as all
use Rattle.general_words.proofs.Lists.{all_from_places}
use Rattle.model_maps.specs.KeyMap.{KeyMap}
use Rattle.model_maps.specs.Limits.{IsLimited}
use Rattle.model_names.specs.Name.{Name}
use Rattle.model_store.specs.Sound.{IsSound}
use Rattle.model_store.proofs.SoundLemmas.{sound_store}
use Rattle.mount_table.specs.declared.mounts.Mount.{Mount}
use Rattle.mounted_files.specs.Files.{IsState, points_of}
use Rattle.mounted_files.specs.Opening.{IsOpened}
use Rattle.mounted_files.specs.Owned.{not_owned_by}
use Rattle.mounted_files.specs.Short.{AreShort, HasShortTexts, HaveShortTexts}
use Rattle.mounted_files.specs.Weighed.{added_weight, is_own, own_weight, weighed_file, weighed_from}
use Rattle.mounted_files.specs.Whole.{relative, whole}
use Rattle.mounted_files.specs.Writable.{AllCanBeWritten, CanBeWritten}
use Rattle.mounted_files.specs.declared.files.FileState.{FileState}
use Rattle.mounted_files.specs.declared.files.FileState.TheVariants as state
use Rattle.mounted_files.specs.declared.files.MountedFile.{MountedFile}
use Rattle.mounted_files.specs.declared.holding.Holding.TheVariants.{Keys}
use Rattle.mounted_files.proofs.ChangeLemmas.{short-kept, short-whole}
use Rattle.mounted_files.proofs.LimitLemmas.{cascading-limited, short-limited}
use Rattle.mounted_files.proofs.PointLemmas.{points-of_mounts}
use Rattle.mounted_files.proofs.SomeOpening.{opened-made}
use Rattle.mounted_files.proofs.WayLemmas.{relative-whole}
use Rattle.mounted_files.proofs.WeighLemmas.{mounts-from, weighed_file-short}
use Rattle.mounted_files.proofs.WritableLemmas.{held-writable, weighed-writable}
use Rattle.set_split.specs.Involved.{owns}
use Rattle.std.specs.Prelude.{not}
use Rattle.storage_api.specs.declared.formats.Formats.{Ghosts}
use Rattle.tool_single.specs.Alone.{store_alone}
use Rattle.tool_single.specs.Sets.{formats}
use Rattle.model_maps.specs.KeyMap.{no_keys}

-- all formats with their laws
abbrev the_formats : Ghosts ℕ
the_formats = record {
  reads = all.Reads;
  is_bad_at = all.IsBadAt;
  text = all.text;
  holds = all.Holds;
  is_storable = all.IsStorable;
  breaks_at = all.BreaksAt;
  is_keywise = all.is_keywise;
  text_reads = λ kind. (laws.lawful kind).text_reads;
  one_reading = laws.Reads-once;
  read_is_storable = λ kind. (laws.lawful kind).read_is_storable;
  read_is_limited = λ kind. (laws.lawful kind).read_is_limited;
  empty_reads = λ kind. (laws.lawful kind).empty_reads;
  reads_or_bad = laws.Reads-or_bad;
  read_is_not_bad = laws.Reads-not_bad;
  one_line = laws.IsBadAt-once;
  held_is_storable = laws.held-storable;
  storable_is_held = laws.storable-held;
  storable_or_breaks = laws.storable-or_breaks;
  breaks_first = laws.BreaksAt-first;
  storable_breaks_nowhere = laws.storable-breaks_nowhere;
  one_break = laws.BreaksAt-once;
  breaks_at_a_key = laws.BreaksAt-key;
  held_alone = laws.held-alone;
  by_keys = laws.by-keys;
  dump_is_keywise = refl;
  ini_is_keywise = refl;
}

-- ---- the state of a file

module _ (points : List Name) (i : ℕ) (mount : Mount) (bytes : List ℕ) where
  state-writable : (s : FileState) → IsState all.Reads all.IsBadAt points i mount bytes s
      → CanBeWritten all.IsStorable points i mount s
  state-writable (state.Good visible shadow) is =
      let held = is.1 in
      let limited : IsLimited held.keys = (laws.lawful mount.kind).read_is_limited bytes held.keys held.reads_as.reads in
      let again : relative mount.at is.0 ≡ held.keys = ap (relative mount.at) held.is ∙ relative-whole mount.at held.keys (cascading-limited held.keys limited) in
      held-writable all.IsStorable points i mount (Keys is.0) (state.Good visible shadow)
      (subst (λ (keys : KeyMap). all.IsStorable mount.kind keys) (sym again) ((laws.lawful mount.kind).read_is_storable bytes held.keys held.reads_as.reads))
      (ap₂ state.Good is.2 is.3)
  state-writable (state.Bad cause) is = record {}

  state-short : (s : FileState) → IsState all.Reads all.IsBadAt points i mount bytes s → HasShortTexts s
  state-short (state.Good visible shadow) is =
      let held = is.1 in
      let limited : IsLimited held.keys = (laws.lawful mount.kind).read_is_limited bytes held.keys held.reads_as.reads in
      let short : AreShort is.0 = subst (λ (keys : KeyMap). AreShort keys) (sym held.is) (short-whole mount.at held.keys (short-limited held.keys limited)) in (
        subst (λ (keys : KeyMap). AreShort keys) (sym is.2) (short-kept is.0 (owns points i) short),
        subst (λ (keys : KeyMap). AreShort keys) (sym is.3) (short-kept is.0 (λ name. not (owns points i name)) short),
      )
  state-short (state.Bad cause) is = tt

-- ---- the files, weighed

-- a weighed file is one that was weighed
weighed-at : (sum : ℕ) (files : List MountedFile) (i : ℕ) (file : MountedFile)
    → slice_get (weighed_from sum files) i ≡ Some file
    → (before : ℕ) × (other : MountedFile) × (slice_get files i ≡ Some other) × (weighed_file before other ≡ file)
weighed-at sum [] i file there = absurd (none-some file there)
weighed-at sum (first ∷ files) zero file there = (sum, first, refl, same_Some (weighed_file sum first) file there)
weighed-at sum (first ∷ files) (suc i) file there =
    weighed-at (sum + added_weight (weighed_file sum first)) files i file there

module _ (bytes_of : List ℕ → List ℕ) (files : List MountedFile) (opened : IsOpened all.Reads all.IsBadAt bytes_of files) where
  same_points : points_of files ≡ points_of opened.unweighed
  same_points =
      ap points_of opened.is
      ∙ sym (points-of_mounts (weighed_from (own_weight opened.unweighed) opened.unweighed))
      ∙ ap (over (λ (mount : Mount). mount.at)) (mounts-from (own_weight opened.unweighed) opened.unweighed)
      ∙ points-of_mounts opened.unweighed

  found : (i : ℕ) (file : MountedFile) → slice_get files i ≡ Some file
      → (before : ℕ) × (other : MountedFile) × (slice_get opened.unweighed i ≡ Some other)
      × (weighed_file before other ≡ file)
  found i file there =
      weighed-at (own_weight opened.unweighed) opened.unweighed i file (ap (λ (fs : List MountedFile). slice_get fs i) (sym opened.is) ∙ there)

  writable : AllCanBeWritten all.IsStorable files
  writable i file there =
      let at = found i file there in
      let other = at.1 in
      let can = state-writable (points_of opened.unweighed) i other.mount (bytes_of other.mount.file) other.state (opened.states i other at.2) in
      subst (λ (ps : List Name). CanBeWritten all.IsStorable ps i file.mount file.state) (sym same_points)
      (subst (λ (f : MountedFile). CanBeWritten all.IsStorable (points_of opened.unweighed) i f.mount f.state) at.3
      (weighed-writable all.IsStorable (points_of opened.unweighed) i other.mount (cond (is_own other) 0 at.0) other.state can))

  short : HaveShortTexts files
  short = all_from_places (λ (file : MountedFile). HasShortTexts file.state) files (λ i file there.
      let at = found i file (sym there) in
      let other = at.1 in
      let has = state-short (points_of opened.unweighed) i other.mount (bytes_of other.mount.file) other.state (opened.states i other at.2) in
      subst (λ (f : MountedFile). HasShortTexts f.state) at.3 (weighed_file-short at.0 other has))

  pub opened-sound : IsSound formats (store_alone files)
  opened-sound =
      sound_store the_formats files (λ handle. no_keys) writable short (opened-made all.Reads all.IsBadAt bytes_of files opened)
