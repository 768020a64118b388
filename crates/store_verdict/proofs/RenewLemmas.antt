-- What the files of touched mounts become where they are made anew is what the definitions tell of the mounts.
use Rattle.std.proofs.Common.{◌≡◌, ℕ, false, cond, List, [], ◌∷◌, map as over, slice_get, Option, Some, None, option_and_then, refl, sym, ap, ap₂, ◌∙◌}
use Rattle.std.specs.List.{AllByRecursion, list_any}
use Rattle.std.specs.Option.{option_map, option_map_or, option_or}
use Rattle.std.proofs.lemmas.Bool.{or_parts}
use Rattle.general_words.specs.Searches.{first_some}
use Rattle.journal_codec.specs.declared.files.FileText.{FileText}
use Rattle.model_files.specs.Texts.{as_entry, as_file, texts_at}
use Rattle.model_maps.specs.KeyMap.{KeyMap, no_keys}
use Rattle.model_names.specs.Name.{Name}
use Rattle.model_store.specs.Sets.{wants}
use Rattle.model_store.specs.Store.{Formats, Store, contents, counts_keys, points_at, points_of, store_of}
use Rattle.model_store.specs.Verdicts.{Late, TooLarge, oversize, too_large_at, too_large_file}
use Rattle.mount_table.specs.declared.mounts.Mount.{Mount}
use Rattle.mounted_files.specs.Short.{AreShort, HaveShortTexts}
use Rattle.mounted_files.specs.declared.files.MountedFile.{MountedFile}
use Rattle.mounted_files.proofs.ChangeLemmas.{short-kept}
use Rattle.set_split.specs.Involved.{owns}
use Rattle.set_split.specs.Seen.{numbered}
use Rattle.set_split.specs.declared.parts.Part.{Part}
use Rattle.store_verdict.specs.Filing.{IsSoundFile, by_name, file_of, written_of}
use Rattle.store_verdict.specs.Renewing.{IsRenewable, MayRenew, large_at}
use Rattle.store_verdict.specs.declared.files.FileToWrite.{FileToWrite}
use Rattle.store_verdict.specs.declared.writing.WrittenFile.{WrittenFile}
use Rattle.store_verdict.proofs.FileLemmas.{files-short}
use Rattle.store_verdict.proofs.PartLemmas.{large-all, renewable, texts-all}

-- ---- no mount by key

module _ (formats : Formats) (store : Store) (keys : KeyMap) where
  small-at : (m : ℕ) → counts_keys store m ≡ false → too_large_at formats store keys m ≡ None
  small-at m by_backend = by (slice_get store.mounts m) by_backend
    where
      by : (o : Option Mount) → option_map_or (λ (mount : Mount). mount.by_key) o false ≡ false
          → option_and_then (too_large_file formats store keys m) o ≡ None
      by None e = refl
      by (Some mount) e =
          ap (λ b. cond b (option_map (TooLarge m) (oversize formats mount (contents store m mount (wants (points_of store) keys m)))) None) e

  -- of mounts by their backends none is too large
  pub small-all : (ms : List ℕ) → list_any (counts_keys store) ms ≡ false
      → first_some (too_large_at formats store keys) ms ≡ None
  small-all [] none = refl
  small-all (m ∷ ms) none =
      let parts = or_parts (counts_keys store m) (list_any (counts_keys store) ms) none in ap₂ option_or (small-at m parts.0) (small-all ms parts.1)

-- ---- the files of the touched mounts

abbrev pub mounts_in : List MountedFile → List Mount
mounts_in files = over (λ (file : MountedFile). file.mount) files

-- what each touched mount owns, and the files that are to hold it
abbrev pub owned_parts : List MountedFile → KeyMap → List ℕ → List (ℕ × KeyMap)
owned_parts files keys touched = over {B = ℕ × KeyMap} (λ m. (m, wants (points_at (mounts_in files)) keys m)) touched

abbrev pub owned_files : List MountedFile → KeyMap → List ℕ → List FileToWrite
owned_files files keys touched = over (file_of files) (owned_parts files keys touched)

-- the files that were made are these
pub files-are : (files slice : List MountedFile) (keys : KeyMap) (touched : List ℕ) (told made : List FileToWrite)
    (given parts : List Part) (points : List Name)
    → told ≡ made → made ≡ over (file_of slice) (numbered given) → slice ≡ files → given ≡ parts
    → numbered parts ≡ over {B = ℕ × KeyMap} (λ m. (m, wants points keys m)) touched
    → points ≡ points_at (mounts_in files)
    → told ≡ owned_files files keys touched
files-are files slice keys touched told made given parts points is of same are owned at =
    is ∙ of ∙ ap (λ (fs : List MountedFile). over (file_of fs) (numbered given)) same
    ∙ ap (over (file_of files)) (ap numbered are ∙ owned ∙ ap (λ (ps : List Name). over {B = ℕ × KeyMap} (λ m. (m, wants ps keys m)) touched) at)

parts-short : (points : List Name) (keys : KeyMap) (ms : List ℕ) → AreShort keys
    → AllByRecursion (λ (part : ℕ × KeyMap). AreShort part.1) (over {B = ℕ × KeyMap} (λ m. (m, wants points keys m)) ms)
parts-short points keys [] short = tt
parts-short points keys (m ∷ ms) short = (short-kept keys (owns points m) short, parts-short points keys ms short)

module _ (formats : Formats) (files : List MountedFile) (keys : KeyMap) (touched : List ℕ) where
  -- they can be made anew
  pub can-renew : HaveShortTexts files → ((procs : ℕ → KeyMap) → MayRenew formats (store_of files procs) keys touched)
      → AllByRecursion (IsSoundFile (mounts_in files)) (owned_files files keys touched)
      → AllByRecursion (IsRenewable formats (mounts_in files)) (owned_files files keys touched)
  can-renew short may sound =
      renewable formats files (λ m. no_keys) keys touched (may (λ m. no_keys)) sound
      (files-short files (owned_parts files keys touched) short (parts-short (points_at (mounts_in files)) keys touched (may (λ m. no_keys)).short))

  module _ (procs : ℕ → KeyMap) where
    -- what is told of them is told of the mounts
    pub large-is : (o : Option Late)
        → first_some (large_at formats (mounts_in files)) (owned_files files keys touched) ≡ o
        → first_some (too_large_at formats (store_of files procs) keys) touched ≡ o
    large-is o told = sym (large-all formats files procs keys touched) ∙ told

    -- and their texts are the mounts'
    pub texts-are : (all : List WrittenFile) (texts : List FileText)
        → all ≡ over (written_of formats (mounts_in files)) (owned_files files keys touched)
        → texts ≡ over as_file (by_name (mounts_in files) all)
        → texts ≡ as_entry (texts_at formats (store_of files procs) keys touched)
    texts-are all texts are is =
        is ∙ ap (λ ws. over as_file (by_name (mounts_in files) ws)) are
        ∙ ap (over as_file) (texts-all formats files procs keys touched)
