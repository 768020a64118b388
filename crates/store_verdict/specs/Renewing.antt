-- The texts of touched files, made anew of the map after a set where one of their mounts counts by key.
use Rattle.std.specs.Prelude.{◌≡◌, ℕ, false, if◌then◌else◌, List, map as over, slice_get, Option, Some, None, option_and_then}
use Rattle.std.specs.List.{AllByRecursion, list_any}
use Rattle.std.specs.Option.{option_map}
use Rattle.general_words.specs.Searches.{first_some}
use Rattle.journal_codec.specs.declared.files.FileText.{FileText}
use Rattle.model_files.specs.Files.{HaveOwnFiles}
use Rattle.model_files.specs.Texts.{as_entry, texts_at}
use Rattle.model_maps.specs.KeyMap.{KeyMap}
use Rattle.model_store.specs.Fitting.{IsStorableAt, too_heavy}
use Rattle.model_store.specs.Sets.{wants}
use Rattle.model_store.specs.Store.{Store, Formats, counts_in, counts_keys, points_of}
use Rattle.model_store.specs.Verdicts as model
use Rattle.model_store.specs.Verdicts.{oversize, too_large_at}
use Rattle.mount_table.specs.declared.mounts.Mount.{Mount}
use Rattle.mounted_files.specs.Short.{AreShort}
use Rattle.store_verdict.specs.Filing.{IsSoundFile, IsStorableFile, heavy_at, written_of}
use Rattle.store_verdict.specs.declared.files.FileToWrite.{FileToWrite}
use Rattle.store_verdict.specs.declared.judging.Late.{Late}
use Rattle.store_verdict.specs.declared.judging.Late.TheVariants.{Same, Conflict, TooLarge, Invalid, DatabaseFull, HistoryFull, Commits}
use Rattle.store_verdict.specs.declared.renewing.Anew.{Anew}
use Rattle.store_verdict.specs.declared.renewing.Anew.TheVariants as anew
use Rattle.store_verdict.specs.declared.renewing.Renewal.{Renewal}
use Rattle.store_verdict.specs.declared.renewing.Renewal.TheVariants as renewal
use Rattle.store_verdict.specs.declared.renewing.Written.{Written}
use Rattle.store_verdict.specs.declared.renewing.Written.TheVariants as written

-- ---- the touched mounts

-- the file of each touched mount can hold what the mount owns of some keys; no text of these is too long; and the files
-- of mounts by their backends were found light enough. (Those of mounts by key are weighed when they are made anew.)
pub record MayRenew (formats : Formats) (store : Store) (keys : KeyMap) (touched : List ℕ) : Type 0 where
  pub storable : AllByRecursion (IsStorableAt formats store (wants (points_of store) keys)) touched
  pub short : AreShort keys
  pub light : AllByRecursion (λ m. counts_keys store m ≡ false → too_heavy store (wants (points_of store) keys) m ≡ None) touched

-- the texts of the touched files were made of these keys, where one of the mounts counts by key; else they weren't
abbrev pub AreRenewed : Formats → Store → KeyMap → List ℕ → Option (List FileText) → Type 0
AreRenewed formats store keys touched None = list_any (counts_keys store) touched ≡ false
AreRenewed formats store keys touched (Some texts) =
    HaveOwnFiles store.mounts → texts ≡ as_entry (texts_at formats store keys touched)

-- no file would be too large, with the texts; or one would
abbrev pub IsRenewal : Formats → Store → KeyMap → List ℕ → Renewal → Type 0
IsRenewal formats store keys touched (renewal.Texts renewed) =
    (first_some (too_large_at formats store keys) touched ≡ None) × AreRenewed formats store keys touched renewed
IsRenewal formats store keys touched (renewal.TooLarge mount bytes) =
    first_some (too_large_at formats store keys) touched ≡ Some (model.TooLarge mount bytes)

-- a set that is a commit brings its texts
abbrev pub BringsTexts : Formats → Store → KeyMap → List ℕ → Late → Type 0
BringsTexts formats store keys touched (Commits commit aside renewed) = AreRenewed formats store keys touched renewed
BringsTexts formats store keys touched (Same aside) = Unit {0}
BringsTexts formats store keys touched (Conflict mount by) = Unit {0}
BringsTexts formats store keys touched (TooLarge mount bytes) = Unit {0}
BringsTexts formats store keys touched (Invalid violation) = Unit {0}
BringsTexts formats store keys touched (DatabaseFull weight) = Unit {0}
BringsTexts formats store keys touched (HistoryFull weight) = Unit {0}

-- ---- file by file

-- what a file is to hold is sound and short, its format can hold it, and that of a mount by its backend is light enough
pub record IsRenewable (formats : Formats) (mounts : List Mount) (file : FileToWrite) : Type 0 where
  pub sound : IsSoundFile mounts file
  pub short : AreShort file.contents
  pub storable : IsStorableFile formats mounts file
  pub light : counts_in mounts file.mount ≡ false → heavy_at mounts file ≡ None

-- how much too large the file of a mount by key would be
abbrev pub large_at : Formats → List Mount → FileToWrite → Option model.Late
large_at formats mounts file =
    option_and_then (λ mount. if mount.by_key then option_map (model.TooLarge file.mount) (oversize formats mount file.contents) else None) (slice_get mounts file.mount)

-- its text was made, or it would be too large
abbrev pub IsAnew : Formats → List Mount → FileToWrite → Anew → Type 0
IsAnew formats mounts file (anew.Text written) =
    (large_at formats mounts file ≡ None) × (written ≡ written_of formats mounts file)
IsAnew formats mounts file (anew.TooLarge bytes) = large_at formats mounts file ≡ Some (model.TooLarge file.mount bytes)

-- so it is for some files: all texts were made, or this is the first one that would be too large
abbrev pub AreAnew : Formats → List Mount → List FileToWrite → Written → Type 0
AreAnew formats mounts files (written.All all) =
    (first_some (large_at formats mounts) files ≡ None) × (all.items ≡ over (written_of formats mounts) files)
AreAnew formats mounts files (written.TooLarge mount bytes) =
    first_some (large_at formats mounts) files ≡ Some (model.TooLarge mount bytes)
