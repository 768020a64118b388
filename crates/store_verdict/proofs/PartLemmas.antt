-- What is told of the file that is to hold what a mount owns of some keys is what the definitions tell of the mount.
use Rattle.std.proofs.Common.{◌≡◌, ℕ, cond, List, [], ◌∷◌, ◌++◌, map as over, slice_get, Option, Some, None, option_and_then, refl, sym, ap, ap₂, subst, ◌∙◌}
use Rattle.std.specs.FinMap as map
use Rattle.std.specs.FinMap.Entries.{put}
use Rattle.std.specs.List.{AllByRecursion}
use Rattle.std.specs.Option.{option_map, option_map_or, option_or}
use Rattle.std.proofs.lemmas.Cmp.{nat_list_cmp_total}
use Rattle.std.proofs.lemmas.Option.{slice_get-map}
use Rattle.general_words.specs.Searches.{first_some}
use Rattle.general_words.specs.Texts.{text_cmp}
use Rattle.general_words.proofs.Lists.{head_is, some_is, tail_is}
use Rattle.general_words.proofs.Maps.{entries-empty}
use Rattle.key_set.specs.WithAll.{with_all}
use Rattle.model_files.specs.Texts.{texts_at, with_text}
use Rattle.model_maps.specs.KeyMap.{KeyMap, no_keys}
use Rattle.model_store.specs.Fitting.{IsStorableAt, too_heavy, too_long, bad_table, heavy_contents, long_text}
use Rattle.model_store.specs.Sets.{wants}
use Rattle.model_store.specs.Store.{Formats, Store, contents, points_of, shadow_of, store_of}
use Rattle.model_store.specs.Verdicts.{TooLarge, oversize, too_large_at}
use Rattle.mount_table.specs.declared.mounts.Mount.{Mount}
use Rattle.mounted_files.specs.Short.{AreShort}
use Rattle.mounted_files.specs.Whole.{relative}
use Rattle.mounted_files.specs.declared.files.MountedFile.{MountedFile}
use Rattle.store_verdict.specs.Filing.{IsSoundFile, IsStorableFile, by_name, contents_of, file_of, heavy_at, long_at, table_at, written_of}
use Rattle.store_verdict.specs.Renewing.{IsRenewable, MayRenew, large_at}
use Rattle.store_verdict.specs.declared.files.FileToWrite.{FileToWrite}

module _ (formats : Formats) (files : List MountedFile) (procs : ℕ → KeyMap) (keys : KeyMap) where
  abbrev store : Store
  store = store_of files procs

  abbrev table : List Mount
  table = over (λ (file : MountedFile). file.mount) files

  abbrev wanted : ℕ → KeyMap
  wanted = wants (points_of (store_of files procs)) keys

  abbrev pair : ℕ → ℕ × KeyMap
  pair m = (m, wants (points_of (store_of files procs)) keys m)

  pub contents-is : (m : ℕ) (mount : Mount) (held : KeyMap) → slice_get table m ≡ Some mount
      → contents_of files (m, held) ≡ contents store m mount held
  contents-is m mount held there =
      by (slice_get files m) (sym (slice_get-map (λ (file : MountedFile). file.mount) files m) ∙ there)
    where
      by : (o : Option MountedFile) → option_map (λ (file : MountedFile). file.mount) o ≡ Some mount
          → option_map_or (λ (file : MountedFile). relative file.mount.at (with_all held (shadow_of file.state))) o no_keys
          ≡ relative mount.at (with_all held (option_map_or (λ (file : MountedFile). shadow_of file.state) o no_keys))
      by None e = absurd cc
      by (Some file) e =
          ap (λ (k : Mount). relative k.at (with_all held (shadow_of file.state))) (some_is file.mount mount e)

  at-alike : {A : Type 0} (f g : Mount → Option A) (m : ℕ)
      → ((mount : Mount) → slice_get table m ≡ Some mount → f mount ≡ g mount)
      → option_and_then f (slice_get table m) ≡ option_and_then g (slice_get table m)
  at-alike {A = A} f g m same = by (slice_get table m) refl
    where
      by : (o : Option Mount) → slice_get table m ≡ o → option_and_then f o ≡ option_and_then g o
      by None is = refl
      by (Some mount) is = same mount is

  text-is : (m : ℕ) (mount : Mount) → slice_get table m ≡ Some mount
      → (written_of formats table (file_of files (pair m))).bytes
      ≡ formats.text mount.kind (contents store m mount (wanted m))
  text-is m mount there =
      ap (λ (o : Option Mount). option_map_or (λ (k : Mount). formats.text k.kind (contents_of files (pair m))) o []) there
      ∙ ap (formats.text mount.kind) (contents-is m mount (wanted m) there)

  pub heavy-is : (m : ℕ) → heavy_at table (file_of files (pair m)) ≡ too_heavy store wanted m
  heavy-is m = at-alike _ _ m (λ mount there. ap (heavy_contents m) (contents-is m mount (wanted m) there))

  long-is : (m : ℕ)
      → long_at table (written_of formats table (file_of files (pair m))) ≡ too_long formats store wanted m
  long-is m = at-alike _ _ m (λ mount there. ap (long_text m) (text-is m mount there))

  large-is : (m : ℕ) → large_at formats table (file_of files (pair m)) ≡ too_large_at formats store keys m
  large-is m =
      at-alike _ _ m (λ mount there. ap (λ (held : KeyMap). cond mount.by_key (option_map (TooLarge m) (oversize formats mount held)) None) (contents-is m mount (wanted m) there))

  abbrev made : List ℕ → List FileToWrite
  made ms = over (file_of files) (over pair ms)

  pub heavy-all : (ms : List ℕ) → first_some (heavy_at table) (made ms) ≡ first_some (too_heavy store wanted) ms
  heavy-all [] = refl
  heavy-all (m ∷ ms) = ap₂ option_or (heavy-is m) (heavy-all ms)

  pub long-all : (ms : List ℕ)
      → first_some (long_at table) (over (written_of formats table) (made ms))
      ≡ first_some (too_long formats store wanted) ms
  long-all [] = refl
  long-all (m ∷ ms) = ap₂ option_or (long-is m) (long-all ms)

  pub large-all : (ms : List ℕ)
      → first_some (large_at formats table) (made ms) ≡ first_some (too_large_at formats store keys) ms
  large-all [] = refl
  large-all (m ∷ ms) = ap₂ option_or (large-is m) (large-all ms)

  pub table-all : (ms : List ℕ) → first_some (table_at table) (over pair ms) ≡ first_some (bad_table store wanted) ms
  table-all [] = refl
  table-all (m ∷ ms) = ap (option_or (bad_table store wanted m)) (table-all ms)

  pub storable-all : (ms : List ℕ) → AllByRecursion (IsStorableFile formats table) (made ms)
      → AllByRecursion (IsStorableAt formats store wanted) ms
  storable-all [] all = tt
  storable-all (m ∷ ms) all =
      (λ mount there. subst (formats.IsStorable mount.kind) (contents-is m mount (wanted m) there) (all.0 mount there), storable-all ms all.1)

  -- the files of some mounts can be made anew, where the mounts' can
  pub renewable : (ms : List ℕ) → MayRenew formats store keys ms → AllByRecursion (IsSoundFile table) (made ms)
      → AllByRecursion (λ (file : FileToWrite). AreShort file.contents) (made ms)
      → AllByRecursion (IsRenewable formats table) (made ms)
  renewable [] may sound short = tt
  renewable (m ∷ ms) may sound short = (
    record {
      sound = sound.0;
      short = short.0;
      storable = λ mount there. subst (formats.IsStorable mount.kind) (sym (contents-is m mount (wanted m) there)) (may.storable.0 mount there);
      light = λ by_backend. heavy-is m ∙ may.light.0 by_backend;
    },
    renewable ms (record { storable = may.storable.1; short = may.short; light = may.light.1 }) sound.1 short.1,
  )

  pub texts-all : (ms : List ℕ)
      → by_name table (over (written_of formats table) (made ms)) ≡ map.entries (texts_at formats store keys ms)
  texts-all [] = sym (entries-empty text_cmp (List ℕ))
  texts-all (m ∷ ms) = by (slice_get table m) refl (texts-all ms)
    where
      by : (o : Option Mount) → slice_get table m ≡ o
          → by_name table (over (written_of formats table) (made ms)) ≡ map.entries (texts_at formats store keys ms)
          → option_map_or (λ (mount : Mount). put text_cmp mount.file (written_of formats table (file_of files (pair m))).bytes (by_name table (over (written_of formats table) (made ms)))) o (by_name table (over (written_of formats table) (made ms)))
          ≡ map.entries (with_text formats store keys m o (texts_at formats store keys ms))
      by None is rest = rest
      by (Some mount) is rest =
          ap₂ (put text_cmp mount.file) (text-is m mount is) rest
          ∙ sym (map.entries-insert nat_list_cmp_total (texts_at formats store keys ms) mount.file (formats.text mount.kind (contents store m mount (wanted m))))

  -- one of the files is that of a touched mount
  pub record Cut (ms : List ℕ) (before : List FileToWrite) (file : FileToWrite) : Type 0 where
    pub front : List ℕ
    pub mount : ℕ
    pub rest : List ℕ
    pub stand : ms ≡ front ++ mount ∷ rest
    pub is : file_of files (pair mount) ≡ file
    pub before_is : made front ≡ before

  pub cut : (ms : List ℕ) (before : List FileToWrite) (file : FileToWrite) (behind : List FileToWrite)
      → made ms ≡ before ++ file ∷ behind → Cut ms before file
  cut [] [] file behind e = absurd cc
  cut [] (b ∷ before) file behind e = absurd cc
  cut (m ∷ ms) [] file behind e =
      record { front = []; mount = m; rest = ms; stand = refl; is = head_is _ _ _ _ e; before_is = refl }
  cut (m ∷ ms) (b ∷ before) file behind e =
      let r = cut ms before file behind (tail_is _ _ _ _ e) in
      record {
        front = m ∷ r.front;
        mount = r.mount;
        rest = r.rest;
        stand = ap (λ l. m ∷ l) r.stand;
        is = r.is;
        before_is = ap₂ (λ y ys. y ∷ ys) (head_is _ _ _ _ e) r.before_is;
      }
