-- What is told of the files of touched mounts is what the definitions tell of the set.
use Rattle.std.proofs.Common.{◌≡◌, ℕ, zero, suc, ◌+◌, ◌≤◌, nat_lt, true, false, cond, List, [], ◌∷◌, ◌++◌, take, map as over, slice_get, Option, Some, None, option_and_then, Result, Ok, Err, MatchResult, IfErr, inl, inr, refl, sym, ap, ap₂, subst, ◌∙◌, arith}
use Rattle.std.specs.List.{AllByRecursion}
use Rattle.std.specs.Option.{option_map, option_or}
use Rattle.std.specs.Result.{IsErrAnd}
use Rattle.std.proofs.lemmas.Bool.{ltb-false}
use Rattle.std.proofs.lemmas.List.{map-append}
use Rattle.general_words.specs.Saturated.{saturated}
use Rattle.general_words.specs.Searches.{first_some}
use Rattle.general_words.proofs.Lists.{take-next}
use Rattle.general_words.proofs.Searches.{first_some-found, none_before, none_behind}
use Rattle.journal_codec.specs.declared.files.FileText.{FileText}
use Rattle.key_name.specs.Joining.{joined}
use Rattle.key_set.specs.WithAll.{with_all}
use Rattle.model_files.specs.Texts.{as_file}
use Rattle.model_maps.specs.KeyMap.{KeyMap, heaviest_map, weight}
use Rattle.model_names.specs.Name.{Name}
use Rattle.model_store.specs.Fitting.{Early, ValueTooLong, TooHeavy, NotStorable, IsStorableAt, too_heavy, heavy_contents}
use Rattle.model_store.specs.Sets as model
use Rattle.model_store.specs.Store.{Formats, Store, contents, shadow_of, store_of}
use Rattle.model_store.specs.Verdicts.{Follows, FromFormats, IsEarly, before_formats, behind_formats, wanted_in}
use Rattle.mount_table.specs.declared.mounts.Mount.{Mount}
use Rattle.mounted_files.specs.Short.{AreShort, HasShortTexts, HaveShortTexts}
use Rattle.mounted_files.specs.declared.files.FileState.{FileState}
use Rattle.mounted_files.specs.declared.files.FileState.TheVariants.{Good, Bad}
use Rattle.mounted_files.specs.declared.files.MountedFile.{MountedFile}
use Rattle.mounted_files.proofs.ChangeLemmas.{short-relative, short-with_all}
use Rattle.mounted_files.proofs.LimitLemmas.{limited-from}
use Rattle.mounted_files.proofs.MapLemmas.{each-none}
use Rattle.set_split.specs.Seen.{numbered}
use Rattle.set_split.specs.declared.parts.Part.{Part}
use Rattle.store_verdict.specs.Filing.{AreUnwritten, AreWritten, HasTexts, IsAsked, IsSoundFile, IsStorableFile, IsTold, IsWritable, Tells, by_name, contents_of, file_of, heavy_at, long_at, long_told, table_at, written_of}
use Rattle.store_verdict.specs.Preparing.{IsRefusedSet}
use Rattle.store_verdict.specs.declared.faults.PrepareFault.{PrepareFault}
use Rattle.store_verdict.specs.declared.faults.PrepareFault.TheVariants as fault
use Rattle.store_verdict.specs.declared.files.FileToWrite.{FileToWrite}
use Rattle.store_verdict.proofs.PartLemmas.{contents-is, cut, heavy-all, long-all, storable-all, table-all, texts-all}

-- ---- a fault that is handed on

pub handed-on : {A : Type 0} (Q : A → Type 0) (P : PrepareFault → Type 0) (r : Result A PrepareFault)
    (why : PrepareFault) → IsErrAnd r (λ fault. fault ≡ why) → P why → MatchResult r Q P
handed-on Q P (Ok x) why is holds = absurd is
handed-on Q P (Err fault) why is holds = subst P (sym is) holds

pub handed-err : {A : Type 0} (P : PrepareFault → Type 0) (r : Result A PrepareFault) (why : PrepareFault)
    → IsErrAnd r (λ fault. fault ≡ why) → P why → IfErr r P
handed-err P (Ok x) why is holds = absurd is
handed-err P (Err fault) why is holds = subst P (sym is) holds

-- ---- the first of which something is told

pub told-first : {A : Type 0} (mounts : List Mount) (f : A → Option Early) (xs : List A) (k : ℕ) (x : A)
    (why : PrepareFault) → Some x ≡ slice_get xs k → first_some f (take k xs) ≡ None → IsTold mounts (f x) why
    → IsTold mounts (first_some f xs) why
told-first mounts f xs k x why there none told other =
    let one = told other in
    record { early = one.early; first = first_some-found f xs k x one.early there none one.first; is = one.is }

pub told-same : (mounts : List Mount) (one other : Option Early) (why : PrepareFault) → one ≡ other
    → IsTold mounts one why → IsTold mounts other why
told-same mounts one other why same told = subst (λ (o : Option Early). IsTold mounts o why) same told

pub tells-behind : (mounts : List Mount) (one other : Option Early) (why : PrepareFault) → one ≡ None
    → Tells mounts other why → Tells mounts (option_or one other) why
tells-behind mounts one other why none told =
    record { early = told.early; first = ap (λ o. option_or o other) none ∙ told.first; is = told.is }

pub no-long : (o : Option (Name × ℕ))
    → option_map {U = Early} (λ (long : Name × ℕ). ValueTooLong long.0 long.1) o ≡ None → o ≡ None
no-long None e = refl
no-long (Some long) e = absurd cc

-- ---- what can be written

module _ (mounts : List Mount) where
  -- sound and short contents that aren't too heavy can be written
  is-light : (file : FileToWrite) (mount : Mount) → slice_get mounts file.mount ≡ Some mount
      → heavy_at mounts file ≡ None → weight file.contents ≤ heaviest_map
  is-light file mount there none =
      ltb-false heaviest_map (weight file.contents) (by (nat_lt heaviest_map (weight file.contents)) (sym (ap (option_and_then (λ (k : Mount). heavy_contents file.mount file.contents)) there) ∙ none))
    where
      by : (b : _) → cond b (Some (TooHeavy file.mount (saturated (weight file.contents)))) None ≡ None → b ≡ false
      by true h = absurd cc
      by false h = refl

  writable-where : (file : FileToWrite) → IsSoundFile mounts file → AreShort file.contents
      → ((mount : Mount) → slice_get mounts file.mount ≡ Some mount → weight file.contents ≤ heaviest_map)
      → IsWritable mounts file
  writable-where file sound short light =
      λ mount there. (limited-from mount.at file.contents (sound mount there) short (light mount there), λ name entry found. (sound mount there name entry found).whole_is_name)

  pub writable-light : (file : FileToWrite) → IsSoundFile mounts file → AreShort file.contents
      → heavy_at mounts file ≡ None → IsWritable mounts file
  writable-light file sound short light =
      writable-where file sound short (λ mount there. is-light file mount there light)

  pub writable-weighed : (file : FileToWrite) (w : ℕ) → IsSoundFile mounts file → AreShort file.contents
      → w ≡ saturated (weight file.contents) → w ≤ heaviest_map → IsWritable mounts file
  writable-weighed file w sound short is le = writable-where file sound short (λ mount there. omega (arith, is, le))

  pub writable : (files : List FileToWrite) → AllByRecursion (IsSoundFile mounts) files
      → AllByRecursion (λ (file : FileToWrite). AreShort file.contents) files
      → first_some (heavy_at mounts) files ≡ None → AllByRecursion (IsWritable mounts) files
  writable [] sound short light = tt
  writable (file ∷ files) sound short light =
      (writable-light file sound.0 short.0 (none_before _ _ light), writable files sound.1 short.1 (none_behind _ _ light))

-- ---- what files are to hold is short, where what is wanted and what they keep for others is

shadow-short : (state : FileState) → HasShortTexts state → AreShort (shadow_of state)
shadow-short (Good visible shadow) short = short.1
shadow-short (Bad cause) short = each-none _

contents-short : (files : List MountedFile) (m : ℕ) (keys : KeyMap) → HaveShortTexts files → AreShort keys
    → AreShort (contents_of files (m, keys))
contents-short [] m keys all short = each-none _
contents-short (file ∷ files) zero keys all short =
    short-relative file.mount.at (with_all keys (shadow_of file.state)) (short-with_all keys (shadow_of file.state) short (shadow-short file.state all.0))
contents-short (file ∷ files) (suc m) keys all short = contents-short files m keys all.1 short

pub files-short : (files : List MountedFile) (parts : List (ℕ × KeyMap)) → HaveShortTexts files
    → AllByRecursion (λ (part : ℕ × KeyMap). AreShort part.1) parts
    → AllByRecursion (λ (file : FileToWrite). AreShort file.contents) (over (file_of files) parts)
files-short files [] all short = tt
files-short files (part ∷ parts) all short =
    (contents-short files part.0 part.1 all short.0, files-short files parts all short.1)

-- one more file
pub files-more : (files : List MountedFile) (parts : List Part) (k : ℕ) (part : Part) → Some part ≡ slice_get parts k
    → over (file_of files) (numbered (take (k + 1) parts))
    ≡ over (file_of files) (numbered (take k parts)) ++ file_of files (part.mount, part.keys) ∷ []
files-more files parts k part there =
    ap (over (file_of files)) (ap numbered (take-next parts k part there) ∙ map-append (λ (p : Part). (p.mount, p.keys)) (take k parts) (part ∷ []))
    ∙ map-append (file_of files) (numbered (take k parts)) ((part.mount, part.keys) ∷ [])

-- ---- a set

module _ (formats : Formats) (files : List MountedFile) (procs : ℕ → KeyMap) (set : model.Prepared) where
  abbrev store : Store
  store = store_of files procs

  abbrev table : List Mount
  table = over (λ (file : MountedFile). file.mount) files

  abbrev wanted : ℕ → KeyMap
  wanted m = wanted_in (store_of files procs) set m

  abbrev made : List ℕ → List FileToWrite
  made ms = over (file_of files) (over {B = ℕ × KeyMap} (λ m. (m, wanted_in (store_of files procs) set m)) ms)

  module _ (mounts : List ℕ) (keys : KeyMap) (parts : List (ℕ × KeyMap)) (asked : IsAsked store mounts keys parts set) where
    abbrev all : List FileToWrite
    all = over (file_of files) parts

    all-made : all ≡ made set.touched
    all-made = ap (over (file_of files)) asked.parts_are

    -- what is told first, before the formats are asked
    before-is : before_formats store set ≡ option_or (long_told table mounts keys) (first_some (heavy_at table) all)
    before-is =
        ap (λ (o : Option Early). option_or o (option_or (long_told table set.involved set.keys) (first_some (too_heavy store wanted) set.touched))) asked.fetched
        ∙ ap₂ (λ (ms : List ℕ) (ks : KeyMap). option_or (long_told table ms ks) (first_some (too_heavy store wanted) set.touched)) asked.involved asked.keys_are
        ∙ ap (option_or (long_told table mounts keys)) (sym (ap (first_some (heavy_at table)) all-made ∙ heavy-all formats files procs set.keys set.touched))

    pub refused-heavy : (why : PrepareFault) → long_told table mounts keys ≡ None
        → Tells table (first_some (heavy_at table) all) why → IsRefusedSet formats store set why
    refused-heavy why no_long told =
        let first = tells-behind table _ _ why no_long told in
        record {
          early = first.early;
          refused = subst (λ (o : Option Early). Follows o (Some first.early) (FromFormats formats store set (Some first.early))) (sym (before-is ∙ first.first)) refl;
          is = first.is;
        }

    module _ (no_long : long_told table mounts keys ≡ None) (no_heavy : first_some (heavy_at table) all ≡ None) where
      from-formats : (answer : Option Early) → FromFormats formats store set answer → IsEarly formats store set answer
      from-formats answer from =
          subst (λ (o : Option Early). Follows o answer (FromFormats formats store set answer)) (sym (before-is ∙ ap₂ option_or no_long no_heavy)) from

      behind-is : behind_formats formats store set
          ≡ option_or (first_some (long_at table) (over (written_of formats table) all)) (first_some (table_at table) parts)
      behind-is = sym (ap₂ option_or
          (ap (λ (fs : List FileToWrite). first_some (long_at table) (over (written_of formats table) fs)) all-made ∙ long-all formats files procs set.keys set.touched)
          (ap (first_some (table_at table)) asked.parts_are ∙ table-all formats files procs set.keys set.touched))

      all-storable : AllByRecursion (IsStorableFile formats table) all
          → AllByRecursion (IsStorableAt formats store wanted) set.touched
      all-storable storable =
          storable-all formats files procs set.keys set.touched (subst (λ (fs : List FileToWrite). AllByRecursion (IsStorableFile formats table) fs) all-made storable)

      pub passes : (texts : List FileText) → AreWritten formats table all parts texts → HasTexts formats store set texts
      passes texts well = record {
        early = from-formats None (inr (all-storable well.storable, sym (behind-is ∙ ap₂ option_or well.short well.table)));
        are = well.are ∙ ap (λ (fs : List FileToWrite). over as_file (by_name table (over (written_of formats table) fs))) all-made ∙ ap (over as_file) (texts-all formats files procs set.keys set.touched);
      }

      pub refused-behind : (why : PrepareFault) → AreUnwritten formats table all parts why
          → IsRefusedSet formats store set why
      refused-behind why (inr late) = record {
        early = late.1.early;
        refused = from-formats (Some late.1.early) (inr (all-storable late.0, sym (behind-is ∙ late.1.first)));
        is = late.1.is;
      }
      refused-behind why (inl broken) =
          let at = cut formats files procs set.keys set.touched broken.before broken.file broken.behind (sym all-made ∙ broken.stand) in
          let b = broken.breaks in
          let there : slice_get table at.mount ≡ Some b.mount = ap (λ (f : FileToWrite). slice_get table f.mount) at.is ∙ b.there in
          let name : Name = joined b.mount.at b.key in
          let contents_are : broken.file.contents ≡ contents store at.mount b.mount (wanted at.mount) = ap (λ (f : FileToWrite). f.contents) (sym at.is) ∙ contents-is formats files procs set.keys at.mount b.mount (wanted at.mount) there in
          record {
            early = NotStorable at.mount name;
            refused = from-formats (Some (NotStorable at.mount name)) (inl (record {
              before = at.front;
              mount = at.mount;
              behind = at.rest;
              stand = at.stand;
              storable = storable-all formats files procs set.keys at.front (subst (λ (fs : List FileToWrite). AllByRecursion (IsStorableFile formats table) fs) (sym at.before_is) broken.storable);
              name = name;
              breaks = record { mount = b.mount; there = there; key = b.key; breaks = subst (λ (ks : KeyMap). formats.BreaksAt b.mount.kind ks b.key) contents_are b.breaks; is = refl };
              is = refl;
            }));
            is = ap (option_map (λ (k : Mount). fault.NotStorable k.at name)) there ∙ ap Some (sym b.is);
          }
