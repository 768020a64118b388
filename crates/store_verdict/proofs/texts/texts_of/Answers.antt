-- What is told of the files is told of the set that wants them.
use Rattle.std.proofs.Common.{◌≡◌, ℕ, List, map as over, None, refl, sym, ap, subst, ◌∙◌}
use Rattle.std.specs.List.{AllByRecursion}
use Rattle.std.proofs.lemmas.Result.{IfErr-weaker, IfOk-weaker}
use Rattle.general_words.specs.Memory.{UnlessMemory}
use Rattle.general_words.specs.Searches.{first_some}
use Rattle.general_words.proofs.Lists.{all_map}
use Rattle.model_maps.specs.KeyMap.{KeyMap}
use Rattle.model_store.specs.Sets.{Prepared as Set}
use Rattle.model_store.specs.Store.{Formats, formats_of, points_at, store_of}
use Rattle.mount_table.specs.declared.mounts.Mount.{Mount}
use Rattle.mounted_files.specs.Setting.{first_long_in}
use Rattle.mounted_files.specs.Short.{AreShort}
use Rattle.mounted_files.specs.declared.files.MountedFile.{MountedFile}
use Rattle.set_split.specs.Seen.{numbered}
use Rattle.set_split.specs.declared.parts.Part.{Part}
use Rattle.store_verdict.specs.Filing.{AreUnwritten, AreWritten, IsAsked, IsSoundFile, IsWritable, Tells, file_of, heavy_at, long_told}
use Rattle.store_verdict.specs.Preparing.{IsRefusedSet}
use Rattle.store_verdict.specs.declared.faults.PrepareFault.{PrepareFault}
use Rattle.store_verdict.specs.declared.faults.PrepareFault.TheVariants as fault
use Rattle.store_verdict.specs.declared.files.FileToWrite.{FileToWrite}
use Rattle.store_verdict.proofs.FileLemmas.{files-short, handed-err, no-long, passes, refused-behind, refused-heavy, writable}
use Rattle.store_verdict.proofs.texts.texts_of.Goals as goal

abbrev table_in : List MountedFile → List Mount
table_in files = over (λ (file : MountedFile). file.mount) files

-- the files that were made are those of the mounts
made : (files slice : List MountedFile) (parts : List (ℕ × KeyMap)) (all told : List FileToWrite) → told ≡ all
    → all ≡ over (file_of slice) parts → slice ≡ files → told ≡ over (file_of files) parts
made files slice parts all told is are same = is ∙ are ∙ ap (λ (fs : List MountedFile). over (file_of fs) parts) same

-- a set that asks for this is refused for a fault
abbrev Refuses : Formats → List MountedFile → List ℕ → KeyMap → List (ℕ × KeyMap) → PrepareFault → Type 0
Refuses formats files mounts keys parts why =
    UnlessMemory fault.Memory ((procs : ℕ → KeyMap) (set : Set) → IsAsked (store_of files procs) mounts keys parts set → IsRefusedSet formats (store_of files procs) set why) why

pub returns-in_err-refuse_heavy-clause-refused : goal.returns-in_err-refuse_heavy-clause-refused
returns-in_err-refuse_heavy-clause-refused g c =
    let formats : Formats = formats_of g.F.Formats in
    let files : List MountedFile = c.args.mounted.now in
    let parts = numbered c.args.touched.now in
    let why = c.in_err-refuse_heavy.field-0.0 in
    let all = made files c.files.result.now parts c.in_ok-files.files.items c.deref.result.now c.deref.ensures.value c.in_ok-files.ensures.files c.files.ensures.files in
    handed-err (Refuses formats files c.args.mounts.now c.args.keys.now parts) c.from_residual-in_err-refuse_heavy.result why c.from_residual-in_err-refuse_heavy.ensures.1 (λ not_memory procs set asked.
    refused-heavy formats files procs set c.args.mounts.now c.args.keys.now parts asked why
    (subst (λ (ms : List Mount). long_told ms c.args.mounts.now c.args.keys.now ≡ None) c.table-table.ensures.mounts c.in_ok-refuse_long_texts.ensures)
    (subst (λ (ms : List Mount). Tells ms (first_some (heavy_at ms) (over (file_of files) parts)) why) c.table-table.ensures.mounts
    (subst (λ (fs : List FileToWrite). Tells c.table-table.result.now (first_some (heavy_at c.table-table.result.now) fs) why) all (c.in_err-refuse_heavy.ensures not_memory))))

pub written_texts-requires : goal.written_texts-requires
written_texts-requires g c =
    let files : List MountedFile = c.args.mounted.now in
    let table : List Mount = c.table-table.result.now in
    let parts = numbered c.args.touched.now in
    let made_files : List FileToWrite = c.in_ok-files.files.items in
    let all = made files c.files.result.now parts made_files made_files refl c.in_ok-files.ensures.files c.files.ensures.files in
    let sound = subst (λ (ms : List Mount). AllByRecursion (IsSoundFile ms) made_files) (ap table_in c.files.ensures.files ∙ sym c.table-table.ensures.mounts) c.in_ok-files.ensures.sound in
    let none : first_long_in (points_at (table_in files)) c.args.mounts.now c.args.keys.now ≡ None = no-long _ (subst (λ (ms : List Mount). long_told ms c.args.mounts.now c.args.keys.now ≡ None) c.table-table.ensures.mounts c.in_ok-refuse_long_texts.ensures) in
    let wanted = all_map (λ (p : ℕ × KeyMap). AreShort p.1) (λ (part : Part). (part.mount, part.keys)) c.args.touched.now (c.requires none) in
    let short = subst (λ (fs : List FileToWrite). AllByRecursion (λ (file : FileToWrite). AreShort file.contents) fs) (sym all) (files-short files parts c.files.ensures.short wanted) in
    let light : first_some (heavy_at table) made_files ≡ None = ap (first_some (heavy_at table)) (sym c.deref.ensures.value) ∙ c.in_ok-refuse_heavy.ensures in
    subst (λ (fs : List FileToWrite). AllByRecursion (IsWritable table) fs) (sym c.deref-2.ensures.value) (writable table made_files sound short light)

pub returns-clause-texts : goal.returns-clause-texts
returns-clause-texts g c =
    let formats : Formats = formats_of g.F.Formats in
    let files : List MountedFile = c.args.mounted.now in
    let table : List Mount = c.table-table.result.now in
    let parts = numbered c.args.touched.now in
    let all = made files c.files.result.now parts c.in_ok-files.files.items c.deref.result.now c.deref.ensures.value c.in_ok-files.ensures.files c.files.ensures.files in
    let again = made files c.files.result.now parts c.in_ok-files.files.items c.deref-2.result.now c.deref-2.ensures.value c.in_ok-files.ensures.files c.files.ensures.files in
    IfOk-weaker c.written_texts.result _ _ (λ texts well procs set asked.
    passes formats files procs set c.args.mounts.now c.args.keys.now parts asked
    (subst (λ (ms : List Mount). long_told ms c.args.mounts.now c.args.keys.now ≡ None) c.table-table.ensures.mounts c.in_ok-refuse_long_texts.ensures)
    (subst (λ (ms : List Mount). first_some (heavy_at ms) (over (file_of files) parts) ≡ None) c.table-table.ensures.mounts (ap (first_some (heavy_at table)) (sym all) ∙ c.in_ok-refuse_heavy.ensures))
    texts
    (subst (λ (ms : List Mount). AreWritten formats ms (over (file_of files) parts) parts texts) c.table-table.ensures.mounts
    (subst (λ (fs : List FileToWrite). AreWritten formats table fs parts texts) again well)))
    c.written_texts.ensures.texts

pub returns-clause-refused : goal.returns-clause-refused
returns-clause-refused g c =
    let formats : Formats = formats_of g.F.Formats in
    let files : List MountedFile = c.args.mounted.now in
    let table : List Mount = c.table-table.result.now in
    let parts = numbered c.args.touched.now in
    let all = made files c.files.result.now parts c.in_ok-files.files.items c.deref.result.now c.deref.ensures.value c.in_ok-files.ensures.files c.files.ensures.files in
    let again = made files c.files.result.now parts c.in_ok-files.files.items c.deref-2.result.now c.deref-2.ensures.value c.in_ok-files.ensures.files c.files.ensures.files in
    IfErr-weaker c.written_texts.result (λ (w : PrepareFault). UnlessMemory fault.Memory (AreUnwritten formats table c.deref-2.result.now parts w) w) (Refuses formats files c.args.mounts.now c.args.keys.now parts) (λ why unwritten not_memory procs set asked.
    refused-behind formats files procs set c.args.mounts.now c.args.keys.now parts asked
    (subst (λ (ms : List Mount). long_told ms c.args.mounts.now c.args.keys.now ≡ None) c.table-table.ensures.mounts c.in_ok-refuse_long_texts.ensures)
    (subst (λ (ms : List Mount). first_some (heavy_at ms) (over (file_of files) parts) ≡ None) c.table-table.ensures.mounts (ap (first_some (heavy_at table)) (sym all) ∙ c.in_ok-refuse_heavy.ensures))
    why
    (subst (λ (ms : List Mount). AreUnwritten formats ms (over (file_of files) parts) parts why) c.table-table.ensures.mounts
    (subst (λ (fs : List FileToWrite). AreUnwritten formats table fs parts why) again (unwritten not_memory))))
    c.written_texts.ensures.refused
