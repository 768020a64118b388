-- Answers by what was got, and by the mounts.
use Rattle.std.specs.Prelude.{◌≡◌, ◌≢◌, ℕ, ◌<◌, true, List, ◌∷◌, ◌++◌, [], length, slice_get, map as over, Option, Some, None, IsSomeAnd, option_and_then, Err}
use Rattle.std.specs.Option.{option_map}
use Rattle.std.specs.List.{flat_map}
use Rattle.std.proofs.Common.{sym, ap, ◌∙◌, subst}
use Rattle.std.proofs.lemmas.List.{length-map}
use Rattle.std.proofs.lemmas.Option.{none-some, same_Some, slice_get-map}
use Rattle.std.proofs.lemmas.List.Folds.{flat_map-map}
use Rattle.general_words.proofs.Places.{there_is}
use Rattle.general_words.specs.Memory.{UnlessMemory}
use Rattle.all_formats.specs.Meanings as all
use Rattle.all_formats.specs.Laws as laws
use Rattle.storage_api.specs.Formats.{RefusesToWrite}
use Rattle.storage_api.specs.declared.refusals.WriteRefusal.{WriteRefusal}
use Rattle.storage_api.specs.declared.refusals.WriteRefusal.TheVariants as write
use Rattle.kdb_outside.specs.declared.kinds.Kind.{Kind}
use Rattle.key_name.specs.Joining.{joined}
use Rattle.key_name.specs.Owner.{owner_of}
use Rattle.model_names.specs.declared.namespaces.Namespace.TheVariants.{Cascading}
use Rattle.model_names.specs.WellFormed.{IsName}
use Rattle.model_maps.specs.KeyMap.{KeyMap}
use Rattle.model_maps.specs.Limits.{IsLimited}
use Rattle.mounted_files.specs.Sound.{AreNames}
use Rattle.model_names.specs.Name.{Name}
use Rattle.model_names.specs.Namespaces.{has_files}
use Rattle.mount_table.proofs.RootLemmas.{has_owner}
use Rattle.mount_table.specs.declared.mounts.Mount.{Mount}
use Rattle.mounted_files.specs.Files.{points_of}
use Rattle.mounted_files.specs.Opening.{IsMadeByKeys}
use Rattle.mounted_files.specs.declared.files.MountedFile.{MountedFile}
use Rattle.mounted_files.specs.declared.refusals.GetFault.{GetFault}
use Rattle.mounted_files.specs.declared.refusals.GetFault.TheVariants as faults
use Rattle.tool_single.specs.Alone.{got_alone}
use Rattle.tool_single.specs.Answer.{Answer, done, refused}
use Rattle.tool_commands.specs.Lines.{line_of_mount}
use Rattle.tool_words.specs.Request.{Action}
use Rattle.tool_commands.specs.Commands.{parent_of}
use Rattle.tool_single.specs.Answers.{AnswersGot, file_told, line_of_get, owner_in}
use Rattle.mounted_files.proofs.PointLemmas.{points-of_mounts}

-- the answer to one whose keys can't be got
pub got-fault : (MayRefuse : List ℕ → Type 0) (files : List MountedFile) (name parent : Name) (action : Action)
    (fault : GetFault) (answer : Answer) → parent ≡ parent_of name action
    → UnlessMemory faults.Memory (got_alone files parent ≡ Err fault) fault → fault ≢ faults.Memory
    → answer ≡ refused 5 (line_of_get fault)
    → AnswersGot MayRefuse files name action (got_alone files (parent_of name action)) answer
got-fault MayRefuse files name parent action fault answer parent_is gets no_memory is =
    subst (λ r. AnswersGot MayRefuse files name action r answer) (sym (ap (got_alone files) (sym parent_is) ∙ gets no_memory)) is

-- a table has an owner of each key in files
pub no-owner : (table : List Mount) (points : List Name) (name : Name) → IsMadeByKeys table
    → has_files name.namespace ≡ true → points ≡ over (λ mount. mount.at) table → None ≡ owner_of points name → ⊥
no-owner table points name made in_files are none =
    let owner = has_owner made.keys table name made.is in_files in
    absurd (none-some owner.0 (none ∙ (ap (λ ps. owner_of ps name) are ∙ owner.2)))

-- so one of the files of a table has it
pub owner_in-there : (files : List MountedFile) (name : Name)
    → IsMadeByKeys (over (λ (file : MountedFile). file.mount) files) → has_files name.namespace ≡ true
    → (file : MountedFile) × (owner_in files name ≡ Some file)
owner_in-there files name made in_files =
    let owner = has_owner made.keys (over (λ (file : MountedFile). file.mount) files) name made.is in_files in
    let within : owner.0 < length files = subst (λ n. owner.0 < n) (length-map files (λ (file : MountedFile). file.mount)) owner.1 in
    let found = there_is files owner.0 within in
    let at : owner_of (points_of files) name ≡ Some owner.0 = ap (λ points. owner_of points name) (sym (points-of_mounts files)) ∙ owner.2 in
    (found.0, ap (λ o. option_and_then (λ i. slice_get files i) o) at ∙ found.1)

-- the mount of the owner, by its number
pub owner-found : (files : List MountedFile) (name : Name) (i : ℕ)
    → Some i ≡ owner_of (over (λ (mount : Mount). mount.at) (over (λ (file : MountedFile). file.mount) files)) name
    → slice_get (over (λ (file : MountedFile). file.mount) files) i
    ≡ option_map (λ file. file.mount) (owner_in files name)
owner-found files name i is =
    slice_get-map (λ (file : MountedFile). file.mount) files i
    ∙ ap (λ o. option_map (λ (file : MountedFile). file.mount) (option_and_then (λ k. slice_get files k) o)) (is ∙ ap (λ points. owner_of points name) (points-of_mounts files))

-- what `file` tells, by the mount of the owner
pub told-owner : (found : Option MountedFile) (mount : Mount) (answer : Answer)
    → Some mount ≡ option_map (λ file. file.mount) found → answer ≡ done (mount.file ++ 10 ∷ [])
    → IsSomeAnd found (λ file. answer ≡ file_told file)
told-owner None mount answer is told = absurd (none-some mount (sym is))
told-owner (Some file) mount answer is told =
    told ∙ ap (λ (m : Mount). done (m.file ++ 10 ∷ [])) (same_Some mount file.mount is)

-- the lines of the mounts are those of their files
pub lines-of-mounts : (files : List MountedFile)
    → flat_map line_of_mount (over (λ (file : MountedFile). file.mount) files)
    ≡ flat_map (λ file. line_of_mount file.mount) files
lines-of-mounts files = flat_map-map line_of_mount (λ (file : MountedFile). file.mount) files

-- ---- export

-- a refusal that tells a key is no want of memory
pub key-told : (Breaks : Name → Type 0) (key : Name) (refusal : WriteRefusal) → refusal ≡ write.NotStorable key
    → RefusesToWrite Breaks refusal → Breaks key
key-told Breaks key refusal is refuses =
    subst (λ (w : WriteRefusal). RefusesToWrite Breaks w) is refuses (λ memory. absurd cc)

-- a key at which a map breaks that is within the limits has a cascading name, and a whole name that is one
pub breaks-cascading : (kind : Kind) (keys : KeyMap) (key : Name) → IsLimited keys → all.BreaksAt kind keys key
    → key.namespace ≡ Cascading
breaks-cascading kind keys key limited breaks =
    let there = laws.BreaksAt-key kind keys key breaks in (limited.each key there.0 there.1).cascading

pub breaks-named : (name : Name) (kind : Kind) (keys : KeyMap) (key : Name) → AreNames name keys
    → all.BreaksAt kind keys key → IsName (joined name key)
breaks-named name kind keys key names breaks =
    let there = laws.BreaksAt-key kind keys key breaks in names key there.0 there.1
