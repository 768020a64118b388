-- What a file holds tells its state, and one more file joins those of the first mounts.
use Rattle.std.proofs.Common.{◌≡◌, ℕ, ◌<◌, ◌≤◌, List, [], ◌∷◌, ◌++◌, length, length-append, take, map as over, slice_get, Some, refl, sym, ap, subst, ◌∙◌, arith}
use Rattle.std.proofs.lemmas.Option.{slice_get_within}
use Rattle.model_names.specs.Name.{Name}
use Rattle.mount_table.specs.declared.mounts.Mount.{Mount}
use Rattle.general_words.proofs.Lists.{take-next}
use Rattle.mounted_files.specs.Files.{Badness, IsState, Reading}
use Rattle.mounted_files.specs.Holding.{IsHolding, IsStateOf}
use Rattle.mounted_files.specs.Short.{HasShortTexts, HaveShortTexts}
use Rattle.mounted_files.specs.declared.files.FileState.{FileState}
use Rattle.mounted_files.specs.declared.files.MountedFile.{MountedFile}
use Rattle.mounted_files.specs.declared.holding.Holding.{Holding}
use Rattle.mounted_files.specs.declared.holding.Holding.TheVariants.{Keys, Bad}
use Rattle.std.proofs.lemmas.List.{map_push}

-- a file is what its keys make it, or bad as they are
pub state-held : (Reads : Reading) (IsBad : Badness) (points : List Name) (i : ℕ) (mount : Mount) (bytes : List ℕ)
    (holding : Holding) (state : FileState) → IsHolding Reads IsBad mount.at mount.kind bytes holding
    → IsStateOf points i holding state → IsState Reads IsBad points i mount bytes state
state-held Reads IsBad points i mount bytes (Keys keys) state holds is =
    subst (λ (s : FileState). IsState Reads IsBad points i mount bytes s) (sym is) (keys, holds, refl, refl)
state-held Reads IsBad points i mount bytes (Bad cause) state holds is =
    subst (λ (s : FileState). IsState Reads IsBad points i mount bytes s) (sym is) holds

-- with the file of the next mount, files are those of the first mounts still
pub mounts-next : (table : List Mount) (files : List MountedFile) (file : MountedFile) (i : ℕ) (next : Mount)
    → i ≡ length files → file.mount ≡ next → Some next ≡ slice_get table i
    → over (λ f. f.mount) files ≡ take (length files) table
    → over (λ f. f.mount) (files ++ file ∷ []) ≡ take (length (files ++ file ∷ [])) table
mounts-next table files file i next i_is mount_is next_is before =
    map_push (λ (f : MountedFile). f.mount) files file
    ∙ (λ k. before k ++ mount_is k ∷ [])
    ∙ sym (take-next table (length files) next (next_is ∙ ap (slice_get table) i_is))
    ∙ ap (λ n. take n table) (sym (length-append files (file ∷ [])))

pub few-next : (table : List Mount) (files : List MountedFile) (file : MountedFile) (i : ℕ) (next : Mount)
    → i ≡ length files → Some next ≡ slice_get table i → length (files ++ file ∷ []) ≤ length table
few-next table files file i next i_is next_is =
    let lt : length files < length table = slice_get_within table (length files) next (sym (next_is ∙ ap (slice_get table) i_is)) in
    omega (arith, length-append files (file ∷ []))

-- and their shadows short
pub short-next : (files : List MountedFile) (file : MountedFile) → HaveShortTexts files → HasShortTexts file.state
    → HaveShortTexts (files ++ file ∷ [])
short-next [] file all short = (short, tt)
short-next (f ∷ files) file all short = (all.0, short-next files file all.1 short)
