-- Weighing keeps mounts and shadows, and goes on file by file.
use Rattle.std.proofs.Common.{◌≡◌, ℕ, ◌+◌, nat_lt, Bool, true, false, cond, List, [], ◌∷◌, map as over, refl, ap}
use Rattle.general_words.specs.Saturated.{saturated}
use Rattle.model_maps.specs.KeyMap.{weight, heaviest_map}
use Rattle.mounted_files.specs.Short.{HasShortTexts}
use Rattle.mounted_files.specs.Weighed.{added_weight, weighed_behind, weighed_file, weighed_from}
use Rattle.mounted_files.specs.declared.causes.Cause.TheVariants.{TooHeavy}
use Rattle.mounted_files.specs.declared.files.FileState.{FileState}
use Rattle.mounted_files.specs.declared.files.FileState.TheVariants.{Good, Bad}
use Rattle.mounted_files.specs.declared.files.MountedFile.{MountedFile}

pub mounts-from : (sum : ℕ) (files : List MountedFile)
    → over (λ file. file.mount) (weighed_from sum files) ≡ over (λ file. file.mount) files
mounts-from sum [] = refl
mounts-from sum (file ∷ files) =
    ap (λ l. file.mount ∷ l) (mounts-from (sum + added_weight (weighed_file sum file)) files)

pub short-behind : (sum : ℕ) (state : FileState) → HasShortTexts state → HasShortTexts (weighed_behind sum state)
short-behind sum (Good visible shadow) short = by (nat_lt heaviest_map (sum + weight visible))
  where
    by : (b : Bool) → HasShortTexts (cond b (Bad (TooHeavy (saturated (sum + weight visible)))) (Good visible shadow))
    by true = tt
    by false = short
short-behind sum (Bad cause) short = tt

-- so does weighing one file
pub weighed_file-short : (sum : ℕ) (file : MountedFile) → HasShortTexts file.state
    → HasShortTexts (weighed_file sum file).state
weighed_file-short sum file short = short-behind _ file.state short
