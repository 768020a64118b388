-- The mountpoints of a table are those of its files.
use Rattle.std.proofs.Common.{◌≡◌, List, [], ◌∷◌, map as over, refl, ap}
use Rattle.mount_table.specs.declared.mounts.Mount.{Mount}
use Rattle.mounted_files.specs.Files.{points_of}
use Rattle.mounted_files.specs.declared.files.MountedFile.{MountedFile}

pub points-of_mounts : (files : List MountedFile)
    → over (λ (mount : Mount). mount.at) (over (λ (file : MountedFile). file.mount) files) ≡ points_of files
points-of_mounts [] = refl
points-of_mounts (file ∷ files) = ap (λ points. file.mount.at ∷ points) (points-of_mounts files)
