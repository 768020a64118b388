-- The laws of a disk, for the disk over memory. This project's own.
use Rattle.std.specs.Prelude.{◌≡◌, ℕ, ◌≤◌, List, [], ◌∷◌, length, Bool, true, false, if◌then◌else◌, nat_le, refl}
use Rattle.std.proofs.Common.{sym, ap, ◌∙◌, subst, arith}
use Rattle.std.proofs.lemmas.List.{take_all}
use Rattle.std.proofs.lemmas.Bool.{leb-true}
use Rattle.kdb_outside.specs.Files.{written}
use Rattle.kdb_outside.specs.Images.{Image, IsImage, IsTornWrite}
use Rattle.kdb_outside.proofs.TornLemmas.{IsTornWrite-whole, IsTornWrite-none, IsTornCut-whole}
use Rattle.disk_memory.specs.declared.changes.Step.{Step}
use Rattle.disk_memory.specs.declared.changes.Step.TheVariants.{Wrote, Cut, Synced}
use Rattle.disk_memory.specs.Steps.{after, after_all, Leaves, LeavesAfter}
use Rattle.disk_memory.specs.DiskState.{DiskState, seen_of, left_of, moment_of, at_moment, left_since_of}

-- a crash may leave a write that was made, or that was not
IsTornWrite-made : (at : ℕ) (bytes seen : List ℕ) (made : Bool) → (made ≡ true → at ≤ length seen)
    → IsTornWrite at bytes seen (if made then written seen at bytes else seen)
IsTornWrite-made at bytes seen true within = IsTornWrite-whole seen at bytes (within refl)
IsTornWrite-made at bytes seen false within = IsTornWrite-none seen at bytes

-- a crash may leave a step as reads see it
Leaves-after : (step : Step) (seen : List ℕ) → Leaves step seen seen (after seen step)
Leaves-after (Wrote at bytes) seen =
    IsTornWrite-made at bytes seen (nat_le at (length seen)) (leb-true at (length seen))
Leaves-after (Cut new_length) seen = IsTornCut-whole new_length seen
Leaves-after Synced seen = refl

-- a crash may leave all that reads see
LeavesAfter-after_all : (seen : List ℕ) (steps : List Step) → LeavesAfter seen seen steps (after_all seen steps)
LeavesAfter-after_all seen [] = refl
LeavesAfter-after_all seen (step ∷ steps) =
    (after seen step, Leaves-after step seen, LeavesAfter-after_all (after seen step) steps)

-- what reads give is an image
pub reads_are_images : (disk : DiskState) → IsImage (left_of disk) (seen_of disk)
reads_are_images disk = λ file. LeavesAfter-after_all _ _

-- the present moment is the one behind all changes
at_present : (disk : DiskState) → at_moment (moment_of disk) disk ≡ disk
at_present disk = ap (λ past. record disk { past = past }) (take_all (length disk.past) disk.past (omega arith))

-- a crash now is a crash at a moment up to now
pub counts_at_present : (disk : DiskState) (since : ℕ) (image : Image) → since ≤ moment_of disk
    → IsImage (left_of disk) image → left_since_of disk since image
counts_at_present disk since image so_far is =
    (moment_of disk, so_far, omega arith, subst (λ now. IsImage (left_of now) image) (sym (at_present disk)) is)

-- since the present moment no other one has come
pub only_at_present : (disk : DiskState) (image : Image) → left_since_of disk (moment_of disk) image
    → IsImage (left_of disk) image
only_at_present disk image left =
    let same : left.0 ≡ moment_of disk = omega arith in
    subst (λ now. IsImage (left_of now) image) (ap (λ moment. at_moment moment disk) same ∙ at_present disk) left.3
