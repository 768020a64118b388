-- What a crash might have left while a call went on. This project's own.
use Rattle.std.specs.Prelude.{◌≡◌, ◌≢◌, ◌⊎◌, ℕ, ◌≤◌, List, None}
use Rattle.kdb_outside.specs.declared.disks.Disk.{Ghosts}
use Rattle.kdb_outside.specs.Images.{Image}
use Rattle.kdb_outside.specs.Crashes.{EverySince}
use Rattle.journal_codec.specs.declared.files.FileText.{FileText}
use Rattle.journal_steps.specs.Outcomes.{content_in}

-- a crash might have left what it might have left before the call, and else only images with this property
abbrev pub LeavesElseOnly : ℕ → (ℕ → Image → Type 0) → (ℕ → Image → Type 0) → (Image → Type 0) → Type 0
LeavesElseOnly before past since Property =
    (moment : ℕ) (image : Image) → moment ≤ before → since moment image → past moment image ⊎ Property image

-- since the call began a crash might have left only images with this property
pub record LeavesMeanwhile (before : ℕ) (past since : ℕ → Image → Type 0) (Property : Image → Type 0) : Type 0 where
  pub each : EverySince since before Property
  pub earlier : LeavesElseOnly before past since Property

-- both of them, for a call that found a disk and left it
abbrev pub AddsOnly : {D : Type 0} → Ghosts D → D → D → (Image → Type 0) → Type 0
AddsOnly g old new Property = LeavesElseOnly (g.moment old) (g.left_since old) (g.left_since new) Property

abbrev pub LeavesOnly : {D : Type 0} → Ghosts D → D → D → (Image → Type 0) → Type 0
LeavesOnly g old new Property = LeavesMeanwhile (g.moment old) (g.left_since old) (g.left_since new) Property

-- one file came by a step from what a crash might have left of it, and each other file is as it might have left it
pub record IsStepOf (file : List ℕ) (Step : List ℕ → List ℕ → Type 0) (leaves : List ℕ → List ℕ → Type 0) (image : Image) : Type 0 where
  pub this : (former : List ℕ) × leaves file former × Step former (image file)
  pub others : (other : List ℕ) → other ≢ file → leaves other (image other)

-- each file but this one is as a crash might have left it
abbrev pub KeepsElse : List ℕ → (List ℕ → List ℕ → Type 0) → Image → Type 0
KeepsElse file leaves image = (other : List ℕ) → other ≢ file → leaves other (image other)

-- each file that an entry doesn't name is as a crash might have left it
abbrev pub KeepsUnnamed : List FileText → (List ℕ → List ℕ → Type 0) → Image → Type 0
KeepsUnnamed entry leaves image = (other : List ℕ) → content_in entry other ≡ None → leaves other (image other)
