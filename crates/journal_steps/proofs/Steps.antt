-- What a step of one file makes of that which a crash may leave.
use Rattle.std.proofs.Common.{◌≡◌, ◌≢◌, ℕ, List, inl, Result, Ok, Err, OnOk, OnErr, sym, subst}
use Rattle.std.specs.Result.{IsErr}
use Rattle.kdb_outside.specs.declared.disks.Disk.{Ghosts}
use Rattle.kdb_outside.specs.declared.faults.Failed.{Failed}
use Rattle.kdb_outside.specs.Images.{Image, Touches}
use Rattle.journal_steps.specs.Moments.{LeavesMeanwhile, IsStepOf}
use Rattle.journal_steps.specs.Steps.{WritesThrough}

pub on_ok : {X E : Type 0} (P : Type 0) (r : Result X E) → P → OnOk r P
on_ok P (Ok x) p = p
on_ok P (Err e) p = tt

pub on_err : {X E : Type 0} (P : Type 0) (r : Result X E) → P → OnErr r P
on_err P (Ok x) p = tt
on_err P (Err e) p = p

-- what one image leaves
abbrev pub only_image : Image → List ℕ → List ℕ → Type 0
only_image image file c = c ≡ image file

-- on a disk that was left alone nothing else happened
pub still : (before : ℕ) (past : ℕ → Image → Type 0) (P : Image → Type 0)
    → ((image : Image) → past before image → P image) → LeavesMeanwhile before past past P
still before past P held = record { each = held; earlier = λ moment image le left. inl left }

-- a step of one file
pub record IsFileStep (file : List ℕ) (Step : List ℕ → List ℕ → Type 0) (old new : List ℕ → List ℕ → Type 0) : Type 0 where
  pub others : (other : List ℕ) → other ≢ file → (c : List ℕ) → new other c → old other c
  pub this : (c : List ℕ) → new file c → (former : List ℕ) × old file former × Step former c

pub file_step : (file : List ℕ) (Step : List ℕ → List ℕ → Type 0) (old new : List ℕ → List ℕ → Type 0)
    → Touches file Step old new → IsFileStep file Step old new
file_step file Step old new touches =
    record { others = λ other ne c is. (touches.others other ne).no_more c is; this = touches.this }

-- and one of its image
pub image_step : (file : List ℕ) (Step : List ℕ → List ℕ → Type 0) (old : List ℕ → List ℕ → Type 0) (image : Image)
    → IsStepOf file Step old image → IsFileStep file Step old (only_image image)
image_step file Step old image step = record {
  others = λ other ne c is. subst (old other) (sym is) (step.others other ne);
  this = λ c is. let was = step.this in (was.0, was.1, subst (Step was.0) (sym is) was.2);
}

-- a write that failed may be told of another failure
pub failed_writes : {D : Type 0} (g : Ghosts D) (old new : D) (r other : Result Unit Failed) (file : List ℕ) (at : ℕ)
    (bytes : List ℕ) → IsErr other → WritesThrough g old new r file at bytes
    → WritesThrough g old new other file at bytes
failed_writes g old new r (Ok x) file at bytes failed writes = absurd (cc)
failed_writes g old new r (Err e) file at bytes failed writes =
    record { durable = tt; images = writes.images; time = writes.time }
