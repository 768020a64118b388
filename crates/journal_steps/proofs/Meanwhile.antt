-- What a crash might have left while several calls went on, one after the other.
use Rattle.std.proofs.Common.{ℕ, ◌≤◌, List, inl, inr, Result, Ok, Err, OnOk, OnErr, subst, sym, arith}
use Rattle.kdb_outside.specs.declared.faults.Failed.{Failed}
use Rattle.kdb_outside.specs.Images.{Image, IsImage, Only, KeepsImages, KeepsOtherImages, Touches, Elapses}
use Rattle.kdb_outside.proofs.Frames.{KeepsOtherImages-then}
use Rattle.journal_steps.specs.Moments.{LeavesElseOnly, LeavesMeanwhile, IsStepOf, KeepsElse}

-- one call on a disk
pub else_first : (before : ℕ) (past since : ℕ → Image → Type 0) (leaves : List ℕ → List ℕ → Type 0) (P : Image → Type 0)
    → Elapses before past since leaves → ((image : Image) → IsImage leaves image → P image)
    → LeavesElseOnly before past since P
else_first before past since leaves P time has moment image le left =
    elim (time.nothing_else moment image le left) [ inl earlier ↦ inl earlier | inr now ↦ inr (has image now) ]

-- one call behind others
pub else_then : (before between : ℕ) (past mid since : ℕ → Image → Type 0) (leaves : List ℕ → List ℕ → Type 0)
    (P : Image → Type 0)
    → LeavesElseOnly before past mid P → before ≤ between → Elapses between mid since leaves
    → ((image : Image) → IsImage leaves image → P image)
    → LeavesElseOnly before past since P
else_then before between past mid since leaves P so_far later time has moment image le left =
    elim (time.nothing_else moment image (omega arith) left) [ inl earlier ↦ so_far moment image le earlier | inr now ↦ inr (has image now) ]

-- some calls behind others
pub else_both : (before between : ℕ) (past mid since : ℕ → Image → Type 0) (P : Image → Type 0)
    → LeavesElseOnly before past mid P → before ≤ between → LeavesElseOnly between mid since P
    → LeavesElseOnly before past since P
else_both before between past mid since P so_far later next moment image le left =
    elim (next moment image (omega arith) left) [ inl earlier ↦ so_far moment image le earlier | inr has ↦ inr has ]

-- a property that follows
pub else_weaker : (before : ℕ) (past since : ℕ → Image → Type 0) (P Q : Image → Type 0)
    → LeavesElseOnly before past since P → ((image : Image) → P image → Q image) → LeavesElseOnly before past since Q
else_weaker before past since P Q so_far follows moment image le left =
    elim (so_far moment image le left) [ inl earlier ↦ inl earlier | inr has ↦ inr (follows image has) ]

-- what held before the call too held all the while
pub meanwhile : (before : ℕ) (past since : ℕ → Image → Type 0) (P : Image → Type 0)
    → LeavesElseOnly before past since P → ((image : Image) → past before image → P image)
    → LeavesMeanwhile before past since P
meanwhile before past since P so_far held = record {
  each = λ image left. elim (so_far before image (omega arith) left) [ inl earlier ↦ held image earlier | inr has ↦ has ];
  earlier = so_far;
}

-- a sync leaves nothing of its file that a crash might not have left before it
pub sync_this : (r : Result Unit Failed) (file bytes : List ℕ) (old new : List ℕ → List ℕ → Type 0)
    → OnOk r (Only bytes (new file)) → OnErr r (KeepsImages old new)
    → old file bytes → (c : List ℕ) → new file c → old file c
sync_this (Ok x) file bytes old new only pending seen c now = subst (old file) (sym (only c now)) seen
sync_this (Err e) file bytes old new only pending seen c now = (pending file).no_more c now

-- an image behind a step of one file
pub step_of : (file : List ℕ) (Step : List ℕ → List ℕ → Type 0) (old new : List ℕ → List ℕ → Type 0)
    → Touches file Step old new
    → (image : Image) → IsImage new image → IsStepOf file Step old image
step_of file Step old new touches image is = record {
  this = touches.this (image file) (is file);
  others = λ other ne. (touches.others other ne).no_more (image other) (is other);
}

-- an image behind calls on one file
pub else_kept : (file : List ℕ) (old new : List ℕ → List ℕ → Type 0) → KeepsOtherImages file old new → (image : Image)
    → IsImage new image → KeepsElse file old image
else_kept file old new others image is other ne = (others other ne).no_more (image other) (is other)

-- a sync behind a step
pub Touches-sync : (r : Result Unit Failed) (file bytes : List ℕ) (Step : List ℕ → List ℕ → Type 0)
    (old mid new : List ℕ → List ℕ → Type 0) → Touches file Step old mid
    → OnOk r (Only bytes (new file)) → OnErr r (KeepsImages mid new) → mid file bytes → KeepsOtherImages file mid new
    → Touches file Step old new
Touches-sync r file bytes Step old mid new touches only pending seen others = record {
  this = λ c now. touches.this c (sync_this r file bytes mid new only pending seen c now);
  others = KeepsOtherImages-then file old mid new touches.others others;
}
