-- Calls on a disk, one after the other. This project's own.
use Rattle.std.proofs.Common.{ℕ, ◌≤◌, List, refl, ◌∙◌, arith, inl, inr}
use Rattle.kdb_outside.specs.declared.disks.Disk.{Ghosts}
use Rattle.kdb_outside.specs.Images.{Image, KeepsImages, KeepsOtherImages, Elapses}
use Rattle.kdb_outside.specs.Frames.{GoesOn, OnlyReads}

-- images that were kept twice were kept
pub KeepsImages-then : (before middle after : List ℕ → List ℕ → Type 0) → KeepsImages before middle
    → KeepsImages middle after → KeepsImages before after
KeepsImages-then before middle after first second file = record {
  no_more = λ c left. (first file).no_more c ((second file).no_more c left);
  no_fewer = λ c left. (second file).no_fewer c ((first file).no_fewer c left);
}

-- images of other files that were kept twice were kept
pub KeepsOtherImages-then : (file : List ℕ) (before middle after : List ℕ → List ℕ → Type 0)
    → KeepsOtherImages file before middle → KeepsOtherImages file middle after
    → KeepsOtherImages file before after
KeepsOtherImages-then file before middle after first second other differ = record {
  no_more = λ c left. (first other differ).no_more c ((second other differ).no_more c left);
  no_fewer = λ c left. (second other differ).no_fewer c ((first other differ).no_fewer c left);
}

-- time that goes by twice, with the images kept in the second part
pub Elapses-then : (start next : ℕ) (past between since : ℕ → Image → Type 0) (middle after : List ℕ → List ℕ → Type 0)
    → start ≤ next → KeepsImages middle after
    → Elapses start past between middle → Elapses next between since after → Elapses start past since after
Elapses-then start next past between since middle after le kept first second = record {
  nothing_else = λ moment image early left.
      elim (second.nothing_else moment image (omega arith) left) [
        | inl was ↦ elim (first.nothing_else moment image early was) [
          | inl long_ago ↦ inl long_ago
          | inr now ↦ inr (λ file. (kept file).no_fewer (image file) (now file))
        ]
        | inr now ↦ inr now
      ];
  keeps = λ moment image early left. second.keeps moment image (omega arith) (first.keeps moment image early left);
}

-- two calls that go on, one after the other
pub GoesOn-then : {D : Type 0} (g : Ghosts D) (old mid new : D) → GoesOn g old mid → GoesOn g mid new → GoesOn g old new
GoesOn-then g old mid new first second = record {
  tells = second.tells ∙ first.tells;
  moment = omega (arith, first.moment, second.moment);
  later = omega (arith, first.later, second.later);
}

-- a call that only reads goes on
pub OnlyReads-goes_on : {D : Type 0} (g : Ghosts D) (old new : D) → OnlyReads g old new → GoesOn g old new
OnlyReads-goes_on g old new reads = record { tells = reads.tells; moment = reads.moment; later = reads.later }

-- no call reads nothing
pub OnlyReads-none : {D : Type 0} (g : Ghosts D) (disk : D) → OnlyReads g disk disk
OnlyReads-none g disk = record {
  same = λ told. refl;
  images = λ told file. record { no_more = λ c left. left; no_fewer = λ c left. left };
  time = λ told. record { nothing_else = λ moment image early left. inl left; keeps = λ moment image early left. left };
  tells = refl;
  moment = omega arith;
  later = omega arith;
}

-- two reads, one after the other, are one
pub OnlyReads-then : {D : Type 0} (g : Ghosts D) (old mid new : D) → OnlyReads g old mid → OnlyReads g mid new
    → OnlyReads g old new
OnlyReads-then g old mid new first second = record {
  same = λ told. second.same (first.tells ∙ told) ∙ first.same told;
  images = λ told. KeepsImages-then (g.may_leave old) (g.may_leave mid) (g.may_leave new) (first.images told) (second.images (first.tells ∙ told));
  time = λ told.
      let still = first.tells ∙ told in
      Elapses-then (g.moment old) (g.moment mid) (g.left_since old) (g.left_since mid) (g.left_since new) (g.may_leave mid) (g.may_leave new)
      first.moment (second.images still) (first.time told) (second.time still);
  tells = second.tells ∙ first.tells;
  moment = omega (arith, first.moment, second.moment);
  later = omega (arith, first.later, second.later);
}
