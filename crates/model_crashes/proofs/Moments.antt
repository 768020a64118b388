-- What a crash might have left while calls went on, one after the other.
use Rattle.std.proofs.Common.{◌≡◌, ◌≤◌, true, inl, inr, arith}
use Rattle.kdb_outside.specs.declared.disks.Disk.{Ghosts}
use Rattle.kdb_outside.specs.Frames.{OnlyReads}
use Rattle.kdb_outside.specs.Images.{Image, IsImage}
use Rattle.journal_steps.specs.Moments.{LeavesOnly}

-- what was left has a property that follows
pub only_follows : {D : Type 0} (g : Ghosts D) (old new : D) (P Q : Image → Type 0)
    → ((image : Image) → P image → Q image) → LeavesOnly g old new P → LeavesOnly g old new Q
only_follows g old new P Q follows only = record {
  each = λ image left. follows image (only.each image left);
  earlier = λ moment image le left. elim (only.earlier moment image le left) [ inl was ↦ inl was | inr has ↦ inr (follows image has) ];
}

-- one call behind others, each with a property from which a third follows
pub only_both : {D : Type 0} (g : Ghosts D) (old mid new : D) (P Q R : Image → Type 0)
    → ((image : Image) → P image → R image) → ((image : Image) → Q image → R image)
    → g.moment old ≤ g.moment mid → LeavesOnly g old mid P → LeavesOnly g mid new Q → LeavesOnly g old new R
only_both g old mid new P Q R first_follows second_follows later first second = record {
  each = λ image left. elim (second.earlier (g.moment old) image later left) [ inl was ↦ first_follows image (first.each image was) | inr has ↦ second_follows image has ];
  earlier = λ moment image le left. elim (second.earlier moment image (omega arith) left) [
    | inl was ↦ elim (first.earlier moment image le was) [ inl long_ago ↦ inl long_ago | inr has ↦ inr (first_follows image has) ]
    | inr has ↦ inr (second_follows image has)
  ];
}

-- what every image of a disk has, each crash leaves while it is only read
pub only_read : {D : Type 0} (g : Ghosts D) (old new : D) (P : Image → Type 0) → g.tells old ≡ true
    → OnlyReads g old new → ((image : Image) → IsImage (g.may_leave old) image → P image) → LeavesOnly g old new P
only_read g old new P tells reads every = record {
  each = λ image left. elim ((reads.time tells).nothing_else (g.moment old) image (omega arith) left) [
    | inl was ↦ every image (g.only_now old image tells was)
    | inr now ↦ every image (λ file. (reads.images tells file).no_more (image file) (now file))
  ];
  earlier = λ moment image le left. elim ((reads.time tells).nothing_else moment image le left) [
    | inl was ↦ inl was
    | inr now ↦ inr (every image (λ file. (reads.images tells file).no_more (image file) (now file)))
  ];
}

-- and now
pub only_now : {D : Type 0} (g : Ghosts D) (disk : D) (P : Image → Type 0) → g.tells disk ≡ true
    → ((image : Image) → IsImage (g.may_leave disk) image → P image) → LeavesOnly g disk disk P
only_now g disk P tells every = record {
  each = λ image left. every image (g.only_now disk image tells left);
  earlier = λ moment image le left. inl left;
}
