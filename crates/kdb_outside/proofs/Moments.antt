-- What a crash at any moment leaves, carried from call to call. This project's own.
use Rattle.std.proofs.Common.{◌≢◌, ℕ, ◌≤◌, List, inl, inr}
use Rattle.kdb_outside.specs.Images.{Image, KeepsImages, KeepsOtherImages, Elapses}
use Rattle.kdb_outside.specs.Crashes.{EveryImage, EverySince, EachOf, OnlyNow}

-- a run that begins now: what a crash leaves since the present moment is what it leaves now
pub EverySince-now : (may_leave : List ℕ → List ℕ → Type 0) (left_since : ℕ → Image → Type 0) (now : ℕ)
    (P : Image → Type 0) → OnlyNow left_since now may_leave
    → EveryImage may_leave P → EverySince left_since now P
EverySince-now may_leave left_since now P only every = λ image left. every image (only image left)

-- a run goes on over one more call
pub EverySince-after : (before t : ℕ) (past since : ℕ → Image → Type 0) (may_leave : List ℕ → List ℕ → Type 0)
    (P : Image → Type 0) → t ≤ before
    → EverySince past t P → EveryImage may_leave P → Elapses before past since may_leave → EverySince since t P
EverySince-after before t past since may_leave P so_far every_past every elapses =
    λ image left. elim (elapses.nothing_else t image so_far left) [ inl was ↦ every_past image was | inr is ↦ every image is ]

-- what may be left stays as it was, and so do its properties
pub EveryImage-kept : (old new : List ℕ → List ℕ → Type 0) (P : Image → Type 0) → EveryImage old P → KeepsImages old new
    → EveryImage new P
EveryImage-kept old new P every keeps = λ image is. every image (λ file. (keeps file).no_more (image file) (is file))

-- a run goes on over a call that leaves the images as they were
pub EverySince-kept : (before t : ℕ) (past since : ℕ → Image → Type 0) (old new : List ℕ → List ℕ → Type 0)
    (P : Image → Type 0) → t ≤ before
    → EverySince past t P → EveryImage old P → KeepsImages old new → Elapses before past since new
    → EverySince since t P
EverySince-kept before t past since old new P so_far every_past every keeps elapses =
    EverySince-after before t past since new P so_far every_past (EveryImage-kept old new P every keeps) elapses

-- what a crash leaves of one file is untouched by calls on another
pub EachOf-other : (file other : List ℕ) (old new : List ℕ → List ℕ → Type 0) (Q : List ℕ → Type 0)
    → KeepsOtherImages file old new → other ≢ file
    → EachOf (old other) Q → EachOf (new other) Q
EachOf-other file other old new Q others differ each = λ c is. each c ((others other differ).no_more c is)

-- each content that a crash leaves of a file is an image's
pub EveryImage-each : (may_leave : List ℕ → List ℕ → Type 0) (file : List ℕ) (Q : List ℕ → Type 0)
    → EachOf (may_leave file) Q → EveryImage may_leave (λ image. Q (image file))
EveryImage-each may_leave file Q each = λ image is. each (image file) (is file)

-- a weaker property of the images
pub EveryImage-weaker : (may_leave : List ℕ → List ℕ → Type 0) (P Q : Image → Type 0)
    → ((image : Image) → P image → Q image) → EveryImage may_leave P → EveryImage may_leave Q
EveryImage-weaker may_leave P Q weaker every = λ image is. weaker image (every image is)

-- a weaker property of what was left
pub EverySince-weaker : (left_since : ℕ → Image → Type 0) (t : ℕ) (P Q : Image → Type 0)
    → ((image : Image) → P image → Q image) → EverySince left_since t P → EverySince left_since t Q
EverySince-weaker left_since t P Q weaker every = λ image left. weaker image (every image left)
