-- What reads leave alone.
use Rattle.std.proofs.Common.{ℕ, List}
use Rattle.kdb_outside.specs.Images.{Image, IsImage, KeepsImages, Elapses}
use Rattle.journal_steps.specs.Moments.{LeavesElseOnly}
use Rattle.journal_steps.proofs.Meanwhile.{else_first}

pub IsImage-kept : (old new : List ℕ → List ℕ → Type 0) → KeepsImages old new → (image : Image) → IsImage new image
    → IsImage old image
IsImage-kept old new kept image is file = (kept file).no_more (image file) (is file)

-- while reads went on a crash might have left only images of before
pub reads_leave : (before : ℕ) (past since : ℕ → Image → Type 0) (old new : List ℕ → List ℕ → Type 0)
    → Elapses before past since new → KeepsImages old new
    → LeavesElseOnly before past since (IsImage old)
reads_leave before past since old new time kept =
    else_first before past since new (IsImage old) time (IsImage-kept old new kept)
