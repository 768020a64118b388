-- What a store that is closed leaves of its disk.
use Rattle.std.proofs.Common.{ℕ, List, refl}
use Rattle.kdb_outside.specs.Images.{Image, IsImage}
use Rattle.journal_steps.specs.Outcomes.{SameFiles}
use Rattle.intent_journal.specs.States.{IsSettled}

-- a disk on which no entry waits shows its files
pub settled_shown : (seen : Image) (leaves : List ℕ → List ℕ → Type 0) (files : Image) → IsSettled leaves files
    → IsImage leaves seen → SameFiles seen files
settled_shown seen leaves files settled is file own = settled.same file own refl (seen file) (is file)
