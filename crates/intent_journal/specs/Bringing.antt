-- What is left of the files while some texts go into them: those that later texts name too are left to them. This
-- project's own.
use Rattle.std.specs.Prelude.{◌≡◌, ◌≢◌, ◌⊎◌, List, ℕ, Some, None, Result, OnOk}
use Rattle.kdb_outside.specs.declared.disks.Disk.{Ghosts}
use Rattle.kdb_outside.specs.declared.faults.Failed.{Failed}
use Rattle.kdb_outside.specs.Images.{Only, KeepsImagesOf}
use Rattle.journal_codec.specs.declared.files.FileText.{FileText}
use Rattle.journal_steps.specs.Moments.{AddsOnly, KeepsUnnamed}
use Rattle.journal_steps.specs.Outcomes.{content_in}

-- a file that the texts don't name, or that later ones name
abbrev pub IsPassed : List FileText → List FileText → List ℕ → Type 0
IsPassed texts later file = (content_in texts file ≡ None) ⊎ (content_in later file ≢ None)

-- each file that the texts name and no later ones has its content
abbrev pub HasBroughtFirst : List FileText → List FileText → (List ℕ → List ℕ → Type 0) → Type 0
HasBroughtFirst texts later leaves =
    (file bytes : List ℕ) → content_in texts file ≡ Some bytes → content_in later file ≡ None → Only bytes (leaves file)

-- the texts went into their files, but for those that later ones name, and other files were left alone
pub record Brings {D : Type 0} (g : Ghosts D) (old new : D) (result : Result Unit Failed) (texts later : List FileText) : Type 0 where
  pub durable : OnOk result (HasBroughtFirst texts later (g.may_leave new))
  pub kept : (other : List ℕ) → IsPassed texts later other → KeepsImagesOf other (g.may_leave old) (g.may_leave new)
  pub seen : (other : List ℕ) → IsPassed texts later other → g.seen new other ≡ g.seen old other
  pub time : AddsOnly g old new (KeepsUnnamed texts (g.may_leave old))
