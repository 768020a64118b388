-- What a step on the files of a disk makes of that which a crash may leave. This project's own.
use Rattle.std.specs.Prelude.{ℕ, List, Result, OnOk}
use Rattle.kdb_outside.specs.declared.disks.Disk.{Ghosts}
use Rattle.kdb_outside.specs.declared.faults.Failed.{Failed}
use Rattle.kdb_outside.specs.Files.{written}
use Rattle.kdb_outside.specs.Images.{Only, IsTornWrite, KeepsOtherImages, Touches}
use Rattle.journal_codec.specs.declared.files.FileText.{FileText}
use Rattle.journal_steps.specs.Moments.{AddsOnly, IsStepOf}

-- these bytes were written into a file and synced, or some of them
pub record WritesThrough {D : Type 0} (g : Ghosts D) (old new : D) (result : Result Unit Failed) (file : List ℕ) (at : ℕ) (bytes : List ℕ) : Type 0 where
  pub durable : OnOk result (Only (written (g.seen old file) at bytes) (g.may_leave new file))
  pub images : Touches file (IsTornWrite at bytes) (g.may_leave old) (g.may_leave new)
  pub time : AddsOnly g old new (IsStepOf file (IsTornWrite at bytes) (g.may_leave old))

-- a file of an entry got its content, and other files were left alone
pub record PutsFile {D : Type 0} (g : Ghosts D) (old new : D) (result : Result Unit Failed) (text : FileText) : Type 0 where
  pub durable : OnOk result (Only text.bytes (g.may_leave new text.file))
  pub others : KeepsOtherImages text.file (g.may_leave old) (g.may_leave new)
