-- What a call leaves of a disk besides what it is for, said in one clause. (This project's own.)
use Rattle.std.specs.Prelude.{◌≡◌, ◌≤◌, true}
use Rattle.kdb_outside.specs.declared.disks.Disk.{Ghosts}
use Rattle.kdb_outside.specs.Images.{KeepsImages, Elapses}

-- a call goes on: the disk tells as much as before, its moment doesn't fall, and neither does its count of faults
pub record GoesOn {D : Type 0} (g : Ghosts D) (old new : D) : Type 0 where
  pub tells : g.tells new ≡ g.tells old
  pub moment : g.moment old ≤ g.moment new
  pub later : g.faults old ≤ g.faults new

-- a call only reads: it goes on, and where the disk tells, the files and what a crash may leave of them are as they
-- were, and while it went on a crash might have left nothing else
pub record OnlyReads {D : Type 0} (g : Ghosts D) (old new : D) : Type 0 where
  pub same : g.tells old ≡ true → g.seen new ≡ g.seen old
  pub images : g.tells old ≡ true → KeepsImages (g.may_leave old) (g.may_leave new)
  pub time : g.tells old ≡ true → Elapses (g.moment old) (g.left_since old) (g.left_since new) (g.may_leave new)
  pub tells : g.tells new ≡ g.tells old
  pub moment : g.moment old ≤ g.moment new
  pub later : g.faults old ≤ g.faults new
