-- The disk is seen as its fields.
use Rattle.std.proofs.Common.{IsTrue, ◌↔◌, subst}
use Rattle.disk_memory.specs.DiskState.{IsNextFailing}
use Rattle.disk_memory.proofs.mem_disks.MemDisk.fails_next.Goals as goal

pub returns : goal.returns
returns c =
    subst (λ disk. IsTrue c.is_failing.result ↔ IsNextFailing disk) c.self.view_is (rw c.deref.ensures.value at c.is_failing.ensures)
