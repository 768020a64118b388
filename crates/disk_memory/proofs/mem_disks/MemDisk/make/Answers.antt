-- The files follow the record over one more change.
use Rattle.disk_memory.proofs.ChangeLemmas.{Agrees-push}
use Rattle.disk_memory.proofs.mem_disks.MemDisk.make.Goals as goal

pub invariant_of-self-2 : goal.invariant_of-self-2
invariant_of-self-2 c =
    rw (c.push_reserved.ensures.items, c.in_ok-reserve.ensures.items) (Agrees-push _ _ _ _ _ c.self.invariant c.in_ok-apply_in.ensures.ok)
