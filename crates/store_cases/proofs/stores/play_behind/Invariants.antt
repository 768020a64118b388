-- Each run begins on a calm disk.
use Rattle.store_cases.specs.Disks.{IsCalmDisk}
use Rattle.store_cases.proofs.stores.play_behind.Given as goal

abbrev pub invariant-loop-run : goal.invariant-loop-run
invariant-loop-run l = IsCalmDisk l.disk
