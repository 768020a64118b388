-- The cut was recorded, or nothing changed.
use Rattle.std.proofs.Common.{refl, take}
use Rattle.kdb_outside.specs.Files.{ChangesTo, KeepsOthers}
use Rattle.kdb_outside.specs.Images.{IsTornCut, Touches, Elapses}
use Rattle.disk_memory.specs.declared.changes.Step.TheVariants.{Cut}
use Rattle.disk_memory.specs.DiskState.{moment_of, left_since_of, left_of, seen_of}
use Rattle.disk_memory.proofs.ChangeLemmas.{ok_by_call, by_call, Elapses-change, Elapses-none, Touches-cut, Touches-no_cut, ChangesTo-cut}
use Rattle.disk_memory.proofs.mem_disks.MemDiskDisk.cut.Goals as goal

pub returns-clause-cut : goal.returns-clause-cut
returns-clause-cut c =
    let old = c.args.self.now in
    let file = c.args.file.now in
    ok_by_call (λ now. ChangesTo file (take c.args.new_length (seen_of old file)) (seen_of old) (seen_of now)) old c.call.new.self file (Cut c.args.new_length) _ c.call.result refl c.call.ensures.ok
    (ChangesTo-cut file c.args.new_length old)

pub returns-clause-others : goal.returns-clause-others
returns-clause-others c =
    let old = c.args.self.now in
    let file = c.args.file.now in
    by_call (λ now. KeepsOthers file (seen_of old) (seen_of now)) old c.call.new.self file (Cut c.args.new_length) _ c.call.result refl c.call.ensures.ok c.call.ensures.failed
    (ChangesTo-cut file c.args.new_length old).others (λ other differ. refl)

pub returns-clause-images : goal.returns-clause-images
returns-clause-images c =
    let old = c.args.self.now in
    let file = c.args.file.now in
    by_call (λ now. Touches file (IsTornCut c.args.new_length) (left_of old) (left_of now)) old c.call.new.self file (Cut c.args.new_length) _ c.call.result refl c.call.ensures.ok c.call.ensures.failed
    (Touches-cut file c.args.new_length old) (Touches-no_cut file c.args.new_length old)

pub returns-clause-time : goal.returns-clause-time
returns-clause-time c =
    let old = c.args.self.now in
    by_call (λ now. Elapses (moment_of old) (left_since_of old) (left_since_of now) (left_of now)) old c.call.new.self c.args.file.now (Cut c.args.new_length) _ c.call.result refl c.call.ensures.ok
    c.call.ensures.failed (Elapses-change _ old) (Elapses-none old)
