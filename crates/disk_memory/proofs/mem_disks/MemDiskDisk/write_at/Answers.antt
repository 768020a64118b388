-- The write was recorded, or nothing changed.
use Rattle.std.proofs.Common.{refl}
use Rattle.kdb_outside.specs.Files.{written, ChangesTo, KeepsOthers}
use Rattle.kdb_outside.specs.Images.{IsTornWrite, Touches, Elapses}
use Rattle.disk_memory.specs.declared.changes.Step.TheVariants.{Wrote}
use Rattle.disk_memory.specs.DiskState.{moment_of, left_since_of, left_of, seen_of}
use Rattle.disk_memory.proofs.ChangeLemmas.{ok_by_call, by_call, Elapses-change, Elapses-none, Touches-write, Touches-no_write, ChangesTo-write}
use Rattle.disk_memory.proofs.mem_disks.MemDiskDisk.write_at.Goals as goal

pub returns-clause-written : goal.returns-clause-written
returns-clause-written c =
    let old = c.args.self.now in
    let file = c.args.file.now in
    let bytes = c.args.bytes.now in
    ok_by_call (λ now. ChangesTo file (written (seen_of old file) c.args.at bytes) (seen_of old) (seen_of now)) old c.call.new.self file (Wrote c.args.at bytes) _ c.call.result c.wrote-step.ensures c.call.ensures.ok
    (ChangesTo-write file c.args.at bytes old c.requires)

pub returns-clause-others : goal.returns-clause-others
returns-clause-others c =
    let old = c.args.self.now in
    let file = c.args.file.now in
    let bytes = c.args.bytes.now in
    by_call (λ now. KeepsOthers file (seen_of old) (seen_of now)) old c.call.new.self file (Wrote c.args.at bytes) _ c.call.result c.wrote-step.ensures c.call.ensures.ok c.call.ensures.failed
    (ChangesTo-write file c.args.at bytes old c.requires).others (λ other differ. refl)

pub returns-clause-images : goal.returns-clause-images
returns-clause-images c =
    let old = c.args.self.now in
    let file = c.args.file.now in
    let bytes = c.args.bytes.now in
    by_call (λ now. Touches file (IsTornWrite c.args.at bytes) (left_of old) (left_of now)) old c.call.new.self file (Wrote c.args.at bytes) _ c.call.result c.wrote-step.ensures c.call.ensures.ok c.call.ensures.failed
    (Touches-write file c.args.at bytes old) (Touches-no_write file c.args.at bytes old)

pub returns-clause-time : goal.returns-clause-time
returns-clause-time c =
    let old = c.args.self.now in
    let file = c.args.file.now in
    by_call (λ now. Elapses (moment_of old) (left_since_of old) (left_since_of now) (left_of now)) old c.call.new.self file (Wrote c.args.at c.args.bytes.now) _ c.call.result c.wrote-step.ensures c.call.ensures.ok
    c.call.ensures.failed (Elapses-change _ old) (Elapses-none old)
