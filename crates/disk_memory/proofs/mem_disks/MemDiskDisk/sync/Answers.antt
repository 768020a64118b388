-- The sync was recorded, or nothing changed.
use Rattle.std.proofs.Common.{◌≡◌, refl}
use Rattle.kdb_outside.specs.Images.{Only, KeepsOtherImages, Elapses}
use Rattle.disk_memory.specs.declared.changes.Step.TheVariants.{Synced}
use Rattle.disk_memory.specs.DiskState.{moment_of, left_since_of, left_of, seen_of}
use Rattle.disk_memory.proofs.ChangeLemmas.{ok_by_call, by_call, Elapses-change, Elapses-none, Only-synced, left_of-other, KeepsOtherImages-none, seen_of-synced}
use Rattle.disk_memory.proofs.mem_disks.MemDiskDisk.sync.Goals as goal

pub returns-clause-same : goal.returns-clause-same
returns-clause-same c =
    let old = c.args.self.now in
    by_call (λ now. seen_of now ≡ seen_of old) old c.call.new.self c.args.file.now Synced _ c.call.result refl c.call.ensures.ok c.call.ensures.failed (seen_of-synced c.args.file.now old) refl

pub returns-clause-synced : goal.returns-clause-synced
returns-clause-synced c =
    let old = c.args.self.now in
    let file = c.args.file.now in
    ok_by_call (λ now. Only (seen_of old file) (left_of now file)) old c.call.new.self file Synced _ c.call.result refl c.call.ensures.ok (Only-synced file old)

pub returns-clause-others : goal.returns-clause-others
returns-clause-others c =
    let old = c.args.self.now in
    let file = c.args.file.now in
    by_call (λ now. KeepsOtherImages file (left_of old) (left_of now)) old c.call.new.self file Synced _ c.call.result refl c.call.ensures.ok c.call.ensures.failed
    (left_of-other _ old) (KeepsOtherImages-none file old)

pub returns-clause-time : goal.returns-clause-time
returns-clause-time c =
    let old = c.args.self.now in
    by_call (λ now. Elapses (moment_of old) (left_since_of old) (left_since_of now) (left_of now)) old c.call.new.self c.args.file.now Synced _ c.call.result refl c.call.ensures.ok c.call.ensures.failed
    (Elapses-change _ old) (Elapses-none old)
