-- The closure has references alone, and of these only the one to the store is no plain fact: `store_sync` says that
-- threads may share it.
use mathlib.Core.List.{[], ◌∷◌}
use mir.Syntax.{named}
use denote.Param.{param}
use denote.Param.Send.{AllSync, recorded_sync, shr_slice_sync, shr_sync, struct_sync}
use denote.Ref.{ShrRef}
use denote.Slice.{ShrSlice}
use denote.Struct.Declared.{shape}
use denote.Struct.Tuple.{field_at, type_at}
use Rattle.std.proofs.alloc.Global.TheSendSync as heap
use Rattle.std.specs.contracts.alloc.Global as Global
use Rattle.batch_script.proofs.steps.Steps.TheSendSync as steps
use Rattle.batch_script.specs.contracts.steps.Steps as Steps
use Rattle.kdb_handle.proofs.Crossing.{store_row, store_sync}
use Rattle.batch_run.proofs.phases.take_beside.Goals as goal

pub for_each_mut-requires-sync-F : goal.for_each_mut-requires-sync-F
for_each_mut-requires-sync-F g c κs within =
    let D = param 1 g.row.D in
    let F = param 2 g.row.F in
    let P = param 3 g.row.P in
    let store = store_sync D g.D.Disk F P g.F.Formats g.P.Patterns c.type_bounds.send-D c.type_bounds.send-P c.type_bounds.sync-F in
    let lives = κs.1.1.1.1.1.1 in
    let captures =
    ShrRef (named 6) lives.0 (param 4 g.row.R) ∷ ShrRef (named 7) lives.1.0 Global.the_row ∷ ShrRef (named 8) lives.1.1.0 (param 0 g.row.G)
    ∷ ShrRef (named 9) lives.1.1.1.0 (store_row D g.D.Disk F P g.F.Formats g.P.Patterns)
    ∷ ShrSlice (named 10) lives.1.1.1.1.0 Steps.the_row ∷ [] in
    let each : AllSync captures = (
      shr_sync _ _ _ c.type_bounds.sync-R,
      (shr_sync _ _ _ heap.the_sync, (shr_sync _ _ _ c.type_bounds.sync-G, (shr_sync _ _ _ store, (shr_slice_sync _ _ _ steps.the_sync, tt)))),
    ) in
    record {
      shared = (recorded_sync (field_at [] captures).row _ _ (type_at [] captures).to_one (struct_sync (shape (type_at [] captures)) each)).shared;
    }
