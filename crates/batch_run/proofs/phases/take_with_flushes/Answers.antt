-- The flusher's closure goes to another thread: it has references alone, and of these only the ones to the store and to
-- the flusher are no plain facts.
use mathlib.Core.List.{[], ◌∷◌}
use mir.Syntax.{named, of_param}
use denote.Builtin.{u64}
use denote.Exit.{no, unseen}
use denote.Param.{param}
use denote.Param.Send.{AllSend, Quiet-if, mut_send, recorded_send, sendable, shr_send, struct_send}
use denote.RattleType.{RattleType}
use denote.Ref.{MutRef, ShrRef}
use denote.Struct.Declared.{shape}
use denote.Struct.Recorded.{Recorded}
use denote.Struct.Tuple.{field_at, type_at}
use Rattle.kdb_handle.proofs.Crossing.{store_row, store_sync}
use Rattle.kdb_handle.proofs.flushing.Flusher.TheSendSync as flusher
use Rattle.kdb_handle.specs.contracts.flushing.Flusher as Flusher
use Rattle.batch_run.proofs.phases.take_with_flushes.Goals as goal

pub join_mut-requires-send-F : goal.join_mut-requires-send-F
join_mut-requires-send-F g c κs within =
    let D = param 1 g.row.D in
    let F = param 2 g.row.F in
    let P = param 3 g.row.P in
    let store = store_sync D g.D.Disk F P g.F.Formats g.P.Patterns c.type_bounds.send-D c.type_bounds.send-P c.type_bounds.sync-F in
    let lives = κs.1.1.1.1.1.1.1.1 in
    let captures =
    ShrRef (named 8) lives.0 (param 4 g.row.R) ∷ ShrRef (named 9) lives.1.0 (store_row D g.D.Disk F P g.F.Formats g.P.Patterns) ∷ ShrRef (named 10) lives.1.1.0 u64
    ∷ MutRef (named 11) lives.1.1.1.0 Flusher.the_row ∷ [] in
    let each : AllSend captures = (shr_send _ _ _ c.type_bounds.sync-R, (shr_send _ _ _ store, (search sendable, (mut_send _ _ _ flusher.the_send, tt)))) in
    let sent = recorded_send (field_at [] captures).row _ _ (type_at [] captures).to_one (struct_send (shape (type_at [] captures)) each) in
    let row : RattleType = Recorded (field_at [] captures).row _ _ (type_at [] captures).to_one in
    record {
      owned = sent.owned;
      leaving = λ k. Quiet-if (k (of_param 1)) (row.exit no) unseen (sent.leaving no) (λ x w. tt);
    }
