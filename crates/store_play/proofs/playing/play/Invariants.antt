-- The first events were played, and the core stands.
use Rattle.std.proofs.Common.{◌≡◌, ◌≤◌, ℕ, All, Option, length, take, vec_len, vec_capacity}
use Rattle.kdb_outside.specs.Frames.{GoesOn}
use Rattle.model_crashes.specs.Runs.{Run}
use Rattle.model_maps.specs.KeyMap.{KeyMap}
use Rattle.model_store.specs.Sets as sets
use Rattle.model_store.specs.Store.{formats_of}
use Rattle.model_store.specs.Worlds.{World}
use Rattle.store_play.specs.Causes.{IsCaused}
use Rattle.store_play.specs.Handles.{Holds, places_in, records_in}
use Rattle.store_play.specs.Plays.{Stood}
use Rattle.store_play.specs.Stages.{stage_of}
use Rattle.store_play.proofs.playing.play.Given as goal

abbrev pub invariant-loop-event : goal.invariant-loop-event
invariant-loop-event g l = record {
  room : vec_capacity l.answers ≡ length l.events;
  count : vec_len l.answers ≡ l.event-index;
  stood : (procs : ℕ → KeyMap) (opened : g.row.D.Denot) (known : ℕ → Option sets.Prepared) (world : World) (run : Run)
      → Holds (formats_of g.F.Formats) g.D.Disk l.plan.mounted procs opened l.initial.core (records_in l.initial.handles) (places_in l.initial.handles) known world run
      → Stood (formats_of g.F.Formats) g.D.Disk l.plan.mounted procs opened (stage_of l.initial.core (records_in l.initial.handles) (places_in l.initial.handles) known run) (take l.event-index l.events) l.answers.items l.core (records_in l.handles) (places_in l.handles);
  causes : All (IsCaused (g.D.Disk.faults l.initial.core.journal.disk) (g.D.Disk.faults l.core.journal.disk) (g.P.Patterns.refusals l.initial.core.patterns) (g.P.Patterns.refusals l.core.patterns)) l.answers.items;
  goes : GoesOn g.D.Disk l.initial.core.journal.disk l.core.journal.disk;
  later : g.P.Patterns.refusals l.initial.core.patterns ≤ g.P.Patterns.refusals l.core.patterns;
}
