-- The sessions begin with handles that were just opened, stand where the phases brought them, and their rooms are
-- shown.
use Rattle.std.proofs.Common.{◌≡◌, ◌∙◌, ℕ, ◌+◌, ◌<◌, List, [], ap, arith, get_or, length, map as over, subst, sym}
use Rattle.std.proofs.lemmas.List.{length-map, with_items_is}
use Rattle.batch_run.specs.Rooms.{ArePhaseRooms, AreWide, row_in}
use Rattle.batch_run.specs.Shown.{AreApart, shown_rows}
use Rattle.batch_run.specs.Stands.{HasTaken, Stand, rows_of}
use Rattle.batch_run.specs.Workers.{IsResting, handle_in, number_in}
use Rattle.batch_run.specs.declared.rooms.PhaseRooms.{PhaseRooms}
use Rattle.batch_run.specs.declared.workers.Worker.{Worker}
use Rattle.batch_run.proofs.Fairness.{Ended, ended-back, ended-counts, ended-fair, fresh-each, named-all}
use Rattle.batch_run.proofs.RoomLemmas.{wide-still}
use Rattle.batch_run.proofs.ShownLemmas.{named-apart}
use Rattle.batch_run.proofs.Standing.{rests, stand-first}
use Rattle.batch_script.specs.declared.steps.Phase.{Phase}
use Rattle.model_store.specs.Store.{Formats, formats_of}
use Rattle.kdb_handle.specs.Views.{lock_of, plan_of}
use Rattle.model_batch.specs.Scripts.{procs_of, sessions_of}
use Rattle.batch_run.proofs.running.run_with.Given.{Over}
use Rattle.batch_run.proofs.running.run_with.Goals as goal

pub all_phases-requires-clause-resting : goal.all_phases-requires-clause-resting
all_phases-requires-clause-resting g c κs within =
    let formats : Formats = formats_of g.F.Formats in
    let lock = lock_of c.args.store.now in
    let plan = plan_of c.args.store.now in
    let seats = c.seat_all-workers in
    let taken = fresh-each formats lock plan (procs_of c.args.script.now) c.args.handles.items seats.result.items seats.ensures.handles c.requires.fresh seats.ensures.seated.each in
    let rest : (i : ℕ) (d : Worker) → i < length seats.result.items → IsResting lock plan (get_or seats.result.items i d) = λ i d lt. rests formats lock plan _ (length seats.result.items) i [] [] (get_or seats.result.items i d) (taken i d lt) in
    subst (λ (ws : List Worker). (i : ℕ) (d : Worker) → i < length ws → IsResting lock plan (get_or ws i d)) (sym c.as_mut_slice.ensures.value) rest

pub all_phases-requires-clause-rooms : goal.all_phases-requires-clause-rooms
all_phases-requires-clause-rooms g c κs within =
    let script = c.args.script.now in
    let names = sessions_of script in
    let seats = c.seat_all-workers in
    let numbers = c.deref.ensures.value ∙ c.requires.room.numbers in
    let named = named-all c.args.handles.items seats.result.items c.deref.result.now seats.ensures.handles (c.requires.many ∙ sym (ap length numbers)) seats.ensures.seated.named in
    let numbered : over number_in c.as_mut_slice.result.now ≡ names = ap (over number_in) c.as_mut_slice.ensures.value ∙ named ∙ numbers in
    subst (λ (ns : List ℕ). ArePhaseRooms ns c.as_slice-phases.result.now c.as_mut_slice-2.result.now) (sym numbered)
    (subst (λ (ps : List Phase). ArePhaseRooms names ps c.as_mut_slice-2.result.now) (sym c.as_slice-phases.ensures) (subst (ArePhaseRooms names script.phases) (sym c.as_mut_slice-2.ensures.value) c.requires.room.rooms))

pub show_all-transcripts-requires-clause-apart : goal.show_all-transcripts-requires-clause-apart
show_all-transcripts-requires-clause-apart g c =
    let phases = c.args.script.now.phases in
    subst AreApart (sym c.as_slice-phases.ensures) (λ p d lt. named-apart (get_or phases p d).sessions (c.requires.script p d lt).rising)

pub show_all-transcripts-requires-clause-wide : goal.show_all-transcripts-requires-clause-wide
show_all-transcripts-requires-clause-wide g c =
    let rooms = c.all_phases.new.rooms in
    let items = with_items_is c.args.room.rooms rooms (omega (arith, c.as_mut_slice-2.ensures.len)) in
    let wide = wide-still (sessions_of c.args.script.now) c.args.script.now.phases c.as_mut_slice-2.result.now rooms c.all_phases.ensures.shown
    (subst (ArePhaseRooms (sessions_of c.args.script.now) c.args.script.now.phases) (sym c.as_mut_slice-2.ensures.value) c.requires.room.rooms) in
    subst (λ (ps : List Phase). AreWide ps c.as_mut_slice-3.result.now) (sym c.as_slice-phases.ensures)
    (subst (AreWide c.args.script.now.phases) (sym (c.as_mut_slice-3.ensures.value ∙ items)) wide)

-- how the run ended
ended : (g : Over) (c : goal.After-drop-numbers g)
    → Ended (formats_of g.F.Formats) (lock_of c.args.store.now) (plan_of c.args.store.now) c.args.script.now
    (over row_in c.all_phases.new.rooms) c.all_phases.new.workers c.from_vec.result c.show_all-transcripts.result
ended g c =
    let formats : Formats = formats_of g.F.Formats in
    let lock = lock_of c.args.store.now in
    let plan = plan_of c.args.store.now in
    let script = c.args.script.now in
    let names = sessions_of script in
    let procs = procs_of script in
    let seats = c.seat_all-workers in
    let begun = c.as_mut_slice.result.now in
    let workers = c.all_phases.new.workers in
    let rooms = c.all_phases.new.rooms in
    let taken = fresh-each formats lock plan procs c.args.handles.items seats.result.items seats.ensures.handles c.requires.fresh seats.ensures.seated.each in
    let each : (i : ℕ) (d : Worker) → i < length begun → HasTaken formats lock plan (procs (i + 1)) (length begun) i [] [] (get_or begun i d) =
    subst (λ (ws : List Worker). (i : ℕ) (d : Worker) → i < length ws → HasTaken formats lock plan (procs (i + 1)) (length ws) i [] [] (get_or ws i d)) (sym c.as_mut_slice.ensures.value) taken in
    let numbers = c.deref.ensures.value ∙ c.requires.room.numbers in
    let named = named-all c.args.handles.items seats.result.items c.deref.result.now seats.ensures.handles (c.requires.many ∙ sym (ap length numbers)) seats.ensures.seated.named in
    let numbered : over number_in begun ≡ names = ap (over number_in) c.as_mut_slice.ensures.value ∙ named ∙ numbers in
    let stand = c.all_phases.ensures.stand procs (stand-first formats lock plan procs begun each) in
    let S = λ (ns : List ℕ) (ps : List Phase). Stand formats lock plan procs (rows_of ns ps) (over row_in rooms) workers in
    let room_items = with_items_is c.args.room.rooms rooms (omega (arith, c.as_mut_slice-2.ensures.len)) in
    let worker_items = with_items_is seats.result workers (omega (arith, c.as_mut_slice.ensures.len)) in
    record {
      ordered = c.requires.script;
      stand = subst (λ (ns : List ℕ). S ns script.phases) numbered (subst (S (over number_in begun)) c.as_slice-phases.ensures stand);
      many = omega (arith, ap length numbered, length-map begun number_in);
      shown =
          c.show_all-transcripts.ensures
          ∙ ap (λ (ns : List ℕ). shown_rows ns c.as_slice-phases.result.now (over row_in c.as_mut_slice-3.result.now)) (c.deref-2.ensures.value ∙ c.requires.room.numbers)
          ∙ ap (λ (ps : List Phase). shown_rows names ps (over row_in c.as_mut_slice-3.result.now)) c.as_slice-phases.ensures
          ∙ ap (λ (rs : List PhaseRooms). shown_rows names script.phases (over row_in rs)) (c.as_mut_slice-3.ensures.value ∙ room_items);
      handles_are = c.from_vec.ensures ∙ c.rise_all.ensures ∙ ap (over handle_in) worker_items;
    }

pub returns-clause-back : goal.returns-clause-back
returns-clause-back g c =
    ended-back (formats_of g.F.Formats) (lock_of c.args.store.now) (plan_of c.args.store.now) c.args.script.now (over row_in c.all_phases.new.rooms)
    c.all_phases.new.workers c.from_vec.result c.show_all-transcripts.result (length c.args.handles.items) c.requires.many (ended g c)

pub returns-clause-fair : goal.returns-clause-fair
returns-clause-fair g c =
    ended-fair (formats_of g.F.Formats) (lock_of c.args.store.now) (plan_of c.args.store.now) c.args.script.now (over row_in c.all_phases.new.rooms)
    c.all_phases.new.workers c.from_vec.result c.show_all-transcripts.result (length c.args.handles.items) c.requires.many (ended g c)

pub returns-clause-counts : goal.returns-clause-counts
returns-clause-counts g c =
    ended-counts (formats_of g.F.Formats) (lock_of c.args.store.now) (plan_of c.args.store.now) c.args.script.now (over row_in c.all_phases.new.rooms)
    c.all_phases.new.workers c.from_vec.result c.show_all-transcripts.result (ended g c)
