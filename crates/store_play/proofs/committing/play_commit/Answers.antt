-- A commit of a set that is held.
use Rattle.std.proofs.Common.{◌≡◌, true, get_or, subst}
use Rattle.std.proofs.lemmas.List.{get_or_default}
use Rattle.std.proofs.lemmas.Option.{slice_get-get_or}
use Rattle.model_store.specs.Cores.{accepts}
use Rattle.model_store.specs.Store.{formats_of}
use Rattle.store_play.specs.Handles.{records_of}
use Rattle.store_play.proofs.CauseLemmas.{commit_caused}
use Rattle.store_play.proofs.StepLemmas.{belongs, belongs_here, committed_so, declined, held_by}
use Rattle.store_verdict.specs.PreparedView.{prepared_of}
use Rattle.store_verdict.specs.RecordView.{handle_of, record_of}
use Rattle.store_verdict.specs.declared.records.Record.{Record}
use Rattle.store_play.proofs.committing.play_commit.Goals as goal

pub commit-requires : goal.commit-requires
commit-requires g c =
    let w = c.requires in
    let d : Record = c.index-records-handle-in-Ok.result in
    let rec : Record = get_or c.args.records.now c.args.handle d in
    let accepted : accepts (record_of rec) (handle_of rec) (prepared_of c.in-Ok.set) ≡ true =
    subst (λ (x : Record). accepts (record_of x) (handle_of x) (prepared_of c.in-Ok.set) ≡ true) (get_or_default c.args.records.now c.args.handle c.index-records-handle.result d c.if-handle-records.false) c.in-Ok.ensures.accepted in
    record {
      ready = record {
        procs = w.procs;
        records = records_of c.args.records.now;
        made = w.known;
        world = w.world;
        number = c.args.number;
        belongs =
            belongs_here (formats_of g.F.Formats) g.D.Disk c.args.plan.now.mounted w.procs w.opened c.args.core.now c.args.records.now c.args.places.now w.known w.world w.run w.holds c.args.handle c.args.number rec c.in-Ok.set
            (slice_get-get_or c.args.records.now c.args.handle d c.if-handle-records.false)
            (held_by (formats_of g.F.Formats) g.D.Disk c.args.plan.now.mounted w.procs w.opened c.args.core.now c.args.records.now c.args.places.now w.known w.world w.run w.holds c.args.number
            c.index-places-number.result c.in-Ok.set c.if-number-places.false c.in-Ok.ensures.ok) accepted;
      };
    }

pub returns-in-Ok-clause-stepped : goal.returns-in-Ok-clause-stepped
returns-in-Ok-clause-stepped g c procs opened known world run h =
    let d : Record = c.index-records-handle-in-Ok.result in
    let rec : Record = get_or c.args.records.now c.args.handle d in
    let accepted : accepts (record_of rec) (handle_of rec) (prepared_of c.in-Ok.set) ≡ true =
    subst (λ (x : Record). accepts (record_of x) (handle_of x) (prepared_of c.in-Ok.set) ≡ true) (get_or_default c.args.records.now c.args.handle c.index-records-handle.result d c.if-handle-records.false) c.in-Ok.ensures.accepted in
    let there = slice_get-get_or c.args.records.now c.args.handle d c.if-handle-records.false in
    let is_held = held_by (formats_of g.F.Formats) g.D.Disk c.args.plan.now.mounted procs opened c.args.core.now c.args.records.now c.args.places.now known world run h c.args.number c.index-places-number.result c.in-Ok.set c.if-number-places.false c.in-Ok.ensures.ok in
    committed_so (formats_of g.F.Formats) g.D.Disk c.args.plan.now.mounted procs opened c.args.core.now c.args.records.now c.args.places.now known world run h
    c.args.handle c.args.number rec c.in-Ok.set there is_held accepted
    c.commit.new.self c.commit.new.rec _ c.commit.result c.take.new.place c.in-Ok.ensures.free c.if-handle-records.false c.if-number-places.false
    (record { handle = c.commit.ensures.handle; places = c.commit.ensures.places; proc = c.commit.ensures.proc })
    (c.commit.ensures.committed procs opened (records_of c.args.records.now) known world run c.args.number
    (belongs (formats_of g.F.Formats) g.D.Disk c.args.plan.now.mounted procs opened c.args.core.now c.args.records.now c.args.places.now known world run h c.args.handle c.args.number rec c.in-Ok.set there is_held accepted))

pub returns-in-Err-clause-stepped : goal.returns-in-Err-clause-stepped
returns-in-Err-clause-stepped g c procs opened known world run h =
    declined (formats_of g.F.Formats) g.D.Disk c.args.plan.now.mounted procs opened c.args.core.now c.args.records.now c.args.places.now known world run h
    c.args.handle c.args.number (get_or c.args.records.now c.args.handle c.index-records-handle.result) c.take.new.place c.index-places-number.result c.in-Err.why
    (slice_get-get_or c.args.records.now c.args.handle c.index-records-handle.result c.if-handle-records.false) c.if-number-places.false c.in-Err.ensures.err c.in-Err.ensures.same

pub returns-in-Ok-clause-cause : goal.returns-in-Ok-clause-cause
returns-in-Ok-clause-cause g c =
    commit_caused (g.D.Disk.faults c.args.core.now.journal.disk) (g.D.Disk.faults c.commit.new.self.journal.disk) (g.P.Patterns.refusals c.args.core.now.patterns) (g.P.Patterns.refusals c.commit.new.self.patterns)
    c.commit.result c.commit.ensures.cause c.commit.ensures.refused
