-- A get of a handle that is there.
use Rattle.std.proofs.Common.{get_or, ap, ◌∙◌}
use Rattle.std.proofs.lemmas.Option.{slice_get-get_or}
use Rattle.model_store.specs.Store.{formats_of}
use Rattle.store_play.proofs.StepLemmas.{got, record_is}
use Rattle.store_play.specs.Handles.{records_of}
use Rattle.store_verdict.specs.declared.records.Record.{Record}
use Rattle.store_play.proofs.getting.play_get.Goals as goal

pub get-got-requires : goal.get-got-requires
get-got-requires g c =
    let rec : Record = get_or c.args.records.now c.args.handle c.index-records-handle.result in
    record {
      places = (c.requires.handles.1 c.args.handle rec (slice_get-get_or c.args.records.now c.args.handle c.index-records-handle.result c.if-handle-records.false)).places;
    }

pub returns-clause-stepped : goal.returns-clause-stepped
returns-clause-stepped g c procs opened places known world run h =
    let rec : Record = get_or c.args.records.now c.args.handle c.index-records-handle.result in
    let there = slice_get-get_or c.args.records.now c.args.handle c.index-records-handle.result c.if-handle-records.false in
    let is = h.handles c.args.handle rec there in
    got (formats_of g.F.Formats) g.D.Disk c.args.plan.now.mounted procs opened c.args.core.now c.args.records.now places known world run h c.args.handle c.args.parent.now rec c.get-got.new.rec c.get-got.result
    there c.if-handle-records.false (record { handle = c.get-got.ensures.handle; places = c.get-got.ensures.places; proc = c.get-got.ensures.proc })
    (c.get-got.ensures.got procs (records_of c.args.records.now) known (ap procs is.number ∙ is.proc) (record_is (formats_of g.F.Formats) g.D.Disk c.args.plan.now.mounted procs opened c.args.core.now c.args.records.now places known world run h c.args.handle rec there))
