-- A prepare of a handle that is there.
use Rattle.std.proofs.Common.{sym}
use Rattle.general_words.proofs.Lists.{at_place}
use Rattle.model_store.specs.Store.{formats_of}
use Rattle.store_play.proofs.StepLemmas.{prepared_so}
use Rattle.store_verdict.specs.declared.records.Record.{Record}
use Rattle.store_play.proofs.preparing.play_prepare.Goals as goal

pub returns-clause-stepped : goal.returns-clause-stepped
returns-clause-stepped g c procs opened known world run h =
    let rec : Record = c.index-records-handle.result in
    prepared_so (formats_of g.F.Formats) g.D.Disk c.args.plan.now.mounted procs opened c.args._core.now c.args.records.now c.args.places.now known world run h c.args.handle c.args.number c.args.parent.now c.args.keys.now rec
    (sym (at_place c.args.records.now c.args.handle rec c.if-handle-records.false c.index-records-handle.is)) c.hold.result c.hold.new.place c.index-places-number.result c.if-number-places.false
    c.hold.ensures.made c.hold.ensures.refused c.hold.ensures.same
