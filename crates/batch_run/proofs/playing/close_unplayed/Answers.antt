-- The store is closed as it was opened.
use Rattle.batch_run.proofs.Ending.{unplayed}
use Rattle.model_maps.specs.KeyMap.{no_keys}
use Rattle.model_store.specs.Store.{Formats, formats_of}
use Rattle.batch_run.proofs.playing.close_unplayed.Goals as goal

pub returns : goal.returns
returns g c = λ script.
    let formats : Formats = formats_of g.F.Formats in
    let closed = c.close.ensures in
    unplayed formats g.D.Disk g.P.Patterns.refusals c.args.unshared.plan.mounted script c.args.unshared.core c.close.result (c.requires (λ r. no_keys)) closed.history closed.patterns closed.left_alone closed.shown closed.calm closed.always closed.now closed.goes
