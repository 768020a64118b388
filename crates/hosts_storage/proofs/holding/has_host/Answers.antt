use Rattle.std.proofs.Common.{ap, ◌∙◌}
use Rattle.std.specs.FinMap as map
use Rattle.hosts_storage.proofs.HoldingTests.{there-decides}
use Rattle.hosts_storage.proofs.holding.has_host.Goals as goal

pub returns : goal.returns
returns c =
    there-decides _ c.lookup.result _ c.is_some.result (c.lookup.ensures ∙ ap (map.get c.args.keys.now) c.in_ok-above.ensures) c.is_some.ensures
