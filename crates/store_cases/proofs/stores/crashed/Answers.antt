use Rattle.store_cases.proofs.DiskLemmas.{calm_behind}
use Rattle.store_cases.proofs.stores.crashed.Goals as goal

pub returns : goal.returns
returns c = calm_behind c.args.disk c.in_ok-left.left c.requires c.in_ok-left.ensures.image c.in_ok-left.ensures.sure
