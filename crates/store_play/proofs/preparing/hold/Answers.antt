-- The set that was made.
use Rattle.std.proofs.Common.{refl}
use Rattle.store_play.proofs.preparing.hold.Goals as goal

pub returns-in-Ok-clause-made : goal.returns-in-Ok-clause-made
returns-in-Ok-clause-made g c = (c.in-Ok.set, refl, c.in-Ok.ensures.made)
