use Rattle.std.proofs.Common.{rules}
use Rattle.seat_lock.proofs.Turning.{opens-at}
use Rattle.seat_lock.proofs.openings.make.Goals as goal

pub new-requires : goal.new-requires
new-requires g c =
    opens-at g.V.Storied.maker g.V.Storied.stands g.V.Storied.first c.args.seats c.args.value _ _ (search rules) (search rules) c.requires.first c.requires.story (search rules)
