-- What a file holds tells its state.
use Rattle.mounted_files.proofs.StateLemmas.{state-held}
use Rattle.mounted_files.proofs.WritableLemmas.{held-writable}
use Rattle.mounted_files.proofs.opening.mounted_file.Goals as goal

pub returns-clause-state : goal.returns-clause-state
returns-clause-state g c bytes is_whole =
    state-held g.F.Formats.reads g.F.Formats.is_bad_at c.args.points.now c.args.i c.args.mount.now bytes c.in_ok-holding.holding c.in_ok-state.state (c.in_ok-holding.ensures.is bytes is_whole) c.in_ok-state.ensures.is

pub returns-clause-storable : goal.returns-clause-storable
returns-clause-storable g c =
    held-writable g.F.Formats.is_storable c.args.points.now c.args.i c.args.mount.now c.in_ok-holding.holding c.in_ok-state.state c.in_ok-holding.ensures.storable c.in_ok-state.ensures.is
