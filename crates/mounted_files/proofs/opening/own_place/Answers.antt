-- The first mount at the own point is the own mount, and there is one.
use Rattle.std.proofs.Common.{◌≡◌, ◌<◌, length, ap, sym, ◌∙◌, arith}
use Rattle.std.proofs.lemmas.List.{length-map}
use Rattle.std.proofs.lemmas.Option.{slice_get_within}
use Rattle.mount_table.specs.Table.{own_mount}
use Rattle.mount_table.specs.declared.mounts.Mount.{Mount}
use Rattle.mounted_files.proofs.PlaceLemmas.{own-found, own-later}
use Rattle.mounted_files.proofs.opening.own_place.Goals as goal

pub returns-then-is_own_point : goal.returns-then-is_own_point
returns-then-is_own_point c =
    own-found c.args.table.now c.points-points.result.now c.points-points.ensures.points c.loop-i.i c.index-points-i.result c.loop-i-test.true c.index-points-i.is
    c.requires c.points-points.ensures.are_points.points.ascending (sym c.is_own_point.ensures ∙ c.if-is_own_point.true)

pub loop-i-preserved : goal.loop-i-preserved
loop-i-preserved c =
    own-later c.args.table.now c.points-points.result.now c.points-points.ensures.points c.loop-i.i c.index-points-i.result c.loop-i-test.true c.index-points-i.is
    (sym c.is_own_point.ensures ∙ c.if-is_own_point.false) c.loop-i.invariant

pub unreachable-requires : goal.unreachable-requires
unreachable-requires c =
    let table = c.args.table.now in
    let within : c.requires.place < length table = slice_get_within table c.requires.place own_mount c.requires.is in
    let counted : length c.points-points.result.now ≡ length table = ap length c.points-points.ensures.points ∙ length-map table (λ (mount : Mount). mount.at) in
    omega (arith, within, counted, c.loop-i-test.false, c.loop-i.invariant c.requires.place c.requires.is)
