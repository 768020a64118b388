-- Each turn inserts one more mount.
use Rattle.std.proofs.Common.{ap, ap₂, sym, ◌∙◌}
use Rattle.std.specs.FinMap as map
use Rattle.std.specs.FinMap.Entries.{put}
use Rattle.general_words.proofs.Maps.{from_sorted-nil, from_sorted-put}
use Rattle.model_names.specs.Order.{name_cmp}
use Rattle.model_names.proofs.OrderLemmas.{name_cmp_total}
use Rattle.mount_table.proofs.TableLemmas.{by_point-more}
use Rattle.mount_table.proofs.tables.by_point.Goals as goal

pub loop-mount-init : goal.loop-mount-init
loop-mount-init c = ap map.from_sorted c.new-table.ensures ∙ from_sorted-nil name_cmp

pub loop-mount-preserved : goal.loop-mount-preserved
loop-mount-preserved c =
    let mount = c.mount-item.result in
    ap map.from_sorted (c.in_ok-insert.ensures.ok ∙ ap₂ (λ at m. put name_cmp at m c.loop-mount.table) c.in_ok-copy.ensures c.in_ok-copy-2.ensures)
    ∙ from_sorted-put name_cmp name_cmp_total c.loop-mount.table mount.at mount c.in_ok-insert.ensures.sorted
    ∙ ap (λ table. map.insert table mount.at mount) c.loop-mount.invariant
    ∙ sym (by_point-more c.args.mounts.now c.loop-mount.mount-index mount c.loop-mount-test.true c.mount-item.is)
