use Rattle.std.proofs.Common.{sym, ◌∙◌}
use Rattle.set_split.specs.declared.mounts.Root.{Root}
use Rattle.set_split.specs.Involved.{is_involved_at}
use Rattle.set_split.proofs.MountLemmas.{any-found}
use Rattle.set_split.proofs.mounts.is_involved.Goals as goal

pub returns-then-is_involved_at : goal.returns-then-is_involved_at
returns-then-is_involved_at c =
    sym (any-found (λ (root : Root). root.name) (is_involved_at c.args.points.now c.args.i) c.args.roots.now c.loop-root.root-index c.root-item.result c.loop-root-test.true c.root-item.is (sym c.is_involved_at.ensures ∙ c.if-is_involved_at.true))
