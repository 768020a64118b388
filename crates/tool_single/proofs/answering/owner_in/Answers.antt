-- Each table has a mount for the key.
use Rattle.std.proofs.Common.{map as over, slice_get, sym, ap, ◌∙◌}
use Rattle.key_name.specs.Owner.{owner_of}
use Rattle.mount_table.specs.declared.mounts.Mount.{Mount}
use Rattle.tool_single.proofs.AnswerLemmas.{no-owner, owner-found}
use Rattle.tool_single.proofs.answering.owner_in.Goals as goal

pub unreachable-requires : goal.unreachable-requires
unreachable-requires c =
    no-owner c.table-table.result.now c.points.result.now c.args.name.now c.table-table.ensures.made c.requires c.points.ensures.points c.in_default.ensures

pub returns : goal.returns
returns c =
    let files = c.args.mounted.now in
    let name = c.args.name.now in
    let points = c.points.ensures.points ∙ ap (over (λ (mount : Mount). mount.at)) c.table-table.ensures.mounts in
    let found = sym c.in-Some.is ∙ (c.owner.ensures ∙ ap (λ ps. owner_of ps name) points) in
    c.in-Some-mount.ensures
    ∙ (ap (λ table. slice_get table c.in-Some.i) c.table-table.ensures.mounts ∙ owner-found files name c.in-Some.i found)
