-- The keys that were brought into a set of their own are set together.
use Rattle.std.proofs.Common.{ap, ◌∙◌}
use Rattle.std.specs.FinMap as map
use Rattle.key_set.specs.WithAll.{with_all}
use Rattle.tool_commands.specs.Commands.Trees.{with_brought}
use Rattle.tool_commands.proofs.BringLemmas.{brought-together}
use Rattle.tool_commands.proofs.commands.trees.set_all.Goals as goal

pub returns-clause-set : goal.returns-clause-set
returns-clause-set c none =
    let from = c.args.from.now in
    let to = c.args.to.now in
    let taken = map.entries c.args.taken.now in
    c.in_ok-append_all.ensures.ok
    ∙ ap (λ moved. with_all moved c.args.keys.now) (c.in_ok-bytes.ensures.set c.in_default.is ∙ ap (λ keys. with_brought from to keys taken) c.new-moved.ensures)
    ∙ brought-together from to c.args.keys.now taken
