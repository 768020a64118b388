use Rattle.plugin_chain.proofs.WalkLemmas.{added_to, four_checks}
use Rattle.plugin_chain.proofs.checking.check_value.Goals as goal

pub returns-clause-ok : goal.returns-clause-ok
returns-clause-ok g c =
    four_checks c.args.name.now _ c.args.value.now c.args.meta.now c.args.list.now.items _ _ _ _ _ _ _ _
    c.in_ok-check_type.ensures c.in_ok-check_range.ensures (c.in_ok-check_listed.ensures c.args.meta.now c.requires) c.in_ok-check_pattern_again.ensures.answer
    c.in_ok-add.ensures.ok c.in_ok-add-2.ensures.ok c.in_ok-add-3.ensures.ok (added_to _ _ _ _ c.in_ok-add_at.ensures.ok c.in_ok-room.ensures.same)
