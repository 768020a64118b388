-- A mountpoint that a table takes is short, so that its entry and the children have names.
use Rattle.std.proofs.Common.{◌≤◌, length, subst, sym, ◌∙◌}
use Rattle.model_names.specs.Spells.{Spells}
use Rattle.mount_table.specs.Changing.{HasNames}
use Rattle.mount_table.specs.Points.{longest_point}
use Rattle.mount_table.proofs.ChangingLemmas.{HasNames-spelling}
use Rattle.mount_table.proofs.changing.add.Goals as goal

pub insert_children-requires : goal.insert_children-requires
insert_children-requires c =
    let spelled = c.in_ok-text-2.ensures ∙ c.deref.ensures ∙ c.in_ok-text.ensures.canonical in
    subst HasNames (sym (c.as_str.ensures.bytes ∙ spelled))
    (HasNames-spelling c.args.at.now (subst (λ text. Spells text c.args.at.now) c.in_ok-text.ensures.canonical c.in_ok-text.ensures.spells) (subst (λ text. length text ≤ longest_point) spelled c.in_ok-check_addition.ensures.short))
