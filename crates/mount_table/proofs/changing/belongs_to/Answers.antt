-- A name belongs to the entry of its text, and to none where it has none.
use Rattle.std.specs.Cmp.Lexicographic.{texts_ties}
use Rattle.std.proofs.Common.{ap, sym, ◌∙◌}
use Rattle.mount_table.proofs.PlaceLemmas.{is_found, at_or_below-entry}
use Rattle.mount_table.proofs.changing.belongs_to.Goals as goal

pub returns-in-Some-clause-belongs : goal.returns-in-Some-clause-belongs
returns-in-Some-clause-belongs c =
    let text = c.args.text.now in
    c.eq.ensures ∙ texts_ties text c.in-Some.other.now ∙ ap (is_found text) c.in-Some.ensures.text
    ∙ sym (at_or_below-entry text c.args.name.now)

pub returns-in-None-clause-belongs : goal.returns-in-None-clause-belongs
returns-in-None-clause-belongs c =
    ap (is_found c.args.text.now) c.in-None.ensures.text ∙ sym (at_or_below-entry c.args.text.now c.args.name.now)
