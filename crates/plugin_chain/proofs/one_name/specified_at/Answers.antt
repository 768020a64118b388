use Rattle.std.proofs.Common.{sym, ap, ◌∙◌}
use Rattle.std.specs.Option.{option_map}
use Rattle.key_set.specs.EntryView.{entry_of}
use Rattle.plugin_chain.proofs.OneNameLemmas.{specified_none, specified_some}
use Rattle.plugin_chain.proofs.one_name.specified_at.Goals as goal

pub returns-in_ok-specified_alone-in-Some : goal.returns-in_ok-specified_alone-in-Some
returns-in_ok-specified_alone-in-Some c =
    specified_some c.args.keys.now c.args.name.now (entry_of c.in-Some.entry) (entry_of c.in_ok-specified_alone-in-Some.field-0)
    (ap (option_map entry_of) (sym c.in-Some.is) ∙ c.in_ok-entry.ensures) c.in_ok-specified_alone-in-Some.ensures

pub returns-in-None : goal.returns-in-None
returns-in-None c =
    specified_none c.args.keys.now c.args.name.now (ap (option_map entry_of) (sym c.in-None.is) ∙ c.in_ok-entry.ensures)
