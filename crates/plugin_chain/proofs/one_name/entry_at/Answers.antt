use Rattle.std.proofs.Common.{Some, sym, ap, ◌∙◌}
use Rattle.std.specs.Option.{option_map}
use Rattle.key_set.specs.EntryView.{entry_of}
use Rattle.plugin_chain.proofs.OneNameLemmas.{default_first, else_own}
use Rattle.plugin_chain.proofs.one_name.entry_at.Goals as goal

pub returns-in-Some : goal.returns-in-Some
returns-in-Some c =
    default_first c.args.keys.now c.args.name.now (entry_of c.in-Some.default) (ap (option_map entry_of) (sym c.in-Some.is) ∙ c.in_ok-default.ensures)

pub returns-in_ok-copy-in-Some-lookup : goal.returns-in_ok-copy-in-Some-lookup
returns-in_ok-copy-in-Some-lookup c =
    else_own c.args.keys.now c.args.name.now _ (ap (option_map entry_of) (sym c.in_default.is) ∙ c.in_ok-default.ensures)
    (ap (λ e. Some (entry_of e)) c.in_ok-copy-in-Some-lookup.ensures.copied ∙ ap (option_map (λ e. entry_of e.now)) (sym c.in-Some-lookup.is) ∙ c.lookup.ensures)

pub returns-in-None : goal.returns-in-None
returns-in-None c =
    else_own c.args.keys.now c.args.name.now _ (ap (option_map entry_of) (sym c.in_default.is) ∙ c.in_ok-default.ensures)
    (ap (option_map (λ e. entry_of e.now)) (sym c.in-None.is) ∙ c.lookup.ensures)
