use Rattle.std.proofs.Common.{sym, ◌∙◌}
use Rattle.key_set.specs.EntryView.{entry_of}
use Rattle.plugin_chain.proofs.OneNameLemmas.{said_at_ok}
use Rattle.plugin_chain.proofs.one_name.default_at.Goals as goal

pub returns : goal.returns
returns c =
    said_at_ok entry_of c.args.keys.now c.args.name.now c.in_ok-own.own c.default_said.result (sym c.may_be_made.ensures ∙ c.if-not-may_be_made.false) c.in_ok-own.ensures c.default_said.ensures
