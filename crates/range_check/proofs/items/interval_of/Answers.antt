use Rattle.std.proofs.Common.{lit<}
use Rattle.std.proofs.lemmas.Str.Pattern.{strip_prefix_char}
use Rattle.type_check.proofs.NumberLemmas.{no_prefix}
use Rattle.range_check.proofs.ItemLemmas.{stripped_item}
use Rattle.range_check.proofs.items.interval_of.Goals as goal

pub signed_interval_of-requires-in-None : goal.signed_interval_of-requires-in-None
signed_interval_of-requires-in-None c =
    λ _. no_prefix c.args.item.now c.strip_prefix.result (strip_prefix_char 45 c.args.item.now _ c.strip_prefix.ensures.cases (lit< tt)) c.in-None.is

pub returns-in-Some : goal.returns-in-Some
returns-in-Some c =
    stripped_item c.args.item.now c.strip_prefix.result _ _ (strip_prefix_char 45 c.args.item.now _ c.strip_prefix.ensures.cases (lit< tt)) c.in-Some.is c.signed_interval_of.ensures
