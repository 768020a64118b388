use Rattle.std.proofs.Common.{lit<}
use Rattle.std.proofs.lemmas.Str.Pattern.{split_parts}
use Rattle.range_check.proofs.ItemLemmas.{uncut_item, cut_item}
use Rattle.range_check.proofs.items.signed_interval_of.Goals as goal

pub returns-in-None : goal.returns-in-None
returns-in-None c =
    uncut_item c.args.minus c.args.rest.now _ _ c.requires (split_parts 45 c.args.rest.now _ c.split_once.ensures.cases (lit< tt)) c.in-None.is c.interval_of_one.ensures

pub returns-in-Some : goal.returns-in-Some
returns-in-Some c =
    cut_item c.args.minus c.args.rest.now _ _ _ c.requires (split_parts 45 c.args.rest.now _ c.split_once.ensures.cases (lit< tt)) c.in-Some.is c.interval_of_two.ensures
