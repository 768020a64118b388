use Rattle.hosts_storage.proofs.HoldingTests.{comments-decided}
use Rattle.std.proofs.Common.{◌≤◌, length, rules, subst}
use Rattle.std.specs.List.{AllByRecursion}
use Rattle.model_hosts.specs.Keys.{IsOneLine}
use Rattle.model_names.specs.ArrayPart.{last_index}
use Rattle.hosts_storage.proofs.holding.are_comments.Goals as goal

pub returns : goal.returns
returns c =
    let texts = c.in_ok-texts.texts in
    let lines : AllByRecursion IsOneLine texts.items = subst (AllByRecursion IsOneLine) c.deref.ensures.value (c.are_lines.ensures.0 c.if-not-are_lines.false) in
    let few : length texts.items ≤ last_index = search rules in
    comments-decided c.args.meta.now c.in_ok-made.made texts.items c.eq.result c.in_ok-texts.ensures c.in_ok-made.ensures c.eq.ensures few lines
