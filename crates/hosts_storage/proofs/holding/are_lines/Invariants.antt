-- Those so far pass.
use Rattle.std.proofs.Common.{drop}
use Rattle.std.specs.List.{AllByRecursion}
use Rattle.model_hosts.specs.Keys.{IsOneLine}
use Rattle.hosts_storage.proofs.holding.are_lines.Given as goal

abbrev pub invariant-loop-text : goal.invariant-loop-text
invariant-loop-text l = record {
  all : AllByRecursion IsOneLine (drop l.text-index l.texts) → AllByRecursion IsOneLine l.texts;
  left : AllByRecursion IsOneLine l.texts → AllByRecursion IsOneLine (drop l.text-index l.texts);
}
