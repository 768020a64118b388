-- No text so far is too long.
use Rattle.std.proofs.Common.{drop}
use Rattle.std.specs.List.{AllByRecursion}
use Rattle.model_maps.specs.Entry.{IsValue}
use Rattle.hosts_storage.proofs.entries.are_values.Given as goal

abbrev pub invariant-loop-text : goal.invariant-loop-text
invariant-loop-text l = record {
  all : AllByRecursion IsValue (drop l.text-index l.texts) → AllByRecursion IsValue l.texts;
  left : AllByRecursion IsValue l.texts → AllByRecursion IsValue (drop l.text-index l.texts);
}
