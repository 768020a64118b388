-- The path in the namespaces that the words so far ask for stands behind the names before.
use Rattle.std.proofs.Common.{◌≡◌, ◌++◌, take}
use Rattle.std.specs.List.{flat_map}
use Rattle.std.specs.Option.{option_to_list}
use Rattle.spec_cascade.specs.Candidates.{paths_in, searched}
use Rattle.spec_cascade.proofs.candidates.push_each.Given as goal

abbrev pub invariant-loop-word : goal.invariant-loop-word
invariant-loop-word l =
    l.names.items ≡ l.fn.names.items ++ flat_map (λ word. paths_in l.path.parts (option_to_list (searched word))) (take l.word-index l.words)
