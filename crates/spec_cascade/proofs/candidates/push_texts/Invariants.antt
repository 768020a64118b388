-- The names of the texts so far stand behind those before.
use Rattle.std.proofs.Common.{◌≡◌, ◌++◌, take}
use Rattle.std.specs.List.{flat_map}
use Rattle.spec_cascade.specs.Candidates.{names_of}
use Rattle.spec_cascade.proofs.candidates.push_texts.Given as goal

abbrev pub invariant-loop-text : goal.invariant-loop-text
invariant-loop-text l = l.names.items ≡ l.fn.names.items ++ flat_map names_of (take l.text-index l.texts)
