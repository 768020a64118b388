-- All keys have names where those to come have; and what is noted, with what those to come tell, is what all tell.
use Rattle.std.proofs.Common.{◌≡◌}
use Rattle.std.specs.FinMap as map
use Rattle.std.specs.List.{AllByRecursion}
use Rattle.std.specs.Option.{option_or}
use Rattle.general_words.specs.Texts.{text_cmp}
use Rattle.model_names.specs.Name.{Part}
use Rattle.model_names.specs.WellFormed.{IsName}
use Rattle.mount_table.specs.Entries.{AreNames, entries_of}
use Rattle.mount_table.proofs.EntryLemmas.{told_of}
use Rattle.mount_table.proofs.entries.entries_of.Given as goal

abbrev pub invariant-loop-name : goal.invariant-loop-name
invariant-loop-name l = record {
  names : AllByRecursion (λ key. IsName key.0) l.name-iterator → AreNames l.keys;
  noted : AreNames l.keys → (text : Part) → option_or (map.get (map.from_sorted {R = text_cmp} l.entries) text) (told_of l.keys l.name-iterator text) ≡ map.get (entries_of l.keys) text;
}
