-- What is found among the keys is what the map has.
use Rattle.std.proofs.Common.{Bor, ap, ◌∙◌}
use Rattle.std.specs.FinMap as map
use Rattle.std.specs.Option.{option_map}
use Rattle.key_set.specs.declared.entries.Entry as code
use Rattle.key_set.specs.EntryView.{entry_of}
use Rattle.key_set.proofs.SetLemmas.{get-keys, option_map-two}
use Rattle.key_set.proofs.key_sets.KeySet.lookup.Goals as goal

pub returns : goal.returns
returns c =
    option_map-two (λ (entry : Bor code.Entry). entry.now) entry_of c.get.result
    ∙ ap (option_map entry_of) c.get.ensures.found
    ∙ get-keys c.self.inside.keys c.args.name.now c.get.ensures.sorted
    ∙ ap (λ keys. map.get keys c.args.name.now) c.self.view_is
