-- The map's entry at a place is the key there.
use Rattle.std.proofs.Common.{slice_get, Bor, sym, ap, ◌∙◌}
use Rattle.std.specs.FinMap as map
use Rattle.std.specs.Option.{option_map}
use Rattle.model_names.specs.Name.{Name}
use Rattle.key_set.specs.declared.entries.Entry as code
use Rattle.key_set.specs.EntryView.{entry_of}
use Rattle.key_set.proofs.SetLemmas.{entries-keys, slice_get-seen, option_map-two}
use Rattle.key_set.proofs.key_sets.KeySet.at.Goals as goal

pub returns : goal.returns
returns c =
    option_map-two (λ (key : Bor Name × Bor code.Entry). (key.0.now, key.1.now)) (λ (key : Name × code.Entry). (key.0, entry_of key.1)) c.at.result
    ∙ ap (option_map (λ (key : Name × code.Entry). (key.0, entry_of key.1))) c.at.ensures.at
    ∙ slice_get-seen c.self.inside.keys c.args.i
    ∙ ap (λ keys. slice_get keys c.args.i) (sym (entries-keys c.self.inside.keys c.at.ensures.sorted) ∙ ap map.entries c.self.view_is)
