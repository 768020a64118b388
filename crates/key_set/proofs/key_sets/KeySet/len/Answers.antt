-- The map has an entry for each key.
use Rattle.std.proofs.Common.{length, sym, ap, ◌∙◌}
use Rattle.std.proofs.lemmas.List.{length-map}
use Rattle.std.specs.FinMap as map
use Rattle.key_set.specs.EntryView.{entry_of}
use Rattle.key_set.proofs.SetLemmas.{entries-keys}
use Rattle.key_set.proofs.key_sets.KeySet.len.Goals as goal

pub returns : goal.returns
returns c =
    c.len.ensures.len
    ∙ sym (length-map c.self.inside.keys (λ key. (key.0, entry_of key.1)))
    ∙ ap length (sym (entries-keys c.self.inside.keys c.len.ensures.sorted) ∙ ap map.entries c.self.view_is)
