-- What is found among the keys is what the map has, and the map has an entry for each key.
use Rattle.std.proofs.Common.{Bor, ◌≤◌, ◌^◌, ◌*◌, ◌+◌, ◌-◌, length, sym, ap, subst, ◌∙◌}
use Rattle.std.proofs.lemmas.List.{length-map}
use Rattle.std.specs.FinMap as map
use Rattle.std.specs.Option.{option_map}
use Rattle.key_set.specs.declared.entries.Entry as code
use Rattle.key_set.specs.EntryView.{entry_of}
use Rattle.key_set.proofs.SetLemmas.{get-keys, entries-keys, option_map-two}
use Rattle.key_set.proofs.key_sets.KeySet.lookup_counted.Goals as goal

pub returns-clause-found : goal.returns-clause-found
returns-clause-found g c =
    option_map-two (λ (entry : Bor code.Entry). entry.now) entry_of c.get_counted.result
    ∙ ap (option_map entry_of) c.get_counted.ensures.found
    ∙ get-keys c.self.inside.keys c.args.name.now c.get_counted.ensures.sorted
    ∙ ap (λ keys. map.get keys c.args.name.now) c.self.view_is

pub returns-clause-cost : goal.returns-clause-cost
returns-clause-cost g c =
    let entries = sym (length-map c.self.inside.keys (λ key. (key.0, entry_of key.1))) ∙ ap length (sym (entries-keys c.self.inside.keys c.get_counted.ensures.sorted) ∙ ap map.entries c.self.view_is) in
    subst (λ n. 2 ^ (c.get_counted.new.steps - c.args.steps.now) ≤ 128 * (2 * n + 1)) entries c.get_counted.ensures.cost
