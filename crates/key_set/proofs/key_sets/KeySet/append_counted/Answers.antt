-- What is put among the keys is inserted into the map, which has as many keys.
use Rattle.std.proofs.Common.{◌≡◌, ◌+◌, ◌-◌, ◌*◌, ◌^◌, ◌≤◌, length, sym, ap, ◌∙◌, subst}
use Rattle.std.proofs.lemmas.List.{length-map}
use Rattle.std.specs.FinMap as map
use Rattle.std.specs.Option.{option_map}
use Rattle.std.proofs.lemmas.Result.{on_ok_weaker, IfOk-weaker}
use Rattle.key_set.specs.EntryView.{entry_of, keys_of}
use Rattle.key_set.proofs.SetLemmas.{get-keys, put-keys, entries-keys}
use Rattle.key_set.proofs.key_sets.KeySet.append_counted.Goals as goal

pub returns-clause-former : goal.returns-clause-former
returns-clause-former g c = IfOk-weaker c.insert_counted.result _ (λ former. option_map entry_of former ≡ map.get c.args.self.now c.args.name) (λ former was.
    ap (option_map entry_of) was
    ∙ get-keys c.self.inside.keys c.args.name c.insert_counted.ensures.sorted
    ∙ ap (λ keys. map.get keys c.args.name) c.self.view_is) c.insert_counted.ensures.former

pub returns-clause-ok : goal.returns-clause-ok
returns-clause-ok g c = on_ok_weaker c.insert_counted.result (λ done.
    ap keys_of done
    ∙ put-keys c.self.inside.keys c.args.name c.args.entry c.insert_counted.ensures.sorted
    ∙ ap (λ keys. map.insert keys c.args.name (entry_of c.args.entry)) c.self.view_is) c.insert_counted.ensures.ok

pub returns-clause-cost : goal.returns-clause-cost
returns-clause-cost g c =
    let entries = sym (length-map c.self.inside.keys (λ key. (key.0, entry_of key.1))) ∙ ap length (sym (entries-keys c.self.inside.keys c.insert_counted.ensures.sorted) ∙ ap map.entries c.self.view_is) in
    subst (λ n. 2 ^ (c.insert_counted.new.steps - c.args.steps.now) ≤ 128 * (2 * n + 1)) entries c.insert_counted.ensures.cost
