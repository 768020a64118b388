-- What is put among the keys is inserted into the map.
use Rattle.std.proofs.Common.{◌≡◌, ap, ◌∙◌}
use Rattle.std.specs.FinMap as map
use Rattle.std.specs.Option.{option_map}
use Rattle.std.proofs.lemmas.Result.{on_ok_weaker, IfOk-weaker}
use Rattle.key_set.specs.EntryView.{entry_of, keys_of}
use Rattle.key_set.proofs.SetLemmas.{get-keys, put-keys}
use Rattle.key_set.proofs.key_sets.KeySet.append.Goals as goal

pub returns-clause-former : goal.returns-clause-former
returns-clause-former c = IfOk-weaker c.insert.result _ (λ former. option_map entry_of former ≡ map.get c.args.self.now c.args.name) (λ former was.
    ap (option_map entry_of) was
    ∙ get-keys c.self.inside.keys c.args.name c.insert.ensures.sorted
    ∙ ap (λ keys. map.get keys c.args.name) c.self.view_is) c.insert.ensures.former

pub returns-clause-ok : goal.returns-clause-ok
returns-clause-ok c = on_ok_weaker c.insert.result (λ done.
    ap keys_of done
    ∙ put-keys c.self.inside.keys c.args.name c.args.entry c.insert.ensures.sorted
    ∙ ap (λ keys. map.insert keys c.args.name (entry_of c.args.entry)) c.self.view_is) c.insert.ensures.ok
