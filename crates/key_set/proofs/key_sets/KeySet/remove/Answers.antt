-- What is taken out of the keys is removed from the map.
use Rattle.std.proofs.Common.{◌≡◌, ap, ◌∙◌}
use Rattle.std.specs.FinMap as map
use Rattle.std.specs.Option.{option_map}
use Rattle.std.proofs.lemmas.Result.{on_ok_weaker, IfOk-weaker}
use Rattle.key_set.specs.EntryView.{entry_of, keys_of}
use Rattle.key_set.proofs.SetLemmas.{get-keys, without-keys}
use Rattle.key_set.proofs.key_sets.KeySet.remove.Goals as goal

pub returns-clause-former : goal.returns-clause-former
returns-clause-former c = IfOk-weaker c.remove.result _ (λ former. option_map entry_of former ≡ map.get c.args.self.now c.args.name.now) (λ former was.
    ap (option_map entry_of) was
    ∙ get-keys c.self.inside.keys c.args.name.now c.remove.ensures.sorted
    ∙ ap (λ keys. map.get keys c.args.name.now) c.self.view_is) c.remove.ensures.former

pub returns-clause-ok : goal.returns-clause-ok
returns-clause-ok c = on_ok_weaker c.remove.result (λ done.
    ap keys_of done
    ∙ without-keys c.self.inside.keys c.args.name.now c.remove.ensures.sorted
    ∙ ap (λ keys. map.remove keys c.args.name.now) c.self.view_is) c.remove.ensures.ok
