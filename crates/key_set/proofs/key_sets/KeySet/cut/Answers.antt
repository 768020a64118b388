-- The range has the keys at or below the name, and the others are left.
use Rattle.std.proofs.Common.{not, sym, ap, ◌∙◌}
use Rattle.std.specs.FinMap as map
use Rattle.model_names.specs.Below.{is_at_or_below}
use Rattle.model_names.specs.Name.{Name}
use Rattle.key_set.specs.EntryView.{keys_of}
use Rattle.key_set.proofs.SetLemmas.{where-keys}
use Rattle.key_set.proofs.key_sets.KeySet.cut.Goals as goal

pub returns-clause-taken : goal.returns-clause-taken
returns-clause-taken c =
    let p = is_at_or_below c.args.at.now in
    ap keys_of (c.in_ok-keys.ensures.taken ∙ sym c.range_below-from.ensures.inside)
    ∙ where-keys c.self.inside.keys p c.in_ok-keys.ensures.sorted
    ∙ ap (λ keys. map.retain_keys keys p) c.self.view_is

pub returns-clause-ok : goal.returns-clause-ok
returns-clause-ok c =
    let p = λ (name : Name). not (is_at_or_below c.args.at.now name) in
    ap keys_of (c.in_ok-keys.ensures.ok ∙ sym c.range_below-from.ensures.outside)
    ∙ where-keys c.self.inside.keys p c.in_ok-keys.ensures.sorted
    ∙ ap (λ keys. map.retain_keys keys p) c.self.view_is
