-- The next key's weight goes from those to come to the weight so far.
use Rattle.model_maps.specs.KeyMap.{weight_of_key}
use Rattle.key_set.specs.EntryView.{entry_of}
use Rattle.key_set.proofs.SetLemmas.{Key, weighed-more, weighed-all}
use Rattle.key_set.proofs.weights.weight_of_all.Goals as goal

pub loop-name-preserved : goal.loop-name-preserved
loop-name-preserved c = (
  c.saturating_add-weight.type_inv,
  weighed-more (λ (key : Key). weight_of_key key.0 (entry_of key.1)) c.loop-name.weight c.saturating_add-weight.result c.weight_of_key.result (c.in-Some.name.now, c.in-Some.entry.now) c.loop-name.name-iterator c.next.new.self _
      c.in-Some.ensures.steps c.weight_of_key.ensures c.saturating_add-weight.ensures c.loop-name.invariant.1,
)

pub returns-clause-weight : goal.returns-clause-weight
returns-clause-weight c =
    weighed-all (λ (key : Key). weight_of_key key.0 (entry_of key.1)) c.loop-name.weight c.loop-name.name-iterator _ c.in-None.ensures.steps.0 c.loop-name.invariant.0 c.loop-name.invariant.1
