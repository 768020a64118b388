use Rattle.std.proofs.Common.{◌≡◌, length, Option, sym, ap, ◌∙◌}
use Rattle.std.specs.FinMap as finite
use Rattle.std.specs.Option.{option_map, option_map_or}
use Rattle.key_set.specs.EntryView.{entry_of}
use Rattle.model_maps.specs.Entry.{Entry, Meta}
use Rattle.plugin_chain.specs.Layers.{laid}
use Rattle.plugin_chain.proofs.LayerLemmas.{first_more, laid-none}
use Rattle.plugin_chain.proofs.spec_metas.own_layer.Goals as goal
use Rattle.plugin_chain.proofs.spec_metas.own_layer.Goals.{in-Some+in_ok-add_layer, in_default}

pub returns : goal.returns
returns c =
    let meta_at : Option Entry → Meta = λ o. option_map_or (λ entry. entry.meta) o finite.empty in
    elim c.match-lookup.branch as (λ _. laid c.match-lookup.layers.items ≡ meta_at (finite.get c.args.specs.now c.args.name.now)) [
      | in-Some+in_ok-add_layer w ↦
          ap (λ ls. laid ls.items) w.layers-is
          ∙ first_more w.add_layer.new.layers.items c.new-layers.result.items w.in-Some.entry.now.meta c.new-layers.ensures.items w.in_ok-add_layer.ensures.ok
          ∙ ap meta_at (ap (option_map (λ e. entry_of e.now)) (sym w.in-Some.is) ∙ c.lookup.ensures)
      | in_default w ↦
          ap (λ ls. laid ls.items) w.layers-is
          ∙ laid-none c.new-layers.result.items (ap length c.new-layers.ensures.items)
          ∙ ap meta_at (ap (option_map (λ e. entry_of e.now)) (sym w.in_default.is) ∙ c.lookup.ensures)
    ]
