use Rattle.std.proofs.Common.{◌++◌, ap, ap₂, ◌∙◌}
use Rattle.std.specs.FinMap as finite
use Rattle.std.specs.List.{filter}
use Rattle.model_specified.specs.SpecMeta.{is_pattern_of}
use Rattle.plugin_chain.specs.Globs.{lent, patterns_in}
use Rattle.plugin_chain.proofs.NarrowLemmas.{candidates_are}
use Rattle.plugin_chain.proofs.spec_index.SpecIndex.candidates.Goals as goal

pub returns : goal.returns
returns c =
    let path = c.args.path.now.parts in
    candidates_are c.self.inside.keys.now path c.self.inside.globs.items (lent c.gather.new.found.items) c.self.invariant
    (c.in_ok-gather.ensures.ok ∙ ap₂ (λ found globs. patterns_in path (lent found) ++ patterns_in path globs) c.new-found.ensures.items c.as_slice.ensures.value)
    ∙ ap (λ keys. filter (λ key. is_pattern_of path key.0) (finite.entries keys)) c.self.view_is
