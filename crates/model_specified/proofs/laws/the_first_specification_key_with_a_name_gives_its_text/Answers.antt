use Rattle.std.proofs.Common.{map, ◌∙◌}
use Rattle.std.specs.FinMap as finite
use Rattle.general_words.proofs.Searches.{first_some-map}
use Rattle.model_maps.specs.Entry.{Entry}
use Rattle.model_specified.specs.SpecMeta.{spec_keys, specs_of}
use Rattle.model_specified.proofs.LaidOver.{get-laid_over}
use Rattle.model_specified.proofs.laws.the_first_specification_key_with_a_name_gives_its_text.Goals as goal

pub returns : goal.returns
returns c = λ keys path name.
    let specs = specs_of (spec_keys keys) path in
    get-laid_over (map (λ (spec : Entry). spec.meta) specs) name
    ∙ first_some-map (λ meta. finite.get meta name) (λ (spec : Entry). spec.meta) specs
