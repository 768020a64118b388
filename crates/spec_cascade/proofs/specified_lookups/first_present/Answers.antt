use Rattle.std.proofs.Common.{◌≡◌, Some, sym, slice_get, ◌∙◌}
use Rattle.general_words.proofs.Lists.{at_place}
use Rattle.general_words.proofs.Searches.{first_some-found, first_some-next}
use Rattle.model_specified.specs.Specified.{specified}
use Rattle.spec_cascade.specs.Found.{present}
use Rattle.spec_cascade.proofs.specified_lookups.first_present.Goals as goal

pub returns-in-Some : goal.returns-in-Some
returns-in-Some c =
    let there : Some c.name-item.result ≡ slice_get c.args.names.now c.loop-name.name-index = at_place c.args.names.now c.loop-name.name-index c.name-item.result c.loop-name-test.true c.name-item.is in
    sym (first_some-found (present (specified c.args.keys.now) c.args.said.now c.args.default.now) c.args.names.now c.loop-name.name-index c.name-item.result c.in-Some.found there c.loop-name.invariant (sym c.in_ok-found.ensures ∙ c.in-Some.is))

pub loop-name-preserved : goal.loop-name-preserved
loop-name-preserved c =
    let there : Some c.name-item.result ≡ slice_get c.args.names.now c.loop-name.name-index = at_place c.args.names.now c.loop-name.name-index c.name-item.result c.loop-name-test.true c.name-item.is in
    first_some-next (present (specified c.args.keys.now) c.args.said.now c.args.default.now) c.args.names.now c.loop-name.name-index c.name-item.result there c.loop-name.invariant (sym c.in_ok-found.ensures ∙ c.in_default.is)
