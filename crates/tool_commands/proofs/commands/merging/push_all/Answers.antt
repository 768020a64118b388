-- Each turn adds one line more, or finds the first name that is too long.
use Rattle.std.proofs.Common.{◌≡◌, Some, sym, slice_get, string_bytes, ◌∙◌}
use Rattle.key_name.specs.Joining.{joined}
use Rattle.model_names.specs.Name.{Name}
use Rattle.tool_commands.specs.Commands.Trees.{bytes_over}
use Rattle.general_words.proofs.Lists.{at_place}
use Rattle.general_words.proofs.Searches.{first_some-found, first_some-next}
use Rattle.tool_commands.proofs.MergeLemmas.{line-next}
use Rattle.tool_commands.proofs.commands.merging.push_all.Goals as goal

pub returns-in-Some-clause-long : goal.returns-in-Some-clause-long
returns-in-Some-clause-long c =
    let there : Some c.name-item.result ≡ slice_get c.args.names.now c.loop-name.name-index = at_place c.args.names.now c.loop-name.name-index c.name-item.result c.loop-name-test.true c.name-item.is in
    sym (first_some-found (λ (name : Name). bytes_over (joined c.args.into.now name)) c.args.names.now c.loop-name.name-index c.name-item.result c.in-Some.bytes there c.loop-name.invariant.0 (sym c.in_ok-bytes.ensures.long ∙ c.in-Some.is))

pub loop-name-preserved : goal.loop-name-preserved
loop-name-preserved c =
    let there : Some c.name-item.result ≡ slice_get c.args.names.now c.loop-name.name-index = at_place c.args.names.now c.loop-name.name-index c.name-item.result c.loop-name-test.true c.name-item.is in (
      first_some-next (λ (name : Name). bytes_over (joined c.args.into.now name)) c.args.names.now c.loop-name.name-index c.name-item.result there c.loop-name.invariant.0 (sym c.in_ok-bytes.ensures.long ∙ c.in_default.is),
      line-next c.args.into.now c.args.names.now c.loop-name.name-index c.name-item.result (string_bytes c.args.lines.now) _ _ there c.loop-name.invariant.1 (c.in_ok-bytes.ensures.line c.in_default.is),
    )
