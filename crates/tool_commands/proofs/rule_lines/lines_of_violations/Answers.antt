-- Each turn adds one line more.
use Rattle.std.proofs.Common.{◌≡◌, ◌++◌, Some, ap, slice_get, sym, ◌∙◌}
use Rattle.tool_commands.specs.Lines.{line_of_violation}
use Rattle.general_words.proofs.Lists.{at_place, flat_map-more}
use Rattle.tool_commands.proofs.rule_lines.lines_of_violations.Goals as goal

pub loop-violation-preserved : goal.loop-violation-preserved
loop-violation-preserved c =
    let violations = c.args.violations.now in
    let item = c.violation-item.result in
    let there : Some item ≡ slice_get violations c.loop-violation.violation-index = at_place violations c.loop-violation.violation-index item c.loop-violation-test.true c.violation-item.is in
    c.in_ok-push_line_of_violation.ensures
    ∙ (ap (λ x. x ++ line_of_violation item) c.loop-violation.invariant
    ∙ sym (flat_map-more line_of_violation violations c.loop-violation.violation-index item there))
