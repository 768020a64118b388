-- Each turn adds one line more.
use Rattle.std.proofs.Common.{◌≡◌, ◌++◌, arith, length, take, ap, sym, ◌∙◌}
use Rattle.std.proofs.Math.Seq.{take-length}
use Rattle.std.specs.List.{flat_map}
use Rattle.tool_commands.specs.Lines.{line_of_mount}
use Rattle.tool_single.proofs.AnswerLemmas.{lines-of-mounts}
use Rattle.general_words.proofs.Lists.{flat_map-more}
use Rattle.tool_single.proofs.answering.lines_of_mounts.Goals as goal

pub loop-i-preserved : goal.loop-i-preserved
loop-i-preserved c =
    let mount = c.in-Some.mount.now in
    c.in_ok-push_line_of_mount.ensures
    ∙ (ap (λ x. x ++ line_of_mount mount) c.loop-i.invariant
    ∙ sym (flat_map-more line_of_mount c.table-table.result.now c.loop-i.i mount c.in-Some.ensures))

pub returns : goal.returns
returns c =
    let table = c.table-table.result.now in
    let at_end : c.loop-i.i ≡ length table = omega (arith, c.loop-i-test.false, c.loop-i.auto.i-end, c.len-i-end.ensures.len) in
    c.loop-i.invariant
    ∙ (ap (flat_map line_of_mount) (ap (λ n. take n table) at_end ∙ (take-length table ∙ c.table-table.ensures.mounts)) ∙ lines-of-mounts c.args.mounted.now)
