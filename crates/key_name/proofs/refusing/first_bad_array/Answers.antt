use Rattle.std.proofs.Common.{sym, ◌∙◌}
use Rattle.key_name.proofs.PassLemmas.{bad_arrays-next, bad_arrays-bad}
use Rattle.key_name.proofs.refusing.first_bad_array.Goals as goal

pub returns-then-is_bad_array : goal.returns-then-is_bad_array
returns-then-is_bad_array c =
    sym (c.loop-raw.invariant ∙ bad_arrays-bad c.args.raws.now c.loop-raw.raw-index c.raw-item.result c.raw-item.is c.loop-raw-test.true (sym c.is_bad_array.ensures ∙ c.if-is_bad_array.true))

pub loop-raw-preserved : goal.loop-raw-preserved
loop-raw-preserved c =
    c.loop-raw.invariant
    ∙ bad_arrays-next c.args.raws.now c.loop-raw.raw-index c.raw-item.result c.raw-item.is c.loop-raw-test.true (sym c.is_bad_array.ensures ∙ c.if-is_bad_array.false)
