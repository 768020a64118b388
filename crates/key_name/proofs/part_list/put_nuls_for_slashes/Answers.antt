use Rattle.std.proofs.Common.{◌∙◌, ap, set, get_or, arith}
use Rattle.key_name.specs.PartList.{nul_for_slash}
use Rattle.key_name.proofs.SlashLemmas.{turned_next}
use Rattle.key_name.proofs.part_list.put_nuls_for_slashes.Goals as goal

pub loop-b-preserved : goal.loop-b-preserved
loop-b-preserved c =
    let i = c.loop-b.b-index in
    ap (set c.loop-b.bytes i) c.nul_for_slash.ensures
    ∙ ap (λ bytes. set bytes i (nul_for_slash (get_or bytes i 0))) c.loop-b.invariant
    ∙ turned_next nul_for_slash c.args.bytes.now i (omega arith)
