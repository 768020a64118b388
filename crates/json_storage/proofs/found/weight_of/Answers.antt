use Rattle.std.proofs.Common.{arith}
use Rattle.model_maps.proofs.MapLemmas.{weight_of_key-plain}
use Rattle.json_storage.proofs.found.weight_of.Goals as goal

pub returns : goal.returns
returns c =
    omega (arith, weight_of_key-plain c.args.name.now c.args.text.now, c.text_bytes.ensures, c.saturating_add.ensures, c.saturating_add-2.ensures)
