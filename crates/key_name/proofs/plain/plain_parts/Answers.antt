use Rattle.std.proofs.Common.{sym, ◌∙◌}
use Rattle.key_name.proofs.PlainLemmas.{no_nul_in}
use Rattle.key_name.proofs.plain.plain_parts.Goals as goal

pub between_slashes-requires : goal.between_slashes-requires
between_slashes-requires c = no_nul_in c.args.path.now (sym c.is_plain.ensures ∙ c.if-is_plain.true)
