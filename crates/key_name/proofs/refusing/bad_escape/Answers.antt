use Rattle.std.proofs.Common.{sym, ◌∙◌}
use Rattle.key_name.proofs.PassLemmas.{bad_escape-letters}
use Rattle.key_name.proofs.refusing.bad_escape.Goals as goal

pub returns-in_default : goal.returns-in_default
returns-in_default c =
    c.bad_escape_in.ensures
    ∙ sym (bad_escape-letters c.args.raw.now.at c.args.raw.now.text.now c.in_default.not-text c.in_default.not-text-2 c.in_default.not-text-3)
