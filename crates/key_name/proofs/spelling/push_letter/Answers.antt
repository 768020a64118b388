use Rattle.std.proofs.Common.{◌≢◌, arith, rules}
use Rattle.model_names.proofs.EscapeLemmas.{flat_map-escaped-letter}
use Rattle.key_name.proofs.spelling.push_letter.Goals as goal

pub returns-in_default : goal.returns-in_default
returns-in_default c =
    let no_backslash : c.args.letter ≢ 92 = omega arith in
    let no_slash : c.args.letter ≢ 47 = omega arith in
    rw (flat_map-escaped-letter c.args.letter no_backslash no_slash) (search rules)
