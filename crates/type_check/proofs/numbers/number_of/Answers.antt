use Rattle.std.proofs.Common.{lit<}
use Rattle.std.proofs.lemmas.Str.Pattern.{strip_prefix_char}
use Rattle.type_check.proofs.NumberLemmas.{no_prefix, plain_number}
use Rattle.type_check.proofs.numbers.number_of.Goals as goal

pub returns-in-None : goal.returns-in-None
returns-in-None c =
    let bare = no_prefix c.args.text.now c.strip_prefix.result (strip_prefix_char 45 c.args.text.now _ c.strip_prefix.ensures.cases (lit< tt)) c.in-None.is in
    plain_number c.args.text.now _ bare c.signed_number_of-in-None.ensures
