use Rattle.std.proofs.Common.{None, lit<}
use Rattle.std.proofs.lemmas.Str.Pattern.{strip_prefix_char}
use Rattle.key_name.proofs.ArrayLemmas.{is_array_like-none}
use Rattle.key_name.proofs.arrays.array_digits.Goals as goal

pub returns-in_default-clause-none : goal.returns-in_default-clause-none
returns-in_default-clause-none c =
    is_array_like-none c.args.part.now (strip_prefix_char 35 c.args.part.now None c.in_default.ensures.cases (lit< tt))
