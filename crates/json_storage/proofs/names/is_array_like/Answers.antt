use Rattle.std.proofs.Common.{None, lit<, sym}
use Rattle.std.proofs.lemmas.Str.Pattern.{strip_prefix_char}
use Rattle.key_name.proofs.ArrayLemmas.{is_array_like-none}
use Rattle.json_storage.proofs.names.is_array_like.Goals as goal

pub returns-in-None : goal.returns-in-None
returns-in-None c =
    sym (is_array_like-none c.args.part.now (strip_prefix_char 35 c.args.part.now None c.in-None.ensures.cases (lit< tt)))
