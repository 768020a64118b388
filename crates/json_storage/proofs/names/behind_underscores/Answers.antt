use Rattle.std.proofs.Common.{None, lit<, sym, ◌∙◌}
use Rattle.std.proofs.lemmas.Str.Pattern.{strip_prefix_char}
use Rattle.key_name.proofs.ArrayLemmas.{without_underscores-none}
use Rattle.json_storage.proofs.names.behind_underscores.Goals as goal

pub returns : goal.returns
returns c =
    let none = strip_prefix_char 95 c.loop-rest.left.now None c.in_default.ensures.cases (lit< tt) in
    sym (c.loop-rest.invariant.0 ∙ without_underscores-none c.loop-rest.left.now none)
