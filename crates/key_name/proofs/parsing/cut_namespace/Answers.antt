use Rattle.std.proofs.Common.{None, Some, lit<, sym}
use Rattle.std.proofs.lemmas.Str.Pattern.{strip_prefix_char, split_once_first}
use Rattle.key_name.proofs.RefusedLemmas.{no_slash, IsCut, refusal_of-no_namespace, refusal_of-unknown, refusal_of-no_slash}
use Rattle.key_name.proofs.parsing.cut_namespace.Goals as goal

pub returns-in_default-split_once-clause-refused : goal.returns-in_default-split_once-clause-refused
returns-in_default-split_once-clause-refused c =
    let text = c.args.text.now in
    let slash = no_slash text (strip_prefix_char 47 text None c.in_default.ensures.cases (lit< tt)) in
    λ _. refusal_of-no_namespace text slash (split_once_first 58 text None c.in_default-split_once.ensures.cases (lit< tt))

pub returns-in_default-namespace_of-clause-refused : goal.returns-in_default-namespace_of-clause-refused
returns-in_default-namespace_of-clause-refused c =
    let text = c.args.text.now in
    let slash = no_slash text (strip_prefix_char 47 text None c.in_default.ensures.cases (lit< tt)) in
    let cut : IsCut text c.in-Some-split_once.word.now c.in-Some-split_once.behind.now = let found = split_once_first 58 text (Some (c.in-Some-split_once.word, c.in-Some-split_once.behind)) c.in-Some-split_once.ensures.cases (lit< tt) in record { within = found.0; word_is_before = found.1; behind_is_after = found.2 } in
    λ _. refusal_of-unknown text _ _ slash cut (sym c.in_default-namespace_of.ensures)

pub returns-in-None-clause-refused : goal.returns-in-None-clause-refused
returns-in-None-clause-refused c =
    let text = c.args.text.now in
    let slash = no_slash text (strip_prefix_char 47 text None c.in_default.ensures.cases (lit< tt)) in
    let cut : IsCut text c.in-Some-split_once.word.now c.in-Some-split_once.behind.now = let found = split_once_first 58 text (Some (c.in-Some-split_once.word, c.in-Some-split_once.behind)) c.in-Some-split_once.ensures.cases (lit< tt) in record { within = found.0; word_is_before = found.1; behind_is_after = found.2 } in
    let behind = no_slash c.in-Some-split_once.behind.now (strip_prefix_char 47 _ None c.in-None.ensures.cases (lit< tt)) in
    λ _. refusal_of-no_slash text _ _ c.in-Some-namespace_of.namespace slash cut (sym c.in-Some-namespace_of.ensures) behind
