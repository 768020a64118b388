-- The word ends at the first blank, or with the bytes.
use Rattle.std.proofs.Common.{◌∷◌, ◌∙◌, ap, sym, subst, arith, take}
use Rattle.std.proofs.lemmas.List.{take_rest, take_all}
use Rattle.std.specs.List.{AllByRecursion}
use Rattle.model_hosts.specs.Line.{words}
use Rattle.hosts_storage.proofs.WordCuts.{IsFilledByte, words-cut, words-whole, blank-behind}
use Rattle.hosts_storage.proofs.words.cut_word.Goals as goal

pub returns-then-is_blank-clause-cut : goal.returns-then-is_blank-clause-cut
returns-then-is_blank-clause-cut c =
    let bytes = c.args.bytes.now in
    let at = c.loop-at.at in
    let blank = sym c.is_blank.ensures ∙ c.if-is_blank.true in
    words-cut bytes at (blank-behind bytes at blank c.requires.filled) (omega arith) c.loop-at.invariant blank
    ∙ ap (λ rest. take at bytes ∷ words rest) (sym (take_rest bytes at))

pub returns-clause-cut : goal.returns-clause-cut
returns-clause-cut c =
    words-whole c.args.bytes.now c.requires.some (subst (AllByRecursion IsFilledByte) (take_all c.loop-at.at c.args.bytes.now (omega arith)) c.loop-at.invariant)
