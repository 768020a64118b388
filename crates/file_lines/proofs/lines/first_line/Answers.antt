-- The line ends at its line feed, or with the file.
use Rattle.std.proofs.Common.{◌∷◌, ◌+◌, take, ap, sym, ◌∙◌, arith, subst}
use Rattle.std.specs.List.{AllByRecursion}
use Rattle.std.proofs.lemmas.List.{take_rest, take_all}
use Rattle.model_lines.specs.Lines.{lines}
use Rattle.model_lines.proofs.LineLemmas.{IsInLine}
use Rattle.file_lines.proofs.CutLemmas.{lines-cut, lines-one}
use Rattle.file_lines.proofs.lines.first_line.Goals as goal

pub returns-then-byte-eq10-clause-cut : goal.returns-then-byte-eq10-clause-cut
returns-then-byte-eq10-clause-cut c =
    let bytes = c.args.bytes.now in
    let at = c.loop-at.at in
    lines-cut bytes at (omega arith) c.loop-at.invariant c.if-byte-eq10.true
    ∙ ap (λ rest. take at bytes ∷ lines rest) (sym (take_rest bytes (at + 1)))

pub returns-clause-cut : goal.returns-clause-cut
returns-clause-cut c =
    lines-one c.args.bytes.now c.requires (subst (λ bytes. AllByRecursion IsInLine bytes) (take_all c.loop-at.at c.args.bytes.now (omega arith)) c.loop-at.invariant)
