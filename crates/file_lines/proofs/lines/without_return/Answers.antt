use Rattle.std.proofs.Common.{◌≡◌, ◌==◌, ℕ, ◌+◌, ◌-◌, List, [], ◌∷◌, false, length, refl, sym, ◌∙◌, arith, eqb-true}
use Rattle.std.proofs.lemmas.Bool.{eqb-false}
use Rattle.model_lines.specs.Lines.{without_return as without_its_return}
use Rattle.file_lines.proofs.CutLemmas.{without_return-dropped, without_return-kept}
use Rattle.file_lines.proofs.lines.without_return.Goals as goal
use Rattle.file_lines.proofs.lines.without_return.Goals.{then-is_empty-via-then-is_empty, then-is_empty-via-else-is_empty+then-line-ne13}

empty-kept : (line : List ℕ) → length line ≡ 0 → line ≡ without_its_return line
empty-kept [] e = refl
empty-kept (b ∷ line) e = absurd (omega arith)

some_length : (n : ℕ) → (n == 0) ≡ false → (n - 1) + 1 ≡ n
some_length n h = let other = eqb-false n 0 h in omega arith

pub returns-then-is_empty : goal.returns-then-is_empty
returns-then-is_empty c = elim c.then-is_empty.branch [
  | then-is_empty-via-then-is_empty w ↦ empty-kept c.args.line.now (eqb-true (length c.args.line.now) 0 (sym c.is_empty.ensures ∙ w.if-is_empty.true))
  | then-is_empty-via-else-is_empty+then-line-ne13 w ↦
      without_return-kept c.args.line.now (length c.args.line.now - 1) (some_length (length c.args.line.now) (sym c.is_empty.ensures ∙ w.if-is_empty.false)) w.if-line-ne13.true
]

pub returns : goal.returns
returns c =
    without_return-dropped c.args.line.now (length c.args.line.now - 1) (some_length (length c.args.line.now) (sym c.is_empty.ensures ∙ c.if-is_empty.false)) c.if-line-ne13.false
