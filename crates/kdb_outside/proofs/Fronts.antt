-- A sink's bytes and a front of a piece. This project's own.
use Rattle.std.proofs.Common.{◌≡◌, List, ℕ, ◌++◌, length, Some, sym, ap, ◌∙◌, arith}
use Rattle.std.proofs.lemmas.List.{take_all}
use Rattle.kdb_outside.specs.Bytes.{HoldsFront}

-- the whole piece is a front of it
pub HoldsFront-whole : (before piece now : List ℕ) → now ≡ before ++ piece → HoldsFront before piece (Some now)
HoldsFront-whole before piece now e = record {
  count = length piece;
  within = omega arith;
  is = ap Some (e ∙ ap (λ l. before ++ l) (sym (take_all (length piece) piece (omega arith))));
}
