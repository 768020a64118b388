-- How far a piece has gone out to a writer. This project's own.
use Rattle.std.proofs.Common.{◌≡◌, ℕ, ◌+◌, ◌-◌, ◌≤◌, List, length, take, drop, Option, sym, ap, ◌∙◌, subst, arith, length-drop}
use Rattle.std.proofs.lemmas.List.{drop-drop}
use Rattle.std.proofs.Math.Seq.{take-add}
use Rattle.std.specs.Io.KnownBytes.{Appends, Keeps}
use Rattle.std.proofs.KnownBytes.{Appends-trans, Appends-kept}

-- the writer took a front of the piece, and this is left of it
pub record HasWritten (before now : Option (List ℕ)) (piece left : List ℕ) : Type 0 where
  pub count : ℕ
  pub within : count ≤ length piece
  pub rest : left ≡ drop count piece
  pub is : Appends before now (take count piece)

-- the writer took n bytes more
pub HasWritten-more : (before now next : Option (List ℕ)) (piece left : List ℕ) (n : ℕ)
    → HasWritten before now piece left → n ≤ length left → Appends now next (take n left)
    → HasWritten before next piece (drop n left)
HasWritten-more before now next piece left n so_far room more =
    let last : Appends now next (take n (drop so_far.count piece)) = subst (λ l. Appends now next (take n l)) so_far.rest more in
    let sized : length left ≡ length piece - so_far.count = ap length so_far.rest ∙ length-drop so_far.count piece in
    record {
      count = so_far.count + n;
      within = omega arith;
      rest = ap (drop n) so_far.rest ∙ drop-drop n so_far.count piece;
      is = subst (Appends before next) (sym (take-add so_far.count n piece)) (Appends-trans before now next _ _ so_far.is last);
    }

-- the writer took nothing more
pub HasWritten-kept : (before now next : Option (List ℕ)) (piece left : List ℕ) → HasWritten before now piece left
    → Keeps now next → HasWritten before next piece left
HasWritten-kept before now next piece left so_far kept =
    record {
      count = so_far.count;
      within = so_far.within;
      rest = so_far.rest;
      is = Appends-kept before now next _ so_far.is kept;
    }
