-- What a loop has taken of an input, piece by piece.
use Rattle.std.proofs.Common.{◌≡◌, ℕ, zero, suc, ◌+◌, ◌≤◌, List, [], ◌∷◌, ◌++◌, length, take, drop, Option, Some, sym, ap, subst, ◌∙◌, arith}
use Rattle.std.proofs.lemmas.List.{append-nil, drop-drop, drop_all, take_all}
use Rattle.tool_single.specs.Input.{TakesAll, TakesFront, TakesPiece, TakesSome}

-- these bytes were taken, and what stands behind them is left
pub record HasTaken (whole bytes : List ℕ) (now : Option (List ℕ)) : Type 0 where
  pub front : whole ≡ bytes ++ drop (length bytes) whole
  pub rest : now ≡ Some (drop (length bytes) whole)

-- what is left behind a piece more
behind : (whole bytes next : List ℕ) (n : ℕ) → length next ≡ length bytes + n
    → drop n (drop (length bytes) whole) ≡ drop (length next) whole
behind whole bytes next n count = drop-drop n (length bytes) whole ∙ ap (λ k. drop k whole) (sym count)

pub HasTaken-more : (whole bytes next : List ℕ) (n : ℕ) (now new : Option (List ℕ)) → HasTaken whole bytes now
    → length next ≡ length bytes + n → TakesPiece (drop (length bytes) whole) bytes next n new → HasTaken whole next new
HasTaken-more whole bytes next n now new before count piece = record {
  front = before.front ∙ piece.moved ∙ ap (λ rest. next ++ rest) (behind whole bytes next n count);
  rest = piece.rest ∙ ap Some (behind whole bytes next n count);
}

pub front-more : (most : ℕ) (whole bytes : List ℕ) (new : Option (List ℕ))
    → TakesSome most (length bytes) (drop (length bytes) whole) new → TakesFront most whole new
front-more most whole bytes new some =
    record {
      count = length bytes + some.count;
      few = some.few;
      is = some.is ∙ ap Some (drop-drop some.count (length bytes) whole);
    }

-- nothing is left: the bytes are the whole
at_end : (whole bytes : List ℕ) (now : Option (List ℕ)) → HasTaken whole bytes now → drop (length bytes) whole ≡ []
    → whole ≡ bytes
at_end whole bytes now has none = has.front ∙ ap (λ rest. bytes ++ rest) none ∙ append-nil bytes

none-left : (whole bytes next : List ℕ) (n : ℕ) → length next ≡ length bytes + n → n ≡ 0
    → drop (length bytes) whole ≡ [] → drop (length next) whole ≡ []
none-left whole bytes next n count none empty =
    ap (λ k. drop k whole) (count ∙ ap (λ m. length bytes + m) none ∙ plus_none (length bytes)) ∙ empty
  where
    plus_none : (k : ℕ) → k + 0 ≡ k
    plus_none k = omega arith

pub taken-end : (most : ℕ) (whole bytes next : List ℕ) (n : ℕ) (now new : Option (List ℕ)) → HasTaken whole bytes now
    → length next ≡ length bytes + n → TakesPiece (drop (length bytes) whole) bytes next n new → n ≡ 0
    → length next ≤ most → next ≡ take most whole
taken-end most whole bytes next n now new before count piece none few =
    let has = HasTaken-more whole bytes next n now new before count piece in
    let all = at_end whole next new has (none-left whole bytes next n count none (piece.ends none)) in
    sym (ap (λ l. take most l) all ∙ take_all most next few)

pub all-end : (most : ℕ) (whole bytes next : List ℕ) (n : ℕ) (now new : Option (List ℕ)) → HasTaken whole bytes now
    → length next ≡ length bytes + n → TakesPiece (drop (length bytes) whole) bytes next n new → n ≡ 0
    → length next ≤ most → TakesAll most whole new
all-end most whole bytes next n now new before count piece none few =
    let has = HasTaken-more whole bytes next n now new before count piece in
    let empty = none-left whole bytes next n count none (piece.ends none) in
    let all = at_end whole next new has empty in
    has.rest ∙ ap Some (empty ∙ sym (drop_all most whole (subst (λ (w : List ℕ). length w ≤ most) (sym all) few)))

take-front : (xs ys : List ℕ) (n : ℕ) → n ≡ length xs → take n (xs ++ ys) ≡ xs
take-front [] ys n is = ap (λ k. take k ys) is
take-front (x ∷ xs) ys zero is = absurd (omega (arith, is))
take-front (x ∷ xs) ys (suc n) is = ap (λ l. x ∷ l) (take-front xs ys n (omega (arith, is)))

-- as many bytes were taken as are taken at most
pub taken-full : (most : ℕ) (whole bytes : List ℕ) (now : Option (List ℕ)) → HasTaken whole bytes now
    → length bytes ≡ most → bytes ≡ take most whole
taken-full most whole bytes now has full =
    sym (ap (λ l. take most l) has.front ∙ take-front bytes (drop (length bytes) whole) most (sym full))

pub all-full : (most : ℕ) (whole bytes : List ℕ) (now : Option (List ℕ)) → HasTaken whole bytes now
    → length bytes ≡ most → TakesAll most whole now
all-full most whole bytes now has full = has.rest ∙ ap (λ k. Some (drop k whole)) full
