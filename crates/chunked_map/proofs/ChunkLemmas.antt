-- Where a key belongs among chunks.
use Rattle.std.proofs.Common.{◌≡◌, ℕ, suc, ◌+◌, ◌^◌, ◌<◌, ◌≤◌, T, List, [], ◌∷◌, ◌++◌, length, take, drop, get_or, sym, ap, ◌∙◌, subst, arith}
use Rattle.std.specs.Cmp.{IsTotalOrder}
use Rattle.std.specs.FinMap.{is_sorted}
use Rattle.std.specs.FinMap.Entries.{below_all}
use Rattle.std.specs.declared.cmp.Ordering.{Ordering}
use Rattle.general_words.proofs.Tests.{first}
use Rattle.general_words.proofs.Orders.{less}
use Rattle.std.proofs.lemmas.List.{drop_all, length-append, length-take-le}
use Rattle.chunked_map.specs.Chunks.{joined, AreChunks, IsChunkOf, all_before}
use Rattle.chunked_map.proofs.OrderLemmas.{all_before-append, all_before-front}
use Rattle.chunked_map.proofs.JoinLemmas.{take_one_more, drop_one_less, sorted-take, sorted-drop, sized_at, sized-take, length_sized}

module _ {K X : Type 0} (R : K → K → Ordering) (q : K) where
  -- a chunk before q has only such chunks before it
  pub before_some : (o : IsTotalOrder R) (xs c : List (K × X)) → 0 < length c → T (is_sorted R (xs ++ c))
      → T (all_before R q c) → T (all_before R q (xs ++ c))
  before_some o xs [] some h past = absurd (omega arith)
  before_some o xs (y ∷ ys) some h past =
      all_before-append R q xs (y ∷ ys) (all_before-front R o q xs y ys h (less _ (first _ _ past))) past

  module _ (o : IsTotalOrder R) (cs : List (List (K × X))) (are : AreChunks R cs) (at : ℕ) (c : List (K × X)) (lt : at < length cs) (is : c ≡ get_or cs at c) where
    pub before_next : T (all_before R q c) → T (all_before R q (joined (take (suc at) cs)))
    before_next past =
        let next = take_one_more cs at c lt in
        subst (λ es. T (all_before R q es)) (sym next)
        (before_some o (joined (take at cs)) (get_or cs at c) (sized_at cs at c lt are.sizes).some (subst (λ es. T (is_sorted R es)) next (sorted-take R cs are.sorted (suc at))) (subst (λ es. T (all_before R q es)) is past))

    pub before_more : (n : ℕ) → n ≡ suc at → T (all_before R q c) → T (all_before R q (joined (take n cs)))
    before_more n e past = subst (λ m. T (all_before R q (joined (take m cs)))) (sym e) (before_next past)

    pub sorted_here : T (is_sorted R (c ++ joined (drop (suc at) cs)))
    sorted_here =
        subst (λ (es : List (K × X)). T (is_sorted R (es ++ joined (drop (suc at) cs)))) (sym is) (subst (λ es. T (is_sorted R es)) (drop_one_less cs at c lt) (sorted-drop R cs are.sorted at))

  -- a key before none is behind all
  pub behind_none : (cs : List (List (K × X))) → T (all_before R q (joined (take (length cs) cs)))
      → IsChunkOf R cs q (length cs)
  behind_none cs h = record {
    within = omega arith;
    before = h;
    behind = subst (λ es. T (below_all R q (joined es))) (sym (drop_all (suc (length cs)) cs (omega arith))) tt;
  }

-- the entries up to a chunk and those in it can be counted
pub countable : {K X : Type 0} (R : K → K → Ordering) (cs : List (List (K × X))) (i : ℕ) (c : List (K × X))
    → AreChunks R cs → i < length cs → c ≡ get_or cs i c → length (joined (take i cs)) + length c ≤ 2 ^ 63
countable R cs i c are lt is =
    let next = ap length (take_one_more cs i c lt) ∙ length-append (joined (take i cs)) (get_or cs i c) in
    let most = length_sized (take (suc i) cs) (sized-take (suc i) cs are.sizes) in
    let first = length-take-le (suc i) cs (omega arith) in
    let len = ap length is in
    let count = are.count in
    omega arith
