-- Two lists of entries as one list: which entry comes first in it, and that its keys rise.
use Rattle.std.proofs.Common.{◌≡◌, T, List, [], ◌∷◌, ◌++◌, Option, Some, None, refl, sym, ap, subst, ◌∙◌}
use Rattle.std.specs.Cmp.{IsTotalOrder, tied_back}
use Rattle.std.specs.FinMap.{is_sorted}
use Rattle.std.specs.FinMap.Entries.{below_all, put, by_order, is_sorted-put}
use Rattle.std.specs.Option.{option_to_list}
use Rattle.std.specs.declared.cmp.Ordering.{Ordering}
use Rattle.std.specs.declared.cmp.Ordering.TheVariants.{Less, Equal, Greater}
use Rattle.sorted_map.specs.Merge.{put_all, firsts_cmp}
use Rattle.general_words.proofs.Tests.{both, first, second}
use Rattle.general_words.proofs.Orders.{less, is_less, turned}
use Rattle.general_words.proofs.Entries.{below_further}

module _ {K X : Type 0} (R : K → K → Ordering) (o : IsTotalOrder R) where
  -- so does what ties with it
  below_tied : (x y : K) (es : List (K × X)) → R x y ≡ Equal → T (below_all R y es) → T (below_all R x es)
  below_tied x y [] ties h = tt
  below_tied x y (e ∷ es) ties h =
      both _ _ (is_less _ (o.congr x y e.0 ties ∙ less _ (first _ _ h))) (below_tied x y es ties (second _ _ h))

  -- an entry before all others stays the first one
  put_all-first : (e : K × X) (es others : List (K × X)) → T (below_all R e.0 others)
      → put_all R others (e ∷ es) ≡ e ∷ put_all R others es
  put_all-first e es [] h = refl
  put_all-first e es (f ∷ fs) h =
      ap (λ r. put_all R fs (by_order r (f ∷ e ∷ es) ((e.0, f.1) ∷ es) (e ∷ put R f.0 f.1 es))) (turned o e.0 f.0 Less (less _ (first _ _ h)))
      ∙ put_all-first e (put R f.0 f.1 es) fs (second _ _ h)

  -- the first entry of the list into which others are put, where it has the smaller key
  first_of_ours : (e : K × X) (es fs : List (K × X)) → T (is_sorted R fs) → firsts_cmp R (e ∷ es) fs ≡ Less
      → put_all R fs (e ∷ es) ≡ e ∷ put_all R fs es
  first_of_ours e es [] h lt = refl
  first_of_ours e es (f ∷ fs) h lt =
      put_all-first e es (f ∷ fs) (both _ _ (is_less _ lt) (below_further o e.0 f.0 fs lt (first _ _ h)))

  -- the first of the others, where it has the smaller key
  first_of_theirs : (f : K × X) (es fs : List (K × X)) → T (is_sorted R (f ∷ fs)) → firsts_cmp R es (f ∷ fs) ≡ Greater
      → put_all R (f ∷ fs) es ≡ f ∷ put_all R fs es
  first_of_theirs f [] fs h gt = put_all-first f [] fs (first _ _ h)
  first_of_theirs f (e ∷ es) fs h gt =
      ap (λ r. put_all R fs (by_order r (f ∷ e ∷ es) ((e.0, f.1) ∷ es) (e ∷ put R f.0 f.1 es))) (turned o e.0 f.0 Greater gt)
      ∙ put_all-first f (e ∷ es) fs (first _ _ h)

  -- both, where their keys tie
  first_of_both : (e f : K × X) (es fs : List (K × X)) → T (is_sorted R (f ∷ fs)) → R e.0 f.0 ≡ Equal
      → put_all R (f ∷ fs) (e ∷ es) ≡ (e.0, f.1) ∷ put_all R fs es
  first_of_both e f es fs h ties =
      ap (λ r. put_all R fs (by_order r (f ∷ e ∷ es) ((e.0, f.1) ∷ es) (e ∷ put R f.0 f.1 es))) (tied_back o e.0 f.0 ties)
      ∙ put_all-first (e.0, f.1) es fs (below_tied e.0 f.0 fs ties (first _ _ h))

  -- the same three, of lists whose first entries are taken out
  pub taken_of_ours : (r : Option (K × X)) (es left fs : List (K × X)) → T (is_sorted R fs) → firsts_cmp R es fs ≡ Less
      → es ≡ option_to_list r ++ left → put_all R fs es ≡ option_to_list r ++ put_all R fs left
  taken_of_ours None es left fs h lt is = ap (put_all R fs) is
  taken_of_ours (Some e) es left fs h lt is =
      ap (put_all R fs) is ∙ first_of_ours e left fs h (ap (λ es. firsts_cmp R es fs) (sym is) ∙ lt)

  pub taken_of_theirs : (r : Option (K × X)) (es fs left : List (K × X)) → T (is_sorted R fs)
      → firsts_cmp R es fs ≡ Greater → fs ≡ option_to_list r ++ left
      → put_all R fs es ≡ option_to_list r ++ put_all R left es
  taken_of_theirs None es fs left h gt is = ap (λ fs. put_all R fs es) is
  taken_of_theirs (Some f) es fs left h gt is =
      ap (λ fs. put_all R fs es) is
      ∙ first_of_theirs f es left (subst (λ fs. T (is_sorted R fs)) is h) (ap (firsts_cmp R es) (sym is) ∙ gt)

  pub taken_of_both : (e f : K × X) (es ours fs theirs : List (K × X)) → T (is_sorted R fs) → firsts_cmp R es fs ≡ Equal
      → es ≡ e ∷ ours → fs ≡ f ∷ theirs → put_all R fs es ≡ (e.0, f.1) ∷ put_all R theirs ours
  taken_of_both e f es ours fs theirs h ties is others =
      (λ i. put_all R (others i) (is i))
      ∙ first_of_both e f ours theirs (subst (λ fs. T (is_sorted R fs)) others h) ((λ i. firsts_cmp R (sym is i) (sym others i)) ∙ ties)

  -- the keys still rise
  pub is_sorted-put_all : (others es : List (K × X)) → T (is_sorted R es) → T (is_sorted R (put_all R others es))
  is_sorted-put_all [] es h = h
  is_sorted-put_all (f ∷ fs) es h = is_sorted-put_all fs (put R f.0 f.1 es) (is_sorted-put R o f.0 f.1 es h)
