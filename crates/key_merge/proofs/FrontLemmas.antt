-- A list in name order, against a name that is at most its first: the list begins with the name, or is above it.
use Rattle.std.specs.Prelude.{◌≡◌, ◌≢◌, suc, ◌≤◌, true, false, T, List, [], ◌∷◌, length, None, Some, cond}
use Rattle.std.proofs.Common.{refl, sym, ap, subst, ◌∙◌, arith, inl, inr}
use Rattle.std.specs.FinMap.{find, is_sorted}
use Rattle.std.specs.FinMap.Entries.{below_all}
use Rattle.std.specs.Ordering.{eq_by_cmp, is_eq}
use Rattle.std.specs.declared.cmp.Ordering.TheVariants.{Less}
use Rattle.general_words.proofs.Tests.{first, second, both}
use Rattle.general_words.proofs.Orders.{less, is_less, itself, turned}
use Rattle.general_words.proofs.Lists.{some_is}
use Rattle.general_words.proofs.Entries.{below_further, find-below}
use Rattle.key_name.specs.Comparing.{name_ties}
use Rattle.model_names.specs.Name.{Name}
use Rattle.model_names.specs.Order.{name_cmp, name_eq}
use Rattle.model_names.proofs.OrderLemmas.{name_cmp_total}
use Rattle.model_maps.specs.Entry.{Entry}
use Rattle.key_merge.specs.Front.{next_name, entry_at, behind}
use Rattle.key_merge.proofs.LowestLemmas.{IsAtMost}

-- what a name makes of the keys ahead
pub record IsTaken (name : Name) (ahead : List (Name × Entry)) : Type 0 where
  pub entry : entry_at name ahead ≡ find name_cmp name ahead
  pub gone : find name_cmp name (behind name ahead) ≡ None
  pub others : (q : Name) → eq_by_cmp name_cmp q name ≡ false
      → find name_cmp q (behind name ahead) ≡ find name_cmp q ahead
  pub sorted : T (is_sorted name_cmp (behind name ahead))
  pub above : T (below_all name_cmp name (behind name ahead))
  pub still : (q : Name) → T (below_all name_cmp q ahead) → T (below_all name_cmp q (behind name ahead))
  pub no_longer : length (behind name ahead) ≤ length ahead

-- it stands first
begins : (name : Name) (key : Name × Entry) (rest : List (Name × Entry)) → T (is_sorted name_cmp (key ∷ rest))
    → name ≡ key.0 → IsTaken name (key ∷ rest)
begins name key rest sorted same =
    let ties : eq_by_cmp name_cmp name key.0 ≡ true = subst (λ k. eq_by_cmp name_cmp name k ≡ true) same (itself name_cmp_total name) in
    let test : name_eq key.0 name ≡ true = name_ties key.0 name ∙ subst (λ k. eq_by_cmp name_cmp k name ≡ true) same (itself name_cmp_total name) in
    let is : behind name (key ∷ rest) ≡ rest = ap (λ b. cond b rest (key ∷ rest)) test in
    let over : T (below_all name_cmp name rest) = subst (λ k. T (below_all name_cmp k rest)) (sym same) (first _ _ sorted) in
    record {
      entry = ap (λ b. cond b (Some key.1) None) test ∙ sym (ap (λ b. cond b (Some key.1) (find name_cmp name rest)) ties);
      gone = ap (find name_cmp name) is ∙ find-below name_cmp name rest over;
      others = λ q apart. ap (find name_cmp q) is ∙ sym (ap (λ b. cond b (Some key.1) (find name_cmp q rest)) (subst (λ k. eq_by_cmp name_cmp q k ≡ false) same apart));
      sorted = subst (λ es. T (is_sorted name_cmp es)) (sym is) (second _ _ sorted);
      above = subst (λ es. T (below_all name_cmp name es)) (sym is) over;
      still = λ q h. subst (λ es. T (below_all name_cmp q es)) (sym is) (second _ _ h);
      no_longer = subst (λ es. length es ≤ suc (length rest)) (sym is) (omega arith);
    }

-- or the list is above it
apart : (name : Name) (ahead : List (Name × Entry)) → T (is_sorted name_cmp ahead) → T (below_all name_cmp name ahead)
    → entry_at name ahead ≡ None → behind name ahead ≡ ahead → IsTaken name ahead
apart name ahead sorted over none is = record {
  entry = none ∙ sym (find-below name_cmp name ahead over);
  gone = ap (find name_cmp name) is ∙ find-below name_cmp name ahead over;
  others = λ q apart. ap (find name_cmp q) is;
  sorted = subst (λ es. T (is_sorted name_cmp es)) (sym is) sorted;
  above = subst (λ es. T (below_all name_cmp name es)) (sym is) over;
  still = λ q h. subst (λ es. T (below_all name_cmp q es)) (sym is) h;
  no_longer = subst (λ es. length es ≤ length ahead) (sym is) (omega arith);
}

pub taken : (name : Name) (ahead : List (Name × Entry)) → T (is_sorted name_cmp ahead) → IsAtMost name (next_name ahead)
    → IsTaken name ahead
taken name [] sorted at = apart name [] tt tt refl refl
taken name (key ∷ rest) sorted (inl same) = begins name key rest sorted same
taken name (key ∷ rest) sorted (inr low) =
    let test : name_eq key.0 name ≡ false = name_ties key.0 name ∙ ap is_eq (turned name_cmp_total name key.0 Less low) in
    apart name (key ∷ rest) sorted
    (both _ _ (is_less _ low) (below_further name_cmp_total name key.0 rest low (first _ _ sorted)))
    (ap (λ b. cond b (Some key.1) None) test) (ap (λ b. cond b rest (key ∷ rest)) test)

-- the name that stands first is found, what is below the list is below it, and the list gets shorter
pub record IsFirst (name : Name) (ahead : List (Name × Entry)) : Type 0 where
  pub found : find name_cmp name ahead ≢ None
  pub over : (q : Name) → T (below_all name_cmp q ahead) → name_cmp q name ≡ Less
  pub shorter : suc (length (behind name ahead)) ≤ length ahead

pub at_first : (name : Name) (ahead : List (Name × Entry)) → next_name ahead ≡ Some name → IsFirst name ahead
at_first name [] e = absurd cc
at_first name (key ∷ rest) e =
    let same : name ≡ key.0 = sym (some_is key.0 name e) in
    let ties : eq_by_cmp name_cmp name key.0 ≡ true = subst (λ k. eq_by_cmp name_cmp name k ≡ true) same (itself name_cmp_total name) in
    let test : name_eq key.0 name ≡ true = name_ties key.0 name ∙ subst (λ k. eq_by_cmp name_cmp k name ≡ true) same (itself name_cmp_total name) in
    record {
      found = λ none. absurd (some_none key.1 (sym (ap (λ b. cond b (Some key.1) (find name_cmp name rest)) ties) ∙ none));
      over = λ q h. subst (λ k. name_cmp q k ≡ Less) (sym same) (less _ (first _ _ h));
      shorter = subst (λ es. suc (length es) ≤ suc (length rest)) (sym (ap (λ b. cond b rest (key ∷ rest)) test)) (omega arith);
    }
  where
    some_none : (x : Entry) → Some x ≡ None → ⊥
    some_none x e = absurd cc
