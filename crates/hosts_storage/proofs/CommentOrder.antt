-- Comments one after the other: each joins behind those before it.
use Rattle.std.proofs.Common.{◌≡◌, ◌≢◌, ℕ, ◌+◌, ◌≤◌, cond, List, [], ◌∷◌, ◌++◌, length, Some, sym, ap, ◌∙◌, inl, inr, arith}
use Rattle.std.specs.FinMap as finite
use Rattle.std.specs.Ordering.{eq_by_cmp}
use Rattle.std.proofs.lemmas.Cmp.{nat_list_cmp_total}
use Rattle.general_words.specs.Texts.{text_cmp}
use Rattle.general_words.proofs.Lookups.{tied_or_not}
use Rattle.general_words.proofs.Texts.{text_cmp-IsAntisymmetric}
use Rattle.model_names.specs.ArrayPart.{last_index}
use Rattle.model_maps.specs.Entry.{Meta}
use Rattle.model_hosts.specs.Comments.{comment_name, comments_from}
use Rattle.model_hosts.proofs.CommentLemmas.{comment_name-once}

-- two names are put in either order
swapped : (meta : Meta) (a b x y : List ℕ) → a ≢ b
    → finite.insert (finite.insert meta a x) b y ≡ finite.insert (finite.insert meta b y) a x
swapped meta a b x y apart = finite.same_map nat_list_cmp_total text_cmp-IsAntisymmetric _ _ (λ q.
    finite.get-insert nat_list_cmp_total (finite.insert meta a x) b y q
    ∙ ap (cond (eq_by_cmp text_cmp q b) (Some y)) (finite.get-insert nat_list_cmp_total meta a x q)
    ∙ elim (tied_or_not text_cmp-IsAntisymmetric q b) [
      | inl other ↦
          ap (λ s. cond s (Some y) (cond (eq_by_cmp text_cmp q a) (Some x) (finite.get meta q))) other
          ∙ ap (λ s. cond (eq_by_cmp text_cmp q a) (Some x) (cond s (Some y) (finite.get meta q))) (sym other)
      | inr here ↦ elim (tied_or_not text_cmp-IsAntisymmetric q a) [
        | inl other ↦
            ap (λ t. cond (eq_by_cmp text_cmp q b) (Some y) (cond t (Some x) (finite.get meta q))) other
            ∙ ap (λ t. cond t (Some x) (cond (eq_by_cmp text_cmp q b) (Some y) (finite.get meta q))) (sym other)
        | inr there ↦ absurd (apart (sym there.1 ∙ here.1))
      ]
    ]
    ∙ sym (finite.get-insert nat_list_cmp_total (finite.insert meta b y) a x q
    ∙ ap (cond (eq_by_cmp text_cmp q a) (Some x)) (finite.get-insert nat_list_cmp_total meta b y q)))

pub comments_from-more : (index : ℕ) (texts : List (List ℕ)) (text : List ℕ)
    → index + length texts ≤ last_index
    → comments_from index (texts ++ text ∷ [])
    ≡ finite.insert (comments_from index texts) (comment_name (index + length texts)) text
comments_from-more index [] text few =
    let here : index + 0 ≡ index = omega arith in
    ap (λ n. finite.insert finite.empty (comment_name n) text) (sym here)
comments_from-more index (first ∷ texts) text few =
    let behind : ℕ = index + 1 + length texts in
    let same : behind ≡ index + length (first ∷ texts) = omega arith in
    let apart : comment_name behind ≢ comment_name index = λ e.
    let at : behind ≡ index = comment_name-once behind index (omega (arith, few)) (omega (arith, few)) e in
    absurd (omega (arith, at)) in
    let more = comments_from-more (index + 1) texts text (omega (arith, few)) in
    ap (λ meta. finite.insert meta (comment_name index) first) more
    ∙ swapped (comments_from (index + 1) texts) (comment_name behind) (comment_name index) text first apart
    ∙ ap (λ n. finite.insert (comments_from index (first ∷ texts)) (comment_name n) text) same
