-- Texts that became metadata are read back from it.
use Rattle.std.specs.Prelude.{◌≡◌, ◌≢◌, ℕ, zero, suc, ◌+◌, ◌-◌, ◌<◌, ◌≤◌, false, List, [], ◌∷◌, length, drop, replicate, Option, None, Some, codes, slice_get}
use Rattle.std.proofs.Common.{cond, refl, sym, ap, subst, ◌∙◌, arith, inl, inr, length-append}
use Rattle.std.specs.FinMap as finite
use Rattle.std.specs.Fmt.{decimal}
use Rattle.std.specs.List.{AllByRecursion}
use Rattle.std.specs.Ordering.{is_eq, eq_by_cmp}
use Rattle.std.specs.declared.cmp.Ordering.{Ordering}
use Rattle.std.specs.declared.cmp.Ordering.TheVariants.{Less, Equal, Greater}
use Rattle.std.proofs.lemmas.Cmp.{nat_list_cmp_total}
use Rattle.std.proofs.lemmas.Fmt.{length-decimal-le}
use Rattle.std.proofs.lemmas.List.{length-replicate}
use Rattle.std.proofs.lemmas.Str.{IsUtf8-append}
use Rattle.model_names.specs.ArrayPart.{last_index, array_part}
use Rattle.model_names.proofs.ArrayLemmas.{array_part-once, index_decimal, ascii-part_of_digits}
use Rattle.model_names.proofs.PartLemmas.{text_from_ascii, text_from_test}
use Rattle.general_words.specs.Texts.{text_cmp}
use Rattle.general_words.proofs.Texts.{text_cmp-IsAntisymmetric}
use Rattle.model_maps.specs.Entry.{Meta, IsValue, IsMetaName}
use Rattle.model_maps.proofs.ArrayLemmas.{array_texts-items, array_texts-all}
use Rattle.model_maps.specs.Limits.{IsLimitedMeta}
use Rattle.general_words.proofs.Maps.{get-insert_same}
use Rattle.model_maps.proofs.MapLemmas.{found_in_insert}
use Rattle.model_hosts.specs.Comments.{comment_name, comments_from, comments, texts_of}

-- ---- the names of comments

-- different comments have different names
pub comment_name-once : (i j : ℕ) → i ≤ last_index → j ≤ last_index → comment_name i ≡ comment_name j → i ≡ j
comment_name-once i j p q e = array_part-once i j p q (ap (drop 8) e)

not_tied : (r : Ordering) → (r ≡ Equal → ⊥) → is_eq r ≡ false
not_tied Less h = refl
not_tied Equal h = absurd (h refl)
not_tied Greater h = refl

names_apart : (i j : ℕ) → i ≤ last_index → j ≤ last_index → i ≢ j
    → eq_by_cmp text_cmp (comment_name i) (comment_name j) ≡ false
names_apart i j p q apart =
    not_tied (text_cmp (comment_name i) (comment_name j)) (λ e. apart (comment_name-once i j p q (text_cmp-IsAntisymmetric (comment_name i) (comment_name j) e)))

-- a comment that is inserted leaves those of other indexes as they are
get-other : (meta : Meta) (i j : ℕ) (text : List ℕ) → i ≤ last_index → j ≤ last_index → j ≢ i
    → finite.get (finite.insert meta (comment_name i) text) (comment_name j) ≡ finite.get meta (comment_name j)
get-other meta i j text p q apart =
    finite.get-insert nat_list_cmp_total meta (comment_name i) text (comment_name j)
    ∙ ap (λ t. cond t (Some text) (finite.get meta (comment_name j))) (names_apart j i q p apart)

-- ---- texts that are there

-- metadata has texts as the items from an index on
abbrev HasFrom : ℕ → List (List ℕ) → Meta → Type 0
HasFrom index [] meta = Unit {0}
HasFrom index (text ∷ texts) meta = (finite.get meta (comment_name index) ≡ Some text) × HasFrom (index + 1) texts meta

HasFrom-insert : (index : ℕ) (texts : List (List ℕ)) (meta : Meta) (i : ℕ) (text : List ℕ) → i < index
    → index + length texts ≤ last_index + 1 → HasFrom index texts meta
    → HasFrom index texts (finite.insert meta (comment_name i) text)
HasFrom-insert index [] meta i text below few has = tt
HasFrom-insert index (t ∷ texts) meta i text below few has =
    let low : i ≤ last_index = omega arith in
    let high : index ≤ last_index = omega arith in
    (get-other meta i index text low high (λ (e : index ≡ i). absurd (omega arith)) ∙ has.0, HasFrom-insert (index + 1) texts meta i text (omega arith) (omega arith) has.1)

HasFrom-comments : (index : ℕ) (texts : List (List ℕ)) → index + length texts ≤ last_index + 1
    → HasFrom index texts (comments_from index texts)
HasFrom-comments index [] few = tt
HasFrom-comments index (text ∷ texts) few = (
  get-insert_same nat_list_cmp_total (comments_from (index + 1) texts) (comment_name index) text,
  HasFrom-insert (index + 1) texts (comments_from (index + 1) texts) index text (omega arith) (omega arith) (HasFrom-comments (index + 1) texts (omega arith)),
)

HasFrom-at : (index : ℕ) (texts : List (List ℕ)) (meta : Meta) (i : ℕ) → HasFrom index texts meta → i < length texts
    → finite.get meta (comment_name (index + i)) ≡ slice_get texts i
HasFrom-at index [] meta i has within = absurd (omega (arith, within))
HasFrom-at index (text ∷ texts) meta zero has within =
    let here : index + 0 ≡ index = omega arith in ap (λ n. finite.get meta (comment_name n)) here ∙ has.0
HasFrom-at index (text ∷ texts) meta (suc i) has within =
    let moved : index + suc i ≡ index + 1 + i = omega arith in
    ap (λ n. finite.get meta (comment_name n)) moved ∙ HasFrom-at (index + 1) texts meta i has.1 (omega (arith, within))

-- ---- indexes without a comment

pub comments_from-none : (index : ℕ) (texts : List (List ℕ)) (i : ℕ) → i < index → index + length texts ≤ last_index + 1
    → finite.get (comments_from index texts) (comment_name i) ≡ None
comments_from-none index [] i below few = finite.get-empty text_cmp (comment_name i)
comments_from-none index (text ∷ texts) i below few =
    let low : i ≤ last_index = omega arith in
    let high : index ≤ last_index = omega arith in
    get-other (comments_from (index + 1) texts) index i text high low (λ (e : i ≡ index). absurd (omega arith))
    ∙ comments_from-none (index + 1) texts i (omega arith) (omega arith)

comments_from-ends : (index : ℕ) (texts : List (List ℕ)) (i : ℕ) → index + length texts ≤ i → i ≤ last_index
    → finite.get (comments_from index texts) (comment_name i) ≡ None
comments_from-ends index [] i behind within = finite.get-empty text_cmp (comment_name i)
comments_from-ends index (text ∷ texts) i behind within =
    let low : index ≤ last_index = omega arith in
    get-other (comments_from (index + 1) texts) index i text low within (λ (e : i ≡ index). absurd (omega arith))
    ∙ comments_from-ends (index + 1) texts i (omega arith) within

-- texts that became metadata are read back
pub texts_of-comments : (texts : List (List ℕ)) → length texts ≤ last_index → texts_of (comments texts) ≡ texts
texts_of-comments texts few =
    let room : 0 + length texts ≤ last_index + 1 = omega arith in
    let from : (i : ℕ) → 0 + i ≡ i = λ i. omega arith in
    array_texts-items (comments texts) (codes "comment") texts
    (λ i within. ap (λ n. finite.get (comments texts) (comment_name n)) (sym (from i)) ∙ HasFrom-at 0 texts (comments texts) i (HasFrom-comments 0 texts room) within)
    (comments_from-ends 0 texts (length texts) (omega arith) few)
    (omega (arith, few))

-- ---- what holds of the texts

-- of the texts of metadata holds what holds of each of its texts
pub texts_of-all : (P : List ℕ → Type 0) (meta : Meta)
    → ((name text : List ℕ) → finite.get meta name ≡ Some text → P text) → AllByRecursion P (texts_of meta)
texts_of-all P meta each = array_texts-all P meta (codes "comment") each

pub comment_name-IsMetaName : (index : ℕ) → index ≤ last_index → IsMetaName (comment_name index)
comment_name-IsMetaName index within =
    let part = text_from_ascii (array_part index) (ascii-part_of_digits (decimal index) ((index_decimal index within).0)) in
    let prefix = text_from_test (codes "comment/") refl in
    let digits = decimal index in
    let size : length digits ≤ 20 = length-decimal-le 20 index (omega arith) (omega arith) (omega arith) in
    let long = length-append (replicate (length digits - 1) 95) digits in
    let some = length-replicate {A = ℕ} (length digits - 1) 95 in
    record {
      utf8 = IsUtf8-append (codes "comment/") (array_part index) prefix.utf8 part.utf8;
      some = omega arith;
      limit = omega (arith, long, some, size);
    }

-- the texts of comments are within their limits where each is a value
pub comments-limited : (index : ℕ) (texts : List (List ℕ)) → index + length texts ≤ last_index + 1
    → AllByRecursion IsValue texts → (name text : List ℕ) → finite.get (comments_from index texts) name ≡ Some text
    → IsLimitedMeta name text
comments-limited index [] few values name text found =
    let none : ◌≡◌ {A = Option (List ℕ)} None (Some text) = sym (finite.get-empty text_cmp name) ∙ found in absurd cc
comments-limited index (t ∷ texts) few values name text found =
    let within : index ≤ last_index = omega arith in
    let rest = comments-limited (index + 1) texts (omega arith) values.1 name text in
    elim (found_in_insert nat_list_cmp_total text_cmp-IsAntisymmetric (comments_from (index + 1) texts) (comment_name index) t name text found) as (λ _. IsLimitedMeta name text) [
      | inl here ↦ record { is_name = subst IsMetaName (sym here.0) (comment_name-IsMetaName index within); is_value = subst IsValue here.1 values.0 }
      | inr there ↦ rest there
    ]
