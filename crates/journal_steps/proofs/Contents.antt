-- The contents that an entry has for files.
use Rattle.std.proofs.Common.{◌≡◌, ◌≢◌, ℕ, suc, ◌<◌, List, [], ◌∷◌, length, Bool, true, false, ◌⊎◌, inl, inr, cond, Option, Some, None, slice_index_or, bytes_eq, refl, sym, ap, ◌∙◌, subst, arith}
use Rattle.std.specs.Ordering.{nat_cmp, ordering_reverse}
use Rattle.std.specs.declared.cmp.Ordering.TheVariants.{Less}
use Rattle.std.specs.Cmp.Lexicographic.{slice_cmp, nat_list_cmp_total}
use Rattle.std.proofs.lemmas.Bool.{false_from_ne_true}
use Rattle.std.proofs.lemmas.List.{get_or-map, length-map}
use Rattle.std.proofs.lemmas.Map.Keys.{Less-from_sorted}
use Rattle.std.proofs.lemmas.Slice.Eq.{bytes_eq-Decides}
use Rattle.journal_codec.specs.declared.files.FileText.{FileText}
use Rattle.journal_codec.specs.Entry.{IsEntry, names_of, journal_name, journal2_name, begins_with_journal}
use Rattle.journal_steps.specs.Outcomes.{content_in}

pub cond_some : (b : Bool) (x y : List ℕ) (other : Option (List ℕ)) → cond b (Some x) other ≡ Some y
    → ((b ≡ true) × (x ≡ y)) ⊎ ((b ≡ false) × (other ≡ Some y))
cond_some true x y other is = inl (refl, cc)
cond_some false x y other is = inr (refl, is)

pub cond_none : (b : Bool) (x : List ℕ) (other : Option (List ℕ)) → cond b (Some x) other ≡ None
    → (b ≡ false) × (other ≡ None)
cond_none true x other is = absurd (cc)
cond_none false x other is = (refl, is)

-- a file that is none of the files has no content
pub none_from_apart : (entry : List FileText) (other : List ℕ)
    → ((i : ℕ) (d : FileText) → i < length entry → other ≢ (slice_index_or entry i d).file)
    → content_in entry other ≡ None
none_from_apart [] other apart = refl
none_from_apart (text ∷ texts) other apart =
    let differs : bytes_eq text.file other ≡ false = false_from_ne_true (bytes_eq text.file other) (λ same. apart 0 text (omega arith) (sym ((bytes_eq-Decides text.file other).0 same))) in
    ap (λ (b : Bool). cond b (Some text.bytes) (content_in texts other)) differs
    ∙ none_from_apart texts other (λ i d lt. apart (suc i) d (omega arith))

-- no entry has a content for a file whose name is kept for the journal
content_in-kept : (entry : List FileText) (file : List ℕ) → IsEntry entry → begins_with_journal file ≡ true
    → content_in entry file ≡ None
content_in-kept entry file is begins = none_from_apart entry file (λ i d lt same.
    let shut = (is.each i d lt).not_journal in
    let begins_too : begins_with_journal (slice_index_or entry i d).file ≡ true = subst (λ n. begins_with_journal n ≡ true) same begins in
    absurd (cc))

pub content_in-journal : (entry : List FileText) → IsEntry entry → content_in entry journal_name ≡ None
content_in-journal entry is = content_in-kept entry journal_name is refl

pub content_in-journal2 : (entry : List FileText) → IsEntry entry → content_in entry journal2_name ≡ None
content_in-journal2 entry is = content_in-kept entry journal2_name is refl

not_less_itself : (x : List ℕ) → slice_cmp nat_cmp x x ≡ Less → ⊥
not_less_itself x less =
    let turned : slice_cmp nat_cmp x x ≡ ordering_reverse Less = nat_list_cmp_total.antisymm x x ∙ ap ordering_reverse less in
    cc

-- two files of an entry have two names
pub names_differ : (entry : List FileText) → IsEntry entry → (i j : ℕ) (d : FileText) → i < j → j < length entry
    → (slice_index_or entry i d).file ≢ (slice_index_or entry j d).file
names_differ entry is i j d lt within same =
    let names = names_of entry in
    let sized : length names ≡ length entry = length-map entry (λ f. f.file) in
    let less = Less-from_sorted (slice_cmp nat_cmp) names i j d.file is.ascending lt (omega arith) in
    let first : slice_index_or names i d.file ≡ (slice_index_or entry i d).file = get_or-map (λ f. f.file) entry i d d.file (omega arith) in
    let second : slice_index_or names j d.file ≡ (slice_index_or entry i d).file = get_or-map (λ f. f.file) entry j d d.file within ∙ sym same in
    not_less_itself (slice_index_or entry i d).file (sym (λ k. slice_cmp nat_cmp (first k) (second k)) ∙ less)
