-- The tests of a name say what a file's name is, and that names ascend.
use Rattle.std.proofs.Common.{◌≡◌, ℕ, ◌<◌, ◌≤◌, true, false, not, List, [], ◌∷◌, length, slice_index, IsAscii, IsUtf8, Option, Some, None, Result, Ok, Err, IfOk, SomeIff, refl, sym, ap, subst, ◌∙◌, arith, inl, inr}
use Rattle.std.specs.List.{AllByRecursion}
use Rattle.std.specs.List.Sorted.{IsStrictlySortedBy}
use Rattle.std.specs.Ordering.{nat_cmp, is_lt}
use Rattle.std.specs.declared.cmp.Ordering.TheVariants.{Less}
use Rattle.std.specs.Cmp.Lexicographic.{slice_cmp, nat_list_cmp_total}
use Rattle.std.proofs.lemmas.Bool.{true≢false, cases_lt, and_parts, and_from, not-true, not_from_false}
use Rattle.std.proofs.lemmas.List.{get_or_past}
use Rattle.std.proofs.lemmas.Str.{IsUtf8-from_ascii}
use Rattle.kdb_outside.specs.FileName.{IsNameByte, IsFileName, is_file_name}
use Rattle.kdb_outside.proofs.FileNameLemmas.{is_file_name-Decides}
use Rattle.journal_codec.specs.Entry.{begins_with_journal}
use Rattle.journal_codec.specs.Reading.{is_next_name}
use Rattle.journal_codec.specs.Listed.{is_listed, is_among, is_next_of}
use Rattle.general_words.proofs.Tests.{true_is}
use Rattle.general_words.proofs.Orders.{less}

-- what the test of a name behind another one says
pub record IsNext (previous name : List ℕ) : Type 0 where
  pub is_name : IsFileName name
  pub not_journal : begins_with_journal name ≡ false
  pub above : slice_cmp nat_cmp previous name ≡ Less

pub next_name_is : (previous name : List ℕ) → is_next_name previous name ≡ true → IsNext previous name
next_name_is previous name e =
    let named = and_parts (is_file_name name) _ e in
    let own = and_parts (not (begins_with_journal name)) _ named.1 in
    record {
      is_name = (is_file_name-Decides name).0 named.0;
      not_journal = not-true (begins_with_journal name) own.0;
      above = less (slice_cmp nat_cmp previous name) (true_is _ own.1);
    }

pub next_name_from : (previous name : List ℕ) → IsNext previous name → is_next_name previous name ≡ true
next_name_from previous name h =
    and_from _ _ ((is_file_name-Decides name).1 h.is_name)
    (and_from _ _ (not_from_false (begins_with_journal name) h.not_journal) (ap is_lt h.above))

-- a name is refused where it is the journal's, not above the one before it, or no text at all
pub not_own : (previous name : List ℕ) → begins_with_journal name ≡ true → is_next_name previous name ≡ true → ⊥
not_own previous name own e = true≢false (sym own ∙ (next_name_is previous name e).not_journal)

pub not_low : (previous name : List ℕ) → is_lt (slice_cmp nat_cmp previous name) ≡ false
    → is_next_name previous name ≡ true → ⊥
not_low previous name low e = true≢false (sym (ap is_lt (next_name_is previous name e).above) ∙ low)

name_byte_is_ascii : (b : ℕ) → IsNameByte b → b < 128
name_byte_is_ascii b h = grind arith

name_is_ascii : (name : List ℕ) → IsFileName name → IsAscii name
name_is_ascii name h i =
    elim (cases_lt i (length name)) [
      | inl lt ↦ name_byte_is_ascii (slice_index name i) (h.plain i 0 lt)
      | inr le ↦ rw (get_or_past name i 0 le) (omega arith)
    ]

pub not_text : (previous name : List ℕ) → (IsUtf8 name → ⊥) → is_next_name previous name ≡ true → ⊥
not_text previous name no_text e =
    no_text (IsUtf8-from_ascii name (name_is_ascii name (next_name_is previous name e).is_name))

-- among names that aren't the journal's and stand above the one before, the next names are the files' names
pub found_is : {E : Type 0} (previous name text : List ℕ) (result : Result (Option (List ℕ)) E) → text ≡ name
    → begins_with_journal name ≡ false → is_lt (slice_cmp nat_cmp previous name) ≡ true
    → IfOk result (λ found. SomeIff found (IsFileName text) text)
    → IfOk result (λ found. SomeIff found (is_next_name previous name ≡ true) name)
found_is previous name text (Err fault) same own above h = tt
found_is previous name text (Ok None) same own above h =
    λ e. h (subst IsFileName (sym same) (next_name_is previous name e).is_name)
found_is previous name text (Ok (Some found)) same own above h =
    (next_name_from previous name (record { is_name = subst IsFileName same h.0; not_journal = own; above = less (slice_cmp nat_cmp previous name) (true_is _ above) }), h.1 ∙ same)

-- a name that can stand there keeps both rules
pub next_of_keeps : (names : Option (List (List ℕ))) (previous name : List ℕ) → is_next_of names previous name ≡ true
    → is_next_name previous name ≡ true
next_of_keeps None previous name e = e
next_of_keeps (Some names) previous name e = (and_parts (is_next_name previous name) (is_listed names name) e).0

pub next_of_from : (names : Option (List (List ℕ))) (previous name : List ℕ) → is_next_name previous name ≡ true
    → is_among names name ≡ true → is_next_of names previous name ≡ true
next_of_from None previous name next among = next
next_of_from (Some names) previous name next among =
    and_from (is_next_name previous name) (is_listed names name) next among

pub among_from : (names : Option (List (List ℕ))) (previous name : List ℕ) → is_next_of names previous name ≡ true
    → is_among names name ≡ true
among_from None previous name e = refl
among_from (Some names) previous name e = (and_parts (is_next_name previous name) (is_listed names name) e).1

-- each name is above the one before it, and the first one above the given one
abbrev pub Rises : List ℕ → List (List ℕ) → Type 0
Rises previous [] = Unit {0}
Rises previous (name ∷ names) = (slice_cmp nat_cmp previous name ≡ Less) × Rises name names

abbrev is_above : List ℕ → List ℕ → Type 0
is_above low high = slice_cmp nat_cmp low high ≡ Less

all_above : (low name : List ℕ) (names : List (List ℕ)) → is_above low name → AllByRecursion (is_above name) names
    → AllByRecursion (is_above low) names
all_above low name [] lt all = tt
all_above low name (next ∷ names) lt all =
    (nat_list_cmp_total.trans low name next lt all.0, all_above low name names lt all.1)

above_from_rises : (low : List ℕ) (names : List (List ℕ)) → Rises low names → AllByRecursion (is_above low) names
above_from_rises low [] h = tt
above_from_rises low (name ∷ names) h = (h.0, all_above low name names h.0 (above_from_rises name names h.1))

-- such names strictly ascend
pub sorted_from_rises : (low : List ℕ) (names : List (List ℕ)) → Rises low names
    → IsStrictlySortedBy (slice_cmp nat_cmp) names
unfolding IsStrictlySortedBy
sorted_from_rises low [] h = tt
sorted_from_rises low (name ∷ names) h = (above_from_rises name names h.1, sorted_from_rises name names h.1)

rises_from_sorted : (low : List ℕ) (names : List (List ℕ)) → AllByRecursion (is_above low) names
    → IsStrictlySortedBy (slice_cmp nat_cmp) names → Rises low names
unfolding IsStrictlySortedBy
rises_from_sorted low [] above sorted = tt
rises_from_sorted low (name ∷ names) above sorted = (above.0, rises_from_sorted name names sorted.0 sorted.1)

nothing_below : (name : List ℕ) → 1 ≤ length name → is_above [] name
nothing_below [] some = absurd (omega arith)
nothing_below (b ∷ name) some = refl

-- names that strictly ascend rise from no bytes on
pub rises_from_nothing : (names : List (List ℕ)) → AllByRecursion (λ name. 1 ≤ length name) names
    → IsStrictlySortedBy (slice_cmp nat_cmp) names → Rises [] names
unfolding IsStrictlySortedBy
rises_from_nothing [] some sorted = tt
rises_from_nothing (name ∷ names) some sorted =
    (nothing_below name some.0, rises_from_sorted name names sorted.0 sorted.1)
