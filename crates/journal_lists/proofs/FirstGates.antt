-- What is found from a list's first gate on, of the whole file.
use Rattle.std.proofs.Common.{◌≡◌, ◌≢◌, inl, inr, ℕ, ◌+◌, ◌<◌, Bool, true, false, List, [], ◌∷◌, length, drop, Option, Some, None, Result, Ok, Err, refl, sym, ap, ◌∙◌, subst, arith}
use Rattle.std.specs.Prelude.{not}
use Rattle.std.specs.Option.{is_some}
use Rattle.journal_codec.specs.declared.files.FileText.{FileText}
use Rattle.journal_steps.specs.declared.faults.JournalFault.{JournalFault}
use Rattle.journal_steps.specs.declared.faults.JournalFault.TheVariants.{BadJournal}
use Rattle.journal_lists.specs.Grammar.{most_entries}
use Rattle.journal_lists.specs.Heads.{head_start, front_size}
use Rattle.journal_lists.specs.Journals.{OpensBehindHead, OpensJournal, with_fault, former_in, head_in, behind_head, journal_in, BeginsAt}
use Rattle.journal_lists.specs.Readings.{rest_in, Adds}
use Rattle.journal_lists.specs.Rules.{plain, listed, rule_of, start_of}
use Rattle.journal_lists.proofs.Journals.{head_none, head_of}
use Rattle.journal_lists.proofs.OpenReads.{list_adds, list_bad}

-- ---- `journal`

-- the reading from its first byte on
from_first : (left start : ℕ) (names : Option (List (List ℕ))) (c : List ℕ) → names ≡ None → start ≡ start_of names
    → rest_in (rule_of names) left 0 (drop (start + 0) c) ≡ rest_in plain left 0 c
from_first left start names c none starts =
    let first : start ≡ 0 = starts ∙ ap start_of none in
    let there : start + 0 ≡ 0 = omega arith in
    ap (λ (ns : Option (List (List ℕ))). rest_in (rule_of ns) left 0 (drop (start + 0) c)) none
    ∙ ap (λ (n : ℕ). rest_in plain left 0 (drop n c)) there

pub former_adds : (left start : ℕ) (names : Option (List (List ℕ))) (c : List ℕ) (new : List (List FileText))
    → left ≡ most_entries → names ≡ None → start ≡ start_of names
    → Adds (rest_in (rule_of names) left 0 (drop (start + 0) c)) [] new → former_in c ≡ Ok new
former_adds left start names c new all none starts adds =
    ap with_fault (list_adds plain left c new all (subst (λ (r : Result (List (List FileText)) ℕ). Adds r [] new) (from_first left start names c none starts) adds))

pub former_bad : (left start : ℕ) (names : Option (List (List ℕ))) (c : List ℕ) (at : ℕ) → left ≡ most_entries
    → names ≡ None → start ≡ start_of names
    → rest_in (rule_of names) left 0 (drop (start + 0) c) ≡ Err at → former_in c ≡ Err (BadJournal at)
former_bad left start names c at all none starts bad =
    ap with_fault (list_bad plain left c at all (sym (from_first left start names c none starts) ∙ bad))

-- ---- `journal2`

-- whether there are names
pub none_is : (names : Option (List (List ℕ))) (none : Bool) → is_some names ≡ not none → none ≡ true → names ≡ None
none_is None none told is = refl
none_is (Some x) none told is = absurd (let some = told ∙ ap not is in cc)

pub some_is : (names : Option (List (List ℕ))) (none : Bool) → is_some names ≡ not none → none ≡ false → names ≢ None
some_is None none told is = λ same. let absent = told ∙ ap not is in cc
some_is (Some x) none told is = λ same. cc

-- without a head there is no list
pub journal_none : (names : Option (List (List ℕ))) (c : List ℕ) → head_in c ≡ Ok names → names ≡ None
    → journal_in c ≡ Ok []
journal_none names c head none =
    ap (λ (h : Result (Option (List (List ℕ))) JournalFault). behind_head h c) (head ∙ ap (λ (ns : Option (List (List ℕ))). Ok ns) none)

pub journal_short : (c : List ℕ) → length c < head_start → journal_in c ≡ Ok []
journal_short c short = journal_none None c (head_none c (inl short)) refl

pub begins_short : (c : List ℕ) → length c < head_start → BeginsAt c 0
begins_short c short =
    record { names = None; head = head_none c (inl short); start_is = refl; sized = λ some. absurd (some refl) }

pub begins_none : (names : Option (List (List ℕ))) (c : List ℕ) → head_in c ≡ Ok names → names ≡ None → BeginsAt c 0
begins_none names c head none =
    record { names = names; head = head; start_is = sym (ap start_of none); sized = λ some. absurd (some none) }

-- the reading from the gate behind the head on
from_head : (left start : ℕ) (names : List (List ℕ)) (c : List ℕ) → start ≡ front_size names
    → rest_in (listed names) left 0 (drop (start + 0) c) ≡ rest_in (listed names) left 0 (drop (front_size names) c)
from_head left start names c starts =
    let there : start + 0 ≡ front_size names = omega arith in
    ap (λ (n : ℕ). rest_in (listed names) left 0 (drop n c)) there

pub journal_adds : (left start : ℕ) (names : Option (List (List ℕ))) (c : List ℕ) (new : List (List FileText))
    → left ≡ most_entries → names ≢ None → start ≡ start_of names → head_in c ≡ Ok names
    → Adds (rest_in (rule_of names) left 0 (drop (start + 0) c)) [] new → journal_in c ≡ Ok new
journal_adds left start None c new all some starts head adds = absurd (some refl)
journal_adds left start (Some names) c new all some starts head adds =
    ap (λ (h : Result (Option (List (List ℕ))) JournalFault). behind_head h c) head
    ∙ ap with_fault (list_adds (listed names) left (drop (front_size names) c) new all (subst (λ (r : Result (List (List FileText)) ℕ). Adds r [] new) (from_head left start names c starts) adds))

pub journal_bad : (left start : ℕ) (names : Option (List (List ℕ))) (c : List ℕ) (at : ℕ) → left ≡ most_entries
    → names ≢ None → start ≡ start_of names → head_in c ≡ Ok names
    → rest_in (rule_of names) left 0 (drop (start + 0) c) ≡ Err at → journal_in c ≡ Err (BadJournal at)
journal_bad left start None c at all some starts head bad = absurd (some refl)
journal_bad left start (Some names) c at all some starts head bad =
    ap (λ (h : Result (Option (List (List ℕ))) JournalFault). behind_head h c) head
    ∙ ap with_fault (list_bad (listed names) left (drop (front_size names) c) at all (sym (from_head left start names c starts) ∙ bad))

-- the first gate of a list with entries stands where its reading says
pub first_gate : (c : List ℕ) (start : ℕ) (entry : List FileText) (entries : List (List FileText)) → BeginsAt c start
    → OpensJournal c (entry ∷ entries)
    → (behind : OpensBehindHead c (entry ∷ entries)) × (start ≡ front_size behind.names)
first_gate c start entry entries begins (inl headless) = absurd (let none = headless.1 in cc)
first_gate c start entry entries begins (inr (headed, behind)) =
    let heads = sym begins.head ∙ head_of c behind.names headed behind.head in
    let same : begins.names ≡ Some behind.names = cc in
    (behind, begins.start_is ∙ ap start_of same)
