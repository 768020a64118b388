-- The place that is told of a list is where the body of its first open entry that isn't whole goes wrong.
use Rattle.std.proofs.Common.{◌≡◌, ◌≢◌, ℕ, zero, suc, ◌+◌, ◌<◌, Bool, true, false, cond, List, [], ◌∷◌, length, Option, Some, None, Result, Ok, Err, refl, sym, ap, subst, ◌∙◌, inl, inr, drop, arith}
use Rattle.std.specs.Prelude.{All, ◌==◌}
use Rattle.std.proofs.lemmas.Bool.{cases_eq, cases_lt, eq-eqb, eqb-true, false_from_ne_true}
use Rattle.std.proofs.lemmas.List.Elements.{All-drop, All-take}
use Rattle.journal_lists.specs.Grammar.{most_entries, last_place, head_size, size_of, body_of, rest_of, placed, entry_or_place}
use Rattle.journal_lists.specs.Lists.{IsOpenAt}
use Rattle.journal_lists.specs.Readings.{joined, list_in, reading, with_first}
use Rattle.journal_lists.specs.Rules.{Rule, rule_of}
use Rattle.journal_lists.proofs.OpenReads.{entry_of_whole, entry_or_place-past, entry_or_place-within, list_is, open_cases, reading-many, reading-shut, reading-tail, whole_of}
use Rattle.journal_codec.specs.declared.files.FileText.{FileText}
use Rattle.journal_codec.specs.Forms.{followed, uncounted}
use Rattle.journal_codec.specs.Listed.{read_listed}
use Rattle.journal_codec.specs.Reading.{Reading, Reads, Fails, read_body}
use Rattle.journal_codec.proofs.BodyLemmas.{is_read, is_read_again}
use Rattle.journal_codec.proofs.FieldLemmas.{IsBytes-from_All}
use Rattle.journal_codec.proofs.FormLemmas.{IsBytes-uncounted}
use Rattle.journal_codec.proofs.ListedLemmas.{listed_again, listed_spelled}
use Rattle.journal_codec.proofs.PlaceLemmas.{place_of, alone}
use Rattle.journal_steps.specs.JournalBytes.{body_or_place}
use Rattle.journal_steps.proofs.Heads.{open_length-bytes}
use Rattle.tool_single.specs.Places.{BreaksBehind, CutShort, IsBody, IsBrokenAt, IsInLimits, IsListBadAt, IsWrongAt, TooLate, TooMany, WrongField}
use Rattle.tool_single.proofs.ListedPlaces.{listed_alone, listed_told}

place_is : {A : Type 0} (a b : ℕ) → ◌≡◌ {A = Result A ℕ} (Err a) (Err b) → a ≡ b
place_is a b e = cc

-- ---- bytes

abbrev pub IsByte : ℕ → Type 0
IsByte b = b < 256

-- the bytes behind a gate, of a body there and behind it
tail-bytes : (c : List ℕ) → All IsByte c → All IsByte (drop 1 c)
tail-bytes c all = All-drop IsByte 1 c all

body-bytes : (tail : List ℕ) → All IsByte tail → All IsByte (body_of tail)
body-bytes tail all = All-take IsByte (size_of tail) (drop 4 tail) (All-drop IsByte 4 tail all)

rest-bytes : (tail : List ℕ) → All IsByte tail → All IsByte (rest_of tail)
rest-bytes tail all = All-drop IsByte (size_of tail) (drop 4 tail) (All-drop IsByte 4 tail all)

-- ---- a body

whole_body : (body : List ℕ) (size : ℕ) (files : List FileText) → length body ≡ size
    → body_or_place (Reads files) size (length body) ≡ Ok files
whole_body body size files whole =
    ap (λ (b : Bool). cond b (Ok files) (Err (length body))) (eq-eqb (length body) size whole)

short_body : (body : List ℕ) (size : ℕ) (files : List FileText) → length body ≢ size
    → body_or_place (Reads files) size (length body) ≡ Err (length body)
short_body body size files short =
    ap (λ (b : Bool). cond b (Ok files) (Err (length body))) (false_from_ne_true (length body == size) (λ same. short (eqb-true (length body) size same)))

-- it fails where it goes wrong
wrong_told : (header : Option (List (List ℕ))) (body : List ℕ) (there : ℕ) → All IsByte body
    → (rule_of header).read body ≡ Fails there → IsWrongAt header body there
wrong_told None body there bytes fails =
    place_of (uncounted body) there (IsBytes-uncounted body (IsBytes-from_All body bytes)) fails
wrong_told (Some names) body there bytes fails = listed_told names body bytes there fails

wrong_alone : (header : Option (List (List ℕ))) (body : List ℕ) (there : ℕ) → All IsByte body
    → IsWrongAt header body there → (rule_of header).read body ≡ Fails there
wrong_alone None body there bytes wrong =
    alone (uncounted body) there (IsBytes-uncounted body (IsBytes-from_All body bytes)) wrong
wrong_alone (Some names) body there bytes wrong = listed_alone names body bytes there wrong

-- and reads as the entry that it is
body_told : (header : Option (List (List ℕ))) (body : List ℕ) (files : List FileText) → All IsByte body
    → (rule_of header).read body ≡ Reads files → IsBody header body files
body_told None body files bytes reads =
    let read = is_read (uncounted body) files reads in
    (read.entry, read.spelling (IsBytes-uncounted body (IsBytes-from_All body bytes)))
body_told (Some names) body files bytes reads = listed_spelled names body files (IsBytes-from_All body bytes) reads

body_alone : (header : Option (List (List ℕ))) (body : List ℕ) (files : List FileText) → IsBody header body files
    → (rule_of header).read body ≡ Reads files
body_alone None body files is = subst (λ b. read_body b ≡ Reads files) is.1 (is_read_again files is.0)
body_alone (Some names) body files is =
    subst (λ b. read_listed names b ≡ Reads files) is.2 (listed_again names files is.0 is.1)

module _ (header : Option (List (List ℕ))) where
  abbrev rule : Rule
  rule = rule_of header

  -- ---- an open entry that isn't whole

  module _ (number place : ℕ) (tail : List ℕ) (at : ℕ) (bytes : All IsByte tail) where
    of_read : IsInLimits number place tail → (is : Reading) → rule.read (body_of tail) ≡ is
        → placed rule place (body_or_place is (size_of tail) (length (body_of tail))) ≡ Err at
        → IsBrokenAt header number place tail at
    of_read limits (Fails there) reads bad =
        WrongField limits there (wrong_told header (body_of tail) there (body-bytes tail bytes) reads) (place_is at (rule.told place there) (sym bad))
    of_read limits (Reads files) reads bad = elim (cases_eq (length (body_of tail)) (size_of tail)) as (λ x. IsBrokenAt header number place tail at) [
      | inl whole ↦ absurd (let told = sym (ap (placed rule place) (whole_body (body_of tail) (size_of tail) files whole)) ∙ bad in cc)
      | inr short ↦
          CutShort limits files (body_told header (body_of tail) files (body-bytes tail bytes) reads) short
          (place_is at (rule.told place (length (body_of tail))) (sym bad ∙ ap (placed rule place) (short_body (body_of tail) (size_of tail) files short)))
    ]

    broken_there : number < most_entries → entry_or_place rule place (size_of tail) (body_of tail) ≡ Err at
        → IsBrokenAt header number place tail at
    broken_there few bad = elim (cases_lt last_place (place + head_size + size_of tail)) as (λ x. IsBrokenAt header number place tail at) [
      | inl late ↦ TooLate late (place_is at (rule.late place) (sym bad ∙ entry_or_place-past rule place (size_of tail) (body_of tail) late))
      | inr within ↦
          of_read (record { few = few; within = within }) (rule.read (body_of tail)) refl (sym (entry_or_place-within rule place (size_of tail) (body_of tail) within) ∙ bad)
    ]

    told_there : number < most_entries → IsBrokenAt header number place tail at
        → entry_or_place rule place (size_of tail) (body_of tail) ≡ Err at
    told_there few (TooMany many is) = absurd (omega arith)
    told_there few (TooLate late is) =
        entry_or_place-past rule place (size_of tail) (body_of tail) late ∙ ap (λ (n : ℕ). Err n) (sym is)
    told_there few (WrongField limits there wrong is) =
        entry_or_place-within rule place (size_of tail) (body_of tail) limits.within
        ∙ ap (λ (r : Reading). placed rule place (body_or_place r (size_of tail) (length (body_of tail)))) (wrong_alone header (body_of tail) there (body-bytes tail bytes) wrong)
        ∙ ap (λ (n : ℕ). Err n) (sym is)
    told_there few (CutShort limits files body short is) =
        entry_or_place-within rule place (size_of tail) (body_of tail) limits.within
        ∙ ap (λ (r : Reading). placed rule place (body_or_place r (size_of tail) (length (body_of tail)))) (body_alone header (body_of tail) files body)
        ∙ ap (placed rule place) (short_body (body_of tail) (size_of tail) files short)
        ∙ ap (λ (n : ℕ). Err n) (sym is)

  -- ---- from a gate on

  abbrev next_place : ℕ → List ℕ → ℕ
  next_place place c = place + head_size + size_of (drop 1 c)

  -- what is read behind an entry
  abbrev behind : ℕ → ℕ → List ℕ → Result (List (List FileText)) ℕ
  behind left place c = reading rule left (next_place place c) (rest_of (drop 1 c))

  -- some open entries are whole, and the next one is broken so
  abbrev Breaks : ℕ → ℕ → List ℕ → ℕ → Type 0
  Breaks number place c at = (entries : List (List FileText)) × BreaksBehind header number place c entries at

  broken_next : (number place : ℕ) (c : List ℕ) (at : ℕ) → number < most_entries → All IsByte c → IsOpenAt c
      → (r : Result (List FileText) ℕ) (goes_on : Bool) (rest : Result (List (List FileText)) ℕ)
      → entry_or_place rule place (size_of (drop 1 c)) (body_of (drop 1 c)) ≡ r
      → followed (body_of (drop 1 c)) ≡ goes_on → joined r goes_on rest ≡ Err at
      → (rest ≡ Err at → Breaks (number + 1) (next_place place c) (rest_of (drop 1 c)) at) → Breaks number place c at
  broken_next number place c at few bytes opened (Err there) goes_on rest made follows bad on =
      ([], (opened, broken_there number place (drop 1 c) at (tail-bytes c bytes) few (made ∙ ap (λ (n : ℕ). Err n) (place_is there at bad))))
  broken_next number place c at few bytes opened (Ok entry) false rest made follows bad on = absurd cc
  broken_next number place c at few bytes opened (Ok entry) true (Ok more) made follows bad on = absurd cc
  broken_next number place c at few bytes opened (Ok entry) true (Err there) made follows bad on =
      let deeper = on (ap (λ (n : ℕ). Err n) (place_is there at bad)) in
      (entry ∷ deeper.0, (opened, whole_of rule number place (drop 1 c) entry few made, follows, deeper.1))

  broken_of : (left number place : ℕ) (c : List ℕ) (at : ℕ) → number + left ≡ most_entries → All IsByte c
      → reading rule left place c ≡ Err at → Breaks number place c at
  broken_of zero number place c at all bytes bad = elim (open_cases c) [
    | inl none ↦ absurd (let good = sym (reading-shut rule zero place c none) ∙ bad in cc)
    | inr opened ↦
        let many = reading-many rule zero place c _ refl (open_length-bytes c opened.there opened.gate_is) in
        ([], (opened, TooMany (omega arith) (place_is at (rule.late place) (sym bad ∙ many))))
  ]
  broken_of (suc left) number place c at all bytes bad = elim (open_cases c) [
    | inl none ↦ absurd (let good = sym (reading-shut rule (suc left) place c none) ∙ bad in cc)
    | inr opened ↦
        broken_next number place c at (omega arith) bytes opened _ _ (behind left place c) refl refl (sym (reading-tail rule left place c opened) ∙ bad)
        (λ deeper. broken_of left (number + 1) (next_place place c) (rest_of (drop 1 c)) at (omega arith) (rest-bytes (drop 1 c) (tail-bytes c bytes)) deeper)
  ]

  -- and the other way round
  broken_here : (left number place : ℕ) (c : List ℕ) (at : ℕ) → number + left ≡ most_entries → All IsByte c → IsOpenAt c
      → IsBrokenAt header number place (drop 1 c) at → reading rule left place c ≡ Err at
  broken_here zero number place c at all bytes opened broken =
      reading-many rule zero place c _ refl (open_length-bytes c opened.there opened.gate_is)
      ∙ ap (λ (n : ℕ). Err n) (sym (front broken))
    where
      front : IsBrokenAt header number place (drop 1 c) at → at ≡ rule.late place
      front (TooMany many is) = is
      front (TooLate late is) = is
      front (WrongField limits there wrong is) = absurd (let few = limits.few in omega arith)
      front (CutShort limits files body short is) = absurd (let few = limits.few in omega arith)
  broken_here (suc left) number place c at all bytes opened broken =
      let told = told_there number place (drop 1 c) at (tail-bytes c bytes) (omega arith) broken in
      reading-tail rule left place c opened
      ∙ ap (λ (r : Result (List FileText) ℕ). joined r (followed (body_of (drop 1 c))) (behind left place c)) told

  reads_broken : (left number place : ℕ) (c : List ℕ) (entries : List (List FileText)) (at : ℕ)
      → number + left ≡ most_entries → All IsByte c → BreaksBehind header number place c entries at
      → reading rule left place c ≡ Err at
  reads_broken left number place c [] at all bytes breaks =
      broken_here left number place c at all bytes breaks.0 breaks.1
  reads_broken zero number place c (entry ∷ entries) at all bytes breaks =
      absurd (let few = breaks.1.few in omega arith)
  reads_broken (suc left) number place c (entry ∷ entries) at all bytes breaks =
      let deeper = reads_broken left (number + 1) (next_place place c) (rest_of (drop 1 c)) entries at (omega arith) (rest-bytes (drop 1 c) (tail-bytes c bytes)) breaks.3 in
      reading-tail rule left place c breaks.0
      ∙ ap (λ (r : Result (List FileText) ℕ). joined r (followed (body_of (drop 1 c))) (behind left place c)) (entry_of_whole rule number place (drop 1 c) entry breaks.1)
      ∙ ap (λ (b : Bool). joined (Ok entry) b (behind left place c)) breaks.2
      ∙ ap (with_first entry) deeper

  -- ---- the whole list

  bad_at : (left : ℕ) (c : List ℕ) (at : ℕ) → left ≡ most_entries → All IsByte c → list_in rule c ≡ Err at
      → IsListBadAt header c at
  bad_at left c at is bytes bad = broken_of left 0 0 c at (omega arith) bytes (list_is rule left c is ∙ bad)

  at_bad : (left : ℕ) (c : List ℕ) (at : ℕ) → left ≡ most_entries → All IsByte c → IsListBadAt header c at
      → list_in rule c ≡ Err at
  at_bad left c at is bytes bad =
      sym (list_is rule left c is) ∙ reads_broken left 0 0 c bad.0 at (omega arith) bytes bad.1

  pub list_told : (c : List ℕ) (at : ℕ) → All IsByte c → list_in rule c ≡ Err at → IsListBadAt header c at
  list_told c at bytes bad = bad_at most_entries c at refl bytes bad

  pub list_alone : (c : List ℕ) (at : ℕ) → All IsByte c → IsListBadAt header c at → list_in rule c ≡ Err at
  list_alone c at bytes bad = at_bad most_entries c at refl bytes bad
