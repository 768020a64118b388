-- A journal of the old form reads as it did, alone as the entry of a list.
use Rattle.std.proofs.Common.{◌≡◌, ◌≢◌, ◌⊎◌, inl, inr, ℕ, suc, ◌+◌, ◌<◌, ◌≤◌, Bool, true, false, List, [], ◌∷◌, ◌++◌, length, drop, Option, Some, None, Result, Ok, Err, refl, sym, ap, ◌∙◌, subst, arith, length-drop, append-nil}
use Rattle.std.specs.Prelude.{◌==◌}
use Rattle.std.proofs.lemmas.Bool.{cases_eq, cases_lt, eq-eqb, eqb-true, false_from_ne_true}
use Rattle.std.proofs.lemmas.Option.{none-some}
use Rattle.general_words.proofs.Lists.{some_is}
use Rattle.kdb_outside.specs.Images.{Image, IsImage}
use Rattle.journal_codec.specs.declared.files.FileText.{FileText}
use Rattle.journal_codec.specs.Entry.{journal_name, journal2_name}
use Rattle.journal_codec.specs.Reading.{read_body}
use Rattle.journal_codec.proofs.FormLemmas.{uncounted-plain}
use Rattle.journal_steps.specs.BadJournals.{opened_reading, entries_read, open_entry}
use Rattle.journal_steps.specs.JournalBytes.{gate, longest_body, one_entry, entries_behind, first_entry, reading_of, open_length, body_or_place, MayBeTaken, entry_or_place as alone_or_place}
use Rattle.journal_steps.specs.Outcomes.{content_in, HasOutcome as HadOutcome}
use Rattle.journal_steps.specs.Readings.{ReadsAs as ReadAs, IsBroken as WasBroken}
use Rattle.journal_steps.specs.States.{IsCalm as WasCalm}
use Rattle.journal_steps.proofs.Behind.{few, entry_or_place-many, behind-short, behind-long, behind_cases}
use Rattle.journal_steps.proofs.Readings.{broken_behind}
use Rattle.journal_codec.specs.Forms.{followed}
use Rattle.journal_lists.specs.Grammar.{most_entries, head_size, size_of, body_of, rest_of, body_in, placed, entry_or_place, IsWhole}
use Rattle.journal_lists.specs.Heads.{head_start}
use Rattle.journal_lists.specs.Journals.{OpensFormer, with_fault}
use Rattle.journal_lists.specs.Lists.{MayBeShut, IsOpenAt, Follows, ReadsFrom, OpensFrom, Leads, Breaks, HasGate, as_one}
use Rattle.journal_lists.specs.Readings.{joined, reading, list_in}
use Rattle.journal_lists.specs.Rules.{plain}
use Rattle.journal_lists.proofs.Journals.{journal_once}
use Rattle.journal_lists.proofs.OpenReads.{entry_or_place-within, entry_or_place-past, entry_of_whole, whole_of, list_reads, list_opens, list_is, reading-tail, open_cases, shut_of}
use Rattle.intent_journal.specs.OldForm.{IsOldForm}
use Rattle.intent_journal.specs.Opened.{found_in}
use Rattle.intent_journal.specs.Outcomes.{IsBroken, ReadsAs, HasOutcome}
use Rattle.intent_journal.specs.States.{IsUnopened, IsCalm}
use Rattle.intent_journal.proofs.Contents.{cut_none}
use Rattle.intent_journal.proofs.FormerImages.{headless_opens, former_reads, reads_former, former_broken, former_found}

-- a body without a gate behind it has a plain count, so it is the entry that it was
placed_plain : (place : ℕ) (r : Result (List FileText) ℕ) → placed plain place r ≡ r
placed_plain place (Ok entry) = refl
placed_plain place (Err at) = refl

same_entry_there : (size : ℕ) (body : List ℕ) → followed body ≡ false
    → entry_or_place plain 0 size body ≡ alone_or_place size body
same_entry_there size body ends = elim (cases_lt longest_body size) [
  | inl long ↦ entry_or_place-past plain 0 size body (omega arith) ∙ sym (entry_or_place-many size body long)
  | inr short ↦ entry_or_place-within plain 0 size body (omega arith) ∙ placed_plain 0 (body_in plain size body)
      ∙ ap (λ (there : List ℕ). body_or_place (read_body there) size (length body)) (uncounted-plain body ends)
      ∙ sym (few size body (omega arith))
]

-- what stands behind a gate, told as before
behind_is : (c : List ℕ) → IsOldForm c → 4 ≤ length (drop 1 c)
    → entries_behind (drop 1 c) ≡ one_entry (entry_or_place plain 0 (size_of (drop 1 c)) (body_of (drop 1 c)))
behind_is c old long =
    behind-long (drop 1 c) long ∙ ap one_entry (sym (same_entry_there (size_of (drop 1 c)) (body_of (drop 1 c)) old))

one_of : (r : Result (List FileText) ℕ) (entry : List FileText) → one_entry r ≡ Ok (entry ∷ []) → r ≡ Ok entry
one_of (Ok other) entry is = ap (λ (e : List FileText). Ok e) (some_is other entry (ap first_entry is))
one_of (Err at) entry is = absurd (cc)

tail_long : (c : List ℕ) → 5 ≤ length c → 4 ≤ length (drop 1 c)
tail_long c long = omega (arith, length-drop 1 c)

-- an entry is whole behind the gate where it stood there
whole_there : (c : List ℕ) (entry : List FileText) → IsOldForm c → 5 ≤ length c
    → entries_behind (drop 1 c) ≡ Ok (entry ∷ []) → IsWhole plain 0 0 (drop 1 c) entry
whole_there c entry old long is =
    whole_of plain 0 0 (drop 1 c) entry (omega arith) (one_of (entry_or_place plain 0 (size_of (drop 1 c)) (body_of (drop 1 c))) entry (sym (behind_is c old (tail_long c long)) ∙ is))

stood_there : (c : List ℕ) (entry : List FileText) → IsOldForm c → 5 ≤ length c → IsWhole plain 0 0 (drop 1 c) entry
    → entries_behind (drop 1 c) ≡ Ok (entry ∷ [])
stood_there c entry old long whole =
    behind_is c old (tail_long c long) ∙ ap one_entry (entry_of_whole plain 0 0 (drop 1 c) entry whole)

ends_there : (b : Bool) (entries : List (List FileText)) (GoesOn : Type 0) → b ≡ false → Follows b entries GoesOn
    → entries ≡ []
ends_there true entries GoesOn ends follows = absurd (cc)
ends_there false [] GoesOn ends follows = refl
ends_there false (entry ∷ entries) GoesOn ends follows = absurd follows

none_follow : (b : Bool) (GoesOn : Type 0) → b ≡ false → Follows b [] GoesOn
none_follow true GoesOn ends = absurd (cc)
none_follow false GoesOn ends = tt

-- what stands behind the first gate, where another one would stand
abbrev ReadsBehind : List ℕ → List (List FileText) → Type 0
ReadsBehind c entries = ReadsFrom plain (0 + 1) (0 + head_size + size_of (drop 1 c)) (rest_of (drop 1 c)) entries

-- the readings are those from before
record WasRead (c : List ℕ) (entries : List (List FileText)) : Type 0 where
  taken : Bool
  admitted : MayBeTaken taken (gate c)
  reads : reading_of taken c ≡ Ok entries

shut_before : (c : List ℕ) → MayBeShut c → (gate c ≡ 0) ⊎ (gate c ≢ 0) → WasRead c []
shut_before c (inr not_open) any = record { taken = false; admitted = not_open; reads = refl }
shut_before c (inl short) (inl closed) = record { taken = false; admitted = λ opened. omega arith; reads = refl }
shut_before c (inl short) (inr opened) =
    record { taken = true; admitted = opened; reads = behind-short (drop 1 c) (omega (arith, length-drop 1 c)) }

read_before : (c : List ℕ) (entries : List (List FileText)) → IsOldForm c → ReadsFrom plain 0 0 c entries
    → WasRead c entries
read_before c [] old reads = shut_before c reads (cases_eq (gate c) 0)
read_before c (entry ∷ entries) old reads =
    let alone = ends_there (followed (body_of (drop 1 c))) entries (ReadsBehind c entries) old reads.2 in
    subst (λ (es : List (List FileText)). WasRead c (entry ∷ es)) (sym alone) (record { taken = true; admitted = reads.0.open_too; reads = stood_there c entry old reads.0.there reads.1 })

pub reads_before : (image : Image) (entries : List (List FileText)) → length (image journal2_name) < head_start
    → IsOldForm (image journal_name) → ReadsAs image entries → ReadAs image entries
reads_before image entries short old reads =
    let was = read_before (image journal_name) entries old (former_reads image short entries reads) in
    record { taken = was.taken; admitted = was.admitted; reads = was.reads }

nothing_now : (c : List ℕ) (entries : List (List FileText)) → MayBeShut c → entries ≡ [] → ReadsFrom plain 0 0 c entries
nothing_now c entries shut none = subst (λ (es : List (List FileText)). ReadsFrom plain 0 0 c es) (sym none) shut

one_now : (c : List ℕ) (entry : List FileText) → IsOldForm c → gate c ≢ 0 → 5 ≤ length c
    → entries_behind (drop 1 c) ≡ Ok (entry ∷ []) → ReadsFrom plain 0 0 c (entry ∷ [])
one_now c entry old opened long is =
    (record { there = long; open_too = opened }, whole_there c entry old long is, none_follow (followed (body_of (drop 1 c))) (ReadsBehind c []) old)

read_now : (c : List ℕ) (entries : List (List FileText)) (taken : Bool) → IsOldForm c → MayBeTaken taken (gate c)
    → reading_of taken c ≡ Ok entries → ReadsFrom plain 0 0 c entries
read_now c entries false old admitted is = nothing_now c entries (inr admitted) (ap entries_read (sym is))
read_now c entries true old admitted is = elim (cases_lt (length c) 5) [
  | inl short ↦ nothing_now c entries (inl short) (ap entries_read (sym is ∙ behind-short (drop 1 c) (omega (arith, length-drop 1 c))))
  | inr long ↦ elim (behind_cases (drop 1 c)) [
    | inl short ↦ absurd (omega (arith, length-drop 1 c))
    | inr (inl some) ↦ subst (λ (es : List (List FileText)). ReadsFrom plain 0 0 c es) (ap entries_read (sym some.1 ∙ is)) (one_now c some.0 old admitted long some.1)
    | inr (inr bad) ↦ absurd (let fails = bad.1 in cc)
  ]
]

pub reads_now : (image : Image) (entries : List (List FileText)) → length (image journal2_name) < head_start
    → IsOldForm (image journal_name) → ReadAs image entries → ReadsAs image entries
reads_now image entries short old reads =
    reads_former image short entries (read_now (image journal_name) entries reads.taken old reads.admitted reads.reads)

-- and it is broken where it was
record WasBad (c : List ℕ) : Type 0 where
  opened : gate c ≢ 0
  at : ℕ
  fails : entries_behind (drop 1 c) ≡ Err at

bad_before : (c : List ℕ) (entries : List (List FileText)) → IsOldForm c → Leads plain (Breaks plain) 0 0 c entries
    → WasBad c
bad_before c [] old breaks = elim (behind_cases (drop 1 c)) [
  | inl short ↦ absurd (let there = breaks.opened.there in omega (arith, length-drop 1 c))
  | inr (inl some) ↦ absurd (breaks.never some.0 (whole_there c some.0 old breaks.opened.there some.1))
  | inr (inr bad) ↦ record { opened = breaks.opened.open_too; at = bad.0; fails = bad.1 }
]
bad_before c (entry ∷ entries) old leads = absurd (let goes_on = leads.2 in cc)

pub broken_before : (image : Image) → length (image journal2_name) < head_start → IsOldForm (image journal_name)
    → IsBroken image → WasBroken image
broken_before image short old broken =
    let former = former_broken image short broken in
    let bad = bad_before (image journal_name) former.0 old former.1 in
    record { taken = true; admitted = bad.opened; at = bad.at; fails = bad.fails }

long_there : (c : List ℕ) (at : ℕ) → entries_behind (drop 1 c) ≡ Err at → 5 ≤ length c
long_there c at fails = elim (cases_lt (length c) 5) [
  | inl short ↦ absurd (let whole = behind-short (drop 1 c) (omega (arith, length-drop 1 c)) in cc)
  | inr long ↦ long
]

never_whole : (c : List ℕ) (at : ℕ) (entry : List FileText) → IsOldForm c → 5 ≤ length c
    → entries_behind (drop 1 c) ≡ Err at → ¬ IsWhole plain 0 0 (drop 1 c) entry
never_whole c at entry old long fails whole = let stood = stood_there c entry old long whole in absurd (cc)

pub broken_now : (image : Image) → IsOldForm (image journal_name) → WasBroken image → IsBroken image
broken_now image old broken =
    let behind = broken_behind image broken in
    let long = long_there (image journal_name) behind.at behind.fails in
    inl (
      [],
      record {
        opened = record { there = long; open_too = behind.opened };
        never = λ entry. never_whole (image journal_name) behind.at entry old long behind.fails;
      },
    )

-- its outcomes are those from before
pub outcome_before : (image files : Image) → length (image journal2_name) < head_start → IsOldForm (image journal_name)
    → HasOutcome image files → HadOutcome image files
outcome_before image files short old has = (has.0, reads_before image has.0 short old has.1, has.2)

pub outcome_now : (image files : Image) → length (image journal2_name) < head_start → IsOldForm (image journal_name)
    → HadOutcome image files → HasOutcome image files
outcome_now image files short old has = (has.0, reads_now image has.0 short old has.1, has.2)

-- the opening reads it as it did
joined_alone : (r : Result (List FileText) ℕ) (goes_on : Bool) (rest : Result (List (List FileText)) ℕ)
    → goes_on ≡ false → joined r goes_on rest ≡ one_entry r
joined_alone r true rest ends = absurd (cc)
joined_alone (Ok entry) false rest ends = refl
joined_alone (Err at) false rest ends = refl

list_alone : (left : ℕ) (c : List ℕ) → left + 1 ≡ most_entries → IsOpenAt c → IsOldForm c
    → list_in plain c ≡ one_entry (entry_or_place plain 0 (size_of (drop 1 c)) (body_of (drop 1 c)))
list_alone left c counted opened old =
    let one_more : left + 1 ≡ suc left = omega arith in
    sym (list_is plain (left + 1) c counted)
    ∙ ap (λ (n : ℕ). reading plain n 0 c) one_more
    ∙ reading-tail plain left 0 c opened
    ∙ joined_alone (entry_or_place plain 0 (size_of (drop 1 c)) (body_of (drop 1 c))) (followed (body_of (drop 1 c))) (reading plain left (0 + head_size + size_of (drop 1 c)) (rest_of (drop 1 c))) old

none_before : (c : List ℕ) → MayBeShut c → reading_of (gate c == 1) c ≡ Ok []
none_before c shut = elim (cases_eq (gate c) 1) [
  | inl one ↦ ap (λ (b : Bool). reading_of b c) (eq-eqb (gate c) 1 one) ∙ behind-short (drop 1 c) (by shut one)
  | inr other ↦ ap (λ (b : Bool). reading_of b c) (false_from_ne_true (gate c == 1) (λ is. other (eqb-true (gate c) 1 is)))
]
  where
    by : MayBeShut c → gate c ≡ 1 → length (drop 1 c) < 4
    by (inl short) one = omega (arith, length-drop 1 c)
    by (inr not_open) one = absurd (not_open one)

opening_of : (c : List ℕ) → IsOldForm c → (open_length c ≡ None) ⊎ IsOpenAt c
    → list_in plain c ≡ reading_of (gate c == 1) c
opening_of c old (inl none) = list_reads plain c [] (shut_of c none) ∙ sym (none_before c (shut_of c none))
opening_of c old (inr opened) =
    list_alone 31 c refl opened old ∙ sym (behind_is c old (tail_long c opened.there))
    ∙ sym (ap (λ (b : Bool). reading_of b c) (eq-eqb (gate c) 1 opened.gate_is))

opening_same : (image : Image) → IsOldForm (image journal_name)
    → list_in plain (image journal_name) ≡ opened_reading image
opening_same image old = opening_of (image journal_name) old (open_cases (image journal_name))

pub found_same : (image : Image) → length (image journal2_name) < head_start → IsOldForm (image journal_name)
    → found_in image ≡ with_fault (opened_reading image)
found_same image short old = former_found image short ∙ ap with_fault (opening_same image old)

-- and its disk is calm where it was
first_of : (r : Result (List (List FileText)) ℕ) (entry : List FileText) → first_entry r ≡ Some entry
    → (entries : List (List FileText)) × (r ≡ Ok (entry ∷ entries))
first_of (Ok []) entry is = absurd (none-some entry is)
first_of (Ok (other ∷ entries)) entry is =
    (entries, ap (λ (e : List FileText). Ok (e ∷ entries)) (some_is other entry is))
first_of (Err at) entry is = absurd (none-some entry is)

module _ (seen : Image) (leaves : List ℕ → List ℕ → Type 0) (files : Image) (doubt : Option (List FileText)) (old : (c : List ℕ) → leaves journal_name c → IsOldForm c)
    (short : (c : List ℕ) → leaves journal2_name c → length c < head_start) (seen_is : IsImage leaves seen) where
  seen_old : IsOldForm (seen journal_name)
  seen_old = old (seen journal_name) (seen_is journal_name)

  seen_short : length (seen journal2_name) < head_start
  seen_short = short (seen journal2_name) (seen_is journal2_name)

  unnamed_now : (file : List ℕ) → IsUnopened seen file → (entry : List FileText) → open_entry seen ≡ Some entry
      → content_in entry file ≡ None
  unnamed_now file unopened entry is =
      let first = first_of (opened_reading seen) entry is in
      let opens = list_opens plain (seen journal_name) (entry ∷ first.0) (opening_same seen seen_old ∙ first.1) in
      (cut_none (as_one first.0) entry file (unopened (entry ∷ first.0) (record {
        before = entry ∷ first.0;
        behind = [];
        are = sym (append-nil (entry ∷ first.0));
        former = opens;
        journal = headless_opens (seen journal2_name) seen_short;
      }))).1

  pub calm_now : WasCalm seen leaves files doubt → IsCalm seen leaves files doubt
  calm_now was = record {
    same = λ file own unopened c is. was.same file own (unnamed_now file unopened) c is;
    former = elim was.journal [
      | inl rest ↦ inl (0, ([], refl), λ c is. record { there = (rest c is).0; front = refl; back = (rest c is).1 })
      | inr (inl closed) ↦ inr (inl (0, ([], refl), λ c is. record { front = refl; closed = closed c is }))
      | inr (inr shorter) ↦ inr (inr shorter)
    ];
    journal = inr (inr short);
    not_broken = λ image own broken.
        was.not_broken image own
        (broken_before image (short (image journal2_name) (own journal2_name (inr refl))) (old (image journal_name) (own journal_name (inl refl))) broken);
    outcomes = λ image outcome is has.
        was.outcomes image outcome is (outcome_before image outcome (short (image journal2_name) (is journal2_name)) (old (image journal_name) (is journal_name)) has);
  }

  -- a reading of one entry
  one_before : (entries : List (List FileText)) (file : List ℕ) → OpensFormer (seen journal_name) entries
      → ((entry : List FileText) → open_entry seen ≡ Some entry → content_in entry file ≡ None)
      → content_in (as_one entries) file ≡ None
  one_before [] file opens unnamed = refl
  one_before (entry ∷ entries) file opens unnamed =
      let alone = ends_there (followed (body_of (drop 1 (seen journal_name)))) entries
      (OpensFrom plain (0 + 1) (0 + head_size + size_of (drop 1 (seen journal_name))) (rest_of (drop 1 (seen journal_name))) entries) seen_old opens.2 in
      let found : open_entry seen ≡ Some entry = ap first_entry (sym (opening_same seen seen_old) ∙ list_reads plain (seen journal_name) (entry ∷ entries) opens) in
      ap (λ (es : List (List FileText)). content_in (as_one es ++ entry) file) alone ∙ unnamed entry found

  unnamed_before : (file : List ℕ)
      → ((entry : List FileText) → open_entry seen ≡ Some entry → content_in entry file ≡ None) → IsUnopened seen file
  unnamed_before file unnamed entries opened =
      let none = journal_once (seen journal2_name) [] opened.behind (headless_opens (seen journal2_name) seen_short) opened.journal in
      let all : entries ≡ opened.before = opened.are ∙ ap (λ (es : List (List FileText)). opened.before ++ es) none ∙ append-nil opened.before in
      subst (λ (es : List (List FileText)). content_in (as_one es) file ≡ None) (sym all) (one_before opened.before file opened.former unnamed)

  -- the first gate is the only one
  gate_first : (at : ℕ) → HasGate plain (seen journal_name) at → at ≡ 0
  gate_first at gates = by gates.0 gates.1
    where
      by : (entries : List (List FileText))
          → Leads plain (λ number place rest. place ≡ at) 0 0 (seen journal_name) entries → at ≡ 0
      by [] first = sym first
      by (entry ∷ entries) leads = absurd (let goes_on = leads.2 in let ends = seen_old in cc)

  pub calm_before : IsCalm seen leaves files doubt → WasCalm seen leaves files doubt
  calm_before calm = record {
    same = λ file own unnamed c is. calm.same file own (unnamed_before file unnamed) c is;
    journal = elim calm.former [
      | inl one ↦ inl (λ c is.
          let first = gate_first one.0 one.1 in
          let differs = one.2 c is in
          (omega (arith, first, differs.there), subst (λ (n : ℕ). drop (n + 1) c ≡ drop (n + 1) (seen journal_name)) first differs.back))
      | inr (inl ends) ↦ inr (inl (λ c is. subst (λ (n : ℕ). gate (drop n c) ≡ 0) (gate_first ends.0 ends.1) (ends.2 c is).closed))
      | inr (inr shorter) ↦ inr (inr shorter)
    ];
    not_broken = λ image own broken. calm.not_broken image own (broken_now image (old (image journal_name) (own journal_name (inl refl))) broken);
    outcomes = λ image outcome is has.
        calm.outcomes image outcome is (outcome_now image outcome (short (image journal2_name) (is journal2_name)) (old (image journal_name) (is journal_name)) has);
  }
