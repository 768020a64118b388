-- Which disks are calm: one with one image, one whose list is there for good, and one whose header gate is closed for
-- good.
use Rattle.std.proofs.Common.{◌≡◌, inl, inr, ℕ, ◌+◌, ◌≤◌, List, [], ◌∷◌, ◌++◌, length, take, drop, Option, refl, sym, ap, ◌∙◌, subst, arith, append_assoc, length-append}
use Rattle.std.specs.List.{AllByRecursion}
use Rattle.std.proofs.Math.Seq.{take-append_seam, drop-append_seam}
use Rattle.kdb_outside.specs.Images.{Image, IsImage, Only}
use Rattle.journal_codec.specs.declared.files.FileText.{FileText}
use Rattle.journal_codec.specs.Entry.{journal_name, journal2_name}
use Rattle.journal_codec.specs.Forms.{spelled_on, behind_gate}
use Rattle.journal_lists.specs.Grammar.{most_entries, last_place, head_size, size_of, rest_of}
use Rattle.journal_lists.specs.Heads.{head_start, front, front_size}
use Rattle.journal_lists.specs.Lists.{Leads, HasGate, list_bytes}
use Rattle.journal_lists.specs.Rules.{Rule, IsAllowed, plain, listed}
use Rattle.journal_lists.proofs.Bodies.{is_whole, goes_on, next_gate}
use Rattle.journal_lists.proofs.Heads.{front_is_head, drop_front, length_front}
use Rattle.journal_steps.specs.JournalBytes.{gate, IsClosed}
use Rattle.journal_steps.specs.Outcomes.{with_entries, IsEither}
use Rattle.journal_steps.proofs.Passages.{either_same, with_entries-same}
use Rattle.intent_journal.specs.Outcomes.{HasOnly}
use Rattle.intent_journal.specs.States.{BeginsWith, IsListed, IsBare, HasListGate, HasJournalGate, EndsAt, IsCalm}
use Rattle.intent_journal.proofs.Images.{listed_only, bare_only}
use Rattle.intent_journal.proofs.Readings.{broken_same, reads_same, one_image_gate, calm_from}
use Rattle.intent_journal.proofs.Retired.{retired_shut, retired_gate, shut_opens}
use Rattle.intent_journal.proofs.WrittenLists.{listed_opens}

-- a written list leads to the gate behind it
leads_list : (rule : Rule) (Ends : ℕ → ℕ → List ℕ → Type 0) (entries : List (List FileText))
    (number place last ends : ℕ) (rest : List ℕ) → AllByRecursion (IsAllowed rule) entries → last ≤ most_entries
    → ends ≤ last_place → last ≡ number + length entries → ends ≡ place + length (list_bytes entries)
    → Ends last ends rest → Leads rule Ends number place (list_bytes entries ++ rest) entries
leads_list rule Ends [] number place last ends rest each few within counted placed holds =
    let same_number : last ≡ number = omega arith in
    let same_place : ends ≡ place = omega arith in
    subst (λ n. Ends n place rest) same_number (subst (λ p. Ends last p rest) same_place holds)
leads_list rule Ends (entry ∷ entries) number place last ends rest each few within counted placed holds =
    let more = list_bytes entries ++ rest in
    let tail = (behind_gate entry ++ list_bytes entries) ++ rest in
    let there : tail ≡ behind_gate entry ++ more = append_assoc (behind_gate entry) (list_bytes entries) rest in
    let sized = length-append (behind_gate entry) (list_bytes entries) in
    let behind = leads_list rule Ends entries (number + 1) (place + head_size + length (spelled_on entry)) last ends rest each.1 few within (omega arith) (omega arith) holds in
    let from = Leads rule Ends (number + 1) (place + head_size + size_of tail) (rest_of tail) entries in
    let next = next_gate rule entry each.0 more tail there (λ n p c. Leads rule Ends n p c entries → from) number place (λ leads. leads) behind in
    (record { there = omega arith; open_too = λ zero. omega arith }, is_whole rule entry each.0 more tail there number place (omega arith) (omega arith), goes_on rule entry each.0 more tail there, next)

-- two journals that begin with one head and one list, and are closed behind them
module _ (names : List (List ℕ)) (entries : List (List FileText)) where
  joins : (c : List ℕ) (begins : BeginsWith names entries IsClosed c)
      → c ≡ (front names ++ list_bytes entries) ++ begins.0
  joins c begins = begins.1 ∙ sym (append_assoc (front names) (list_bytes entries) begins.0)

  sized : front_size names + length (list_bytes entries) ≡ length (front names ++ list_bytes entries)
  sized = omega (arith, length-append (front names) (list_bytes entries), length_front names)

  starts : (c : List ℕ) → BeginsWith names entries IsClosed c
      → take (front_size names + length (list_bytes entries)) c ≡ front names ++ list_bytes entries
  starts c begins =
      ap (λ (n : ℕ). take n c) sized ∙ ap (take (length (front names ++ list_bytes entries))) (joins c begins)
      ∙ take-append_seam (front names ++ list_bytes entries) begins.0

  ends : (c : List ℕ) (begins : BeginsWith names entries IsClosed c)
      → drop (front_size names + length (list_bytes entries)) c ≡ begins.0
  ends c begins =
      ap (λ (n : ℕ). drop n c) sized ∙ ap (drop (length (front names ++ list_bytes entries))) (joins c begins)
      ∙ drop-append_seam (front names ++ list_bytes entries) begins.0

  ends_at : (journal c : List ℕ) → BeginsWith names entries IsClosed journal → BeginsWith names entries IsClosed c
      → EndsAt (front_size names + length (list_bytes entries)) journal c
  ends_at journal c first begins =
      record {
        front = starts c begins ∙ sym (starts journal first);
        closed = ap gate (ends c begins) ∙ begins.2.gate_is;
      }

-- the gate behind a list that is there for good is one of the journal
list_gate : (leaves : List ℕ → List ℕ → Type 0) (names : List (List ℕ)) (before : Image)
    (entries : List (List FileText)) (c : List ℕ) → IsListed leaves names before entries → leaves journal2_name c
    → HasListGate c (front_size names + length (list_bytes entries))
list_gate leaves names before entries c state is =
    let begins = state.journal c is in
    let last = length entries in
    let place = length (list_bytes entries) in
    let bytes = list_bytes entries ++ begins.0 in
    let leads = leads_list (listed names) (λ number at rest. at ≡ place) entries 0 0 last place begins.0 state.fits.each state.fits.few state.fits.within (omega arith) (omega arith) refl in
    subst (λ (journal : List ℕ). HasListGate journal (front_size names + place)) (sym begins.1) (record {
      headed = record { there = omega arith; open_too = λ zero. omega arith };
      names = names;
      head = front_is_head names state.header bytes;
      place = place;
      gates = (entries, subst (λ (journal : List ℕ). Leads (listed names) (λ number at rest. at ≡ place) 0 0 journal entries) (sym (drop_front names bytes)) leads);
      is = refl;
    })

-- a list that is there for good is calm, with any files that the files with it are among
pub listed_calm : (seen : Image) (leaves : List ℕ → List ℕ → Type 0) (names : List (List ℕ)) (before files : Image)
    (entries : List (List FileText)) (doubt : Option (List FileText))
    → IsListed leaves names before entries → IsImage leaves seen → IsEither files doubt (with_entries before entries)
    → IsCalm seen leaves files doubt
listed_calm seen leaves names before files entries doubt state seen_is either =
    let begins = state.journal (seen journal2_name) (seen_is journal2_name) in
    calm_from seen leaves files doubt
    (λ file own unopened c is.
    let none = unopened entries (record {
      before = [];
      behind = entries;
      are = refl;
      former = shut_opens (seen journal_name) (retired_shut leaves (seen journal_name) state.former (seen_is journal_name));
      journal = listed_opens (seen journal2_name) leaves names before entries (seen_is journal2_name) state;
    }) in
    state.same file own none c is ∙ sym (state.same file own none (seen file) (seen_is file)))
    (retired_gate leaves (HasGate plain (seen journal_name)) (seen journal_name) ([], refl) state.former)
    (inr (inl (
      front_size names + length (list_bytes entries),
      inr (list_gate leaves names before entries (seen journal2_name) state (seen_is journal2_name)),
      λ c is. ends_at names entries (seen journal2_name) c begins (state.journal c is),
    ))) seen_is
    (λ image is.
    let only = listed_only leaves names before entries state image is in
    record { not_broken = only.not_broken; each = λ outcome has. either_same files (with_entries before entries) outcome doubt (only.each outcome has) either })

-- and so is one without a header
pub bare_calm : (seen : Image) (leaves : List ℕ → List ℕ → Type 0) (bare files : Image) (doubt : Option (List FileText))
    → IsBare leaves bare → IsImage leaves seen → IsEither files doubt bare
    → IsCalm seen leaves files doubt
bare_calm seen leaves bare files doubt state seen_is either =
    calm_from seen leaves files doubt (λ file own unopened c is. state.same file own refl c is ∙ sym (state.same file own refl (seen file) (seen_is file)))
    (retired_gate leaves (HasGate plain (seen journal_name)) (seen journal_name) ([], refl) state.former)
    (inr (inl (0, inl refl, λ c is. record { front = refl; closed = (state.journal c is).gate_is }))) seen_is
    (λ image is.
    let only = bare_only leaves bare state image is in
    record { not_broken = only.not_broken; each = λ outcome has. either_same files bare outcome doubt (only.each outcome has) either })

-- a disk with one image is calm where its outcomes are these
pub one_calm : (seen : Image) (leaves : List ℕ → List ℕ → Type 0) (files : Image) (doubt : Option (List FileText))
    → ((file : List ℕ) → Only (seen file) (leaves file)) → HasOnly (IsEither files doubt) seen
    → IsCalm seen leaves files doubt
one_calm seen leaves files doubt only outcomes = record {
  same = λ file own unopened. only file;
  former = one_image_gate (HasGate plain (seen journal_name)) head_size (seen journal_name) (leaves journal_name) ([], refl) (omega arith) (only journal_name);
  journal = one_image_gate (HasJournalGate (seen journal2_name)) head_start (seen journal2_name) (leaves journal2_name) (inl refl) (omega arith) (only journal2_name);
  not_broken = λ image own broken.
      outcomes.not_broken
      (broken_same image seen (sym (only journal_name (image journal_name) (own journal_name (inl refl)))) (sym (only journal2_name (image journal2_name) (own journal2_name (inr refl)))) broken);
  outcomes = λ image outcome is has.
      outcomes.each outcome (
        has.0,
        reads_same image seen has.0 (sym (only journal_name (image journal_name) (is journal_name))) (sym (only journal2_name (image journal2_name) (is journal2_name))) has.1,
        λ file own. has.2 file own ∙ with_entries-same has.0 image seen file (only file (image file) (is file)),
      );
}
