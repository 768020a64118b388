-- How the states of a journal pass into each other by steps of its file.
use Rattle.std.proofs.Common.{◌≡◌, ◌⊎◌, ℕ, ◌+◌, List, [], ◌∷◌, ◌++◌, inl, inr, length, take, drop, Option, Some, None, refl, sym, ap, ◌∙◌, subst, arith, append_assoc, append-nil}
use Rattle.std.specs.List.{AllByRecursion}
use Rattle.std.specs.Option.{unwrap_or}
use Rattle.std.proofs.lemmas.List.{append_cancel_left}
use Rattle.std.proofs.Math.Seq.{take-append_seam}
use Rattle.kdb_outside.specs.Files.{written}
use Rattle.kdb_outside.specs.Images.{Image, Only, IsTornWrite}
use Rattle.journal_codec.specs.declared.files.FileText.{FileText}
use Rattle.journal_codec.specs.Entry.{journal_name, journal2_name, IsEntry}
use Rattle.journal_codec.specs.Header.{IsHeader, header_bytes}
use Rattle.journal_codec.specs.Forms.{behind_gate}
use Rattle.journal_steps.specs.JournalBytes.{IsOwnFile, IsShut, IsClosed}
use Rattle.journal_steps.specs.Outcomes.{content_in, with_entry, with_entries, IsEither}
use Rattle.journal_steps.proofs.Contents.{content_in-journal, content_in-journal2}
use Rattle.journal_steps.proofs.GateBytes.{IsClosed-behind, IsClosed-written, IsShut-kept}
use Rattle.journal_steps.proofs.Steps.{IsFileStep}
use Rattle.journal_lists.specs.Heads.{head_bytes, front, front_size, IsHead}
use Rattle.journal_lists.specs.Journals.{MayBeHeaded, BreaksBehindHead, ReadsJournal, BreaksJournal}
use Rattle.journal_lists.specs.Lists.{ReadsFrom, BreaksFrom, list_bytes, Fits, as_one}
use Rattle.journal_lists.specs.Rules.{listed, IsAllowed}
use Rattle.journal_lists.proofs.Bytes.{torn_behind, written_behind}
use Rattle.journal_lists.proofs.Gates.{bytes_with, HasRoom, no_entries, torn_gate, closing_breaks, closing_reads}
use Rattle.journal_lists.proofs.Heads.{front_is_head, same_names, same_head, same_list, drop_front, length_front, header_bytes_is}
use Rattle.journal_lists.proofs.ListReads.{reads_closed, closed_not_broken, reads_list, breaks_list, reads_with_gate, gate_not_broken}
use Rattle.intent_journal.specs.States.{KeepsUnlisted, IsRetired, BeginsWith, RestGives, JournalGives, IsListed, IsInDoubt, IsBare, IsHeadInDoubt, HoldsBehind, HasBodyBehind, HasBrought}
use Rattle.intent_journal.proofs.Contents.{content_cases, content_in-second}
use Rattle.intent_journal.proofs.Entries.{with_entries-as_one, with_entries-again, as_one-unnamed}
use Rattle.intent_journal.proofs.Images.{nothing_more}
use Rattle.intent_journal.proofs.Retired.{names_apart, retired_kept}

-- no list names the journal's own files
content_in-own : (entry : List FileText) (file : List ℕ) → IsOwnFile file → IsEntry entry → content_in entry file ≡ None
content_in-own entry file (inl former) is =
    subst (λ (f : List ℕ). content_in entry f ≡ None) (sym former) (content_in-journal entry is)
content_in-own entry file (inr journal) is =
    subst (λ (f : List ℕ). content_in entry f ≡ None) (sym journal) (content_in-journal2 entry is)

pub as_one-own : (entries : List (List FileText)) (file : List ℕ) → IsOwnFile file → AllByRecursion IsEntry entries
    → content_in (as_one entries) file ≡ None
as_one-own [] file own each = refl
as_one-own (entry ∷ entries) file own each =
    content_in-second (as_one entries) entry file (as_one-own entries file own each.1)
    ∙ content_in-own entry file own each.0

-- what a header allows is an entry
pub each_entry : (names : List (List ℕ)) (entries : List (List FileText))
    → AllByRecursion (IsAllowed (listed names)) entries → AllByRecursion IsEntry entries
each_entry names [] each = tt
each_entry names (entry ∷ entries) each = (each.0.is_entry, each_entry names entries each.1)

-- what a step of the journal leaves of the other files
module _ (old new : List ℕ → List ℕ → Type 0) (Step : List ℕ → List ℕ → Type 0) (step : IsFileStep journal2_name Step old new) where
  pub others_kept : (file : List ℕ) → ¬ IsOwnFile file → (c : List ℕ) → new file c → old file c
  others_kept file own c is = step.others file (λ journal. own (inr journal)) c is

  pub former_kept : IsRetired old → IsRetired new
  former_kept = retired_kept old new (step.others journal_name (λ same. names_apart (sym same)))

  pub unlisted_kept : (before : Image) (entries : List (List FileText)) → KeepsUnlisted old before entries
      → KeepsUnlisted new before entries
  unlisted_kept before entries same file own none c is = same file own none c (others_kept file own c is)

-- ---- bytes behind a head and a list

module _ (head : List ℕ) (entries : List (List FileText)) (rest bytes : List ℕ) (place at : ℕ) (placed : place ≡ length head + length (list_bytes entries) + at) where
  -- what a write behind them may leave
  pub torn_over : (c : List ℕ) → IsTornWrite place bytes (head ++ (list_bytes entries ++ rest)) c
      → (behind : List ℕ) × (c ≡ head ++ (list_bytes entries ++ behind)) × IsTornWrite at bytes rest behind
  torn_over c torn =
      let list = torn_behind head bytes (list_bytes entries ++ rest) c place (length (list_bytes entries) + at) (omega arith) torn in
      let behind = torn_behind (list_bytes entries) bytes rest list.0 (length (list_bytes entries) + at) at refl list.2 in
      (behind.0, list.1 ∙ ap (λ (l : List ℕ). head ++ l) behind.1, behind.2)

  -- and what it leaves where it went well
  pub written_over : written (head ++ (list_bytes entries ++ rest)) place bytes
      ≡ head ++ (list_bytes entries ++ written rest at bytes)
  written_over =
      written_behind head (list_bytes entries ++ rest) bytes place (length (list_bytes entries) + at) (omega arith)
      ∙ ap (λ (l : List ℕ). head ++ l) (written_behind (list_bytes entries) rest bytes (length (list_bytes entries) + at) at refl)

-- two heads of one size before a list are one, and so is what stands behind the list
pub same_parts : (head other : List ℕ) (entries : List (List FileText)) (rest behind : List ℕ)
    → length head ≡ length other
    → head ++ (list_bytes entries ++ rest) ≡ other ++ (list_bytes entries ++ behind) → (head ≡ other) × (rest ≡ behind)
same_parts head other entries rest behind sized is =
    let heads : head ≡ other =
    sym (take-append_seam head (list_bytes entries ++ rest))
    ∙ ap (λ (n : ℕ). take n (head ++ (list_bytes entries ++ rest))) sized
    ∙ ap (take (length other)) is ∙ take-append_seam other (list_bytes entries ++ behind) in
    let lists = append_cancel_left other (list_bytes entries ++ rest) (list_bytes entries ++ behind) (sym (ap (λ (h : List ℕ). h ++ (list_bytes entries ++ rest)) heads) ∙ is) in
    (heads, append_cancel_left (list_bytes entries) rest behind lists)

-- ---- what a gate gives

-- closing a gate in doubt leaves the doubt
pub closing_gives : (names : List (List ℕ)) (number place : ℕ) (files : Image) (doubt : Option (List FileText))
    (rest now : List ℕ) → IsTornWrite 0 (0 ∷ []) rest now
    → RestGives names number place files doubt rest → RestGives names number place files doubt now
closing_gives names number place files doubt rest now torn gives = record {
  not_broken = λ broken. gives.not_broken (closing_breaks (listed names) number place rest now torn broken);
  outcomes = outcomes;
}
  where
    outcomes : (more : List (List FileText)) → ReadsFrom (listed names) number place now more
        → IsEither files doubt (with_entries files more)
    outcomes [] reads = inl (λ file own. refl)
    outcomes (entry ∷ more) reads =
        gives.outcomes (entry ∷ more) (closing_reads (listed names) number place rest now entry more torn reads)

-- the gate in front of an entry with a closed gate behind it, open or not
opening_gives : (names : List (List ℕ)) (entries : List (List FileText)) (entry : List FileText) (files : Image) (b : ℕ)
    (more : List ℕ) → HasRoom (listed names) entries entry
    → RestGives names (length entries) (length (list_bytes entries)) files (Some entry) (b ∷ (behind_gate entry ++ 0 ∷ more))
opening_gives names entries entry files b more room = record {
  not_broken = gate_not_broken (listed names) entry (length entries) (length (list_bytes entries)) b more room.is room.few room.within;
  outcomes = λ read reads. elim (reads_with_gate (listed names) entry (length entries) (length (list_bytes entries)) b more read room.is reads) [
    | inl none ↦ nothing_more files (Some entry) read none
    | inr one ↦ subst (λ (es : List (List FileText)). IsEither files (Some entry) (with_entries files es)) (sym one) (inr (entry, refl, λ file own. refl))
  ];
}

-- a whole list whose files all have its contents changes nothing
list_gives : (names : List (List ℕ)) (entries : List (List FileText)) (before : Image) (rest : List ℕ)
    → Fits (listed names) entries → IsClosed rest
    → RestGives names 0 0 (with_entries before entries) None (list_bytes entries ++ rest)
list_gives names entries before rest fits closed = record {
  not_broken = λ broken.
      closed_not_broken (listed names) (length entries) (length (list_bytes entries)) rest closed
      (breaks_list (listed names) entries 0 0 (length entries) (length (list_bytes entries)) rest fits.each fits.few fits.within (omega arith) (omega arith) broken);
  outcomes = λ read reads.
      let behind = reads_list (listed names) entries 0 0 (length entries) (length (list_bytes entries)) rest read fits.each (omega arith) (omega arith) reads in
      let none = reads_closed (listed names) (length entries) (length (list_bytes entries)) rest behind.more closed behind.reads in
      let all : read ≡ entries = behind.is ∙ ap (λ (es : List (List FileText)). entries ++ es) none ∙ append-nil entries in
      inl (λ file own. ap (λ (es : List (List FileText)). with_entries (with_entries before entries) es file) all ∙ with_entries-again entries before file);
}

-- closing the header gate leaves what is in doubt there
module _ (before now : List ℕ) (torn : IsTornWrite 0 (0 ∷ []) before now) where
  headed_before : MayBeHeaded now → MayBeHeaded before
  headed_before headed = record {
    there = omega (arith, torn.no_longer, headed.there);
    open_too = λ closed. by (IsShut-kept before now torn (inr closed));
  }
    where
      by : IsShut now → ⊥
      by (inl short) = omega (arith, headed.there)
      by (inr closed) = headed.open_too closed

  head_before : (names : List (List ℕ)) → IsHead now names → IsHead before names
  head_before names head = same_head now before names (sym torn.back) head

  breaks_before : BreaksJournal now → BreaksJournal before
  breaks_before broken = (headed_before broken.0, by broken.1)
    where
      by : (((ns : List (List ℕ)) → ¬ IsHead now ns) ⊎ BreaksBehindHead now)
          → (((ns : List (List ℕ)) → ¬ IsHead before ns) ⊎ BreaksBehindHead before)
      by (inl headless) = inl (λ ns head. headless ns (same_head before now ns torn.back head))
      by (inr list) = inr (record {
        names = list.names;
        head = head_before list.names list.head;
        breaks = subst (λ (rest : List ℕ). BreaksFrom (listed list.names) 0 0 rest) (same_list before now list.names torn.back) list.breaks;
      })

  pub head_closing_gives : (files : Image) (doubt : Option (List FileText)) → JournalGives files doubt before
      → JournalGives files doubt now
  head_closing_gives files doubt gives =
      record { not_broken = λ broken. gives.not_broken (breaks_before broken); outcomes = outcomes }
    where
      outcomes : (more : List (List FileText)) → ReadsJournal now more → IsEither files doubt (with_entries files more)
      outcomes more (inl headless) = nothing_more files doubt more headless.1
      outcomes more (inr headed) =
          let read = headed.1 in
          gives.outcomes more (inr (
            headed_before headed.0,
            record {
              names = read.names;
              head = head_before read.names read.head;
              reads = subst (λ (rest : List ℕ). ReadsFrom (listed read.names) 0 0 rest more) (same_list before now read.names torn.back) read.reads;
            },
          ))

-- a header gate in front of a head and a closed gate, open or not
head_opening_gives : (names : List (List ℕ)) (files : Image) (b : ℕ) (more c : List ℕ) → IsHeader names
    → c ≡ b ∷ (head_bytes names ++ (0 ∷ more)) → JournalGives files None c
head_opening_gives names files b more c header is = record { not_broken = not_broken; outcomes = outcomes }
  where
    opened : drop 1 c ≡ drop 1 (front names ++ (0 ∷ more))
    opened = ap (drop 1) is

    head_is : IsHead c names
    head_is = same_head (front names ++ (0 ∷ more)) c names opened (front_is_head names header (0 ∷ more))

    list_is : drop (front_size names) c ≡ 0 ∷ more
    list_is = same_list (front names ++ (0 ∷ more)) c names opened ∙ drop_front names (0 ∷ more)

    closed : IsClosed (0 ∷ more)
    closed = record { there = omega arith; gate_is = refl }

    not_broken : ¬ BreaksJournal c
    not_broken broken = by broken.1
      where
        by : ¬ (((ns : List (List ℕ)) → ¬ IsHead c ns) ⊎ BreaksBehindHead c)
        by (inl headless) = headless names head_is
        by (inr list) =
            let same = same_names c names list.names head_is list.head in
            closed_not_broken (listed names) 0 0 (0 ∷ more) closed
            (subst (λ (rest : List ℕ). BreaksFrom (listed names) 0 0 rest) list_is
            (subst (λ (ns : List (List ℕ)). BreaksFrom (listed ns) 0 0 (drop (front_size ns) c)) same list.breaks))

    outcomes : (entries : List (List FileText)) → ReadsJournal c entries
        → IsEither files None (with_entries files entries)
    outcomes entries (inl headless) = nothing_more files None entries headless.1
    outcomes entries (inr headed) =
        let read = headed.1 in
        let same = same_names c names read.names head_is read.head in
        nothing_more files None entries (reads_closed (listed names) 0 0 (0 ∷ more) entries closed
        (subst (λ (rest : List ℕ). ReadsFrom (listed names) 0 0 rest entries) list_is
        (subst (λ (ns : List (List ℕ)). ReadsFrom (listed ns) 0 0 (drop (front_size ns) c) entries) same read.reads)))

-- ---- the passages

-- the contents of the list are in its files
pub brought_files : (leaves : List ℕ → List ℕ → Type 0) (names : List (List ℕ)) (before : Image)
    (entries : List (List FileText)) → IsListed leaves names before entries
    → HasBrought leaves (as_one entries) → (file : List ℕ) → ¬ IsOwnFile file
    → Only (with_entries before entries file) (leaves file)
brought_files leaves names before entries state brought file own c is = elim (content_cases (as_one entries) file) [
  | inl none ↦ state.same file own none c is ∙ sym (with_entries-as_one entries before file ∙ with_unnamed none)
  | inr some ↦ brought file some.0 some.1 c is ∙ sym (with_entries-as_one entries before file ∙ with_named some.0 some.1)
]
  where
    with_unnamed : content_in (as_one entries) file ≡ None → with_entry before (as_one entries) file ≡ before file
    with_unnamed none = ap (λ (o : Option (List ℕ)). unwrap_or o (before file)) none

    with_named : (bytes : List ℕ) → content_in (as_one entries) file ≡ Some bytes
        → with_entry before (as_one entries) file ≡ bytes
    with_named bytes some = ap (λ (o : Option (List ℕ)). unwrap_or o (before file)) some

-- so its first gate may be closed at any time
pub listed_emptied : (leaves : List ℕ → List ℕ → Type 0) (names : List (List ℕ)) (before : Image)
    (entries : List (List FileText)) → IsListed leaves names before entries
    → HasBrought leaves (as_one entries) → IsInDoubt leaves names (with_entries before entries) [] None
listed_emptied leaves names before entries state brought = record {
  same = λ file own none. brought_files leaves names before entries state brought file own;
  former = state.former;
  header = state.header;
  fits = no_entries (listed names);
  journal = λ c is. let begins = state.journal c is in (list_bytes entries ++ begins.0, begins.1, list_gives names entries before begins.0 state.fits begins.2);
}

-- the files that the list names may change while its gates are open
pub listed_kept : (old new : List ℕ → List ℕ → Type 0) (names : List (List ℕ)) (before : Image)
    (entries : List (List FileText)) → IsListed old names before entries
    → ((other : List ℕ) → content_in (as_one entries) other ≡ None → (c : List ℕ) → new other c → old other c)
    → IsListed new names before entries
listed_kept old new names before entries state kept =
    let own = λ (file : List ℕ) (is : IsOwnFile file). kept file (as_one-own entries file is (each_entry names entries state.fits.each)) in
    record {
      same = λ file other none c is. state.same file other none c (kept file none c is);
      former = retired_kept old new (own journal_name (inl refl)) state.former;
      header = state.header;
      fits = state.fits;
      journal = λ c is. state.journal c (own journal2_name (inr refl) c is);
    }

-- bytes that were written behind a closed gate
pub written_closed : (bytes rest : List ℕ) → IsClosed rest
    → (more : List ℕ) × (written rest 1 bytes ≡ 0 ∷ (bytes ++ more))
written_closed bytes [] closed = absurd (omega (arith, closed.there))
written_closed bytes (x ∷ rest) closed =
    let more = drop (1 + length bytes) (x ∷ rest) in (more, ap (λ (y : ℕ). y ∷ (bytes ++ more)) closed.gate_is)

-- a journal in which a body stands behind the list
abbrev pub IsBodyOf : List FileText → List ℕ → Type 0
IsBodyOf entry rest = (more : List ℕ) × (rest ≡ 0 ∷ (behind_gate entry ++ 0 ∷ more))

-- the journals that a crash may leave begin with a head and a list, before a write into it and behind it
module _ (old new : List ℕ → List ℕ → Type 0) (names : List (List ℕ)) (entries : List (List FileText)) where
  -- what a write behind the list's bytes leaves of them
  pub torn_there : (bytes c : List ℕ) (place at : ℕ) → place ≡ front_size names + length (list_bytes entries) + at
      → (Behind After : List ℕ → Type 0)
      → ((former : List ℕ) → old journal2_name former → BeginsWith names entries Behind former)
      → IsFileStep journal2_name (IsTornWrite place bytes) old new
      → ((rest now : List ℕ) → IsTornWrite at bytes rest now → Behind rest → After now) → new journal2_name c
      → BeginsWith names entries After c
  torn_there bytes c place at placed Behind After began step passes is =
      let was = step.this c is in
      let begins = began was.0 was.1 in
      let torn = torn_over (front names) entries begins.0 bytes place at (omega (arith, length_front names)) c (subst (λ former. IsTornWrite place bytes former c) begins.1 was.2) in
      (torn.0, torn.1, passes begins.0 torn.0 torn.2 begins.2)

  -- what a write that went well leaves of the journal
  pub wrote_there : (seen bytes : List ℕ) (place at : ℕ) → place ≡ front_size names + length (list_bytes entries) + at
      → (Behind After : List ℕ → Type 0) → BeginsWith names entries Behind seen
      → Only (written seen place bytes) (new journal2_name)
      → ((rest : List ℕ) → Behind rest → After (written rest at bytes)) → (c : List ℕ) → new journal2_name c
      → BeginsWith names entries After c
  wrote_there seen bytes place at placed Behind After begins only passes c is = (
    written begins.0 at bytes,
    only c is ∙ ap (λ (s : List ℕ). written s place bytes) begins.1 ∙ written_over (front names) entries begins.0 bytes place at (omega (arith, length_front names)),
    passes begins.0 begins.2,
  )

-- a body that was put behind a list of these names
pub body_of_names : (names : List (List ℕ)) (start : ℕ) (entries : List (List FileText)) (entry : List FileText)
    (c : List ℕ) → start ≡ front_size names
    → BeginsWith names entries IsClosed c → HoldsBehind start entries entry c
    → BeginsWith names entries (IsBodyOf entry) c
body_of_names names start entries entry c starts begins holds =
    let body = 0 ∷ (behind_gate entry ++ (0 ∷ holds.more)) in
    let heads = (same_parts holds.head (front names) entries body begins.0 (omega (arith, holds.size, length_front names)) (sym holds.is ∙ begins.1)).0 in
    (body, holds.is ∙ ap (λ (h : List ℕ). h ++ (list_bytes entries ++ body)) heads, (holds.more, refl))

-- a gate that was opened on a body for good
opened_closed : (names : List (List ℕ)) (entries : List (List FileText)) (entry : List FileText) (c rest : List ℕ)
    → c ≡ front names ++ (list_bytes entries ++ written rest 0 (1 ∷ []))
    → IsBodyOf entry rest → BeginsWith names (entries ++ entry ∷ []) IsClosed c
opened_closed names entries entry c rest is body = (
  0 ∷ body.0,
  is ∙ ap (λ (r : List ℕ). front names ++ (list_bytes entries ++ written r 0 (1 ∷ []))) body.1
      ∙ ap (λ (l : List ℕ). front names ++ l) (sym (bytes_with entries entry (0 ∷ body.0))),
  record { there = omega arith; gate_is = refl },
)

module _ (old new : List ℕ → List ℕ → Type 0) (names : List (List ℕ)) (before : Image) (entries : List (List FileText)) where
  -- writing behind the closed gate leaves it closed
  pub listed_behind : (bytes : List ℕ) (place : ℕ) → place ≡ front_size names + length (list_bytes entries) + 1
      → IsListed old names before entries
      → IsFileStep journal2_name (IsTornWrite place bytes) old new → IsListed new names before entries
  listed_behind bytes place placed state step = record {
    same = unlisted_kept old new (IsTornWrite place bytes) step before entries state.same;
    former = former_kept old new (IsTornWrite place bytes) step state.former;
    header = state.header;
    fits = state.fits;
    journal = λ c is. torn_there old new names entries bytes c place 1 placed IsClosed IsClosed state.journal step (IsClosed-behind bytes) is;
  }

  -- opening the gate on a body brings its entry in doubt
  pub doubt_opening : (entry : List FileText) (place start : ℕ) → place ≡ front_size names + length (list_bytes entries)
      → start ≡ front_size names → IsListed old names before entries
      → HasRoom (listed names) entries entry → HasBodyBehind old start entries entry
      → IsFileStep journal2_name (IsTornWrite place (1 ∷ [])) old new → IsInDoubt new names before entries (Some entry)
  doubt_opening entry place start placed starts state room body step =
      let Gives = RestGives names (length entries) (length (list_bytes entries)) (with_entries before entries) (Some entry) in
      record {
        same = unlisted_kept old new (IsTornWrite place (1 ∷ [])) step before entries state.same;
        former = former_kept old new (IsTornWrite place (1 ∷ [])) step state.former;
        header = state.header;
        fits = state.fits;
        journal = λ c is.
            torn_there old new names entries (1 ∷ []) c place 0 (omega arith) (IsBodyOf entry) Gives
            (λ former was. body_of_names names start entries entry former starts (state.journal former was) (body former was)) step
            (λ rest now torn holds.
            let opened = torn_gate 1 0 (behind_gate entry ++ (0 ∷ holds.0)) now (subst (λ r. IsTornWrite 0 (1 ∷ []) r now) holds.1 torn) in
            subst Gives (sym opened.1) (opening_gives names entries entry (with_entries before entries) opened.0 holds.0 room)) is;
      }

  -- closing the gate in doubt leaves the doubt
  pub doubt_closing : (doubt : Option (List FileText)) (place : ℕ)
      → place ≡ front_size names + length (list_bytes entries) → IsInDoubt old names before entries doubt
      → IsFileStep journal2_name (IsTornWrite place (0 ∷ [])) old new → IsInDoubt new names before entries doubt
  doubt_closing doubt place placed state step =
      let Gives = RestGives names (length entries) (length (list_bytes entries)) (with_entries before entries) doubt in
      record {
        same = unlisted_kept old new (IsTornWrite place (0 ∷ [])) step before entries state.same;
        former = former_kept old new (IsTornWrite place (0 ∷ [])) step state.former;
        header = state.header;
        fits = state.fits;
        journal = λ c is.
            torn_there old new names entries (0 ∷ []) c place 0 (omega arith) Gives Gives state.journal step
            (closing_gives names (length entries) (length (list_bytes entries)) (with_entries before entries) doubt) is;
      }

  -- a gate that was closed for good
  pub listed_closed : (seen : List ℕ) (doubt : Option (List FileText)) (place : ℕ)
      → place ≡ front_size names + length (list_bytes entries) → IsInDoubt old names before entries doubt
      → old journal2_name seen → IsFileStep journal2_name (IsTornWrite place (0 ∷ [])) old new
      → Only (written seen place (0 ∷ [])) (new journal2_name) → IsListed new names before entries
  listed_closed seen doubt place placed state was step only =
      let Gives = RestGives names (length entries) (length (list_bytes entries)) (with_entries before entries) doubt in
      record {
        same = unlisted_kept old new (IsTornWrite place (0 ∷ [])) step before entries state.same;
        former = former_kept old new (IsTornWrite place (0 ∷ [])) step state.former;
        header = state.header;
        fits = state.fits;
        journal = wrote_there old new names entries seen (0 ∷ []) place 0 (omega arith) Gives IsClosed (state.journal seen was) only (λ rest gives. IsClosed-written rest);
      }

  -- a gate that was opened for good
  pub listed_opened : (entry : List FileText) (seen : List ℕ) (place start : ℕ)
      → place ≡ front_size names + length (list_bytes entries) → start ≡ front_size names
      → IsListed old names before entries
      → Fits (listed names) (entries ++ entry ∷ []) → old journal2_name seen → HoldsBehind start entries entry seen
      → IsFileStep journal2_name (IsTornWrite place (1 ∷ [])) old new
      → Only (written seen place (1 ∷ [])) (new journal2_name) → IsListed new names before (entries ++ entry ∷ [])
  listed_opened entry seen place start placed starts state fits was holds step only = record {
    same = λ file own none c is. state.same file own (as_one-unnamed entries (entry ∷ []) file none) c (others_kept old new (IsTornWrite place (1 ∷ [])) step file own c is);
    former = former_kept old new (IsTornWrite place (1 ∷ [])) step state.former;
    header = state.header;
    fits = fits;
    journal = λ c is.
        let body = body_of_names names start entries entry seen starts (state.journal seen was) holds in
        let written_is = written_over (front names) entries body.0 (1 ∷ []) place 0 (omega (arith, length_front names)) in
        opened_closed names entries entry c body.0 (only c is ∙ ap (λ (s : List ℕ). written s place (1 ∷ [])) body.1 ∙ written_is) body.2;
  }

-- ---- the head

-- behind a closed gate stand a head and the closed gate of a list
abbrev pub HoldsHead : List (List ℕ) → List ℕ → Type 0
HoldsHead names c = (more : List ℕ) × (c ≡ 0 ∷ (head_bytes names ++ (0 ∷ more)))

abbrev pub HasHead : (List ℕ → List ℕ → Type 0) → List (List ℕ) → Type 0
HasHead leaves names = (c : List ℕ) → leaves journal2_name c → HoldsHead names c

-- a head that was written behind the closed gate
pub head_written : (new : List ℕ → List ℕ → Type 0) (names : List (List ℕ)) (header seen : List ℕ)
    → header ≡ header_bytes names → IsClosed seen
    → Only (written seen 1 header) (new journal2_name) → HasHead new names
head_written new names header seen is closed only c left =
    let there = written_closed header seen closed in (
      there.0,
      only c left ∙ there.1 ∙ ap (λ (l : List ℕ). 0 ∷ (l ++ there.0)) (is ∙ header_bytes_is names)
          ∙ ap (λ (l : List ℕ). 0 ∷ l) (append_assoc (head_bytes names) (0 ∷ []) there.0),
    )

module _ (old new : List ℕ → List ℕ → Type 0) (files : Image) where
  -- closing the header gate in doubt leaves the doubt
  pub head_closing : (doubt : Option (List FileText)) → IsHeadInDoubt old files doubt
      → IsFileStep journal2_name (IsTornWrite 0 (0 ∷ [])) old new → IsHeadInDoubt new files doubt
  head_closing doubt state step = record {
    same = unlisted_kept old new (IsTornWrite 0 (0 ∷ [])) step files [] state.same;
    former = former_kept old new (IsTornWrite 0 (0 ∷ [])) step state.former;
    journal = λ c is. let was = step.this c is in head_closing_gives was.0 c was.2 files doubt (state.journal was.0 was.1);
  }

  -- it was closed for good
  pub bare_of_closing : (seen : List ℕ) (doubt : Option (List FileText)) → IsHeadInDoubt old files doubt
      → IsFileStep journal2_name (IsTornWrite 0 (0 ∷ [])) old new
      → Only (written seen 0 (0 ∷ [])) (new journal2_name) → IsBare new files
  bare_of_closing seen doubt state step only = record {
    same = unlisted_kept old new (IsTornWrite 0 (0 ∷ [])) step files [] state.same;
    former = former_kept old new (IsTornWrite 0 (0 ∷ [])) step state.former;
    journal = λ c is. subst IsClosed (sym (only c is)) (IsClosed-written seen);
  }

  -- writing behind the closed header gate leaves it closed
  pub head_behind : (bytes : List ℕ) → IsBare old files → IsFileStep journal2_name (IsTornWrite 1 bytes) old new
      → IsBare new files
  head_behind bytes state step = record {
    same = unlisted_kept old new (IsTornWrite 1 bytes) step files [] state.same;
    former = former_kept old new (IsTornWrite 1 bytes) step state.former;
    journal = λ c is. let was = step.this c is in IsClosed-behind bytes was.0 c was.2 (state.journal was.0 was.1);
  }

  -- opening it on a head brings no entry in doubt
  pub head_opening : (names : List (List ℕ)) → IsHeader names → IsBare old files → HasHead old names
      → IsFileStep journal2_name (IsTornWrite 0 (1 ∷ [])) old new → IsHeadInDoubt new files None
  head_opening names header state head step = record {
    same = unlisted_kept old new (IsTornWrite 0 (1 ∷ [])) step files [] state.same;
    former = former_kept old new (IsTornWrite 0 (1 ∷ [])) step state.former;
    journal = λ c is.
        let was = step.this c is in
        let holds = head was.0 was.1 in
        let opened = torn_gate 1 0 (head_bytes names ++ (0 ∷ holds.0)) c (subst (λ (f : List ℕ). IsTornWrite 0 (1 ∷ []) f c) holds.1 was.2) in
        head_opening_gives names files opened.0 holds.0 c header opened.1;
  }

  -- it was opened on a head for good
  pub head_opened : (names : List (List ℕ)) (seen : List ℕ) → IsHeader names → IsBare old files → HoldsHead names seen
      → IsFileStep journal2_name (IsTornWrite 0 (1 ∷ [])) old new
      → Only (written seen 0 (1 ∷ [])) (new journal2_name) → IsListed new names files []
  head_opened names seen header state holds step only = record {
    same = unlisted_kept old new (IsTornWrite 0 (1 ∷ [])) step files [] state.same;
    former = former_kept old new (IsTornWrite 0 (1 ∷ [])) step state.former;
    header = header;
    fits = no_entries (listed names);
    journal = λ c is. (0 ∷ holds.0, only c is ∙ ap (λ (s : List ℕ). written s 0 (1 ∷ [])) holds.1, record { there = omega arith; gate_is = refl });
  }
