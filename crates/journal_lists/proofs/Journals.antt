-- What is read in the two files of a journal is what is open in them.
use Rattle.std.proofs.Common.{◌≡◌, ◌⊎◌, inl, inr, ℕ, Bool, true, false, ◌&&◌, cond, List, ◌++◌, length, drop, Option, Some, None, Result, Ok, Err, refl, sym, ap, ◌∙◌, subst, arith}
use Rattle.std.specs.Prelude.{nat_le, ◌==◌}
use Rattle.std.proofs.lemmas.Bool.{leb-true, le-leb, false_from_ne_true, eq-eqb, eqb-true, cases_eq, cases_lt}
use Rattle.journal_codec.specs.declared.files.FileText.{FileText}
use Rattle.journal_codec.specs.Header.{version, IsHeader}
use Rattle.journal_steps.specs.declared.faults.JournalFault.{JournalFault}
use Rattle.journal_steps.specs.declared.faults.JournalFault.TheVariants.{BadJournal, UnknownVersion}
use Rattle.journal_steps.specs.JournalBytes.{gate, IsClosed}
use Rattle.journal_lists.specs.Heads.{head_start, front, front_size, version_of, header_size, header_of, header_or_place, IsHead}
use Rattle.journal_lists.specs.Journals.{ReadsFormer, OpensFormer, BreaksFormer, MayBeHeadless, MayBeHeaded, IsHeaded, ReadsJournal, OpensJournal, BreaksJournal, with_fault, former_in, with_some, known_head, head_in, behind_head, journal_in}
use Rattle.journal_lists.specs.Lists.{ReadsFrom, OpensFrom, list_bytes, Fits, BeginsSo}
use Rattle.journal_lists.specs.Readings.{list_in}
use Rattle.journal_lists.specs.Rules.{plain, listed}
use Rattle.journal_lists.proofs.Gates.{opens_list, opens_reads, opens_read}
use Rattle.journal_lists.proofs.Heads.{front_is_head, drop_front, same_names}
use Rattle.journal_lists.proofs.OpenReads.{list_opens, list_breaks, list_reads}

-- ---- a list with its fault

fault_ok : (r : Result (List (List FileText)) ℕ) (entries : List (List FileText)) → with_fault r ≡ Ok entries
    → r ≡ Ok entries
fault_ok (Ok others) entries is = cc
fault_ok (Err at) entries is = absurd (cc)

fault_err : (r : Result (List (List FileText)) ℕ) (fault : JournalFault) → with_fault r ≡ Err fault
    → (at : ℕ) × (r ≡ Err at)
fault_err (Ok entries) fault is = absurd (cc)
fault_err (Err at) fault is = (at, refl)

-- ---- `journal`

pub former_opens : (c : List ℕ) (entries : List (List FileText)) → former_in c ≡ Ok entries → OpensFormer c entries
former_opens c entries is = list_opens plain c entries (fault_ok (list_in plain c) entries is)

pub former_is : (c : List ℕ) (entries : List (List FileText)) → OpensFormer c entries → former_in c ≡ Ok entries
former_is c entries opens = ap with_fault (list_reads plain c entries opens)

pub former_breaks : (c : List ℕ) (fault : JournalFault) → former_in c ≡ Err fault → BreaksFormer c
former_breaks c fault is = let bad = fault_err (list_in plain c) fault is in list_breaks plain c bad.0 bad.1

pub former_read : (c : List ℕ) (entries : List (List FileText)) → OpensFormer c entries → ReadsFormer c entries
former_read c entries opens = opens_read plain 0 0 c entries opens

pub former_begins : (c : List ℕ) (opens reads : List (List FileText)) → OpensFormer c opens → ReadsFormer c reads
    → BeginsSo opens reads
former_begins c opens reads first second = opens_reads plain 0 0 c opens reads first second

-- where none is broken there is a reading
pub former_has_reading : (c : List ℕ) → ¬ BreaksFormer c → (entries : List (List FileText)) × OpensFormer c entries
former_has_reading c unbroken = by (former_in c) refl
  where
    by : (r : Result (List (List FileText)) JournalFault) → former_in c ≡ r
        → (entries : List (List FileText)) × OpensFormer c entries
    by (Ok entries) is = (entries, former_opens c entries is)
    by (Err fault) is = absurd (unbroken (former_breaks c fault is))

-- ---- the head of `journal2`

abbrev Heads : Type 0
Heads = Result (Option (List (List ℕ))) JournalFault

shut_either : (b d : Bool) (head : Heads) → (b ≡ false) ⊎ (d ≡ false) → cond (b && d) head (Ok None) ≡ Ok None
shut_either b d head (inl shut) = ap (λ (x : Bool). cond (x && d) head (Ok None)) shut
shut_either true d head (inr shut) = ap (λ (x : Bool). cond (true && x) head (Ok None)) shut
shut_either false d head (inr shut) = refl

pub head_none : (c : List ℕ) → MayBeHeadless c → head_in c ≡ Ok None
unfolding head_in
head_none c (inl short) =
    shut_either (nat_le head_start (length c)) (gate c == 1) (known_head (version_of c) c)
    (inl (false_from_ne_true (nat_le head_start (length c)) (λ long. let le = leb-true head_start (length c) long in omega arith)))
head_none c (inr not_open) =
    shut_either (nat_le head_start (length c)) (gate c == 1) (known_head (version_of c) c)
    (inr (false_from_ne_true (gate c == 1) (λ is. not_open (eqb-true (gate c) 1 is))))

pub head_known : (c : List ℕ) → IsHeaded c → head_in c ≡ known_head (version_of c) c
unfolding head_in
head_known c headed =
    let long = le-leb head_start (length c) headed.there in
    let opened = eq-eqb (gate c) 1 headed.gate_is in
    λ i. cond (long i && opened i) (known_head (version_of c) c) (Ok None)

pub head_cases : (c : List ℕ) → MayBeHeadless c ⊎ IsHeaded c
head_cases c = elim (cases_lt (length c) head_start) [
  | inl short ↦ inl (inl short)
  | inr long ↦ elim (cases_eq (gate c) 1) [
    | inl opened ↦ inr (record { there = long; gate_is = opened })
    | inr not_open ↦ inl (inr not_open)
  ]
]

pub may_headed : (c : List ℕ) → IsHeaded c → MayBeHeaded c
may_headed c headed = record { there = headed.there; open_too = λ closed. let gate_is = headed.gate_is in omega arith }

not_headless : (c : List ℕ) → IsHeaded c → ¬ MayBeHeadless c
not_headless c headed (inl short) = let there = headed.there in omega arith
not_headless c headed (inr not_open) = not_open headed.gate_is

-- a version that isn't known, and one that is
pub known_other : (c : List ℕ) → ¬ (version_of c ≡ version)
    → known_head (version_of c) c ≡ Err (UnknownVersion (version_of c))
known_other c other =
    ap (λ (b : Bool). cond b (with_some (header_or_place (header_size c) (header_of c))) (Err (UnknownVersion (version_of c))))
    (false_from_ne_true (version_of c == version) (λ same. other (eqb-true (version_of c) version same)))

pub known_same : (c : List ℕ) → version_of c ≡ version
    → known_head (version_of c) c ≡ with_some (header_or_place (header_size c) (header_of c))
known_same c same =
    ap (λ (b : Bool). cond b (with_some (header_or_place (header_size c) (header_of c))) (Err (UnknownVersion (version_of c)))) (eq-eqb (version_of c) version same)

-- behind an open gate stands a head, or none, and why
pub data HeadIs (c : List ℕ) : Type 0 where
  Names : (names : List (List ℕ)) → IsHead c names → head_in c ≡ Ok (Some names) → HeadIs c
  Refused : (fault : JournalFault) → head_in c ≡ Err fault → ((names : List (List ℕ)) → ¬ IsHead c names) → HeadIs c

pub head_is : (c : List ℕ) → IsHeaded c → HeadIs c
head_is c headed = elim (cases_eq (version_of c) version) [
  | inl same ↦ by same (header_or_place (header_size c) (header_of c)) refl
  | inr other ↦ Refused (UnknownVersion (version_of c)) (head_known c headed ∙ known_other c other) (λ names head. other head.version)
]
  where
    by : version_of c ≡ version → (r : Result (List (List ℕ)) ℕ) → header_or_place (header_size c) (header_of c) ≡ r
        → HeadIs c
    by same (Ok names) is =
        Names names (record { version = same; header = is }) (head_known c headed ∙ known_same c same ∙ ap with_some is)
    by same (Err at) is =
        Refused (BadJournal at) (head_known c headed ∙ known_same c same ∙ ap with_some is) (λ names head. let good = head.header in absurd (cc))

pub head_of : (c : List ℕ) (names : List (List ℕ)) → IsHeaded c → IsHead c names → head_in c ≡ Ok (Some names)
head_of c names headed head = head_known c headed ∙ known_same c head.version ∙ ap with_some head.header

-- ---- `journal2`

abbrev behind_names : List (List ℕ) → List ℕ → Result (List (List FileText)) JournalFault
behind_names names c = with_fault (list_in (listed names) (drop (front_size names) c))

pub journal_opens : (c : List ℕ) (entries : List (List FileText)) → journal_in c ≡ Ok entries → OpensJournal c entries
journal_opens c entries is = elim (head_cases c) [
  | inl headless ↦ let none = sym (ap (λ (head : Heads). behind_head head c) (head_none c headless)) ∙ is in inl (headless, (cc))
  | inr headed ↦ by headed (head_is c headed)
]
  where
    by : IsHeaded c → HeadIs c → OpensJournal c entries
    by headed (Names names head there) =
        let list : behind_names names c ≡ Ok entries = sym (ap (λ (h : Heads). behind_head h c) there) ∙ is in
        inr (headed, record { names = names; head = head; opens = list_opens (listed names) (drop (front_size names) c) entries (fault_ok (list_in (listed names) (drop (front_size names) c)) entries list) })
    by headed (Refused fault there never) =
        absurd (let bad = sym (ap (λ (h : Heads). behind_head h c) there) ∙ is in cc)

pub journal_is : (c : List ℕ) (entries : List (List FileText)) → OpensJournal c entries → journal_in c ≡ Ok entries
journal_is c entries (inl headless) =
    ap (λ (h : Heads). behind_head h c) (head_none c headless.0)
    ∙ ap (λ (es : List (List FileText)). Ok es) (sym headless.1)
journal_is c entries (inr (headed, behind)) =
    ap (λ (h : Heads). behind_head h c) (head_of c behind.names headed behind.head)
    ∙ ap with_fault (list_reads (listed behind.names) (drop (front_size behind.names) c) entries behind.opens)

pub journal_breaks : (c : List ℕ) (fault : JournalFault) → journal_in c ≡ Err fault → BreaksJournal c
journal_breaks c fault is = elim (head_cases c) [
  | inl headless ↦ absurd (let none = sym (ap (λ (head : Heads). behind_head head c) (head_none c headless)) ∙ is in cc)
  | inr headed ↦ by headed (head_is c headed)
]
  where
    by : IsHeaded c → HeadIs c → BreaksJournal c
    by headed (Names names head there) =
        let list : behind_names names c ≡ Err fault = sym (ap (λ (h : Heads). behind_head h c) there) ∙ is in
        let bad = fault_err (list_in (listed names) (drop (front_size names) c)) fault list in
        (may_headed c headed, inr (record { names = names; head = head; breaks = list_breaks (listed names) (drop (front_size names) c) bad.0 bad.1 }))
    by headed (Refused other there never) = (may_headed c headed, inl never)

-- the open entries are a reading, and every reading begins with them
pub journal_read : (c : List ℕ) (entries : List (List FileText)) → OpensJournal c entries → ReadsJournal c entries
journal_read c entries (inl headless) = inl headless
journal_read c entries (inr (headed, behind)) =
    inr (
      may_headed c headed,
      record {
        names = behind.names;
        head = behind.head;
        reads = opens_read (listed behind.names) 0 0 (drop (front_size behind.names) c) entries behind.opens;
      },
    )

pub journal_begins : (c : List ℕ) (opens reads : List (List FileText)) → OpensJournal c opens → ReadsJournal c reads
    → BeginsSo opens reads
journal_begins c opens reads (inl headless) second =
    (reads, ap (λ (es : List (List FileText)). es ++ reads) (sym headless.1))
journal_begins c opens reads (inr (headed, behind)) (inl headless) = absurd (not_headless c headed headless.0)
journal_begins c opens reads (inr (headed, behind)) (inr (may_be, other)) =
    let rule = listed behind.names in
    let same : other.names ≡ behind.names = same_names c behind.names other.names behind.head other.head in
    let reads_same = subst (λ (names : List (List ℕ)). ReadsFrom (listed names) 0 0 (drop (front_size names) c) reads) same other.reads in
    opens_reads rule 0 0 (drop (front_size behind.names) c) opens reads behind.opens reads_same

pub journal_once : (c : List ℕ) (entries others : List (List FileText)) → OpensJournal c entries → OpensJournal c others
    → others ≡ entries
journal_once c entries others first second =
    let both = sym (journal_is c others second) ∙ journal_is c entries first in cc

-- where it isn't broken there is a reading
pub journal_has_reading : (c : List ℕ) → ¬ BreaksJournal c → (entries : List (List FileText)) × OpensJournal c entries
journal_has_reading c unbroken = by (journal_in c) refl
  where
    by : (r : Result (List (List FileText)) JournalFault) → journal_in c ≡ r
        → (entries : List (List FileText)) × OpensJournal c entries
    by (Ok entries) is = (entries, journal_opens c entries is)
    by (Err fault) is = absurd (unbroken (journal_breaks c fault is))

-- a list that was written behind its head is open up to a closed gate
pub written_opens : (names : List (List ℕ)) (entries : List (List FileText)) (rest : List ℕ) → IsHeader names
    → Fits (listed names) entries → IsClosed rest
    → OpensJournal (front names ++ (list_bytes entries ++ rest)) entries
written_opens names entries rest is fits closed =
    let bytes = list_bytes entries ++ rest in
    let headed : IsHeaded (front names ++ bytes) = record { there = omega arith; gate_is = refl } in
    let opens = opens_list (listed names) entries 0 0 rest fits.each (omega (arith, fits.few)) (omega (arith, fits.within)) closed in
    inr (
      headed,
      record {
        names = names;
        head = front_is_head names is bytes;
        opens = subst (λ (c : List ℕ). OpensFrom (listed names) 0 0 c entries) (sym (drop_front names bytes)) opens;
      },
    )
