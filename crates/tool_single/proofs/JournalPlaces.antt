-- The place, or the version, that is told of a journal that isn't opened.
use Rattle.std.proofs.Common.{◌≡◌, ◌≢◌, ◌⊎◌, inl, inr, ℕ, ◌+◌, ◌<◌, ◌≤◌, Bool, List, [], ◌∷◌, ◌++◌, length, take, drop, All, Some, None, Result, Ok, Err, refl, sym, ap, subst, ◌∙◌, append_assoc, arith}
use Rattle.std.proofs.lemmas.Bool.{cases_eq, cases_lt, le-leb}
use Rattle.std.proofs.lemmas.List.{take-append-drop}
use Rattle.std.proofs.lemmas.List.Elements.{All-drop, All-take}
use Rattle.std.proofs.lemmas.Option.{none-some}
use Rattle.intent_journal.specs.Opened.{bad_place, found_in, place_of, told_by, unknown_version, version_in, with_former}
use Rattle.journal_codec.specs.declared.files.FileText.{FileText}
use Rattle.journal_codec.specs.Entry.{journal_name, journal2_name, length_bytes, number_of}
use Rattle.journal_codec.specs.Header.{version, longest_header, spelled_header, read_header}
use Rattle.journal_codec.specs.Reading.{checked}
use Rattle.journal_codec.proofs.FieldLemmas.{IsBytes-from_All, number_takes}
use Rattle.journal_codec.proofs.HeaderLemmas.{header_again, header_is_read, spelling_of_header}
use Rattle.journal_lists.specs.Heads.{head_start, front, front_size, header_of, header_or_place, header_size, version_of, IsHead}
use Rattle.journal_lists.specs.Journals.{IsHeaded, behind_head, former_in, head_in, journal_in, with_fault, with_some}
use Rattle.journal_lists.specs.Readings.{list_in}
use Rattle.journal_lists.specs.Rules.{listed, plain}
use Rattle.journal_lists.proofs.Heads.{drop_front, front_is_head, header_bad, header_cut, header_long, header_whole}
use Rattle.journal_lists.proofs.Journals.{head_cases, head_known, head_none, head_of, known_other, known_same}
use Rattle.journal_steps.specs.declared.faults.JournalFault.{JournalFault}
use Rattle.journal_steps.specs.declared.faults.JournalFault.TheVariants.{BadJournal, DiskFault, Memory, UnknownVersion}
use Rattle.kdb_outside.specs.Images.{Image}
use Rattle.tool_single.specs.Places.{HasOtherVersion, HeaderCut, IsBadAt, IsFormerBadAt, IsHeadBadAt, IsJournalBadAt, IsListBadAt, OfFormer, OfHeader, OfJournal, OfList, TooLong, WrongHeader}
use Rattle.tool_single.proofs.BrokenPlaces.{IsByte, list_alone, list_told}
use Rattle.tool_single.proofs.HeaderPlaces.{header_alone, header_told}

abbrev Entries : Type 0
Entries = List (List FileText)

err_is : {A : Type 0} (a b : ℕ) → ◌≡◌ {A = Result A ℕ} (Err a) (Err b) → a ≡ b
err_is a b e = cc

-- ---- a header

header-bytes : (c : List ℕ) → All IsByte c → All IsByte (header_of c)
header-bytes c bytes = All-take IsByte (header_size c) (drop head_start c) (All-drop IsByte head_start c bytes)

-- a header that isn't whole
head_told : (c : List ℕ) (at : ℕ) → All IsByte c → header_or_place (header_size c) (header_of c) ≡ Err at
    → IsHeadBadAt c at
head_told c at bytes bad = elim (cases_lt longest_header (header_size c)) as (λ x. IsHeadBadAt c at) [
  | inl long ↦ TooLong long (err_is at 2 (sym bad ∙ header_long (header_size c) (header_of c) long))
  | inr short ↦ by short (read_header (header_of c)) refl
]
  where
    by : header_size c ≤ longest_header → (r : Result (List (List ℕ)) ℕ) → read_header (header_of c) ≡ r
        → IsHeadBadAt c at
    by short (Err there) reads =
        WrongHeader short there (header_told (header_of c) there reads) (err_is at (head_start + there) (sym bad ∙ header_bad (header_size c) (header_of c) there short reads))
    by short (Ok names) reads = elim (cases_eq (length (header_of c)) (header_size c)) as (λ x. IsHeadBadAt c at) [
      | inl whole ↦ absurd (let good = sym (header_whole (header_size c) (header_of c) names short reads whole) ∙ bad in cc)
      | inr cut ↦
          HeaderCut short names (header_is_read (header_of c) names reads).good (spelling_of_header (header_of c) names (header-bytes c bytes) reads) cut
          (err_is at (head_start + length (header_of c)) (sym bad ∙ header_cut (header_size c) (header_of c) names short reads cut))
    ]

head_alone : (c : List ℕ) (at : ℕ) → IsHeadBadAt c at → header_or_place (header_size c) (header_of c) ≡ Err at
head_alone c at (TooLong long is) = header_long (header_size c) (header_of c) long ∙ ap Err (sym is)
head_alone c at (WrongHeader short there wrong is) =
    header_bad (header_size c) (header_of c) there short (header_alone (header_of c) there wrong) ∙ ap Err (sym is)
head_alone c at (HeaderCut short names good spelling cut is) =
    header_cut (header_size c) (header_of c) names short (subst (λ (header : List ℕ). read_header header ≡ Ok names) spelling (header_again names good)) cut
    ∙ ap Err (sym is)

-- and one that is
record IsWholeHeader (c : List ℕ) (names : List (List ℕ)) : Type 0 where
  pub reads : read_header (header_of c) ≡ Ok names
  pub sized : length (header_of c) ≡ header_size c

whole_header_of : (c : List ℕ) (names : List (List ℕ)) → header_or_place (header_size c) (header_of c) ≡ Ok names
    → IsWholeHeader c names
whole_header_of c names good = elim (cases_lt longest_header (header_size c)) as (λ x. IsWholeHeader c names) [
  | inl long ↦ absurd (let bad = sym (header_long (header_size c) (header_of c) long) ∙ good in cc)
  | inr short ↦ by short (read_header (header_of c)) refl
]
  where
    by : header_size c ≤ longest_header → (r : Result (List (List ℕ)) ℕ) → read_header (header_of c) ≡ r
        → IsWholeHeader c names
    by short (Err there) reads =
        absurd (let bad = sym (header_bad (header_size c) (header_of c) there short reads) ∙ good in cc)
    by short (Ok others) reads = elim (cases_eq (length (header_of c)) (header_size c)) as (λ x. IsWholeHeader c names) [
      | inl whole ↦
          let both = sym (header_whole (header_size c) (header_of c) others short reads whole) ∙ good in
          let same : others ≡ names = cc in
          record { reads = reads ∙ ap Ok same; sized = whole }
      | inr cut ↦ absurd (let bad = sym (header_cut (header_size c) (header_of c) others short reads cut) ∙ good in cc)
    ]

-- ---- a journal with a whole head begins with it

length_there : (tail : List ℕ) → All IsByte tail → 4 ≤ length tail
    → tail ≡ length_bytes (number_of (take 4 tail)) ++ drop 4 tail
length_there tail bytes long =
    number_takes tail (number_of (take 4 tail), drop 4 tail) (IsBytes-from_All tail bytes)
    (ap (λ (b : Bool). checked b tail (number_of (take 4 tail), drop 4 tail)) (le-leb 4 (length tail) long))

begins : (c : List ℕ) (names : List (List ℕ)) → All IsByte c → IsHeaded c → version_of c ≡ version
    → IsWholeHeader c names → (list : List ℕ) × (c ≡ front names ++ list)
begins [] names bytes headed same whole = absurd (let there = headed.there in omega arith)
begins (a ∷ []) names bytes headed same whole = absurd (let there = headed.there in omega arith)
begins (a ∷ b ∷ tail) names bytes headed same whole =
    let c = a ∷ b ∷ tail in
    let there = headed.there in
    let rest = drop (header_size c) (drop 4 tail) in
    let spelling : spelled_header names ≡ header_of c = spelling_of_header (header_of c) names (header-bytes c bytes) whole.reads in
    let size : header_size c ≡ length (spelled_header names) = sym whole.sized ∙ sym (ap length spelling) in
    let behind : drop 4 tail ≡ spelled_header names ++ rest = sym (take-append-drop (header_size c) (drop 4 tail)) ∙ ap (λ (header : List ℕ). header ++ rest) (sym spelling) in
    let long : 4 ≤ length tail = omega arith in
    let is : tail ≡ length_bytes (length (spelled_header names)) ++ (spelled_header names ++ rest) =
    length_there tail (All-drop IsByte 2 c bytes) long
    ∙ ap (λ (n : ℕ). length_bytes n ++ drop 4 tail) size
    ∙ ap (λ (bs : List ℕ). length_bytes (length (spelled_header names)) ++ bs) behind in
    let first : a ≡ 1 = headed.gate_is in
    let second : b ≡ version = same in (
      rest,
      ap (λ (n : ℕ). n ∷ b ∷ tail) first
          ∙ ap (λ (n : ℕ). 1 ∷ n ∷ tail) second
          ∙ ap (λ (bs : List ℕ). 1 ∷ version ∷ bs) (is ∙ sym (append_assoc (length_bytes (length (spelled_header names))) (spelled_header names) rest)),
    )

-- ---- `journal2`

fault_is : {A : Type 0} (a b : JournalFault) → ◌≡◌ {A = Result A JournalFault} (Err a) (Err b) → a ≡ b
fault_is a b e = cc

list_at : (r : Result Entries ℕ) (at : ℕ) → with_fault r ≡ Err (BadJournal at) → r ≡ Err at
list_at (Ok entries) at is = absurd cc
list_at (Err there) at is = cc

list_known : (r : Result Entries ℕ) (found : ℕ) → with_fault r ≡ Err (UnknownVersion found) → ⊥
list_known (Ok entries) found is = cc
list_known (Err there) found is = cc

-- behind a header gate that isn't open nothing is read
headless_in : (c : List ℕ) (fault : JournalFault) → head_in c ≡ Ok None → journal_in c ≡ Err fault → ⊥
headless_in c fault none is = let good = sym (ap (λ h. behind_head h c) none) ∙ is in cc

-- and before another version nothing else is told
other_in : (c : List ℕ) → IsHeaded c → version_of c ≢ version → journal_in c ≡ Err (UnknownVersion (version_of c))
other_in c headed other = ap (λ h. behind_head h c) (head_known c headed ∙ known_other c other)

known_in : (c : List ℕ) (r : Result (List (List ℕ)) ℕ) → IsHeaded c → version_of c ≡ version
    → header_or_place (header_size c) (header_of c) ≡ r → journal_in c ≡ behind_head (with_some r) c
known_in c r headed same is = ap (λ h. behind_head h c) (head_known c headed ∙ known_same c same ∙ ap with_some is)

journal_told : (c : List ℕ) (at : ℕ) → All IsByte c → journal_in c ≡ Err (BadJournal at) → IsJournalBadAt c at
journal_told c at bytes bad = elim (head_cases c) as (λ x. IsJournalBadAt c at) [
  | inl headless ↦ absurd (headless_in c (BadJournal at) (head_none c headless) bad)
  | inr headed ↦ elim (cases_eq (version_of c) version) as (λ x. IsJournalBadAt c at) [
    | inl same ↦ by headed same (header_or_place (header_size c) (header_of c)) refl
    | inr other ↦ absurd (let both = fault_is (UnknownVersion (version_of c)) (BadJournal at) (sym (other_in c headed other) ∙ bad) in cc)
  ]
]
  where
    by : IsHeaded c → version_of c ≡ version → (r : Result (List (List ℕ)) ℕ)
        → header_or_place (header_size c) (header_of c) ≡ r → IsJournalBadAt c at
    by headed same (Err there) is =
        let both = fault_is (BadJournal there) (BadJournal at) (sym (known_in c (Err there) headed same is) ∙ bad) in
        let place : there ≡ at = cc in
        OfHeader headed same (head_told c at bytes (is ∙ ap Err place))
    by headed same (Ok names) is =
        let whole = whole_header_of c names is in
        let front_is = begins c names bytes headed same whole in
        let list : drop (front_size names) c ≡ front_is.0 = ap (drop (front_size names)) front_is.1 ∙ drop_front names front_is.0 in
        let stops = list_at (list_in (listed names) (drop (front_size names) c)) at (sym (known_in c (Ok names) headed same is) ∙ bad) in
        OfList names (header_is_read (header_of c) names whole.reads).good front_is.0 front_is.1
        (subst (λ (bs : List ℕ). IsListBadAt (Some names) bs at) list (list_told (Some names) (drop (front_size names) c) at (All-drop IsByte (front_size names) c bytes) stops))

journal_alone : (c : List ℕ) (at : ℕ) → All IsByte c → IsJournalBadAt c at → journal_in c ≡ Err (BadJournal at)
journal_alone c at bytes (OfHeader headed same bad) = known_in c (Err at) headed same (head_alone c at bad)
journal_alone c at bytes (OfList names good list is bad) =
    let list_is : drop (front_size names) c ≡ list = ap (drop (front_size names)) is ∙ drop_front names list in
    let headed : IsHeaded c = subst IsHeaded (sym is) (record { there = omega arith; gate_is = refl }) in
    let head : IsHead c names = subst (λ (d : List ℕ). IsHead d names) (sym is) (front_is_head names good list) in
    let list_bytes : All IsByte list = subst (All IsByte) list_is (All-drop IsByte (front_size names) c bytes) in
    ap (λ h. behind_head h c) (head_of c names headed head)
    ∙ ap (λ (bs : List ℕ). with_fault (list_in (listed names) bs)) list_is
    ∙ ap with_fault (list_alone (Some names) list at list_bytes bad)

-- a version that isn't known
record OtherVersion (c : List ℕ) (found : ℕ) : Type 0 where
  pub headed : IsHeaded c
  pub version_is : version_of c ≡ found
  pub other : found ≢ version

version_told : (c : List ℕ) (found : ℕ) → journal_in c ≡ Err (UnknownVersion found) → OtherVersion c found
version_told c found bad = elim (head_cases c) as (λ x. OtherVersion c found) [
  | inl headless ↦ absurd (headless_in c (UnknownVersion found) (head_none c headless) bad)
  | inr headed ↦ elim (cases_eq (version_of c) version) as (λ x. OtherVersion c found) [
    | inl same ↦ absurd (by headed same (header_or_place (header_size c) (header_of c)) refl)
    | inr other ↦
        let both = fault_is (UnknownVersion (version_of c)) (UnknownVersion found) (sym (other_in c headed other) ∙ bad) in
        let is : version_of c ≡ found = cc in
        record { headed = headed; version_is = is; other = λ same. other (is ∙ same) }
  ]
]
  where
    by : IsHeaded c → version_of c ≡ version → (r : Result (List (List ℕ)) ℕ)
        → header_or_place (header_size c) (header_of c) ≡ r → ⊥
    by headed same (Err there) is =
        let both = fault_is (BadJournal there) (UnknownVersion found) (sym (known_in c (Err there) headed same is) ∙ bad) in cc
    by headed same (Ok names) is =
        list_known (list_in (listed names) (drop (front_size names) c)) found (sym (known_in c (Ok names) headed same is) ∙ bad)

-- ---- both journals

abbrev Found : Type 0
Found = Result Entries JournalFault

-- `journal` is told by its place alone
former_at : (r : Result Entries ℕ) (fault : JournalFault) → with_fault r ≡ Err fault
    → (at : ℕ) × (r ≡ Err at) × (fault ≡ BadJournal at)
former_at (Ok entries) fault is = absurd cc
former_at (Err there) fault is = (there, refl, cc)

placed_at : (fault : JournalFault) (at : ℕ) → place_of fault ≡ Some at → fault ≡ BadJournal at
placed_at DiskFault at is = absurd (none-some at is)
placed_at (BadJournal there) at is = cc
placed_at (UnknownVersion found) at is = absurd (none-some at is)
placed_at Memory at is = absurd (none-some at is)

versioned : (fault : JournalFault) (found : ℕ) → version_in fault ≡ Some found → fault ≡ UnknownVersion found
versioned DiskFault found is = absurd (none-some found is)
versioned (BadJournal there) found is = absurd (none-some found is)
versioned (UnknownVersion other) found is = cc
versioned Memory found is = absurd (none-some found is)

module _ (seen : Image) (bytes : All (λ b. b < 256) (seen journal_name)) where
  found_by : (former journal : Found) → former_in (seen journal_name) ≡ former
      → journal_in (seen journal2_name) ≡ journal → found_in seen ≡ with_former former journal
  found_by former journal is also =
      ap (λ (f : Found). with_former f (journal_in (seen journal2_name))) is
      ∙ ap (λ (j : Found). with_former former j) also

  -- a former journal that is read isn't bad, and one that isn't is
  former_whole : (former : Entries) → former_in (seen journal_name) ≡ Ok former → (at : ℕ) → ¬ IsFormerBadAt seen at
  former_whole former is at bad =
      let both = sym (ap with_fault (list_alone None (seen journal_name) at bytes bad)) ∙ is in cc

  former_bad : (fault : JournalFault) → former_in (seen journal_name) ≡ Err fault
      → (at : ℕ) × (IsFormerBadAt seen at × (fault ≡ BadJournal at))
  former_bad fault is =
      let stop = former_at (list_in plain (seen journal_name)) fault is in
      (stop.0, (list_told None (seen journal_name) stop.0 bytes stop.1, stop.2))

  former_reads : ((at : ℕ) → ¬ IsFormerBadAt seen at) → (former : Entries) × (former_in (seen journal_name) ≡ Ok former)
  former_reads none = by (former_in (seen journal_name)) refl
    where
      by : (r : Found) → former_in (seen journal_name) ≡ r
          → (former : Entries) × (former_in (seen journal_name) ≡ Ok former)
      by (Ok former) is = (former, is)
      by (Err fault) is = let bad = former_bad fault is in absurd (none bad.0 bad.1.0)

  pub broken-at : (at : ℕ) → All (λ b. b < 256) (seen journal2_name) → bad_place seen ≡ Some at → IsBadAt seen at
  broken-at at bytes2 told = by (former_in (seen journal_name)) refl (journal_in (seen journal2_name)) refl
    where
      by : (former : Found) → former_in (seen journal_name) ≡ former → (journal : Found)
          → journal_in (seen journal2_name) ≡ journal → IsBadAt seen at
      by (Err fault) is journal also =
          let bad = former_bad fault is in
          let fault_is = placed_at fault at (sym (ap (told_by place_of) (found_by (Err fault) journal is also)) ∙ told) in
          let both = sym bad.1.1 ∙ fault_is in
          let place : bad.0 ≡ at = cc in
          OfFormer (subst (IsFormerBadAt seen) place bad.1.0)
      by (Ok former) is (Ok entries) also =
          absurd (none-some at (sym (ap (told_by place_of) (found_by (Ok former) (Ok entries) is also)) ∙ told))
      by (Ok former) is (Err fault) also =
          let fault_is = placed_at fault at (sym (ap (told_by place_of) (found_by (Ok former) (Err fault) is also)) ∙ told) in
          OfJournal (former_whole former is) (journal_told (seen journal2_name) at bytes2 (also ∙ ap Err fault_is))

  pub at-broken : (at : ℕ) → All (λ b. b < 256) (seen journal2_name) → IsBadAt seen at → bad_place seen ≡ Some at
  at-broken at bytes2 (OfFormer bad) =
      ap (told_by place_of) (found_by (Err (BadJournal at)) (journal_in (seen journal2_name)) (ap with_fault (list_alone None (seen journal_name) at bytes bad)) refl)
  at-broken at bytes2 (OfJournal none bad) =
      let former = former_reads none in
      ap (told_by place_of) (found_by (Ok former.0) (Err (BadJournal at)) former.1 (journal_alone (seen journal2_name) at bytes2 bad))

  pub version-at : (found : ℕ) → unknown_version seen ≡ Some found → HasOtherVersion seen found
  version-at found told = by (former_in (seen journal_name)) refl (journal_in (seen journal2_name)) refl
    where
      by : (former : Found) → former_in (seen journal_name) ≡ former → (journal : Found)
          → journal_in (seen journal2_name) ≡ journal → HasOtherVersion seen found
      by (Err fault) is journal also =
          let bad = former_bad fault is in
          let fault_is = versioned fault found (sym (ap (told_by version_in) (found_by (Err fault) journal is also)) ∙ told) in
          absurd (let both = sym bad.1.1 ∙ fault_is in cc)
      by (Ok former) is (Ok entries) also =
          absurd (none-some found (sym (ap (told_by version_in) (found_by (Ok former) (Ok entries) is also)) ∙ told))
      by (Ok former) is (Err fault) also =
          let fault_is = versioned fault found (sym (ap (told_by version_in) (found_by (Ok former) (Err fault) is also)) ∙ told) in
          let other = version_told (seen journal2_name) found (also ∙ ap Err fault_is) in
          record {
            former = former_whole former is;
            headed = other.headed;
            version_is = other.version_is;
            other = other.other;
          }

  pub at-version : (found : ℕ) → HasOtherVersion seen found → unknown_version seen ≡ Some found
  at-version found has =
      let former = former_reads has.former in
      let other = other_in (seen journal2_name) has.headed (λ same. has.other (sym has.version_is ∙ same)) in
      ap (told_by version_in) (found_by (Ok former.0) (Err (UnknownVersion (version_of (seen journal2_name)))) former.1 other)
      ∙ ap Some has.version_is

-- ---- nothing else refuses them

abbrev IsOfJournal : JournalFault → Type 0
IsOfJournal fault = ((at : ℕ) × (fault ≡ BadJournal at)) ⊎ ((found : ℕ) × (fault ≡ UnknownVersion found))

list_refuses : (r : Result Entries ℕ) (fault : JournalFault) → with_fault r ≡ Err fault → IsOfJournal fault
list_refuses r fault is = let stop = former_at r fault is in inl (stop.0, stop.2)

journal_refuses : (c : List ℕ) (fault : JournalFault) → journal_in c ≡ Err fault → IsOfJournal fault
journal_refuses c fault bad = elim (head_cases c) as (λ x. IsOfJournal fault) [
  | inl headless ↦ absurd (headless_in c fault (head_none c headless) bad)
  | inr headed ↦ elim (cases_eq (version_of c) version) as (λ x. IsOfJournal fault) [
    | inl same ↦ by headed same (header_or_place (header_size c) (header_of c)) refl
    | inr other ↦ inr (version_of c, sym (fault_is (UnknownVersion (version_of c)) fault (sym (other_in c headed other) ∙ bad)))
  ]
]
  where
    by : IsHeaded c → version_of c ≡ version → (r : Result (List (List ℕ)) ℕ)
        → header_or_place (header_size c) (header_of c) ≡ r → IsOfJournal fault
    by headed same (Err there) is =
        inl (there, sym (fault_is (BadJournal there) fault (sym (known_in c (Err there) headed same is) ∙ bad)))
    by headed same (Ok names) is =
        list_refuses (list_in (listed names) (drop (front_size names) c)) fault (sym (known_in c (Ok names) headed same is) ∙ bad)

found_refuses : (seen : Image) (fault : JournalFault) → found_in seen ≡ Err fault → IsOfJournal fault
found_refuses seen fault bad = by (former_in (seen journal_name)) refl (journal_in (seen journal2_name)) refl
  where
    by : (former : Found) → former_in (seen journal_name) ≡ former → (journal : Found)
        → journal_in (seen journal2_name) ≡ journal → IsOfJournal fault
    by (Err other) is journal also =
        list_refuses (list_in plain (seen journal_name)) fault (is ∙ ap Err (fault_is other fault (sym (λ i. with_former (is i) (journal_in (seen journal2_name))) ∙ bad)))
    by (Ok former) is (Err other) also =
        journal_refuses (seen journal2_name) fault (also ∙ ap Err (fault_is other fault (sym (λ i. with_former (is i) (also i)) ∙ bad)))
    by (Ok former) is (Ok entries) also = absurd (let both = sym (λ i. with_former (is i) (also i)) ∙ bad in cc)

-- a journal that is refused is told by a place or by a version
pub journal-refused : (seen : Image) (fault : JournalFault) (X : Type 0) → found_in seen ≡ Err fault
    → ((at : ℕ) → bad_place seen ≡ Some at → X) → ((found : ℕ) → unknown_version seen ≡ Some found → X) → X
journal-refused seen fault X bad by_place by_version = elim (found_refuses seen fault bad) [
  | inl (at, is) ↦ by_place at (ap (told_by place_of) bad ∙ ap place_of is)
  | inr (found, is) ↦ by_version found (ap (told_by version_in) bad ∙ ap version_in is)
]
