-- What the first bytes of `journal2` and its header's bytes say of its head.
use Rattle.std.proofs.Common.{◌≡◌, ◌≢◌, ◌⊎◌, inl, inr, ℕ, ◌+◌, ◌<◌, ◌≤◌, min, List, [], ◌∷◌, length, take, drop, slice_index, Bool, true, false, ◌&&◌, cond, Option, Some, None, Result, Ok, Err, refl, sym, ap, ◌∙◌, arith}
use Rattle.std.specs.Prelude.{nat_le, ◌==◌}
use Rattle.std.proofs.lemmas.Bool.{leb-true, le-leb, false_from_ne_true, eqb-true, cases_eq, cases_lt}
use Rattle.std.proofs.lemmas.List.{take_all}
use Rattle.journal_codec.specs.declared.faults.DecodeFault.{DecodeFault}
use Rattle.journal_codec.specs.declared.faults.DecodeFault.TheVariants.{BadJournal as BadBytes, Memory as OutOfMemory}
use Rattle.journal_codec.specs.Entry.{number_of}
use Rattle.journal_codec.specs.Header.{version, longest_header}
use Rattle.journal_steps.specs.declared.faults.JournalFault.{JournalFault}
use Rattle.journal_steps.specs.declared.faults.JournalFault.TheVariants.{BadJournal, UnknownVersion}
use Rattle.journal_steps.specs.JournalBytes.{gate}
use Rattle.journal_lists.specs.declared.starts.Start.{Start}
use Rattle.journal_lists.specs.Heads.{head_start, version_of, header_size, header_of, header_or_place}
use Rattle.journal_lists.specs.Journals.{with_some, known_head, head_in}
use Rattle.journal_lists.specs.Starts.{start_of_head, told_fault}
use Rattle.journal_lists.proofs.Heads.{header_long}
use Rattle.journal_lists.proofs.Journals.{known_same, known_other}

-- ---- the first six bytes

when_false : (b d : Bool) (o : Option Start) → (b ≡ false) ⊎ (d ≡ false) → cond (b && d) o None ≡ None
when_false b d o (inl shut) = ap (λ (x : Bool). cond (x && d) o None) shut
when_false true d o (inr shut) = ap (λ (x : Bool). cond (true && x) o None) shut
when_false false d o (inr shut) = refl

pub start-short : (c : List ℕ) → length c < head_start → start_of_head c ≡ None
unfolding start_of_head
start-short c short =
    when_false (nat_le head_start (length c)) (gate c == 1) _ (inl (false_from_ne_true (nat_le head_start (length c)) (λ long. let le = leb-true head_start (length c) long in omega arith)))

pub start-not_open : (c : List ℕ) → gate c ≢ 1 → start_of_head c ≡ None
unfolding start_of_head
start-not_open c not_open =
    when_false (nat_le head_start (length c)) (gate c == 1) _ (inr (false_from_ne_true (gate c == 1) (λ is. not_open (eqb-true (gate c) 1 is))))

start-open : (x v a b d e : ℕ) (rest : List ℕ) → x ≡ 1
    → start_of_head (x ∷ v ∷ a ∷ b ∷ d ∷ e ∷ rest)
    ≡ Some (record { version = v; size = number_of (a ∷ b ∷ d ∷ e ∷ []) })
unfolding start_of_head
start-open x v a b d e rest is =
    let long : nat_le 6 (length (x ∷ v ∷ a ∷ b ∷ d ∷ e ∷ rest)) ≡ true = le-leb 6 (length (x ∷ v ∷ a ∷ b ∷ d ∷ e ∷ rest)) (omega arith) in
    let opens : (x == 1) ≡ true = ap (λ (n : ℕ). n == 1) is in
    λ i. cond (long i && opens i) (Some (record { version = v; size = number_of (a ∷ b ∷ d ∷ e ∷ []) })) None

pub start-bytes : (c : List ℕ) → head_start ≤ length c → gate c ≡ 1
    → start_of_head c
    ≡ Some (record { version = slice_index c 1; size = number_of (slice_index c 2 ∷ slice_index c 3 ∷ slice_index c 4 ∷ slice_index c 5 ∷ []) })
start-bytes (x ∷ v ∷ a ∷ b ∷ d ∷ e ∷ rest) long is = start-open x v a b d e rest is
start-bytes [] long is = absurd (omega arith)
start-bytes (x ∷ []) long is = absurd (omega arith)
start-bytes (x ∷ v ∷ []) long is = absurd (omega arith)
start-bytes (x ∷ v ∷ a ∷ []) long is = absurd (omega arith)
start-bytes (x ∷ v ∷ a ∷ b ∷ []) long is = absurd (omega arith)
start-bytes (x ∷ v ∷ a ∷ b ∷ d ∷ []) long is = absurd (omega arith)

front_of_six : (x v a b d e : ℕ) (rest : List ℕ)
    → start_of_head (x ∷ v ∷ a ∷ b ∷ d ∷ e ∷ []) ≡ start_of_head (x ∷ v ∷ a ∷ b ∷ d ∷ e ∷ rest)
front_of_six x v a b d e rest = elim (cases_eq x 1) [
  | inl is ↦ start-open x v a b d e [] is ∙ sym (start-open x v a b d e rest is)
  | inr differs ↦ start-not_open (x ∷ v ∷ a ∷ b ∷ d ∷ e ∷ []) differs ∙ sym (start-not_open (x ∷ v ∷ a ∷ b ∷ d ∷ e ∷ rest) differs)
]

front_of : (c : List ℕ) → head_start ≤ length c → start_of_head (take head_start c) ≡ start_of_head c
front_of (x ∷ v ∷ a ∷ b ∷ d ∷ e ∷ rest) long = front_of_six x v a b d e rest
front_of [] long = absurd (omega arith)
front_of (x ∷ []) long = absurd (omega arith)
front_of (x ∷ v ∷ []) long = absurd (omega arith)
front_of (x ∷ v ∷ a ∷ []) long = absurd (omega arith)
front_of (x ∷ v ∷ a ∷ b ∷ []) long = absurd (omega arith)
front_of (x ∷ v ∷ a ∷ b ∷ d ∷ []) long = absurd (omega arith)

-- they tell it
pub start-front : (c : List ℕ) (n : ℕ) → n ≡ min 6 (length c) → start_of_head (take n c) ≡ start_of_head c
start-front c n is = elim (cases_lt (length c) head_start) [
  | inl short ↦ ap start_of_head (take_all n c (omega arith))
  | inr long ↦ let six : n ≡ 6 = omega arith in ap (λ (k : ℕ). start_of_head (take k c)) six ∙ front_of c long
]

-- ---- the head

pub none_by_not_start : (o : Option Start) → ((start : Start) → o ≡ Some start → ⊥) → o ≡ None
none_by_not_start None not_some = refl
none_by_not_start (Some start) not_some = absurd (not_some start refl)

absent_if : (b : Bool) (start : Start) (head : Result (Option (List (List ℕ))) JournalFault)
    → cond b (Some start) None ≡ None → cond b head (Ok None) ≡ Ok None
absent_if true start head none = absurd (cc)
absent_if false start head none = refl

pub head_absent : (c : List ℕ) → start_of_head c ≡ None → head_in c ≡ Ok None
unfolding start_of_head head_in
head_absent c none =
    absent_if (nat_le head_start (length c) && (gate c == 1)) (record { version = version_of c; size = header_size c }) (known_head (version_of c) c) none

-- behind an open gate the head is read by its version
pub record IsStart (c : List ℕ) (start : Start) : Type 0 where
  pub head : head_in c ≡ known_head (version_of c) c
  pub version_is : start.version ≡ version_of c
  pub size_is : start.size ≡ header_size c

there_if : (b : Bool) (found start : Start) (head : Result (Option (List (List ℕ))) JournalFault)
    → cond b (Some found) None ≡ Some start → (cond b head (Ok None) ≡ head) × (found ≡ start)
there_if true found start head is = (refl, cc)
there_if false found start head is = absurd (cc)

pub start_is : (c : List ℕ) (start : Start) → start_of_head c ≡ Some start → IsStart c start
unfolding start_of_head head_in
start_is c start is =
    let parts = there_if (nat_le head_start (length c) && (gate c == 1)) (record { version = version_of c; size = header_size c }) start (known_head (version_of c) c) is in
    record {
      head = parts.0;
      version_is = sym (ap (λ (s : Start). s.version) parts.1);
      size_is = sym (ap (λ (s : Start). s.size) parts.1);
    }

pub head_unknown : (c : List ℕ) (start : Start) → start_of_head c ≡ Some start → start.version ≢ version
    → head_in c ≡ Err (UnknownVersion start.version)
head_unknown c start is other =
    let from = start_is c start is in
    from.head ∙ known_other c (λ same. other (from.version_is ∙ same))
    ∙ ap (λ (n : ℕ). Err (UnknownVersion n)) (sym from.version_is)

-- with the version that is known, by its header
head_judged : (c : List ℕ) (start : Start) → start_of_head c ≡ Some start → start.version ≡ version
    → head_in c ≡ with_some (header_or_place (header_size c) (header_of c))
head_judged c start is same = let from = start_is c start is in from.head ∙ known_same c (sym from.version_is ∙ same)

pub head_long : (c : List ℕ) (start : Start) → start_of_head c ≡ Some start → start.version ≡ version
    → longest_header < start.size → head_in c ≡ Err (BadJournal 2)
head_long c start is same long =
    let from = start_is c start is in
    let size_is = from.size_is in
    head_judged c start is same ∙ ap with_some (header_long (header_size c) (header_of c) (omega arith))

pub head_by : (c there : List ℕ) (start : Start) (r : Result (List (List ℕ)) ℕ) → start_of_head c ≡ Some start
    → start.version ≡ version → there ≡ take start.size (drop head_start c)
    → header_or_place start.size there ≡ r → head_in c ≡ with_some r
head_by c there start r is same there_is judged =
    let from = start_is c start is in
    head_judged c start is same
    ∙ ap (λ (size : ℕ). with_some (header_or_place size (take size (drop head_start c)))) (sym from.size_is)
    ∙ ap (λ (bytes : List ℕ). with_some (header_or_place start.size bytes)) (sym there_is)
    ∙ ap with_some judged

-- the place that is told of a header that isn't whole
pub told_header : (fault : DecodeFault) (r : Result (List (List ℕ)) ℕ) (at : ℕ)
    → ((inner : ℕ) → fault ≡ BadBytes inner → r ≡ Err (head_start + inner))
    → told_fault head_start fault ≡ BadJournal at → r ≡ Err at
told_header (BadBytes inner) r at bad is =
    let same : head_start + inner ≡ at = cc in bad inner refl ∙ ap (λ (n : ℕ). Err n) same
told_header OutOfMemory r at bad is = absurd (cc)
