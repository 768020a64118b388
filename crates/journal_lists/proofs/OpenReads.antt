-- What the reading of a list's bytes gives, gate by gate, and that it is the reading in which each odd gate counts as
-- 0.
use Rattle.std.proofs.Common.{◌≡◌, ◌≢◌, ◌⊎◌, inl, inr, ℕ, zero, suc, ◌+◌, ◌<◌, ◌≤◌, List, [], ◌∷◌, ◌++◌, length, take, drop, Bool, true, false, cond, Option, Some, None, Result, Ok, Err, refl, sym, ap, ◌∙◌, subst, arith, append_assoc, append-nil}
use Rattle.std.specs.Prelude.{nat_le}
use Rattle.std.proofs.lemmas.Bool.{leb-true, le-leb, false_from_ne_true, cases_lt}
use Rattle.std.proofs.lemmas.Option.{none-some}
use Rattle.journal_codec.specs.declared.files.FileText.{FileText}
use Rattle.std.specs.Result.{IsErrAnd}
use Rattle.journal_steps.specs.declared.faults.JournalFault.{JournalFault}
use Rattle.journal_steps.specs.declared.faults.JournalFault.TheVariants.{BadJournal}
use Rattle.journal_steps.specs.BadJournals.{entries_read}
use Rattle.journal_steps.specs.JournalBytes.{open_length}
use Rattle.journal_steps.proofs.Heads.{open_length-short, open_length-not_open, open_length-bytes, IsOpenHead-length, drop_five}
use Rattle.journal_codec.specs.Forms.{followed}
use Rattle.journal_lists.specs.Grammar.{most_entries, last_place, head_size, size_of, body_of, rest_of, body_in, placed, entry_or_place, IsWhole}
use Rattle.journal_lists.specs.Lists.{MayBeShut, MayBeOpen, IsOpenAt, Follows, OpensFrom, BreaksFrom}
use Rattle.journal_lists.specs.Readings.{with_first, joined, past_last, at_gate, reading, list_in, rest_in, Adds}
use Rattle.journal_lists.specs.Rules.{Rule}

pub drop_drop : (a b : ℕ) (xs : List ℕ) → drop a (drop b xs) ≡ drop (b + a) xs
drop_drop a zero xs = ap (λ (n : ℕ). drop n xs) (sums a)
  where
    sums : (a : ℕ) → a ≡ 0 + a
    sums a = omega arith
drop_drop a (suc b) [] = nothing a ∙ sym (nothing (suc b + a))
  where
    nothing : (n : ℕ) → ◌≡◌ {A = List ℕ} (drop n []) []
    nothing zero = refl
    nothing (suc n) = refl
drop_drop a (suc b) (x ∷ xs) = drop_drop a b xs ∙ sym (ap (λ (n : ℕ). drop n (x ∷ xs)) (sums a b))
  where
    sums : (a b : ℕ) → suc b + a ≡ suc (b + a)
    sums a b = omega arith

-- why an answer is that a body isn't whole
pub fault_is : {X : Type 0} (result : Result X JournalFault) (fault : JournalFault) (at : ℕ)
    → IsErrAnd result (λ e. e ≡ fault) → result ≡ Err (BadJournal at) → fault ≡ BadJournal at
fault_is (Ok x) fault at err is = absurd err
fault_is (Err e) fault at err is = let both = err in cc

pub none_by_not : (o : Option ℕ) → ((n : ℕ) → o ≡ Some n → ⊥) → o ≡ None
none_by_not None not_some = refl
none_by_not (Some n) not_some = absurd (not_some n refl)

-- what stands behind an open gate, by the bytes behind it
pub record IsOpenTail (c : List ℕ) (size : ℕ) : Type 0 where
  pub size_is : size ≡ size_of (drop 1 c)
  pub body_is : take size (drop head_size c) ≡ body_of (drop 1 c)
  pub rest_is : drop size (drop head_size c) ≡ rest_of (drop 1 c)
  pub opened : IsOpenAt c

pub open_tail : (c : List ℕ) (size : ℕ) → open_length c ≡ Some size → IsOpenTail c size
open_tail c size is =
    let head = IsOpenHead-length c size is in
    record {
      size_is = sym head.size_is;
      body_is = ap (take size) (sym (drop_five c)) ∙ ap (λ (n : ℕ). take n (drop 4 (drop 1 c))) (sym head.size_is);
      rest_is = ap (drop size) (sym (drop_five c)) ∙ ap (λ (n : ℕ). drop n (drop 4 (drop 1 c))) (sym head.size_is);
      opened = record { there = head.not_short; gate_is = head.gate_is };
    }

-- a gate at which no length is read may be shut, and one at which it is read is open
pub shut_of : (c : List ℕ) → open_length c ≡ None → MayBeShut c
shut_of c none = elim (cases_lt (length c) 5) [
  | inl short ↦ inl short
  | inr long ↦ inr (λ one. none-some _ (sym none ∙ open_length-bytes c long one))
]

pub none_of : (c : List ℕ) → MayBeShut c → open_length c ≡ None
none_of c (inl short) = open_length-short c short
none_of c (inr not_open) = open_length-not_open c not_open

pub may_open : (c : List ℕ) → IsOpenAt c → MayBeOpen c
may_open c opened = record { there = opened.there; open_too = λ closed. let gate_is = opened.gate_is in omega arith }

pub open_cases : (c : List ℕ) → (open_length c ≡ None) ⊎ IsOpenAt c
open_cases c = by (open_length c) refl
  where
    by : (o : Option ℕ) → open_length c ≡ o → (open_length c ≡ None) ⊎ IsOpenAt c
    by None is = inl is
    by (Some size) is = inr (open_tail c size is).opened

-- how an entry and what stands behind it were joined
abbrev JoinsAs : Result (List FileText) ℕ → Bool → Result (List (List FileText)) ℕ → List (List FileText) → Type 0
JoinsAs r goes_on rest entries = (entry : List FileText) × (r ≡ Ok entry)
    × (((goes_on ≡ false) × (entries ≡ entry ∷ [])) ⊎ ((more : List (List FileText)) × (goes_on ≡ true) × (rest ≡ Ok more) × (entries ≡ entry ∷ more)))

join_ok : (r : Result (List FileText) ℕ) (goes_on : Bool) (rest : Result (List (List FileText)) ℕ)
    (entries : List (List FileText))
    → joined r goes_on rest ≡ Ok entries → JoinsAs r goes_on rest entries
join_ok (Err at) goes_on rest entries is = absurd (cc)
join_ok (Ok entry) false rest entries is = (entry, refl, inl (refl, ap entries_read (sym is)))
join_ok (Ok entry) true (Ok more) entries is = (entry, refl, inr (more, refl, refl, ap entries_read (sym is)))
join_ok (Ok entry) true (Err at) entries is = absurd (cc)

join_err : (r : Result (List FileText) ℕ) (goes_on : Bool) (rest : Result (List (List FileText)) ℕ) (at : ℕ)
    → joined r goes_on rest ≡ Err at
    → (r ≡ Err at) ⊎ ((entry : List FileText) × (r ≡ Ok entry) × (goes_on ≡ true) × (rest ≡ Err at))
join_err (Err place) goes_on rest at is = inl (cc)
join_err (Ok entry) false rest at is = absurd (cc)
join_err (Ok entry) true (Ok more) at is = absurd (cc)
join_err (Ok entry) true (Err place) at is = inr (entry, refl, refl, cc)

join_follows : (goes_on : Bool) (entry : List FileText) (more : List (List FileText)) (GoesOn : Type 0)
    (rest : Result (List (List FileText)) ℕ)
    → Follows goes_on more GoesOn
    → (GoesOn → rest ≡ Ok more) → joined (Ok entry) goes_on rest ≡ Ok (entry ∷ more)
join_follows true entry more GoesOn rest follows reads = ap (with_first entry) (reads follows)
join_follows false entry [] GoesOn rest follows reads = refl
join_follows false entry (other ∷ more) GoesOn rest follows reads = absurd follows

-- what came to a list
pub adds_nothing : (expected : Result (List (List FileText)) ℕ) (old : List (List FileText)) → expected ≡ Ok []
    → Adds expected old old
adds_nothing expected old is = ([], is, sym (append-nil old))

pub adds_one : (expected : Result (List (List FileText)) ℕ) (old : List (List FileText)) (entry : List FileText)
    → expected ≡ Ok (entry ∷ []) → Adds expected old (old ++ entry ∷ [])
adds_one expected old entry is = (entry ∷ [], is, refl)

pub adds_more : (expected rest : Result (List (List FileText)) ℕ) (old new : List (List FileText))
    (entry : List FileText)
    → expected ≡ with_first entry rest → Adds rest (old ++ entry ∷ []) new → Adds expected old new
adds_more expected rest old new entry is adds =
    (entry ∷ adds.0, is ∙ ap (with_first entry) adds.1, adds.2 ∙ append_assoc old (entry ∷ []) adds.0)

pub bad_more : (expected rest : Result (List (List FileText)) ℕ) (entry : List FileText) (at : ℕ)
    → expected ≡ with_first entry rest → rest ≡ Err at → expected ≡ Err at
bad_more expected rest entry at is bad = is ∙ ap (with_first entry) bad

-- where the gate behind an entry stands
abbrev next_place : ℕ → List ℕ → ℕ
next_place place c = place + head_size + size_of (drop 1 c)

-- by the rule of the list
module _ (rule : Rule) where
  -- an entry that doesn't end too late is judged by its body
  pub entry_or_place-within : (place size : ℕ) (there : List ℕ) → place + head_size + size ≤ last_place
      → entry_or_place rule place size there ≡ placed rule place (body_in rule size there)
  unfolding entry_or_place
  entry_or_place-within place size there within =
      ap (λ (b : Bool). cond b (placed rule place (body_in rule size there)) (Err (rule.late place))) (le-leb (place + head_size + size) last_place within)

  pub entry_or_place-past : (place size : ℕ) (there : List ℕ) → last_place < place + head_size + size
      → entry_or_place rule place size there ≡ Err (rule.late place)
  unfolding entry_or_place
  entry_or_place-past place size there past =
      ap (λ (b : Bool). cond b (placed rule place (body_in rule size there)) (Err (rule.late place)))
      (false_from_ne_true (nat_le (place + head_size + size) last_place) (λ yes. let le = leb-true (place + head_size + size) last_place yes in omega arith))

  -- at a gate that isn't open the list ends
  pub reading-shut : (left place : ℕ) (c : List ℕ) → open_length c ≡ None → reading rule left place c ≡ Ok []
  reading-shut zero place c none = ap (past_last rule place) none
  reading-shut (suc left) place c none =
      ap (λ (o : Option ℕ). at_gate rule o place c (reading rule left (place + head_size + size_of (drop 1 c)) (rest_of (drop 1 c)))) none

  reading-open : (left place : ℕ) (c : List ℕ) (size : ℕ) → open_length c ≡ Some size
      → reading rule (suc left) place c
      ≡ joined (entry_or_place rule place size (take size (drop head_size c))) (followed (take size (drop head_size c))) (reading rule left (place + head_size + size) (drop size (drop head_size c)))
  reading-open left place c size is =
      let tail = open_tail c size is in
      ap (λ (o : Option ℕ). at_gate rule o place c (reading rule left (place + head_size + size_of (drop 1 c)) (rest_of (drop 1 c)))) is
      ∙ ap (λ (n : ℕ). joined (entry_or_place rule place size (take size (drop head_size c))) (followed (take size (drop head_size c))) (reading rule left (place + head_size + n) (rest_of (drop 1 c)))) (sym tail.size_is)
      ∙ ap (λ (rest : List ℕ). joined (entry_or_place rule place size (take size (drop head_size c))) (followed (take size (drop head_size c))) (reading rule left (place + head_size + size) rest)) (sym tail.rest_is)

  -- one entry too many, or one that ends too late, isn't whole from its beginning on
  pub reading-many : (left place : ℕ) (c : List ℕ) (size : ℕ) → left ≡ 0 → open_length c ≡ Some size
      → reading rule left place c ≡ Err (rule.late place)
  reading-many left place c size none is = ap (λ (n : ℕ). reading rule n place c) none ∙ ap (past_last rule place) is

  pub reading-late : (left place : ℕ) (c : List ℕ) (size : ℕ) → last_place < place + head_size + size
      → open_length c ≡ Some size → reading rule left place c ≡ Err (rule.late place)
  reading-late zero place c size past is = ap (past_last rule place) is
  reading-late (suc left) place c size past is =
      reading-open left place c size is
      ∙ ap (λ (r : Result (List FileText) ℕ). joined r (followed (take size (drop head_size c))) (reading rule left (place + head_size + size) (drop size (drop head_size c))))
      (entry_or_place-past place size (take size (drop head_size c)) past)

  -- an entry that isn't whole
  pub reading-bad : (left place : ℕ) (c : List ℕ) (size at : ℕ) → left ≢ 0 → open_length c ≡ Some size
      → entry_or_place rule place size (take size (drop head_size c)) ≡ Err at → reading rule left place c ≡ Err at
  reading-bad zero place c size at some is bad = absurd (some refl)
  reading-bad (suc left) place c size at some is bad =
      reading-open left place c size is
      ∙ ap (λ (r : Result (List FileText) ℕ). joined r (followed (take size (drop head_size c))) (reading rule left (place + head_size + size) (drop size (drop head_size c)))) bad

  -- the last entry
  pub reading-last : (left place : ℕ) (c : List ℕ) (size : ℕ) (entry : List FileText) → left ≢ 0
      → open_length c ≡ Some size → entry_or_place rule place size (take size (drop head_size c)) ≡ Ok entry
      → followed (take size (drop head_size c)) ≡ false → reading rule left place c ≡ Ok (entry ∷ [])
  reading-last zero place c size entry some is whole ends = absurd (some refl)
  reading-last (suc left) place c size entry some is whole ends =
      let rest = reading rule left (place + head_size + size) (drop size (drop head_size c)) in
      reading-open left place c size is
      ∙ ap (λ (r : Result (List FileText) ℕ). joined r (followed (take size (drop head_size c))) rest) whole
      ∙ ap (λ (b : Bool). joined (Ok entry) b rest) ends

  -- and one behind which another gate stands
  pub reading-more : (left fewer place next here there : ℕ) (seen : List ℕ) (size : ℕ) (entry : List FileText)
      → left ≡ fewer + 1 → next ≡ place + head_size + size → there ≡ here + head_size + size
      → open_length (drop here seen) ≡ Some size
      → entry_or_place rule place size (take size (drop head_size (drop here seen))) ≡ Ok entry
      → followed (take size (drop head_size (drop here seen))) ≡ true
      → reading rule left place (drop here seen) ≡ with_first entry (reading rule fewer next (drop there seen))
  reading-more left fewer place next here there seen size entry less after behind is whole goes_on =
      let c = drop here seen in
      let rest = reading rule fewer (place + head_size + size) (drop size (drop head_size c)) in
      let one_less : left ≡ suc fewer = omega arith in
      let dropped : drop size (drop head_size c) ≡ drop there seen = ap (drop size) (drop_drop head_size here seen) ∙ drop_drop size (here + head_size) seen ∙ ap (λ (n : ℕ). drop n seen) (sym behind) in
      ap (λ (n : ℕ). reading rule n place c) one_less
      ∙ reading-open fewer place c size is
      ∙ ap (λ (r : Result (List FileText) ℕ). joined r (followed (take size (drop head_size c))) rest) whole
      ∙ ap (λ (b : Bool). joined (Ok entry) b rest) goes_on
      ∙ ap (λ (bytes : List ℕ). with_first entry (reading rule fewer (place + head_size + size) bytes)) dropped
      ∙ ap (λ (n : ℕ). with_first entry (reading rule fewer n (drop there seen))) (sym after)

  -- an entry that is read is whole
  placed_ok : (place : ℕ) (r : Result (List FileText) ℕ) (entry : List FileText) → placed rule place r ≡ Ok entry
      → r ≡ Ok entry
  placed_ok place (Ok other) entry is = is
  placed_ok place (Err at) entry is = absurd (cc)

  cut_entry : (b : Bool) (place : ℕ) (r : Result (List FileText) ℕ) (entry : List FileText)
      → cond b (placed rule place r) (Err (rule.late place)) ≡ Ok entry → (b ≡ true) × (r ≡ Ok entry)
  cut_entry true place r entry is = (refl, placed_ok place r entry is)
  cut_entry false place r entry is = absurd (cc)

  pub whole_of : (number place : ℕ) (tail : List ℕ) (entry : List FileText) → number < most_entries
      → entry_or_place rule place (size_of tail) (body_of tail) ≡ Ok entry → IsWhole rule number place tail entry
  unfolding entry_or_place
  whole_of number place tail entry few_before is =
      let parts = cut_entry (nat_le (place + head_size + size_of tail) last_place) place (body_in rule (size_of tail) (body_of tail)) entry is in
      record {
        few = few_before;
        within = leb-true (place + head_size + size_of tail) last_place parts.0;
        body = parts.1;
      }

  -- and the other way round
  pub entry_of_whole : (number place : ℕ) (tail : List ℕ) (entry : List FileText) → IsWhole rule number place tail entry
      → entry_or_place rule place (size_of tail) (body_of tail) ≡ Ok entry
  entry_of_whole number place tail entry whole =
      entry_or_place-within place (size_of tail) (body_of tail) whole.within ∙ ap (placed rule place) whole.body

  -- what is read from an open gate on, by the bytes behind it
  pub reading-tail : (left place : ℕ) (c : List ℕ) → IsOpenAt c
      → reading rule (suc left) place c
      ≡ joined (entry_or_place rule place (size_of (drop 1 c)) (body_of (drop 1 c))) (followed (body_of (drop 1 c))) (reading rule left (place + head_size + size_of (drop 1 c)) (rest_of (drop 1 c)))
  reading-tail left place c opened = by _ (open_length-bytes c opened.there opened.gate_is)
    where
      by : (size : ℕ) → open_length c ≡ Some size
          → reading rule (suc left) place c
          ≡ joined (entry_or_place rule place (size_of (drop 1 c)) (body_of (drop 1 c))) (followed (body_of (drop 1 c))) (reading rule left (place + head_size + size_of (drop 1 c)) (rest_of (drop 1 c)))
      by size is =
          let tail = open_tail c size is in
          let rest = reading rule left (place + head_size + size_of (drop 1 c)) (rest_of (drop 1 c)) in
          ap (λ (o : Option ℕ). at_gate rule o place c rest) is
          ∙ ap (λ (there : List ℕ). joined (entry_or_place rule place size there) (followed there) rest) tail.body_is
          ∙ ap (λ (n : ℕ). joined (entry_or_place rule place n (body_of (drop 1 c))) (followed (body_of (drop 1 c))) rest) tail.size_is

  -- what is read are the open entries
  opens_suc : (number place : ℕ) (c : List ℕ) (entries : List (List FileText)) (rest : Result (List (List FileText)) ℕ)
      → IsOpenAt c → number < most_entries
      → JoinsAs (entry_or_place rule place (size_of (drop 1 c)) (body_of (drop 1 c))) (followed (body_of (drop 1 c))) rest entries
      → ((more : List (List FileText)) → rest ≡ Ok more → OpensFrom rule (number + 1) (next_place place c) (rest_of (drop 1 c)) more)
      → OpensFrom rule number place c entries
  opens_suc number place c entries rest opened few_before joins on = by joins.2
    where
      whole : IsWhole rule number place (drop 1 c) joins.0
      whole = whole_of number place (drop 1 c) joins.0 few_before joins.1

      by : ((followed (body_of (drop 1 c)) ≡ false) × (entries ≡ joins.0 ∷ []))
          ⊎ ((more : List (List FileText)) × (followed (body_of (drop 1 c)) ≡ true) × (rest ≡ Ok more) × (entries ≡ joins.0 ∷ more)) → OpensFrom rule number place c entries
      by (inl ends) =
          subst (λ (es : List (List FileText)). OpensFrom rule number place c es) (sym ends.1)
          (opened, whole, subst (λ (b : Bool). Follows b [] (OpensFrom rule (number + 1) (next_place place c) (rest_of (drop 1 c)) [])) (sym ends.0) tt)
      by (inr goes) =
          subst (λ (es : List (List FileText)). OpensFrom rule number place c es) (sym goes.3)
          (opened, whole, subst (λ (b : Bool). Follows b goes.0 (OpensFrom rule (number + 1) (next_place place c) (rest_of (drop 1 c)) goes.0)) (sym goes.1) (on goes.0 goes.2))

  pub opens_of : (left number place : ℕ) (c : List ℕ) (entries : List (List FileText)) → number + left ≡ most_entries
      → reading rule left place c ≡ Ok entries → OpensFrom rule number place c entries
  opens_of zero number place c entries all is = elim (open_cases c) [
    | inl none ↦ subst (λ (es : List (List FileText)). OpensFrom rule number place c es) (ap entries_read (sym (reading-shut zero place c none) ∙ is)) (shut_of c none)
    | inr opened ↦ absurd (let bad = sym (reading-many zero place c _ refl (open_length-bytes c opened.there opened.gate_is)) ∙ is in cc)
  ]
  opens_of (suc left) number place c entries all is = elim (open_cases c) [
    | inl none ↦ subst (λ (es : List (List FileText)). OpensFrom rule number place c es) (ap entries_read (sym (reading-shut (suc left) place c none) ∙ is)) (shut_of c none)
    | inr opened ↦
        opens_suc number place c entries (reading rule left (next_place place c) (rest_of (drop 1 c))) opened (omega arith)
        (join_ok _ _ (reading rule left (next_place place c) (rest_of (drop 1 c))) entries (sym (reading-tail left place c opened) ∙ is))
        (λ more read. opens_of left (number + 1) (next_place place c) (rest_of (drop 1 c)) more (omega arith) read)
  ]

  -- and the other way round
  pub opens_is : (left number place : ℕ) (c : List ℕ) (entries : List (List FileText)) → number + left ≡ most_entries
      → OpensFrom rule number place c entries → reading rule left place c ≡ Ok entries
  opens_is left number place c [] all opens = reading-shut left place c (none_of c opens)
  opens_is zero number place c (entry ∷ entries) all opens = let few_before = opens.1.few in absurd (omega arith)
  opens_is (suc left) number place c (entry ∷ entries) all opens =
      let rest = reading rule left (next_place place c) (rest_of (drop 1 c)) in
      reading-tail left place c opens.0
      ∙ ap (λ (r : Result (List FileText) ℕ). joined r (followed (body_of (drop 1 c))) rest) (entry_of_whole number place (drop 1 c) entry opens.1)
      ∙ join_follows (followed (body_of (drop 1 c))) entry entries (OpensFrom rule (number + 1) (next_place place c) (rest_of (drop 1 c)) entries) rest opens.2
      (λ behind. opens_is left (number + 1) (next_place place c) (rest_of (drop 1 c)) entries (omega arith) behind)

  -- where an open entry isn't whole, some reading has one that isn't
  breaks_suc : (number place : ℕ) (c : List ℕ) (at : ℕ) (rest : Result (List (List FileText)) ℕ) → IsOpenAt c
      → number < most_entries
      → (entry_or_place rule place (size_of (drop 1 c)) (body_of (drop 1 c)) ≡ Err at)
      ⊎ ((entry : List FileText) × (entry_or_place rule place (size_of (drop 1 c)) (body_of (drop 1 c)) ≡ Ok entry) × (followed (body_of (drop 1 c)) ≡ true) × (rest ≡ Err at))
      → (rest ≡ Err at → BreaksFrom rule (number + 1) (next_place place c) (rest_of (drop 1 c)))
      → BreaksFrom rule number place c
  breaks_suc number place c at rest opened few_before (inl bad) on =
      ([], record { opened = may_open c opened; never = λ entry whole. absurd (let good = entry_of_whole number place (drop 1 c) entry whole in cc) })
  breaks_suc number place c at rest opened few_before (inr goes) on =
      let deeper = on goes.3 in
      (goes.0 ∷ deeper.0, (may_open c opened, whole_of number place (drop 1 c) goes.0 few_before goes.1, goes.2, deeper.1))

  pub breaks_of : (left number place : ℕ) (c : List ℕ) (at : ℕ) → number + left ≡ most_entries
      → reading rule left place c ≡ Err at → BreaksFrom rule number place c
  breaks_of zero number place c at all is = elim (open_cases c) [
    | inl none ↦ absurd (let good = sym (reading-shut zero place c none) ∙ is in cc)
    | inr opened ↦ ([], record { opened = may_open c opened; never = λ entry whole. let few_before = whole.few in omega arith })
  ]
  breaks_of (suc left) number place c at all is = elim (open_cases c) [
    | inl none ↦ absurd (let good = sym (reading-shut (suc left) place c none) ∙ is in cc)
    | inr opened ↦
        breaks_suc number place c at (reading rule left (next_place place c) (rest_of (drop 1 c))) opened (omega arith)
        (join_err _ _ (reading rule left (next_place place c) (rest_of (drop 1 c))) at (sym (reading-tail left place c opened) ∙ is))
        (λ read. breaks_of left (number + 1) (next_place place c) (rest_of (drop 1 c)) at (omega arith) read)
  ]

  -- the same by the name that doesn't unfold
  pub rest_is : (left place : ℕ) (c : List ℕ) → rest_in rule left place c ≡ reading rule left place c
  unfolding rest_in
  rest_is left place c = refl

  -- the whole journal
  pub list_is : (left : ℕ) (journal : List ℕ) → left ≡ most_entries → reading rule left 0 journal ≡ list_in rule journal
  unfolding list_in
  list_is left journal is = ap (λ (n : ℕ). reading rule n 0 journal) is

  pub list_adds : (left : ℕ) (journal : List ℕ) (new : List (List FileText)) → left ≡ most_entries
      → Adds (rest_in rule left 0 journal) [] new → list_in rule journal ≡ Ok new
  list_adds left journal new is adds =
      sym (list_is left journal is) ∙ sym (rest_is left 0 journal) ∙ adds.1
      ∙ ap (λ (es : List (List FileText)). Ok es) (sym adds.2)

  pub list_bad : (left : ℕ) (journal : List ℕ) (at : ℕ) → left ≡ most_entries → rest_in rule left 0 journal ≡ Err at
      → list_in rule journal ≡ Err at
  list_bad left journal at is bad = sym (list_is left journal is) ∙ sym (rest_is left 0 journal) ∙ bad

  opens_at : (left : ℕ) (journal : List ℕ) (entries : List (List FileText)) → left ≡ most_entries
      → list_in rule journal ≡ Ok entries → OpensFrom rule 0 0 journal entries
  opens_at left journal entries is reads =
      opens_of left 0 0 journal entries (omega arith) (list_is left journal is ∙ reads)

  pub list_opens : (journal : List ℕ) (entries : List (List FileText)) → list_in rule journal ≡ Ok entries
      → OpensFrom rule 0 0 journal entries
  list_opens journal entries reads = opens_at most_entries journal entries refl reads

  breaks_at : (left : ℕ) (journal : List ℕ) (at : ℕ) → left ≡ most_entries → list_in rule journal ≡ Err at
      → BreaksFrom rule 0 0 journal
  breaks_at left journal at is bad = breaks_of left 0 0 journal at (omega arith) (list_is left journal is ∙ bad)

  pub list_breaks : (journal : List ℕ) (at : ℕ) → list_in rule journal ≡ Err at → BreaksFrom rule 0 0 journal
  list_breaks journal at bad = breaks_at most_entries journal at refl bad

  read_at : (left : ℕ) (journal : List ℕ) (entries : List (List FileText)) → left ≡ most_entries
      → OpensFrom rule 0 0 journal entries → list_in rule journal ≡ Ok entries
  read_at left journal entries is opens =
      sym (list_is left journal is) ∙ opens_is left 0 0 journal entries (omega arith) opens

  pub list_reads : (journal : List ℕ) (entries : List (List FileText)) → OpensFrom rule 0 0 journal entries
      → list_in rule journal ≡ Ok entries
  list_reads journal entries opens = read_at most_entries journal entries refl opens
