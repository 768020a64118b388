-- What the first bytes of a journal tell, and what the bytes of its body do.
use Rattle.std.proofs.Common.{◌≡◌, ◌≢◌, ℕ, ◌<◌, ◌≤◌, min, List, [], ◌∷◌, length, take, drop, Bool, true, false, ◌&&◌, cond, ◌⊎◌, inl, inr, Option, Some, None, slice_index, refl, sym, ap, ◌∙◌, arith}
use Rattle.std.specs.Prelude.{nat_le, ◌==◌}
use Rattle.std.proofs.lemmas.Bool.{leb-true, le-leb, false_from_ne_true, eqb-true, cases_eq, cases_lt}
use Rattle.std.proofs.lemmas.List.{take_all}
use Rattle.journal_codec.specs.Entry.{number_of}
use Rattle.journal_steps.specs.JournalBytes.{gate, open_length}

when_false : (b c : Bool) (o : Option ℕ) → (b ≡ false) ⊎ (c ≡ false) → cond (b && c) o None ≡ None
when_false b c o (inl shut) = ap (λ (x : Bool). cond (x && c) o None) shut
when_false true c o (inr shut) = ap (λ (x : Bool). cond (true && x) o None) shut
when_false false c o (inr shut) = refl

-- too few bytes have no length
pub open_length-short : (journal : List ℕ) → length journal < 5 → open_length journal ≡ None
unfolding open_length
open_length-short journal short =
    when_false (nat_le 5 (length journal)) (gate journal == 1) _ (inl (false_from_ne_true (nat_le 5 (length journal)) (λ long. let le = leb-true 5 (length journal) long in omega arith)))

-- behind a gate that isn't open no length counts
pub open_length-not_open : (journal : List ℕ) → gate journal ≢ 1 → open_length journal ≡ None
unfolding open_length
open_length-not_open journal not_open =
    when_false (nat_le 5 (length journal)) (gate journal == 1) _ (inr (false_from_ne_true (gate journal == 1) (λ is. not_open (eqb-true (gate journal) 1 is))))

pub open_length-open : (x a b c d : ℕ) (rest : List ℕ) → x ≡ 1
    → open_length (x ∷ a ∷ b ∷ c ∷ d ∷ rest) ≡ Some (number_of (a ∷ b ∷ c ∷ d ∷ []))
unfolding open_length
open_length-open x a b c d rest is =
    let long : nat_le 5 (length (x ∷ a ∷ b ∷ c ∷ d ∷ rest)) ≡ true = le-leb 5 (length (x ∷ a ∷ b ∷ c ∷ d ∷ rest)) (omega arith) in
    let opens : (x == 1) ≡ true = ap (λ (n : ℕ). n == 1) is in
    λ i. cond (long i && opens i) (Some (number_of (a ∷ b ∷ c ∷ d ∷ []))) None

-- the length that an open journal has
pub open_length-bytes : (journal : List ℕ) → 5 ≤ length journal → gate journal ≡ 1
    → open_length journal
    ≡ Some (number_of (slice_index journal 1 ∷ slice_index journal 2 ∷ slice_index journal 3 ∷ slice_index journal 4 ∷ []))
open_length-bytes (x ∷ a ∷ b ∷ c ∷ d ∷ rest) long is = open_length-open x a b c d rest is
open_length-bytes [] long is = absurd (omega arith)
open_length-bytes (x ∷ []) long is = absurd (omega arith)
open_length-bytes (x ∷ a ∷ []) long is = absurd (omega arith)
open_length-bytes (x ∷ a ∷ b ∷ []) long is = absurd (omega arith)
open_length-bytes (x ∷ a ∷ b ∷ c ∷ []) long is = absurd (omega arith)

front_of_five : (x a b c d : ℕ) (rest : List ℕ)
    → open_length (x ∷ a ∷ b ∷ c ∷ d ∷ []) ≡ open_length (x ∷ a ∷ b ∷ c ∷ d ∷ rest)
front_of_five x a b c d rest = elim (cases_eq x 1) [
  | inl is ↦ open_length-open x a b c d [] is ∙ sym (open_length-open x a b c d rest is)
  | inr differs ↦ open_length-not_open (x ∷ a ∷ b ∷ c ∷ d ∷ []) differs ∙ sym (open_length-not_open (x ∷ a ∷ b ∷ c ∷ d ∷ rest) differs)
]

front_of : (journal : List ℕ) → 5 ≤ length journal → open_length (take 5 journal) ≡ open_length journal
front_of (x ∷ a ∷ b ∷ c ∷ d ∷ rest) long = front_of_five x a b c d rest
front_of [] long = absurd (omega arith)
front_of (x ∷ []) long = absurd (omega arith)
front_of (x ∷ a ∷ []) long = absurd (omega arith)
front_of (x ∷ a ∷ b ∷ []) long = absurd (omega arith)
front_of (x ∷ a ∷ b ∷ c ∷ []) long = absurd (omega arith)

-- the first five bytes tell it
pub open_length-front : (journal : List ℕ) (n : ℕ) → n ≡ min 5 (length journal)
    → open_length (take n journal) ≡ open_length journal
open_length-front journal n is = elim (cases_lt (length journal) 5) [
  | inl short ↦ ap open_length (take_all n journal (omega arith))
  | inr long ↦ let five : n ≡ 5 = omega arith in ap (λ (k : ℕ). open_length (take k journal)) five ∙ front_of journal long
]

-- an open gate with a length behind it
pub record IsOpenHead (journal : List ℕ) (size : ℕ) : Type 0 where
  pub not_short : 5 ≤ length journal
  pub gate_is : gate journal ≡ 1
  pub size_is : number_of (take 4 (drop 1 journal)) ≡ size

cond_parts : (b c : Bool) (n size : ℕ) → cond (b && c) (Some n) None ≡ Some size → (b ≡ true) × (c ≡ true) × (n ≡ size)
cond_parts true true n size is = (refl, refl, cc)
cond_parts true false n size is = absurd (cc)
cond_parts false c n size is = absurd (cc)

pub IsOpenHead-length : (journal : List ℕ) (size : ℕ) → open_length journal ≡ Some size → IsOpenHead journal size
unfolding open_length
IsOpenHead-length journal size is =
    let parts = cond_parts (nat_le 5 (length journal)) (gate journal == 1) (number_of (take 4 (drop 1 journal))) size is in
    record {
      not_short = leb-true 5 (length journal) parts.0;
      gate_is = eqb-true (gate journal) 1 parts.1;
      size_is = parts.2;
    }

pub drop_five : (journal : List ℕ) → drop 4 (drop 1 journal) ≡ drop 5 journal
drop_five [] = refl
drop_five (x ∷ journal) = refl
