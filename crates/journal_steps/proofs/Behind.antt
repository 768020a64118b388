-- What stands behind a gate: too little for a length, an entry, or a body that isn't whole.
use Rattle.std.proofs.Common.{◌≡◌, ◌⊎◌, inl, inr, ℕ, ◌<◌, ◌≤◌, List, [], ◌∷◌, length, take, drop, Bool, cond, Some, None, Result, Ok, Err, ap, ◌∙◌, arith}
use Rattle.std.specs.Prelude.{nat_le, nat_lt}
use Rattle.std.proofs.lemmas.Bool.{leb-true, le-leb, false_from_ne_true, cases_lt, ltb-true, lt-ltb}
use Rattle.journal_codec.specs.declared.files.FileText.{FileText}
use Rattle.journal_codec.specs.Entry.{number_of}
use Rattle.journal_codec.specs.Reading.{read_body}
use Rattle.journal_steps.specs.JournalBytes.{longest_body, body_or_place, entry_or_place, one_entry, length_at, entries_of, entries_behind}

-- a body that isn't too long is judged by its bytes
pub few : (size : ℕ) (there : List ℕ) → size ≤ longest_body
    → entry_or_place size there ≡ body_or_place (read_body there) size (length there)
unfolding entry_or_place
few size there small =
    ap (λ (b : Bool). cond b (Err 0) (body_or_place (read_body there) size (length there)))
    (false_from_ne_true (nat_lt longest_body size) (λ long. let lt = ltb-true longest_body size long in omega arith))

pub entry_or_place-many : (size : ℕ) (there : List ℕ) → longest_body < size → entry_or_place size there ≡ Err 0
unfolding entry_or_place
entry_or_place-many size there long =
    ap (λ (b : Bool). cond b (Err 0) (body_or_place (read_body there) size (length there))) (lt-ltb longest_body size long)

-- too few bytes have no length
pub behind-short : (tail : List ℕ) → length tail < 4 → entries_behind tail ≡ Ok []
unfolding entries_behind length_at
behind-short tail short =
    ap (λ (b : Bool). entries_of (cond b (Some (number_of (take 4 tail))) None) tail)
    (false_from_ne_true (nat_le 4 (length tail)) (λ long. let le = leb-true 4 (length tail) long in omega arith))

pub behind-long : (tail : List ℕ) → 4 ≤ length tail
    → entries_behind tail
    ≡ one_entry (entry_or_place (number_of (take 4 tail)) (take (number_of (take 4 tail)) (drop 4 tail)))
unfolding entries_behind length_at
behind-long tail long =
    ap (λ (b : Bool). entries_of (cond b (Some (number_of (take 4 tail))) None) tail) (le-leb 4 (length tail) long)

one_or_bad : (tail : List ℕ) (r : Result (List FileText) ℕ) → entries_behind tail ≡ one_entry r
    → ((entry : List FileText) × (entries_behind tail ≡ Ok (entry ∷ []))) ⊎ ((at : ℕ) × (entries_behind tail ≡ Err at))
one_or_bad tail (Ok entry) is = inl (entry, is)
one_or_bad tail (Err at) is = inr (at, is)

pub behind_cases : (tail : List ℕ)
    → (length tail < 4) ⊎ ((entry : List FileText) × (entries_behind tail ≡ Ok (entry ∷ [])))
    ⊎ ((at : ℕ) × (entries_behind tail ≡ Err at))
behind_cases tail = elim (cases_lt (length tail) 4) [
  | inl short ↦ inl short
  | inr long ↦ inr (one_or_bad tail (entry_or_place (number_of (take 4 tail)) (take (number_of (take 4 tail)) (drop 4 tail))) (behind-long tail long))
]
