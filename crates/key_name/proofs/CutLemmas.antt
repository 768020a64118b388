-- A text is cut into raw parts one by one.
use Rattle.std.proofs.Common.{◌≡◌, ℕ, ◌+◌, ◌<◌, ◌≤◌, Bool, true, false, not, ◌==◌, ◌&&◌, List, [], ◌∷◌, length, take, drop, get_or, suc, refl, sym, ap, subst, ◌∙◌, arith, drop-cons, add-one}
use Rattle.std.specs.List.{onto_first}
use Rattle.std.proofs.lemmas.Bool.{cond-true, cond-false, cond_both, and_parts, and_right, eqb-true, ne_eqb}
use Rattle.model_names.specs.RawParts.{raw_parts, raw_parts_from, put_before}
use Rattle.key_name.specs.Raws.{first_len}

-- what is left of a text begins with its next byte
pub drop-next : (xs : List ℕ) (i : ℕ) → i < length xs → drop i xs ≡ get_or xs i 0 ∷ drop (i + 1) xs
drop-next xs i h = drop-cons xs i 0 h ∙ ap (λ n. get_or xs i 0 ∷ drop n xs) (sym (add-one i))

-- a byte that does not end the first raw part
pub first_len-next : (is_escaped : Bool) (xs : List ℕ) (i : ℕ) → i < length xs
    → (not is_escaped && (get_or xs i 0 == 47)) ≡ false
    → first_len is_escaped (drop i xs) ≡ suc (first_len (not is_escaped && (get_or xs i 0 == 92)) (drop (i + 1) xs))
first_len-next is_escaped xs i h bare =
    ap (first_len is_escaped) (drop-next xs i h) ∙ cond-false (not is_escaped && (get_or xs i 0 == 47)) 0 _ bare

-- a byte that does
pub first_len-end : (is_escaped : Bool) (xs : List ℕ) (i : ℕ) → i < length xs
    → (not is_escaped && (get_or xs i 0 == 47)) ≡ true → first_len is_escaped (drop i xs) ≡ 0
first_len-end is_escaped xs i h bare =
    ap (first_len is_escaped) (drop-next xs i h) ∙ cond-true (not is_escaped && (get_or xs i 0 == 47)) 0 _ bare

-- a text is its first raw part, and what stands behind a slash where one ends it
pub record CutsAt (is_escaped : Bool) (bytes : List ℕ) (n : ℕ) : Type 0 where
  pub within : n ≤ length bytes
  pub slash : n < length bytes → get_or bytes n 0 ≡ 47
  pub more : n < length bytes → raw_parts_from is_escaped bytes ≡ take n bytes ∷ raw_parts (drop (suc n) bytes)
  pub last : n ≡ length bytes → raw_parts_from is_escaped bytes ≡ bytes ∷ []

at_a_slash : (is_escaped : Bool) (b : ℕ) (bytes : List ℕ) → (not is_escaped && (b == 47)) ≡ true
    → CutsAt is_escaped (b ∷ bytes) 0
at_a_slash is_escaped b bytes h =
    let parts = and_parts (not is_escaped) (b == 47) h in
    let slash = eqb-true b 47 parts.1 in
    let next = and_right (not is_escaped) (b == 92) (ne_eqb b 92 (omega arith)) in
    record {
      within = omega arith;
      slash = λ _. slash;
      more = λ _. ap (λ cuts. put_before cuts b (raw_parts_from (not is_escaped && (b == 92)) bytes)) h ∙ ap (λ next. [] ∷ raw_parts_from next bytes) next;
      last = λ e. absurd (omega arith);
    }

past_a_byte : (is_escaped : Bool) (b : ℕ) (bytes : List ℕ) (n : ℕ) → (not is_escaped && (b == 47)) ≡ false
    → CutsAt (not is_escaped && (b == 92)) bytes n → CutsAt is_escaped (b ∷ bytes) (suc n)
past_a_byte is_escaped b bytes n h rest =
    let put = ap (λ cuts. put_before cuts b (raw_parts_from (not is_escaped && (b == 92)) bytes)) h in
    record {
      within = omega (arith, rest.within);
      slash = λ lt. rest.slash (omega arith);
      more = λ lt. put ∙ ap (onto_first b) (rest.more (omega arith));
      last = λ e. put ∙ ap (onto_first b) (rest.last (omega arith));
    }

pub CutsAt-first_len : (is_escaped : Bool) (bytes : List ℕ) → CutsAt is_escaped bytes (first_len is_escaped bytes)
CutsAt-first_len is_escaped [] =
    record {
      within = omega arith;
      slash = λ h. absurd (omega arith);
      more = λ h. absurd (omega arith);
      last = λ _. refl;
    }
CutsAt-first_len is_escaped (b ∷ bytes) =
    cond_both (not is_escaped && (b == 47)) 0 (suc (first_len (not is_escaped && (b == 92)) bytes)) (λ n. CutsAt is_escaped (b ∷ bytes) n)
    (λ h. at_a_slash is_escaped b bytes h)
    (λ h. past_a_byte is_escaped b bytes _ h (CutsAt-first_len (not is_escaped && (b == 92)) bytes))

pub CutsAt-end : (path : List ℕ) (n : ℕ) → n ≡ first_len false path → CutsAt false path n
CutsAt-end path n e = subst (λ (n : ℕ). CutsAt false path n) (sym e) (CutsAt-first_len false path)
