-- What is written in quotes is read again, and what is read was written.
use Rattle.std.specs.Prelude.{◌≡◌, ◌≢◌, ◌⊎◌, ℕ, ◌+◌, ◌-◌, ◌*◌, ◌/◌, ◌%◌, ◌<◌, ◌≤◌, ◌==◌, nat_lt, true, List, [], ◌∷◌, ◌++◌, length, Option, Some, None}
use Rattle.std.specs.Option.{option_map}
use Rattle.std.proofs.Common.{refl, sym, ap, subst, ◌∙◌, inl, inr, arith, append_assoc}
use Rattle.std.proofs.lemmas.Bool.{cases_eq, cases_lt, cond-true, cond-false, eq-eqb, ne_eqb, ltb-true, lt-ltb}
use Rattle.std.proofs.lemmas.Bool.Decides.{nat_tests}
use Rattle.std.proofs.lemmas.Option.{cond_some, none-some, option_and_then_some, same_Some}
use Rattle.model_quoting.specs.Quoted.{hex_digit, quoted_byte}
use Rattle.model_quoting.proofs.QuotedAs.{IsBare, quoted_byte-bare}
use Rattle.batch_script.specs.Letters.{hex_value, byte_of_digits, hexadecimal_at, short_escape, escaped_at, is_plain, written_at, IsHexadecimal, IsWritten, StandsFor}
use Rattle.model_names.proofs.RefusesLemmas.{from_map}

-- ---- written, then read

hex_value-low : (n : ℕ) → n < 10 → hex_value (48 + n) ≡ Some ((48 + n) - 48)
hex_value-low n small = grind (arith, nat_tests)

hex_value-high : (n : ℕ) → 10 ≤ n → n < 16 → hex_value (87 + n) ≡ Some ((87 + n) - 87)
hex_value-high n big small = grind (arith, nat_tests)

hex_digit-low : (n : ℕ) → n < 10 → hex_digit n ≡ 48 + n
hex_digit-low n small = grind (arith, nat_tests)

hex_digit-high : (n : ℕ) → 10 ≤ n → hex_digit n ≡ 87 + n
hex_digit-high n big = grind (arith, nat_tests)

hex_value-hex_digit : (n : ℕ) → n < 16 → hex_value (hex_digit n) ≡ Some n
hex_value-hex_digit n small =
    elim (cases_lt n 10) [
      | inl low ↦ ap hex_value (hex_digit-low n low) ∙ hex_value-low n low ∙ ap (λ (m : ℕ). Some m) (omega arith)
      | inr high ↦ ap hex_value (hex_digit-high n high) ∙ hex_value-high n high small ∙ ap (λ (m : ℕ). Some m) (omega arith)
    ]

byte_of_values : (first second high low : ℕ) → hex_value first ≡ Some high → hex_value second ≡ Some low
    → 16 * high + low < 128 → byte_of_digits first second ≡ Some (16 * high + low)
byte_of_values first second high low is_high is_low small =
    rw is_high (rw is_low (cond-true (nat_lt (16 * high + low) 128) (Some (16 * high + low)) None (lt-ltb (16 * high + low) 128 small)))

byte_of_hexadecimal : (b : ℕ) → b < 128 → byte_of_digits (hex_digit (b / 16)) (hex_digit (b % 16)) ≡ Some b
byte_of_hexadecimal b small =
    let high : b / 16 < 16 = omega arith in
    let low : b % 16 < 16 = omega arith in
    let whole : 16 * (b / 16) + b % 16 ≡ b = omega arith in
    byte_of_values (hex_digit (b / 16)) (hex_digit (b % 16)) (b / 16) (b % 16) (hex_value-hex_digit (b / 16) high) (hex_value-hex_digit (b % 16) low) (omega (arith, whole))
    ∙ ap (λ (m : ℕ). Some m) whole

in_hexadecimal : (b : ℕ) → b ≢ 92 → b ≢ 34 → b ≢ 10 → b ≢ 13 → b ≢ 9 → (b < 32) ⊎ (b ≡ 127)
    → quoted_byte b ≡ 92 ∷ 120 ∷ hex_digit (b / 16) ∷ hex_digit (b % 16) ∷ []
in_hexadecimal b backslash quote feed return tab (inl small) = grind (arith, nat_tests)
in_hexadecimal b backslash quote feed return tab (inr delete) =
    subst (λ b. quoted_byte b ≡ 92 ∷ 120 ∷ hex_digit (b / 16) ∷ hex_digit (b % 16) ∷ []) (sym delete) refl

written_at-hexadecimal : (b : ℕ) (more : List ℕ) → b < 128
    → quoted_byte b ≡ 92 ∷ 120 ∷ hex_digit (b / 16) ∷ hex_digit (b % 16) ∷ []
    → written_at (quoted_byte b ++ more) ≡ Some (b, more)
written_at-hexadecimal b more small is =
    ap (λ text. written_at (text ++ more)) is ∙ ap (option_map (λ byte. (byte, more))) (byte_of_hexadecimal b small)

written_at-bare : (b : ℕ) (more : List ℕ) → IsBare b → written_at (b ∷ more) ≡ Some (b, more)
written_at-bare b more h =
    let control = h.no_control in let delete = h.no_delete in let backslash = h.no_backslash in let quote = h.no_quote in
    let plain : is_plain b ≡ true = grind (arith, nat_tests) in
    cond-false (b == 92) _ _ (ne_eqb b 92 backslash) ∙ cond-true (is_plain b) _ _ plain

written_at-quoted : (b : ℕ) (more : List ℕ) → written_at (quoted_byte b ++ more) ≡ Some (b, more)
written_at-quoted b more =
    let Goal = λ (b : ℕ). written_at (quoted_byte b ++ more) ≡ Some (b, more) in
    elim (cases_eq b 92) [
      | inl e ↦ subst Goal (sym e) refl
      | inr backslash ↦ elim (cases_eq b 34) [
        | inl e ↦ subst Goal (sym e) refl
        | inr quote ↦ elim (cases_eq b 10) [
          | inl e ↦ subst Goal (sym e) refl
          | inr feed ↦ elim (cases_eq b 13) [
            | inl e ↦ subst Goal (sym e) refl
            | inr return ↦ elim (cases_eq b 9) [
              | inl e ↦ subst Goal (sym e) refl
              | inr tab ↦ elim (cases_lt b 32) [
                | inl small ↦ written_at-hexadecimal b more (omega arith) (in_hexadecimal b backslash quote feed return tab (inl small))
                | inr above ↦ elim (cases_eq b 127) [
                  | inl e ↦ written_at-hexadecimal b more (omega arith) (in_hexadecimal b backslash quote feed return tab (inr e))
                  | inr delete ↦
                      let h : IsBare b = record { no_control = above; no_delete = delete; no_backslash = backslash; no_quote = quote } in
                      ap (λ text. written_at (text ++ more)) (quoted_byte-bare b h) ∙ written_at-bare b more h
                ]
              ]
            ]
          ]
        ]
      ]
    ]

pub written_at-written : (first : List ℕ) (b : ℕ) (more : List ℕ) → IsWritten first b
    → written_at (first ++ more) ≡ Some (b, more)
written_at-written first b more (inl quoted) = ap (λ text. written_at (text ++ more)) quoted ∙ written_at-quoted b more
written_at-written first b more (inr h) =
    ap (λ text. written_at (text ++ more)) h.text_is
    ∙ ap (option_map (λ byte. (byte, more))) (byte_of_values h.first h.second h.high h.low h.high_is h.low_is (omega (arith, h.byte_is, h.ascii)))
    ∙ ap (λ (byte : ℕ). Some (byte, more)) (sym h.byte_is)

-- ---- read, so written

pub record IsAhead (bytes : List ℕ) (b : ℕ) (more : List ℕ) : Type 0 where
  pub first : List ℕ
  pub is : bytes ≡ first ++ more
  pub written : IsWritten first b

digits-found : (first second b : ℕ) → byte_of_digits first second ≡ Some b
    → IsHexadecimal (92 ∷ 120 ∷ first ∷ second ∷ []) b
digits-found first second b e =
    option_and_then_some _ (hex_value first) b e (λ high is_high e1.
    option_and_then_some _ (hex_value second) b e1 (λ low is_low e2.
    let parts = cond_some (nat_lt (16 * high + low) 128) (16 * high + low) b e2 in
    let small = ltb-true (16 * high + low) 128 parts.0 in
    record {
      first = first;
      second = second;
      high = high;
      low = low;
      text_is = refl;
      high_is = is_high;
      low_is = is_low;
      byte_is = sym parts.1;
      ascii = omega (arith, small, parts.1);
    }))

hexadecimal-found : (bytes : List ℕ) (b : ℕ) (more : List ℕ) → hexadecimal_at bytes ≡ Some (b, more)
    → IsAhead (92 ∷ 120 ∷ bytes) b more
hexadecimal-found [] b more e = absurd (none-some _ e)
hexadecimal-found (first ∷ []) b more e = absurd (none-some _ e)
hexadecimal-found (first ∷ second ∷ bytes) b more e =
    let found = from_map (λ (byte : ℕ). (byte, bytes)) (byte_of_digits first second) (b, more) e in
    let byte : found.0 ≡ b = ap (λ p. p.0) found.2 in
    let rest : bytes ≡ more = ap (λ p. p.1) found.2 in
    record {
      first = 92 ∷ 120 ∷ first ∷ second ∷ [];
      is = ap (λ rest. 92 ∷ 120 ∷ first ∷ second ∷ rest) rest;
      written = inr (subst (IsHexadecimal (92 ∷ 120 ∷ first ∷ second ∷ [])) byte (digits-found first second found.0 found.1));
    }

-- a letter that is known stands behind a backslash as the byte is quoted
known-found : (letter known b byte : ℕ) → letter ≡ known → short_escape known ≡ Some byte
    → 92 ∷ known ∷ [] ≡ quoted_byte byte → short_escape letter ≡ Some b → 92 ∷ letter ∷ [] ≡ quoted_byte b
known-found letter known b byte is stands quotes e =
    let same : byte ≡ b = same_Some byte b (sym stands ∙ ap short_escape (sym is) ∙ e) in
    ap (λ (l : ℕ). 92 ∷ l ∷ []) is ∙ quotes ∙ ap quoted_byte same

short_escape-found : (letter b : ℕ) → short_escape letter ≡ Some b → 92 ∷ letter ∷ [] ≡ quoted_byte b
short_escape-found letter b e =
    elim (cases_eq letter 92) [
      | inl is ↦ known-found letter 92 b 92 is refl refl e
      | inr backslash ↦ elim (cases_eq letter 34) [
        | inl is ↦ known-found letter 34 b 34 is refl refl e
        | inr quote ↦ elim (cases_eq letter 110) [
          | inl is ↦ known-found letter 110 b 10 is refl refl e
          | inr feed ↦ elim (cases_eq letter 114) [
            | inl is ↦ known-found letter 114 b 13 is refl refl e
            | inr return ↦ elim (cases_eq letter 116) [
              | inl is ↦ known-found letter 116 b 9 is refl refl e
              | inr tab ↦ let none : short_escape letter ≡ None = grind (arith, nat_tests) in absurd (none-some b (sym none ∙ e))
            ]
          ]
        ]
      ]
    ]

escaped-found : (bytes : List ℕ) (b : ℕ) (more : List ℕ) → escaped_at bytes ≡ Some (b, more)
    → IsAhead (92 ∷ bytes) b more
escaped-found [] b more e = absurd (none-some _ e)
escaped-found (letter ∷ bytes) b more e =
    elim (cases_eq letter 120) [
      | inl is ↦
          let found = hexadecimal-found bytes b more (sym (cond-true (letter == 120) _ _ (eq-eqb letter 120 is)) ∙ e) in
          record { first = found.first; is = ap (λ (l : ℕ). 92 ∷ l ∷ bytes) is ∙ found.is; written = found.written }
      | inr other ↦
          let found = from_map (λ (byte : ℕ). (byte, bytes)) (short_escape letter) (b, more) (sym (cond-false (letter == 120) _ _ (ne_eqb letter 120 other)) ∙ e) in
          let byte : found.0 ≡ b = ap (λ p. p.0) found.2 in
          let rest : bytes ≡ more = ap (λ p. p.1) found.2 in
          record {
            first = 92 ∷ letter ∷ [];
            is = ap (λ rest. 92 ∷ letter ∷ rest) rest;
            written = inl (short_escape-found letter found.0 found.1 ∙ ap quoted_byte byte);
          }
    ]

-- a byte that stands as it is
plain-bare : (b : ℕ) → b ≢ 92 → is_plain b ≡ true → IsBare b
plain-bare b backslash plain = record {
  no_control = grind (arith, nat_tests);
  no_delete = λ e. let e' = e in grind (arith, nat_tests);
  no_backslash = backslash;
  no_quote = λ e. let e' = e in grind (arith, nat_tests);
}

pub written_at-found : (bytes : List ℕ) (b : ℕ) (more : List ℕ) → written_at bytes ≡ Some (b, more)
    → IsAhead bytes b more
written_at-found [] b more e = absurd (none-some _ e)
written_at-found (a ∷ bytes) b more e =
    elim (cases_eq a 92) [
      | inl is ↦
          let found = escaped-found bytes b more (sym (cond-true (a == 92) _ _ (eq-eqb a 92 is)) ∙ e) in
          record { first = found.first; is = ap (λ (c : ℕ). c ∷ bytes) is ∙ found.is; written = found.written }
      | inr other ↦
          let parts = cond_some (is_plain a) (a, bytes) (b, more) (sym (cond-false (a == 92) _ _ (ne_eqb a 92 other)) ∙ e) in
          let byte : a ≡ b = ap (λ p. p.0) parts.1 in
          let rest : bytes ≡ more = ap (λ p. p.1) parts.1 in
          record {
            first = a ∷ [];
            is = ap (λ rest. a ∷ rest) rest;
            written = inl (sym (quoted_byte-bare a (plain-bare a other parts.0)) ∙ ap quoted_byte byte);
          }
    ]

-- nothing is written by no byte
pub written-some : (first : List ℕ) (b : ℕ) → IsWritten first b → 0 < length first
written-some [] b h =
    let none : ◌≡◌ {A = Option (ℕ × List ℕ)} None (Some (b, [])) = written_at-written [] b [] h in absurd (none-some _ none)
written-some (a ∷ first) b h = omega arith

-- ---- one text

-- bytes that stand for a text, with what stands for one in quotes before its last quote: they go on as far as it does
pub stands-once : (text word inside other rest behind : List ℕ) → StandsFor inside text → StandsFor other word
    → inside ++ rest ≡ other ++ 34 ∷ behind → written_at rest ≡ None → (text ≡ word) × (rest ≡ 34 ∷ behind)
stands-once [] [] inside other rest behind p q e none =
    (refl, sym (ap (λ i. i ++ rest) p) ∙ e ∙ ap (λ i. i ++ 34 ∷ behind) q)
stands-once [] (b ∷ word) inside other rest behind p q e none =
    let is : rest ≡ q.0 ++ (q.1 ++ 34 ∷ behind) = sym (ap (λ i. i ++ rest) p) ∙ e ∙ ap (λ i. i ++ 34 ∷ behind) q.2 ∙ append_assoc q.0 q.1 (34 ∷ behind) in
    absurd (none-some _ (sym none ∙ ap written_at is ∙ written_at-written q.0 b (q.1 ++ 34 ∷ behind) q.3))
stands-once (b ∷ text) [] inside other rest behind p q e none =
    let is : 34 ∷ behind ≡ p.0 ++ (p.1 ++ rest) = sym (ap (λ i. i ++ 34 ∷ behind) q) ∙ sym e ∙ ap (λ i. i ++ rest) p.2 ∙ append_assoc p.0 p.1 rest in
    let found : ◌≡◌ {A = Option (ℕ × List ℕ)} None (Some (b, p.1 ++ rest)) = ap written_at is ∙ written_at-written p.0 b (p.1 ++ rest) p.3 in
    absurd (none-some _ found)
stands-once (b ∷ text) (c ∷ word) inside other rest behind p q e none =
    let is : p.0 ++ (p.1 ++ rest) ≡ q.0 ++ (q.1 ++ 34 ∷ behind) =
    sym (ap (λ i. i ++ rest) p.2 ∙ append_assoc p.0 p.1 rest) ∙ e ∙ ap (λ i. i ++ 34 ∷ behind) q.2 ∙ append_assoc q.0 q.1 (34 ∷ behind) in
    let same : ◌≡◌ {A = Option (ℕ × List ℕ)} (Some (b, p.1 ++ rest)) (Some (c, q.1 ++ 34 ∷ behind)) =
    sym (written_at-written p.0 b (p.1 ++ rest) p.3) ∙ ap written_at is ∙ written_at-written q.0 c (q.1 ++ 34 ∷ behind) q.3 in
    let pair = same_Some _ _ same in
    let more = stands-once text word p.1 q.1 rest behind p.4 q.4 (ap (λ x. x.1) pair) none in
    let byte : b ≡ c = ap (λ x. x.0) pair in
    (ap (λ (x : ℕ). x ∷ text) byte ∙ ap (λ t. c ∷ t) more.0, more.1)

-- one byte more
pub stands-more : (inside text first : List ℕ) (b : ℕ) → StandsFor inside text → IsWritten first b
    → StandsFor (inside ++ first) (text ++ b ∷ [])
stands-more inside [] first b p written = (first, [], ap (λ i. i ++ first) p ∙ sym (append_none first), written, refl)
  where
    append_none : (xs : List ℕ) → xs ++ [] ≡ xs
    append_none [] = refl
    append_none (x ∷ xs) = ap (λ t. x ∷ t) (append_none xs)
stands-more inside (c ∷ text) first b p written =
    (p.0, p.1 ++ first, ap (λ i. i ++ first) p.2 ∙ append_assoc p.0 p.1 first, p.3, stands-more p.1 text first b p.4 written)
