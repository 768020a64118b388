-- How a byte stands inside quotes.
use Rattle.std.specs.Prelude.{◌≡◌, ◌≢◌, ℕ, ◌/◌, ◌%◌, ◌==◌, ◌≤◌, ◌<◌, if◌then◌else◌, List, [], ◌∷◌}
use Rattle.std.proofs.Common.{sym, ap, ◌∙◌, inl, inr, arith}
use Rattle.std.proofs.lemmas.Bool.{cases_eq, cases_lt}
use Rattle.std.proofs.lemmas.Bool.Decides.{nat_tests}
use Rattle.model_quoting.specs.Quoted.{hex_digit, quoted_byte}

-- the byte that a letter behind a backslash stands for
abbrev pub byte_of : ℕ → ℕ
byte_of letter = if letter == 110 then 10 else (if letter == 114 then 13 else (if letter == 116 then 9 else letter))

-- a byte is written as a backslash and a letter, which isn't the one that begins hexadecimal digits
pub record IsEscapedBy (b letter : ℕ) : Type 0 where
  pub is : b ≡ byte_of letter
  pub no_hexadecimal : letter ≢ 120
  pub printed : (32 ≤ letter) × (letter < 127)

-- a backslash, `x` and two digits
abbrev pub in_hexadecimal : ℕ → List ℕ
in_hexadecimal b = 92 ∷ 120 ∷ hex_digit (b / 16) ∷ hex_digit (b % 16) ∷ []

-- a byte that stands inside quotes as it is
pub record IsBare (b : ℕ) : Type 0 where
  pub no_control : 32 ≤ b
  pub no_delete : b ≢ 127
  pub no_backslash : b ≢ 92
  pub no_quote : b ≢ 34

-- how a byte stands inside quotes
pub data QuotedAs (b : ℕ) : Type 0 where
  Escaped : (letter : ℕ) → IsEscapedBy b letter → quoted_byte b ≡ 92 ∷ letter ∷ [] → QuotedAs b
  Hexadecimal : b < 128 → quoted_byte b ≡ in_hexadecimal b → QuotedAs b
  Bare : IsBare b → quoted_byte b ≡ b ∷ [] → QuotedAs b

hexadecimal : (b : ℕ) → b ≢ 10 → b ≢ 13 → b ≢ 9 → b < 32 → quoted_byte b ≡ in_hexadecimal b
hexadecimal b feed return tab small =
    let backslash : b ≢ 92 = λ e. omega arith in let quote : b ≢ 34 = λ e. omega arith in grind (arith, nat_tests)

pub quoted_byte-bare : (b : ℕ) → IsBare b → quoted_byte b ≡ b ∷ []
quoted_byte-bare b h =
    let control = h.no_control in let delete = h.no_delete in let backslash = h.no_backslash in let quote = h.no_quote in
    grind (arith, nat_tests)

pub quoted_as : (b : ℕ) → QuotedAs b
quoted_as b =
    elim (cases_eq b 92) [
      | inl e ↦ Escaped 92 (record { is = e; no_hexadecimal = λ f. omega arith; printed = (omega arith, omega arith) }) (ap quoted_byte e)
      | inr backslash ↦ elim (cases_eq b 34) [
        | inl e ↦ Escaped 34 (record { is = e; no_hexadecimal = λ f. omega arith; printed = (omega arith, omega arith) }) (ap quoted_byte e)
        | inr quote ↦ elim (cases_eq b 10) [
          | inl e ↦ Escaped 110 (record { is = e; no_hexadecimal = λ f. omega arith; printed = (omega arith, omega arith) }) (ap quoted_byte e)
          | inr feed ↦ elim (cases_eq b 13) [
            | inl e ↦ Escaped 114 (record { is = e; no_hexadecimal = λ f. omega arith; printed = (omega arith, omega arith) }) (ap quoted_byte e)
            | inr return ↦ elim (cases_eq b 9) [
              | inl e ↦ Escaped 116 (record { is = e; no_hexadecimal = λ f. omega arith; printed = (omega arith, omega arith) }) (ap quoted_byte e)
              | inr tab ↦ elim (cases_lt b 32) [
                | inl small ↦ Hexadecimal (omega arith) (hexadecimal b feed return tab small)
                | inr above ↦ elim (cases_eq b 127) [
                  | inl e ↦ Hexadecimal (omega arith) (ap quoted_byte e ∙ sym (ap in_hexadecimal e))
                  | inr delete ↦ let h : IsBare b = record { no_control = above; no_delete = delete; no_backslash = backslash; no_quote = quote } in Bare h (quoted_byte-bare b h)
                ]
              ]
            ]
          ]
        ]
      ]
    ]
