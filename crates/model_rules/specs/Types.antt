-- The types by their words, and the values that each takes. (Elektra's plugin `type`.)
use Rattle.std.specs.Prelude.{◌≡◌, ℕ, ◌<◌, ◌⊎◌, List, [], ◌∷◌, length, slice_index, if◌then◌else◌, Option, None, Some, ℤ, pos, neg_ℤ, codes}
use Rattle.general_words.specs.Texts.{is_text}
use Rattle.model_rules.specs.Number.{IsNumber, IsWithin}
use Rattle.model_rules.specs.declared.kinds.Kind.{Kind}
use Rattle.model_rules.specs.declared.kinds.Kind.TheVariants.{AnyText, Bit, AsciiByte, Number}

-- a value is of a kind
abbrev pub IsOfKind : Kind → List ℕ → Type 0
IsOfKind AnyText value = Unit {0}
IsOfKind Bit value = (value ≡ codes "1") ⊎ (value ≡ codes "0")
IsOfKind AsciiByte value = (length value ≡ 1) × (slice_index value 0 < 128)
IsOfKind (Number low high) value = (number : ℤ) × IsNumber value number × IsWithin low high number

-- a word with the kind that it stands for
pub record Row : Type 0 where
  pub word : List ℕ
  pub kind : Kind

-- the whole table
abbrev pub types : List Row
types =
    record { word = codes "string"; kind = AnyText }
    ∷ record { word = codes "any"; kind = AnyText }
    ∷ record { word = codes "enum"; kind = AnyText }
    ∷ record { word = codes "boolean"; kind = Bit }
    ∷ record { word = codes "char"; kind = AsciiByte }
    ∷ record { word = codes "octet"; kind = Number (pos 0) (pos 255) }
    ∷ record { word = codes "short"; kind = Number (neg_ℤ (pos 32768)) (pos 32767) }
    ∷ record { word = codes "unsigned_short"; kind = Number (pos 0) (pos 65535) }
    ∷ record { word = codes "long"; kind = Number (neg_ℤ (pos 2147483648)) (pos 2147483647) }
    ∷ record { word = codes "unsigned_long"; kind = Number (pos 0) (pos 4294967295) }
    ∷ record { word = codes "long_long"; kind = Number (neg_ℤ (pos 9223372036854775808)) (pos 9223372036854775807) }
    ∷ record { word = codes "unsigned_long_long"; kind = Number (pos 0) (pos 18446744073709551615) }
    ∷ []

-- the kind of a word in a table
abbrev pub kind_in : List Row → List ℕ → Option Kind
kind_in [] word = None
kind_in (row ∷ rows) word = if is_text word row.word then Some row.kind else kind_in rows word

-- the kind of values that a type takes
unfoldable pub kind_of : List ℕ → Option Kind
kind_of word = kind_in types word
