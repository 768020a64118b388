-- The words of a script's line. (This project's own.)
use Rattle.std.specs.Prelude.{◌≡◌, ◌⊎◌, ℕ, ◌<◌, ◌≤◌, Bool, true, false, not, ◌&&◌, ◌||◌, ◌==◌, if◌then◌else◌, List, [], ◌∷◌, ◌++◌, length, drop}
use Rattle.std.specs.List.{list_all}
use Rattle.std.specs.Str.{IsUtf8}
use Rattle.batch_script.specs.Letters.{StandsFor}

-- a blank or a tab
abbrev pub is_blank : ℕ → Bool
is_blank b = (b == 32) || (b == 9)

-- a run of other bytes that doesn't begin with a quote
abbrev pub is_bare : List ℕ → Bool
is_bare [] = false
is_bare (b ∷ bytes) = not (b == 34) && list_all (λ c. not (is_blank c)) (b ∷ bytes)

-- such a run stands for itself, and bytes in quotes for what they write
abbrev pub IsSpelled : List ℕ → List ℕ → Type 0
IsSpelled bytes word =
    ((is_bare bytes ≡ true) × (bytes ≡ word)) ⊎ ((inside : List ℕ) × (bytes ≡ 34 ∷ (inside ++ 34 ∷ [])) × StandsFor inside word)

-- a word ends with the line, or a blank or a tab stands behind it
abbrev pub EndsWord : List ℕ → Type 0
EndsWord [] = Unit {0}
EndsWord (b ∷ bytes) = is_blank b ≡ true

-- the first word of a line, and what stands behind it
pub record IsFirstWord (line word rest : List ℕ) : Type 0 where
  pub gap : List ℕ
  pub bytes : List ℕ
  pub line_is : line ≡ gap ++ (bytes ++ rest)
  pub blank : list_all is_blank gap ≡ true
  pub spelled : IsSpelled bytes word
  pub utf8 : IsUtf8 word
  pub apart : EndsWord rest

-- a line has just these words
abbrev pub HasWords : List ℕ → List (List ℕ) → Type 0
HasWords line [] = list_all is_blank line ≡ true
HasWords line (word ∷ words) = (rest : List ℕ) × IsFirstWord line word rest × HasWords rest words

-- a line's first character past blanks and tabs is `#`
pub record IsComment (line : List ℕ) : Type 0 where
  pub gap : List ℕ
  pub comment : List ℕ
  pub line_is : line ≡ gap ++ 35 ∷ comment
  pub blank : list_all is_blank gap ≡ true

-- what is left behind the blanks and tabs at the front
abbrev pub behind_blanks : List ℕ → List ℕ
behind_blanks [] = []
behind_blanks (b ∷ bytes) = if is_blank b then behind_blanks bytes else b ∷ bytes

-- the first word of a line, where so many of its bytes are the word with the blanks before it
abbrev pub IsFirstTaken : List ℕ → List ℕ × ℕ → Type 0
IsFirstTaken line found = (found.1 ≤ length line) × (0 < found.1) × IsFirstWord line found.0 (drop found.1 line)

-- a line has no first word
abbrev pub LacksWord : List ℕ → Type 0
LacksWord line = (word rest : List ℕ) → IsFirstWord line word rest → ⊥

-- a quote at the front ends a word
abbrev pub closes : List ℕ → Bool
closes [] = false
closes (b ∷ []) = b == 34
closes (b ∷ c ∷ bytes) = (b == 34) && is_blank c

-- what stands behind the blanks of a line means nothing: there is nothing, or a comment
abbrev pub is_nothing : List ℕ → Bool
is_nothing [] = true
is_nothing (b ∷ bytes) = b == 35
