-- What one line of a hosts file says. (After the manual page hosts(5) and Elektra's hosts plugin, in this profile.)
use Rattle.std.specs.Prelude.{ℕ, Bool, true, false, ◌||◌, ◌==◌, if◌then◌else◌, List, [], ◌∷◌, Option, Some, None}
use Rattle.std.specs.List.{filter, list_any, slice_split}
use Rattle.model_lines.specs.Lines.{without_return}

-- what stands before the first `#` of a line, and what stands behind it, if there is one
abbrev pub cut_at_hash : List ℕ → List ℕ × Option (List ℕ)
cut_at_hash [] = ([], None)
cut_at_hash (b ∷ bytes) = let rest = cut_at_hash bytes in if b == 35 then ([], Some bytes) else (b ∷ rest.0, rest.1)

-- a blank or a tab
abbrev pub is_blank : ℕ → Bool
is_blank b = (b == 32) || (b == 9)

abbrev pub is_filled : List ℕ → Bool
is_filled [] = false
is_filled (b ∷ bytes) = true

-- the words between blanks and tabs
abbrev pub words : List ℕ → List (List ℕ)
words bytes = filter is_filled (slice_split is_blank bytes)

-- a line is skipped, is a comment that waits for an entry, is an entry with an address, a host, its aliases and a
-- comment of its own, or can't be read
pub data Meaning : Type 0 where
  Skipped : Meaning
  Comment : List ℕ → Meaning
  Gives : List ℕ → List ℕ → List (List ℕ) → Option (List ℕ) → Meaning
  Unreadable : Meaning

-- what words and a comment say
abbrev pub meaning_of : List (List ℕ) → Option (List ℕ) → Meaning
meaning_of [] None = Skipped
meaning_of [] (Some comment) = Comment comment
meaning_of (word ∷ []) comment = Unreadable
meaning_of (address ∷ host ∷ aliases) comment = Gives address host aliases comment

-- what a line says; a carriage return anywhere but at its end can't be read
abbrev pub meaning : List ℕ → Meaning
meaning line =
    let bytes = without_return line in
    let cut = cut_at_hash bytes in
    if list_any (λ b. b == 13) bytes then Unreadable else meaning_of (words cut.0) cut.1
