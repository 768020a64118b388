-- Which cuts of a text are its raw parts, said of the parts themselves. (This project's own.)
use Rattle.std.specs.Prelude.{◌≡◌, ◌≢◌, ℕ, List, [], ◌∷◌, ◌++◌}

-- bytes whose escapes are whole: a byte that is no backslash stands for itself, and a backslash escapes the byte behind
-- it
pub data HasWholeEscapes : List ℕ → Type 0 where
  Empty : HasWholeEscapes []
  Byte : (b : ℕ) (bytes : List ℕ) → b ≢ 92 → HasWholeEscapes bytes → HasWholeEscapes (b ∷ bytes)
  Escape : (b : ℕ) (bytes : List ℕ) → HasWholeEscapes bytes → HasWholeEscapes (92 ∷ b ∷ bytes)

-- a slash that no backslash escapes
pub record HasBareSlash (bytes : List ℕ) : Type 0 where
  pub before : List ℕ
  pub behind : List ℕ
  pub split : bytes ≡ before ++ 47 ∷ behind
  pub whole : HasWholeEscapes before

-- no part has a bare slash, and each part but the last has whole escapes, so that the slash behind it is bare
abbrev pub AreCut : List (List ℕ) → Type 0
AreCut [] = ⊥
AreCut (raw ∷ []) = HasBareSlash raw → ⊥
AreCut (raw ∷ next ∷ raws) = (HasBareSlash raw → ⊥) × HasWholeEscapes raw × AreCut (next ∷ raws)
