-- Texts are lists of bytes: when two are one, and their order. (This project's own.)
use Rattle.std.specs.Prelude.{ℕ, nat_eq, Bool, List}
use Rattle.std.specs.Cmp.Lexicographic.{pointwise, slice_cmp}
use Rattle.std.specs.Ordering.{nat_cmp}
use Rattle.std.specs.declared.cmp.Ordering.{Ordering}

-- two lists of bytes are one text
abbrev pub is_text : List ℕ → List ℕ → Bool
is_text a b = pointwise nat_eq a b

-- texts sort by their bytes
abbrev pub text_cmp : List ℕ → List ℕ → Ordering
text_cmp = slice_cmp nat_cmp
