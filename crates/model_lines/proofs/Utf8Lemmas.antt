-- A text may be cut at any ASCII byte, and bytes that fail the test of a text are none.
use Rattle.std.specs.Prelude.{◌≡◌, ℕ, ◌+◌, ◌<◌, false, List, [], ◌∷◌, ◌++◌, length}
use Rattle.std.proofs.Common.{get_or, refl, sym, subst, ◌∙◌, arith, length-append}
use Rattle.std.specs.Str.{IsUtf8, is_utf8}
use Rattle.std.proofs.lemmas.Bool.{true≢false}
use Rattle.std.proofs.lemmas.Str.{IsUtf8-take, IsUtf8-drop, is_utf8-from_IsUtf8, IsCharBoundary-before_ascii, IsCharBoundary-after_ascii}
use Rattle.std.proofs.Math.Seq.{take-append_seam, drop-append-add}

at_seam : (b : ℕ) (xs ys : List ℕ) → get_or (xs ++ b ∷ ys) (length xs) 0 ≡ b
at_seam b [] ys = refl
at_seam b (x ∷ xs) ys = at_seam b xs ys

pub utf8-before : (b : ℕ) (xs ys : List ℕ) → b < 128 → IsUtf8 (xs ++ b ∷ ys) → IsUtf8 xs
utf8-before b xs ys small h =
    let bs = xs ++ b ∷ ys in
    let at = at_seam b xs ys in
    let within : length xs < length bs = omega (arith, length-append xs (b ∷ ys)) in
    subst (λ (t : List ℕ). IsUtf8 t) (take-append_seam xs (b ∷ ys)) (IsUtf8-take bs (length xs) h (IsCharBoundary-before_ascii bs (length xs) within (omega (arith, at))))

pub utf8-behind : (b : ℕ) (xs ys : List ℕ) → b < 128 → IsUtf8 (xs ++ b ∷ ys) → IsUtf8 ys
utf8-behind b xs ys small h =
    let bs = xs ++ b ∷ ys in
    let at = at_seam b xs ys in
    let within : length xs < length bs = omega (arith, length-append xs (b ∷ ys)) in
    subst (λ (t : List ℕ). IsUtf8 t) (drop-append-add xs (b ∷ ys) 1) (IsUtf8-drop bs (length xs + 1) h (IsCharBoundary-after_ascii bs (length xs) h within (omega (arith, at))))

pub not_utf8 : (bytes : List ℕ) → is_utf8 bytes ≡ false → IsUtf8 bytes → ⊥
not_utf8 bytes e h = true≢false (sym (is_utf8-from_IsUtf8 bytes h) ∙ e)
