-- Bytes cut behind their first word.
use Rattle.std.proofs.Common.{◌≡◌, ℕ, zero, suc, ◌+◌, ◌<◌, true, false, List, [], ◌∷◌, ◌++◌, length, take, drop, get_or, length-take, sym, ap, ◌∙◌, arith}
use Rattle.std.specs.List.{AllByRecursion, filter, slice_split}
use Rattle.std.proofs.lemmas.Bool.{cond-true}
use Rattle.std.proofs.lemmas.List.{take-append-drop, drop_more}
use Rattle.std.proofs.lemmas.List.Elements.{All-from_recursion}
use Rattle.std.proofs.lemmas.List.Splits.{slice_split_none, slice_split_at}
use Rattle.model_hosts.specs.Line.{is_blank, is_filled, words}

-- a byte that isn't blank
abbrev pub IsFilledByte : ℕ → Type 0
IsFilledByte b = is_blank b ≡ false

-- a blank is no word
pub words-blank : (blank : ℕ) (rest : List ℕ) → is_blank blank ≡ true → words (blank ∷ rest) ≡ words rest
words-blank blank rest is = ap (filter is_filled) (cond-true (is_blank blank) _ _ is)

filter-front : (word : List ℕ) (rest : List (List ℕ)) → 0 < length word
    → filter is_filled (word ∷ rest) ≡ word ∷ filter is_filled rest
filter-front [] rest some = absurd (omega arith)
filter-front (b ∷ word) rest some = ap (λ ws. (b ∷ word) ∷ ws) (λ i. filter is_filled rest)

-- a word ends at the first blank
pub words-cut : (bytes : List ℕ) (at : ℕ) → 0 < at → at < length bytes → AllByRecursion IsFilledByte (take at bytes)
    → is_blank (get_or bytes at 0) ≡ true → words bytes ≡ take at bytes ∷ words (drop at bytes)
words-cut bytes at some within filled blank =
    let front = take at bytes in
    let rest = drop (at + 1) bytes in
    let long : 0 < length front = omega (arith, length-take at bytes) in
    let behind : drop at bytes ≡ get_or bytes at 0 ∷ rest = drop_more bytes at 0 within in
    ap words (sym (take-append-drop at bytes) ∙ ap (λ ys. front ++ ys) behind)
    ∙ ap (filter is_filled) (slice_split_at is_blank front (get_or bytes at 0) rest (All-from_recursion IsFilledByte front filled) blank)
    ∙ filter-front front (slice_split is_blank rest) long
    ∙ ap (λ ws. front ∷ ws) (sym (ap words behind ∙ words-blank (get_or bytes at 0) rest blank))

-- or with the bytes
pub words-whole : (word : List ℕ) → 0 < length word → AllByRecursion IsFilledByte word → words word ≡ word ∷ []
words-whole word some filled =
    ap (filter is_filled) (slice_split_none is_blank word (All-from_recursion IsFilledByte word filled))
    ∙ filter-front word [] some

-- a blank stands behind a byte that isn't one
pub blank-behind : (bytes : List ℕ) (at : ℕ) → is_blank (get_or bytes at 0) ≡ true → is_blank (get_or bytes 0 0) ≡ false
    → 0 < at
blank-behind bytes zero is not = absurd cc
blank-behind bytes (suc at) is not = omega arith
