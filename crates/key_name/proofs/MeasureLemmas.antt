-- How long spelled parts and paths are: what a count adds, and that no path that a text leads to is too long to be
-- counted.
use Rattle.std.proofs.Common.{◌≡◌, ◌≢◌, ℕ, ◌+◌, ◌-◌, ◌*◌, ◌<◌, ◌≤◌, Bool, true, false, cond, ◌==◌, ◌||◌, List, [], ◌∷◌, ◌++◌, length, get_or, take, drop, replicate, ltb, map, codes, Option, Some, option_and_then, inl, inr, refl, sym, ap, subst, ◌∙◌, arith, length-append}
use Rattle.std.specs.List.{AllByRecursion, flat_map}
use Rattle.std.specs.Option.{option_map}
use Rattle.std.proofs.lemmas.Bool.{cond_both, cond-true, cond-false, or_from, cases_Bool, and_parts, ltb-true}
use Rattle.std.proofs.lemmas.List.{map-append, take-map, take_more, take-append-drop, length-replicate}
use Rattle.model_names.specs.Name.{Part}
use Rattle.model_names.specs.ArrayPart.{is_array_like, canonical_part, digits_of, part_of_digits}
use Rattle.model_names.specs.RawParts.{raw_parts}
use Rattle.general_words.specs.Texts.{is_text}
use Rattle.model_names.specs.Spelling.{escaped, spelled, is_reserved, path_of_parts}
use Rattle.model_names.specs.Spells.{Move, Adds, Stays, GoesUp, meaning, moved, part_of_text, walked, unescaped}
use Rattle.model_names.proofs.EscapeLemmas.{IsUnescaped, flat_map-escaped-same}
use Rattle.model_names.proofs.NameLemmas.{spelled-text}
use Rattle.model_names.proofs.PartLemmas.{slashed-raw_parts}
use Rattle.model_names.proofs.ReadLemmas.{meaning-by_form, unescaped_from, unescaped-escape, unescaped-next}
use Rattle.model_names.proofs.RefusesLemmas.{from_map, from_and_then, branch_taken}
use Rattle.general_words.proofs.Texts.{other_text, same_text}
use Rattle.model_names.proofs.ArrayLemmas.{are_digits-like, canonical_part-from, is_array_like-part_of_digits}
use Rattle.key_name.proofs.ArrayLemmas.{array_ordinary, digits_fit, length_of_some}
use Rattle.key_name.proofs.WellFormedLemmas.{slashed, length-all_escaped-least, length-slashed-append}
use Rattle.general_words.proofs.Lists.{some_is}
use Rattle.general_words.proofs.Tests.{cond_some}

-- ---- one part

-- a part that is none of the four that are spelled otherwise
pub length-spelled-text : (part : Part) → part ≢ [] → part ≢ codes "%" → part ≢ codes "." → part ≢ codes ".."
    → length (spelled part) ≡ length (flat_map escaped part)
length-spelled-text part filled percent dot dots =
    ap length (spelled-text part (length_of_some part filled) (or_from _ _ (or_from _ _ (other_text part (codes "%") percent) (other_text part (codes ".") dot)) (other_text part (codes "..") dots)))

length-escaped : (b : ℕ) → length (escaped b) ≤ 2
length-escaped b =
    cond_both ((b == 92) || (b == 47)) (92 ∷ b ∷ []) (b ∷ []) (λ bytes. length bytes ≤ 2) (λ _. omega arith) (λ _. omega arith)

length-all_escaped : (part : Part) → length (flat_map escaped part) ≤ 2 * length part
length-all_escaped [] = omega arith
length-all_escaped (b ∷ part) =
    omega (arith, length-escaped b, length-all_escaped part, length-append (escaped b) (flat_map escaped part))

by_spelling : (part : Part) (n : ℕ) → 1 ≤ n → length part + 1 ≤ n → length (flat_map escaped part) ≤ n
    → length (spelled part) ≤ n
by_spelling part n one more text =
    cond_both (length part == 0) (codes "%") (cond (is_reserved part) (92 ∷ part) (flat_map escaped part)) (λ bytes. length bytes ≤ n)
    (λ _. omega (arith, one))
    (λ _. cond_both (is_reserved part) (92 ∷ part) (flat_map escaped part) (λ bytes. length bytes ≤ n) (λ _. omega (arith, more)) (λ _. text))

-- bytes that none is added to are as they are
pub escaped_as_it_is : (part : Part) → length (flat_map escaped part) ≡ length part → flat_map escaped part ≡ part
escaped_as_it_is [] h = refl
escaped_as_it_is (b ∷ part) h =
    elim (cases_Bool ((b == 92) || (b == 47))) [
      | inl e ↦
          let two = ap length (cond-true ((b == 92) || (b == 47)) (92 ∷ b ∷ []) (b ∷ []) e) in
          absurd (omega (arith, h, two, length-append (escaped b) (flat_map escaped part), length-all_escaped-least part))
      | inr e ↦
          let byte : escaped b ≡ b ∷ [] = cond-false _ _ _ e in
          let one = ap length byte in
          ap (λ bytes. bytes ++ flat_map escaped part) byte
          ∙ ap (λ rest. b ∷ rest) (escaped_as_it_is part (omega (arith, h, one, length-append (escaped b) (flat_map escaped part))))
    ]

-- a spelled part has at most one byte more than twice its own
pub length-spelled : (part : Part) → length (spelled part) ≤ 2 * length part + 1
length-spelled part =
    by_spelling part (2 * length part + 1) (omega arith) (omega arith) (omega (arith, length-all_escaped part))

-- and one more than its own where none of them is escaped
length-spelled-unescaped : (part : Part) → AllByRecursion IsUnescaped part → length (spelled part) ≤ length part + 1
length-spelled-unescaped part h =
    let same = ap length (flat_map-escaped-same part h) in by_spelling part (length part + 1) (omega arith) (omega arith) (omega arith)

-- ---- the part of a raw part

length-unescaped : (waits : Bool) (raw : List ℕ) (part : Part) → unescaped_from waits raw ≡ Some part
    → length part ≤ length raw
length-unescaped false [] part h = let none = ap length (some_is [] part h) in omega arith
length-unescaped true [] part h = absurd cc
length-unescaped true (b ∷ raw) part h =
    let escapes = cond_some ((b == 92) || (b == 47)) (option_map (λ part. b ∷ part) (unescaped raw)) part (sym (unescaped-escape b raw) ∙ h) in
    let rest = from_map (λ part. b ∷ part) (unescaped raw) part escapes.1 in
    let bytes = ap length rest.2 in
    omega (arith, bytes, length-unescaped false raw rest.0 rest.1)
length-unescaped false (b ∷ raw) part h =
    branch_taken (b == 92) (unescaped_from (b == 92) raw) _ _ (sym (unescaped-next b raw) ∙ h)
    (λ _ e. omega (arith, length-unescaped (b == 92) raw part e))
    (λ e. let rest = from_map (λ part. b ∷ part) (unescaped_from (b == 92) raw) part e in
    let bytes = ap length rest.2 in
    omega (arith, bytes, length-unescaped (b == 92) raw rest.0 rest.1))

length-part_of_digits : (digits : List ℕ) → 0 < length digits
    → length (part_of_digits digits) ≡ length digits + length digits
length-part_of_digits digits some =
    omega (arith, some, length-append (replicate (length digits - 1) 95) digits, length-replicate {A = ℕ} (length digits - 1) 95)

-- the canonical part of an index has no more than twice the bytes of the part that it is made from
length-canonical : (text part : Part) → is_array_like text ≡ true → canonical_part text ≡ Some part
    → length (spelled part) ≤ 2 * length text + 1
length-canonical text part like h =
    let digits = digits_of text in
    let form = canonical_part-from text part h in
    let are = are_digits-like text like in
    let some = ltb-true 0 (length digits) (and_parts (ltb 0 (length digits)) _ are).0 in
    let bytes = length-part_of_digits digits some in
    let ordinary = array_ordinary (part_of_digits digits) (is_array_like-part_of_digits digits are) in
    let same = ap (λ p. length (spelled p)) form.is in
    omega (arith, same, bytes, digits_fit text like, length-spelled-unescaped (part_of_digits digits) ordinary)

length-part_of_text : (text part : Part) → part_of_text text ≡ Some part → length (spelled part) ≤ 2 * length text + 1
length-part_of_text text part h =
    elim (cases_Bool (is_array_like text)) [
      | inl like ↦ length-canonical text part like (sym (cond-true (is_array_like text) (canonical_part text) (Some text) like) ∙ h)
      | inr other ↦
          let same = ap (λ p. length (spelled p)) (some_is text part (sym (cond-false (is_array_like text) (canonical_part text) (Some text) other) ∙ h)) in
          omega (arith, same, length-spelled text)
    ]

-- a move adds no part whose spelling has more bytes
abbrev AddsAtMost : ℕ → Move → Type 0
AddsAtMost n (Adds part) = length (spelled part) ≤ n
AddsAtMost n Stays = Unit {0}
AddsAtMost n GoesUp = Unit {0}

at_most : (n : ℕ) (m move : Move) → ◌≡◌ {A = Option Move} (Some m) (Some move) → AddsAtMost n m → AddsAtMost n move
at_most n m move e h = subst (AddsAtMost n) (some_is m move e) h

text_at_most : (raw : List ℕ) (move : Move) → option_map Adds (option_and_then part_of_text (unescaped raw)) ≡ Some move
    → AddsAtMost (2 * length raw + 1) move
text_at_most raw move h =
    let adds = from_map Adds (option_and_then part_of_text (unescaped raw)) move h in
    let text = from_and_then part_of_text (unescaped raw) adds.0 adds.1 in
    let bytes : length (spelled adds.0) ≤ 2 * length raw + 1 = omega (arith, length-part_of_text text.0 adds.0 text.2, length-unescaped false raw text.0 text.1) in
    subst (AddsAtMost (2 * length raw + 1)) adds.2 bytes

literal_bytes : (raw text : List ℕ) (n : ℕ) → is_text raw text ≡ true → n ≤ 2 * length text + 1 → n ≤ 2 * length raw + 1
literal_bytes raw text n e h = let same = ap length (same_text raw text e) in omega (arith, same, h)

meaning_at_most : (raw : List ℕ) (move : Move) → meaning raw ≡ Some move → AddsAtMost (2 * length raw + 1) move
meaning_at_most raw move h =
    let n = 2 * length raw + 1 in
    branch_taken ((length raw == 0) || is_text raw (codes ".")) _ _ _ (sym (meaning-by_form raw) ∙ h) (λ _ e. at_most n Stays move e tt)
    (λ h. branch_taken (is_text raw (codes "..")) _ _ _ h (λ _ e. at_most n GoesUp move e tt)
    (λ h. branch_taken (is_text raw (codes "%")) _ _ _ h (λ t e. at_most n (Adds []) move e (literal_bytes raw (codes "%") 1 t (omega arith)))
    (λ h. branch_taken (is_text raw (92 ∷ codes "%")) _ _ _ h (λ t e. at_most n (Adds (codes "%")) move e (literal_bytes raw (92 ∷ codes "%") 2 t (omega arith)))
    (λ h. branch_taken (is_text raw (92 ∷ codes ".")) _ _ _ h (λ t e. at_most n (Adds (codes ".")) move e (literal_bytes raw (92 ∷ codes ".") 2 t (omega arith)))
    (λ h. branch_taken (is_text raw (92 ∷ codes "..")) _ _ _ h (λ t e. at_most n (Adds (codes "..")) move e (literal_bytes raw (92 ∷ codes "..") 3 t (omega arith)))
    (λ h. text_at_most raw move h))))))

-- ---- parts

-- the first parts of a list, with their slashes, are no longer than all of them
length-slashed-take : (k : ℕ) (parts : List Part) → length (slashed (take k parts)) ≤ length (slashed parts)
length-slashed-take k parts =
    let whole = ap (λ p. length (slashed p)) (take-append-drop k parts) in
    omega (arith, whole, length-slashed-append (take k parts) (drop k parts))

moved_length : (path : List Part) (move : Move) (n : ℕ) → AddsAtMost n move
    → length (slashed (moved path move)) ≤ length (slashed path) + n + 1
moved_length path (Adds part) n h =
    omega (arith, h, length-slashed-append path (part ∷ []), length-append (47 ∷ spelled part) [])
moved_length path Stays n h = omega arith
moved_length path GoesUp n h = omega (arith, length-slashed-take (length path - 1) path)

walked_length : (path : List Part) (raws : List (List ℕ)) (parts : List Part) → walked path raws ≡ Some parts
    → length (slashed parts) ≤ length (slashed path) + 2 * length (flat_map (λ raw. 47 ∷ raw) raws)
walked_length path [] parts h = let same = ap (λ p. length (slashed p)) (some_is path parts h) in omega (arith, same)
walked_length path (raw ∷ raws) parts h =
    let move = from_and_then (λ move. walked (moved path move) raws) (meaning raw) parts h in
    let step = moved_length path move.0 (2 * length raw + 1) (meaning_at_most raw move.0 move.1) in
    let rest = walked_length (moved path move.0) raws parts move.2 in
    omega (arith, step, rest, length-append (47 ∷ raw) (flat_map (λ raw. 47 ∷ raw) raws))

length-path : (parts : List Part) → length (path_of_parts parts) ≤ length (slashed parts) + 1
length-path [] = omega arith
length-path (part ∷ parts) = omega arith

pub length-slashed-path : (parts : List Part) → length (slashed parts) ≤ length (path_of_parts parts)
length-slashed-path [] = omega arith
length-slashed-path (part ∷ parts) = omega arith

-- the path that another leads to can be counted
pub path_can_be_counted : (path : List ℕ) (parts : List Part) → walked [] (raw_parts path) ≡ Some parts
    → length (path_of_parts parts) ≤ 2 * length path + 3
path_can_be_counted path parts leads =
    let raws = ap length (slashed-raw_parts false path) in
    omega (arith, raws, walked_length [] (raw_parts path) parts leads, length-path parts)

-- ---- counting

-- one part more
pub slashed_next : {X : Type 0} (f : X → Part) (xs : List X) (i : ℕ) (x : X) → x ≡ get_or xs i x → i < length xs
    → length (slashed (map f (take (i + 1) xs))) ≡ length (slashed (map f (take i xs))) + (1 + length (spelled (f x)))
slashed_next f xs i x e within =
    let items = take_more xs i x within ∙ ap (λ y. take i xs ++ y ∷ []) (sym e) in
    let parts = ap (λ ys. length (slashed ys)) (ap (map f) items ∙ map-append f (take i xs) (x ∷ [])) in
    omega (arith, parts, length-slashed-append (map f (take i xs)) (f x ∷ []), length-append (47 ∷ spelled (f x)) [])

-- the first parts are no longer than the path
pub slashed_within : {X : Type 0} (f : X → Part) (xs : List X) (i : ℕ)
    → length (slashed (map f (take i xs))) ≤ length (path_of_parts (map f xs))
slashed_within f xs i =
    let first = ap (λ ys. length (slashed ys)) (take-map f i xs) in
    omega (arith, first, length-slashed-take i (map f xs), length-slashed-path (map f xs))
