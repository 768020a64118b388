-- What a raw part of a text stands for is a well-formed part.
use Rattle.std.specs.Prelude.{◌≡◌, ◌≢◌, ℕ, ◌+◌, ◌-◌, ◌<◌, Bool, true, false, not, ◌&&◌, ◌||◌, ◌==◌, List, [], ◌∷◌, ◌++◌, length, Option, Some, option_and_then, codes, encode_utf8, encode_utf8_all}
use Rattle.std.proofs.Common.{zero, suc, get_or, take, refl, sym, ap, subst, ◌∙◌, inl, inr, arith, lit<, length-append}
use Rattle.std.specs.List.{AllByRecursion, list_all, flat_map}
use Rattle.std.specs.Option.{option_map}
use Rattle.std.specs.Str.{IsUtf8, all_scalars}
use Rattle.std.proofs.lemmas.Bool.{true≢false, cond-true, cond-false, and_parts, cases_eq, cases_Bool, eqb-true}
use Rattle.std.proofs.lemmas.List.{append-nil}
use Rattle.std.proofs.lemmas.List.Elements.{All-from_recursion, recursion_from_All}
use Rattle.std.proofs.lemmas.List.Sums.{AllPass-from_list_all}
use Rattle.std.proofs.lemmas.Str.{IsUtf8-append, IsUtf8-take, IsUtf8-drop, IsUtf8-nil, IsUtf8-from_ascii, IsUtf8-encode, IsCharBoundary-before_ascii, IsCharBoundary-after_ascii, encode_ascii}
use Rattle.std.proofs.lemmas.Str.Ascii.{IsAscii-from_all}
use Rattle.std.proofs.Math.Seq.{take-append_seam, drop-append-add}
use Rattle.model_names.specs.Name.{Part}
use Rattle.model_names.specs.ArrayPart.{is_array_like, digits_of, part_of_digits, canonical_part}
use Rattle.model_names.specs.RawParts.{raw_parts_from, put_before}
use Rattle.general_words.specs.Texts.{is_text}
use Rattle.model_names.specs.Spells.{Move, Adds, Stays, GoesUp, meaning, moved, walked, part_of_text, unescaped}
use Rattle.model_names.specs.WellFormed.{IsPart}
use Rattle.model_names.proofs.ArrayLemmas.{are_digits-like, canonical_part-from, ascii-part_of_digits, is_canonical-part_of_digits}
use Rattle.model_names.proofs.EscapeLemmas.{IsUnescaped-encode_utf8, read_all, escapes_no_letter}
use Rattle.model_names.proofs.ReadLemmas.{meaning-by_form, unescaped_from, unescaped-escape, unescaped-next}
use Rattle.model_names.proofs.RefusesLemmas.{from_map, from_and_then, branch_taken}
use Rattle.model_names.proofs.SpellsLemmas.{is_ascii_text_byte, no_nul-from_test, is_ascii-from_test}
use Rattle.general_words.proofs.Lists.{some_is, all_append, all_back}
use Rattle.general_words.proofs.Tests.{cond_some}

-- ---- texts

-- bytes that are a text without NUL
pub record IsText (bytes : List ℕ) : Type 0 where
  pub utf8 : IsUtf8 bytes
  pub no_nul : AllByRecursion (λ b. 0 < b) bytes

IsUtf8-tail : (b : ℕ) (bytes : List ℕ) → b < 128 → IsUtf8 (b ∷ bytes) → IsUtf8 bytes
IsUtf8-tail b bytes small h =
    IsUtf8-drop (b ∷ bytes) 1 h (IsCharBoundary-after_ascii (b ∷ bytes) 0 h (omega arith) small)

pub IsUtf8-byte : (b : ℕ) → b < 128 → IsUtf8 (b ∷ [])
IsUtf8-byte b small =
    IsUtf8-from_ascii (b ∷ []) (IsAscii-from_all (b ∷ []) (All-from_recursion (λ b. b < 128) (b ∷ []) (small, tt)))

pub IsUtf8-cons : (b : ℕ) (bytes : List ℕ) → b < 128 → IsUtf8 bytes → IsUtf8 (b ∷ bytes)
IsUtf8-cons b bytes small h = IsUtf8-append (b ∷ []) bytes (IsUtf8-byte b small) h

-- what holds of each element of two lists together holds of each of the first
pub all_front : {A : Type 0} (P : A → Type 0) (xs ys : List A) → AllByRecursion P (xs ++ ys) → AllByRecursion P xs
all_front P [] ys h = tt
all_front P (x ∷ xs) ys h = (h.0, all_front P xs ys h.1)

pub text_from_ascii : (bytes : List ℕ) → AllByRecursion (λ b. (0 < b) × (b < 128)) bytes → IsText bytes
text_from_ascii bytes h =
    record {
      utf8 = IsUtf8-from_ascii bytes (IsAscii-from_all bytes (All-from_recursion (λ b. b < 128) bytes (all_small bytes h)));
      no_nul = all_some bytes h;
    }
  where
    all_small : (bytes : List ℕ) → AllByRecursion (λ b. (0 < b) × (b < 128)) bytes → AllByRecursion (λ b. b < 128) bytes
    all_small [] h = tt
    all_small (b ∷ bytes) h = (h.0.1, all_small bytes h.1)

    all_some : (bytes : List ℕ) → AllByRecursion (λ b. (0 < b) × (b < 128)) bytes → AllByRecursion (λ b. 0 < b) bytes
    all_some [] h = tt
    all_some (b ∷ bytes) h = (h.0.0, all_some bytes h.1)

-- the same by a test, for a text that is written out
pub text_from_test : (bytes : List ℕ) → list_all is_ascii_text_byte bytes ≡ true → IsText bytes
text_from_test bytes h =
    let pass = recursion_from_All (λ b. is_ascii_text_byte b ≡ true) bytes (AllPass-from_list_all is_ascii_text_byte bytes h) in
    record {
      utf8 = IsUtf8-from_ascii bytes (IsAscii-from_all bytes (All-from_recursion (λ b. b < 128) bytes (is_ascii-from_test bytes pass)));
      no_nul = no_nul-from_test bytes pass;
    }

at_seam : (xs ys : List ℕ) → get_or (xs ++ 47 ∷ ys) (length xs) 0 ≡ 47
at_seam [] ys = refl
at_seam (x ∷ xs) ys = at_seam xs ys

utf8_before_slash : (xs ys : List ℕ) → IsUtf8 (xs ++ 47 ∷ ys) → IsUtf8 xs
utf8_before_slash xs ys h =
    let bs = xs ++ 47 ∷ ys in
    let at = at_seam xs ys in
    let within : length xs < length bs = omega (arith, length-append xs (47 ∷ ys)) in
    subst (λ (t : List ℕ). IsUtf8 t) (take-append_seam xs (47 ∷ ys)) (IsUtf8-take bs (length xs) h (IsCharBoundary-before_ascii bs (length xs) within (omega (arith, at))))

pub utf8_behind_slash : (xs ys : List ℕ) → IsUtf8 (xs ++ 47 ∷ ys) → IsUtf8 ys
utf8_behind_slash xs ys h =
    let bs = xs ++ 47 ∷ ys in
    let at = at_seam xs ys in
    let within : length xs < length bs = omega (arith, length-append xs (47 ∷ ys)) in
    subst (λ (t : List ℕ). IsUtf8 t) (drop-append-add xs (47 ∷ ys) 1) (IsUtf8-drop bs (length xs + 1) h (IsCharBoundary-after_ascii bs (length xs) h within (omega (arith, at))))

-- ---- raw parts

-- raw parts with a slash before each are the text again
slashed-put_before : (cuts : Bool) (b : ℕ) (bytes : List ℕ) (raws : List (List ℕ)) → (cuts ≡ true → b ≡ 47)
    → flat_map (λ raw. 47 ∷ raw) raws ≡ 47 ∷ bytes
    → flat_map (λ raw. 47 ∷ raw) (put_before cuts b raws) ≡ 47 ∷ b ∷ bytes
slashed-put_before true b bytes raws slash h = ap (λ t. 47 ∷ t) h ∙ ap (λ b. 47 ∷ b ∷ bytes) (sym (slash refl))
slashed-put_before false b bytes [] slash h = absurd cc
slashed-put_before false b bytes (raw ∷ raws) slash h =
    ap (λ t. 47 ∷ b ∷ t) (behind (raw ++ flat_map (λ raw. 47 ∷ raw) raws) bytes h)
  where
    behind : (x y : List ℕ) → 47 ∷ x ≡ 47 ∷ y → x ≡ y
    behind x y e = cc

cut_is_slash : (is_escaped : Bool) (b : ℕ) → (not is_escaped && (b == 47)) ≡ true → b ≡ 47
cut_is_slash is_escaped b h = let parts = and_parts (not is_escaped) (b == 47) h in eqb-true b 47 parts.1

pub slashed-raw_parts : (is_escaped : Bool) (bytes : List ℕ)
    → flat_map (λ raw. 47 ∷ raw) (raw_parts_from is_escaped bytes) ≡ 47 ∷ bytes
slashed-raw_parts is_escaped [] = refl
slashed-raw_parts is_escaped (b ∷ bytes) =
    slashed-put_before (not is_escaped && (b == 47)) b bytes (raw_parts_from (not is_escaped && (b == 92)) bytes) (cut_is_slash is_escaped b) (slashed-raw_parts (not is_escaped && (b == 92)) bytes)

all_texts : (raws : List (List ℕ)) → IsUtf8 (flat_map (λ raw. 47 ∷ raw) raws)
    → AllByRecursion (λ b. 0 < b) (flat_map (λ raw. 47 ∷ raw) raws) → AllByRecursion IsText raws
all_texts [] h no_nul = tt
all_texts (raw ∷ []) h no_nul =
    let whole = append-nil raw in
    (record { utf8 = subst (λ (t : List ℕ). IsUtf8 t) whole (IsUtf8-tail 47 _ (lit< tt) h); no_nul = all_front (λ b. 0 < b) raw [] no_nul.1 }, tt)
all_texts (raw ∷ next ∷ raws) h no_nul =
    let rest = next ++ flat_map (λ raw. 47 ∷ raw) raws in
    let tail = IsUtf8-tail 47 (raw ++ 47 ∷ rest) (lit< tt) h in (
      record { utf8 = utf8_before_slash raw rest tail; no_nul = all_front (λ b. 0 < b) raw (47 ∷ rest) no_nul.1 },
      all_texts (next ∷ raws) (IsUtf8-cons 47 rest (lit< tt) (utf8_behind_slash raw rest tail)) (all_back (λ b. 0 < b) raw (47 ∷ rest) no_nul.1),
    )

-- each raw part of a text is a text
pub IsText-raw_parts : (bytes : List ℕ) → IsUtf8 (47 ∷ bytes) → AllByRecursion (λ b. 0 < b) (47 ∷ bytes)
    → AllByRecursion IsText (raw_parts_from false bytes)
IsText-raw_parts bytes h no_nul =
    let whole = sym (slashed-raw_parts false bytes) in
    all_texts (raw_parts_from false bytes) (subst (λ (t : List ℕ). IsUtf8 t) whole h) (subst (λ (t : List ℕ). AllByRecursion (λ b. 0 < b) t) whole no_nul)

-- ---- what is unescaped

unescaped_no_nul : (waits : Bool) (raw : List ℕ) (part : Part) → unescaped_from waits raw ≡ Some part
    → AllByRecursion (λ b. 0 < b) raw → AllByRecursion (λ b. 0 < b) part
unescaped_no_nul false [] part h bytes = subst (λ (t : List ℕ). AllByRecursion (λ b. 0 < b) t) (some_is [] part h) tt
unescaped_no_nul true [] part h bytes = absurd cc
unescaped_no_nul true (b ∷ raw) part h bytes =
    let escapes = cond_some ((b == 92) || (b == 47)) (option_map (λ part. b ∷ part) (unescaped raw)) part (sym (unescaped-escape b raw) ∙ h) in
    let rest = from_map (λ part. b ∷ part) (unescaped raw) part escapes.1 in
    subst (λ (t : List ℕ). AllByRecursion (λ b. 0 < b) t) rest.2 (bytes.0, unescaped_no_nul false raw rest.0 rest.1 bytes.1)
unescaped_no_nul false (b ∷ raw) part h bytes =
    branch_taken (b == 92) (unescaped_from (b == 92) raw) _ _ (sym (unescaped-next b raw) ∙ h)
    (λ _ e. unescaped_no_nul (b == 92) raw part e bytes.1)
    (λ e. let rest = from_map (λ part. b ∷ part) (unescaped_from (b == 92) raw) part e in
    subst (λ (t : List ℕ). AllByRecursion (λ b. 0 < b) t) rest.2 (bytes.0, unescaped_no_nul (b == 92) raw rest.0 rest.1 bytes.1))

-- one letter more
utf8_backslash : (waits : Bool) (left : List ℕ) (part : Part) → unescaped_from waits (92 ∷ left) ≡ Some part
    → ((waits : Bool) (part : Part) → unescaped_from waits left ≡ Some part → IsUtf8 part) → IsUtf8 part
utf8_backslash false left part h more = more true part h
utf8_backslash true left part h more =
    let rest = from_map (λ part. 92 ∷ part) (unescaped left) part (sym (unescaped-escape 92 left) ∙ h) in
    subst (λ (t : List ℕ). IsUtf8 t) rest.2 (IsUtf8-cons 92 rest.0 (lit< tt) (more false rest.0 rest.1))

utf8_slash : (waits : Bool) (left : List ℕ) (part : Part) → unescaped_from waits (47 ∷ left) ≡ Some part
    → ((waits : Bool) (part : Part) → unescaped_from waits left ≡ Some part → IsUtf8 part) → IsUtf8 part
utf8_slash false left part h more =
    let rest = from_map (λ part. 47 ∷ part) (unescaped left) part (sym (unescaped-next 47 left) ∙ h) in
    subst (λ (t : List ℕ). IsUtf8 t) rest.2 (IsUtf8-cons 47 rest.0 (lit< tt) (more false rest.0 rest.1))
utf8_slash true left part h more =
    let rest = from_map (λ part. 47 ∷ part) (unescaped left) part (sym (unescaped-escape 47 left) ∙ h) in
    subst (λ (t : List ℕ). IsUtf8 t) rest.2 (IsUtf8-cons 47 rest.0 (lit< tt) (more false rest.0 rest.1))

utf8_ordinary : (waits : Bool) (c : ℕ) (left : List ℕ) (part : Part) → c ≢ 92 → c ≢ 47 → IsUtf8 (encode_utf8 c)
    → unescaped_from waits (encode_utf8 c ++ left) ≡ Some part
    → ((waits : Bool) (part : Part) → unescaped_from waits left ≡ Some part → IsUtf8 part) → IsUtf8 part
utf8_ordinary true c left part no_backslash no_slash letter h more =
    let none = escapes_no_letter c left no_backslash no_slash in absurd (cc)
utf8_ordinary false c left part no_backslash no_slash letter h more =
    let tail = read_all (encode_utf8 c) left (IsUnescaped-encode_utf8 c no_backslash no_slash) part h in
    subst (λ (t : List ℕ). IsUtf8 t) (sym tail.2) (IsUtf8-append (encode_utf8 c) tail.0 letter (more false tail.0 tail.1))

read_letter : (waits : Bool) (c b : ℕ) (left : List ℕ) (part : Part) → c ≡ b → b < 128
    → unescaped_from waits (encode_utf8 c ++ left) ≡ Some part → unescaped_from waits (b ∷ left) ≡ Some part
read_letter waits c b left part e small h =
    let bytes : encode_utf8 c ≡ b ∷ [] = encode_ascii c (omega arith) ∙ ap (λ b. b ∷ []) e in
    sym (ap (λ bytes. unescaped_from waits (bytes ++ left)) bytes) ∙ h

unescaped_utf8 : (letters : List ℕ) (waits : Bool) (part : Part) → all_scalars letters ≡ true
    → unescaped_from waits (encode_utf8_all letters) ≡ Some part → IsUtf8 part
unescaped_utf8 [] false part scalars h = subst (λ (t : List ℕ). IsUtf8 t) (some_is [] part h) IsUtf8-nil
unescaped_utf8 [] true part scalars h = absurd cc
unescaped_utf8 (c ∷ letters) waits part scalars h =
    let both = and_parts _ (all_scalars letters) scalars in
    let more : (waits : Bool) (part : Part) → unescaped_from waits (encode_utf8_all letters) ≡ Some part → IsUtf8 part = λ waits part e. unescaped_utf8 letters waits part both.1 e in
    elim (cases_eq c 92) [
      | inl e ↦ utf8_backslash waits (encode_utf8_all letters) part (read_letter waits c 92 (encode_utf8_all letters) part e (lit< tt) h) more
      | inr no_backslash ↦ elim (cases_eq c 47) [
        | inl e ↦ utf8_slash waits (encode_utf8_all letters) part (read_letter waits c 47 (encode_utf8_all letters) part e (lit< tt) h) more
        | inr no_slash ↦ utf8_ordinary waits c (encode_utf8_all letters) part no_backslash no_slash (IsUtf8-encode c both.0) h more
      ]
    ]

IsText-unescaped : (raw : List ℕ) (part : Part) → IsText raw → unescaped raw ≡ Some part → IsText part
IsText-unescaped raw part text h =
    let letters = text.utf8 in
    record {
      utf8 = unescaped_utf8 letters.0 false part letters.1.0 (ap unescaped letters.1.1 ∙ h);
      no_nul = unescaped_no_nul false raw part h text.no_nul;
    }

-- ---- what raw parts add

-- the canonical form of an array-like part is a part
IsPart-canonical_part : (text part : Part) → is_array_like text ≡ true → canonical_part text ≡ Some part → IsPart part
IsPart-canonical_part text part like h =
    let form = canonical_part-from text part h in
    let digits = are_digits-like text like in
    let bytes = text_from_ascii (part_of_digits (digits_of text)) (ascii-part_of_digits (digits_of text) digits) in
    subst IsPart (sym form.is) (record { utf8 = bytes.utf8; no_nul = bytes.no_nul; canonical = λ _. is_canonical-part_of_digits (digits_of text) digits form.index })

IsPart-from_text : (text part : Part) → IsText text → part_of_text text ≡ Some part → IsPart part
IsPart-from_text text part is h =
    elim (cases_Bool (is_array_like text)) [
      | inl like ↦ IsPart-canonical_part text part like (sym (cond-true (is_array_like text) (canonical_part text) (Some text) like) ∙ h)
      | inr other ↦
          let same = some_is text part (sym (cond-false (is_array_like text) (canonical_part text) (Some text) other) ∙ h) in
          subst IsPart same (record { utf8 = is.utf8; no_nul = is.no_nul; canonical = λ like. absurd (true≢false (sym like ∙ other)) })
    ]

-- the part that a move adds is well formed
abbrev pub AddsPart : Move → Type 0
AddsPart (Adds part) = IsPart part
AddsPart Stays = Unit {0}
AddsPart GoesUp = Unit {0}

adds_at : (m n : Move) → ◌≡◌ {A = Option Move} (Some m) (Some n) → AddsPart m → AddsPart n
adds_at m n e h = subst AddsPart (some_is m n e) h

plain_part : (part : Part) → IsText part → is_array_like part ≡ false → IsPart part
plain_part part text other =
    record { utf8 = text.utf8; no_nul = text.no_nul; canonical = λ like. absurd (true≢false (sym like ∙ other)) }

text_adds : (raw : List ℕ) (move : Move) → IsText raw
    → option_map Adds (option_and_then part_of_text (unescaped raw)) ≡ Some move → AddsPart move
text_adds raw move text h =
    let adds = from_map Adds (option_and_then part_of_text (unescaped raw)) move h in
    let part = from_and_then part_of_text (unescaped raw) adds.0 adds.1 in
    subst AddsPart adds.2 (IsPart-from_text part.0 adds.0 (IsText-unescaped raw part.0 text part.1) part.2)

-- what a raw part of a text means adds a well-formed part, if any
pub AddsPart-meaning : (raw : List ℕ) (move : Move) → IsText raw → meaning raw ≡ Some move → AddsPart move
AddsPart-meaning raw move text h =
    let empty : AddsPart (Adds []) = plain_part [] (text_from_test [] refl) refl in
    let percent : AddsPart (Adds (codes "%")) = plain_part (codes "%") (text_from_test (codes "%") refl) refl in
    let dot : AddsPart (Adds (codes ".")) = plain_part (codes ".") (text_from_test (codes ".") refl) refl in
    let dots : AddsPart (Adds (codes "..")) = plain_part (codes "..") (text_from_test (codes "..") refl) refl in
    branch_taken ((length raw == 0) || is_text raw (codes ".")) _ _ _ (sym (meaning-by_form raw) ∙ h) (λ _ e. adds_at Stays move e tt)
    (λ h. branch_taken (is_text raw (codes "..")) _ _ _ h (λ _ e. adds_at GoesUp move e tt)
    (λ h. branch_taken (is_text raw (codes "%")) _ _ _ h (λ _ e. adds_at (Adds []) move e empty)
    (λ h. branch_taken (is_text raw (92 ∷ codes "%")) _ _ _ h (λ _ e. adds_at (Adds (codes "%")) move e percent)
    (λ h. branch_taken (is_text raw (92 ∷ codes ".")) _ _ _ h (λ _ e. adds_at (Adds (codes ".")) move e dot)
    (λ h. branch_taken (is_text raw (92 ∷ codes "..")) _ _ _ h (λ _ e. adds_at (Adds (codes "..")) move e dots)
    (λ h. text_adds raw move text h))))))

all_take : {A : Type 0} (P : A → Type 0) (n : ℕ) (xs : List A) → AllByRecursion P xs → AllByRecursion P (take n xs)
all_take P zero xs h = tt
all_take P (suc n) [] h = tt
all_take P (suc n) (x ∷ xs) h = (h.0, all_take P n xs h.1)

moved_parts : (path : List Part) (move : Move) → AllByRecursion IsPart path → AddsPart move
    → AllByRecursion IsPart (moved path move)
moved_parts path (Adds part) h p = all_append IsPart path (part ∷ []) h (p, tt)
moved_parts path Stays h p = h
moved_parts path GoesUp h p = all_take IsPart (length path - 1) path h

-- raw parts of a text lead from well-formed parts to well-formed parts
pub walked_parts : (path : List Part) (raws : List (List ℕ)) (parts : List Part) → AllByRecursion IsPart path
    → AllByRecursion IsText raws → walked path raws ≡ Some parts → AllByRecursion IsPart parts
walked_parts path [] parts h texts leads = subst (λ (p : List Part). AllByRecursion IsPart p) (same path parts leads) h
  where
    same : (a b : List Part) → ◌≡◌ {A = Option (List Part)} (Some a) (Some b) → a ≡ b
    same a b e = cc
walked_parts path (raw ∷ raws) parts h texts leads =
    let move = from_and_then (λ move. walked (moved path move) raws) (meaning raw) parts leads in
    walked_parts (moved path move.0) raws parts (moved_parts path move.0 h (AddsPart-meaning raw move.0 texts.0 move.1)) texts.1 move.2
