-- The words of a line by what stands behind its blanks: one word after the other, in one way.
use Rattle.std.specs.Prelude.{◌≡◌, ◌≢◌, ℕ, zero, suc, ◌+◌, ◌-◌, ◌<◌, ◌≤◌, ◌==◌, Bool, true, false, not, ◌&&◌, List, [], ◌∷◌, ◌++◌, length, take, drop, Some, None}
use Rattle.std.specs.List.{list_all}
use Rattle.std.specs.Str.{IsUtf8}
use Rattle.std.proofs.Common.{get_or, refl, sym, ap, subst, ◌∙◌, inl, inr, arith, append_assoc, length-append}
use Rattle.std.proofs.lemmas.Bool.{cases_Bool, and_parts, cond-true, cond-false, true≢false, eqb-true, ne_eqb}
use Rattle.std.proofs.lemmas.List.{take-append-drop}
use Rattle.std.proofs.Math.Seq.{drop-append-add}
use Rattle.batch_script.specs.Letters.{written_at, StandsFor}
use Rattle.batch_script.specs.Words.{is_blank, is_bare, behind_blanks, closes, EndsWord, HasWords, IsFirstTaken, IsFirstWord, IsSpelled, LacksWord}
use Rattle.batch_script.proofs.LetterLemmas.{stands-more, stands-once, written-some, written_at-found}

not-true : (t : Bool) → not t ≡ true → t ≡ true → ⊥
not-true true p q = true≢false (sym p)
not-true false p q = true≢false (sym q)

-- ---- blanks at the front

behind-blank : (b : ℕ) (bytes : List ℕ) → is_blank b ≡ true → behind_blanks (b ∷ bytes) ≡ behind_blanks bytes
behind-blank b bytes e = cond-true (is_blank b) (behind_blanks bytes) (b ∷ bytes) e

behind-other : (b : ℕ) (bytes : List ℕ) → is_blank b ≡ false → behind_blanks (b ∷ bytes) ≡ b ∷ bytes
behind-other b bytes e = cond-false (is_blank b) (behind_blanks bytes) (b ∷ bytes) e

pub behind-gap : (gap bytes : List ℕ) → list_all is_blank gap ≡ true
    → behind_blanks (gap ++ bytes) ≡ behind_blanks bytes
behind-gap [] bytes e = refl
behind-gap (b ∷ gap) bytes e =
    let parts = and_parts (is_blank b) (list_all is_blank gap) e in
    behind-blank b (gap ++ bytes) parts.0 ∙ behind-gap gap bytes parts.1

-- a line is a gap and what stands behind it
pub record IsGap (line gap : List ℕ) : Type 0 where
  pub is : line ≡ gap ++ behind_blanks line
  pub blank : list_all is_blank gap ≡ true

pub gap-of : (line : List ℕ) → (gap : List ℕ) × IsGap line gap
gap-of [] = ([], record { is = refl; blank = refl })
gap-of (b ∷ bytes) =
    elim (cases_Bool (is_blank b)) [
      | inl e ↦
          let rest = gap-of bytes in
          (b ∷ rest.0, record { is = ap (λ t. b ∷ t) (rest.1.is ∙ ap (λ t. rest.0 ++ t) (sym (behind-blank b bytes e))); blank = ap (λ t. t && list_all is_blank rest.0) e ∙ rest.1.blank })
      | inr e ↦ ([], record { is = sym (behind-other b bytes e); blank = refl })
    ]

pub behind-again : (line : List ℕ) → behind_blanks (behind_blanks line) ≡ behind_blanks line
behind-again [] = refl
behind-again (b ∷ bytes) =
    elim (cases_Bool (is_blank b)) [
      | inl e ↦ ap behind_blanks (behind-blank b bytes e) ∙ behind-again bytes ∙ sym (behind-blank b bytes e)
      | inr e ↦ ap behind_blanks (behind-other b bytes e)
    ]

-- nothing but blanks
pub blank-behind : (line : List ℕ) → list_all is_blank line ≡ true → behind_blanks line ≡ []
blank-behind [] e = refl
blank-behind (b ∷ bytes) e =
    let parts = and_parts (is_blank b) (list_all is_blank bytes) e in
    behind-blank b bytes parts.0 ∙ blank-behind bytes parts.1

pub blank-from : (line : List ℕ) → behind_blanks line ≡ [] → list_all is_blank line ≡ true
blank-from [] e = refl
blank-from (b ∷ bytes) e =
    elim (cases_Bool (is_blank b)) [
      | inl blank ↦ ap (λ t. t && list_all is_blank bytes) blank ∙ blank-from bytes (sym (behind-blank b bytes blank) ∙ e)
      | inr other ↦ let none : b ∷ bytes ≡ [] = sym (behind-other b bytes other) ∙ e in absurd cc
    ]

pub behind-shorter : (line : List ℕ) → length (behind_blanks line) ≤ length line
behind-shorter [] = omega arith
behind-shorter (c ∷ line) =
    let less = behind-shorter line in
    elim (cases_Bool (is_blank c)) [
      | inl blank ↦ let same = ap length (behind-blank c line blank) in omega arith
      | inr other ↦ let same = ap length (behind-other c line other) in omega arith
    ]

-- what a line begins with that has no blank at its front
pub front-other : (b : ℕ) (bytes : List ℕ) → behind_blanks (b ∷ bytes) ≡ b ∷ bytes → is_blank b ≡ false
front-other b bytes e =
    elim (cases_Bool (is_blank b)) [
      | inl blank ↦ absurd (longer (b ∷ bytes) bytes (omega arith) (sym (behind-blank b bytes blank) ∙ e))
      | inr other ↦ other
    ]
  where
    longer : (all line : List ℕ) → length line < length all → behind_blanks line ≡ all → ⊥
    longer all line more e = let less = behind-shorter line in let same = ap length e in omega arith

-- ---- the first word

-- a word's bytes begin with no blank
spelled-front : (bytes word rest : List ℕ) → IsSpelled bytes word → behind_blanks (bytes ++ rest) ≡ bytes ++ rest
spelled-front [] word rest (inl bare) = absurd (true≢false (sym bare.0))
spelled-front [] word rest (inr quoted) = absurd (let e = quoted.1 in cc)
spelled-front (b ∷ bytes) word rest (inl bare) =
    let parts = and_parts (not (b == 34)) (list_all (λ c. not (is_blank c)) (b ∷ bytes)) bare.0 in
    let first = and_parts (not (is_blank b)) (list_all (λ c. not (is_blank c)) bytes) parts.1 in
    behind-other b (bytes ++ rest) (elim (cases_Bool (is_blank b)) [ inl blank ↦ absurd (not-true (is_blank b) first.0 blank) | inr other ↦ other ])
spelled-front (b ∷ bytes) word rest (inr quoted) =
    let head : b ≡ 34 = let e = quoted.1 in cc in
    behind-other b (bytes ++ rest) (ap is_blank head)

spelled-some : (bytes word rest : List ℕ) → IsSpelled bytes word → bytes ++ rest ≡ [] → ⊥
spelled-some [] word rest (inl bare) e = true≢false (sym bare.0)
spelled-some [] word rest (inr quoted) e = let e' = quoted.1 in absurd cc
spelled-some (b ∷ bytes) word rest h e = absurd cc

pub first-behind : (line word rest : List ℕ) (h : IsFirstWord line word rest) → behind_blanks line ≡ h.bytes ++ rest
first-behind line word rest h =
    ap behind_blanks h.line_is ∙ behind-gap h.gap (h.bytes ++ rest) h.blank ∙ spelled-front h.bytes word rest h.spelled

pub first-ahead : (line word rest : List ℕ) → IsFirstWord line word rest → IsFirstWord (behind_blanks line) word rest
first-ahead line word rest h =
    record {
      gap = [];
      bytes = h.bytes;
      line_is = first-behind line word rest h;
      blank = refl;
      spelled = h.spelled;
      utf8 = h.utf8;
      apart = h.apart;
    }

pub first-before : (line word rest : List ℕ) → IsFirstWord (behind_blanks line) word rest → IsFirstWord line word rest
first-before line word rest h =
    let cut = gap-of line in
    let ahead : behind_blanks line ≡ h.bytes ++ rest = sym (behind-again line) ∙ first-behind (behind_blanks line) word rest h in
    record {
      gap = cut.0;
      bytes = h.bytes;
      line_is = cut.1.is ∙ ap (λ t. cut.0 ++ t) ahead;
      blank = cut.1.blank;
      spelled = h.spelled;
      utf8 = h.utf8;
      apart = h.apart;
    }

-- a blank line has no first word
pub blank-lacks : (line : List ℕ) → behind_blanks line ≡ [] → LacksWord line
blank-lacks line e word rest h = spelled-some h.bytes word rest h.spelled (sym (first-behind line word rest h) ∙ e)

-- a run of bytes without blanks ends at one place
run-once : (xs ys rest behind : List ℕ) → list_all (λ c. not (is_blank c)) xs ≡ true
    → list_all (λ c. not (is_blank c)) ys ≡ true → EndsWord rest → EndsWord behind → xs ++ rest ≡ ys ++ behind
    → (xs ≡ ys) × (rest ≡ behind)
run-once [] [] rest behind p q e f same = (refl, same)
run-once [] (y ∷ ys) rest behind p q e f same =
    absurd (not-true (is_blank y) (and_parts (not (is_blank y)) (list_all (λ c. not (is_blank c)) ys) q).0 (subst EndsWord same e))
run-once (x ∷ xs) [] rest behind p q e f same =
    absurd (not-true (is_blank x) (and_parts (not (is_blank x)) (list_all (λ c. not (is_blank c)) xs) p).0 (subst EndsWord (sym same) f))
run-once (x ∷ xs) (y ∷ ys) rest behind p q e f same =
    let head : x ≡ y = cc in
    let tail : xs ++ rest ≡ ys ++ behind = cc in
    let more = run-once xs ys rest behind (and_parts (not (is_blank x)) (list_all (λ c. not (is_blank c)) xs) p).1 (and_parts (not (is_blank y)) (list_all (λ c. not (is_blank c)) ys) q).1 e f tail in
    (ap (λ (b : ℕ). b ∷ xs) head ∙ ap (λ t. y ∷ t) more.0, more.1)

-- a bare word is no quoted one
bare-quote : (xs rest inside : List ℕ) → is_bare xs ≡ true → xs ++ rest ≡ 34 ∷ inside → ⊥
bare-quote [] rest inside bare e = true≢false (sym bare)
bare-quote (x ∷ xs) rest inside bare e =
    let head : x ≡ 34 = cc in
    let other = (and_parts (not (x == 34)) (list_all (λ c. not (is_blank c)) (x ∷ xs)) bare).0 in
    true≢false (sym (sym (ap (λ (b : ℕ). not (b == 34)) head) ∙ other))

bare-run : (xs : List ℕ) → is_bare xs ≡ true → list_all (λ c. not (is_blank c)) xs ≡ true
bare-run [] e = refl
bare-run (x ∷ xs) e = (and_parts (not (x == 34)) (list_all (λ c. not (is_blank c)) (x ∷ xs)) e).1

quoted-is : (bytes inside rest : List ℕ) → bytes ≡ 34 ∷ (inside ++ 34 ∷ []) → bytes ++ rest ≡ 34 ∷ (inside ++ 34 ∷ rest)
quoted-is bytes inside rest e = ap (λ t. t ++ rest) e ∙ ap (λ t. 34 ∷ t) (append_assoc inside (34 ∷ []) rest)

spelled-once : (xs ys word other rest behind : List ℕ) → IsSpelled xs word → IsSpelled ys other → EndsWord rest
    → EndsWord behind → xs ++ rest ≡ ys ++ behind → (word ≡ other) × (rest ≡ behind)
spelled-once xs ys word other rest behind (inl p) (inl q) e f same =
    let once = run-once xs ys rest behind (bare-run xs p.0) (bare-run ys q.0) e f same in
    (sym p.1 ∙ once.0 ∙ q.1, once.1)
spelled-once xs ys word other rest behind (inl p) (inr q) e f same =
    absurd (bare-quote xs rest (q.0 ++ 34 ∷ behind) p.0 (same ∙ quoted-is ys q.0 behind q.1))
spelled-once xs ys word other rest behind (inr p) (inl q) e f same =
    absurd (bare-quote ys behind (p.0 ++ 34 ∷ rest) q.0 (sym same ∙ quoted-is xs p.0 rest p.1))
spelled-once xs ys word other rest behind (inr p) (inr q) e f same =
    let all : 34 ∷ (p.0 ++ 34 ∷ rest) ≡ 34 ∷ (q.0 ++ 34 ∷ behind) = sym (quoted-is xs p.0 rest p.1) ∙ same ∙ quoted-is ys q.0 behind q.1 in
    let tails : p.0 ++ 34 ∷ rest ≡ q.0 ++ 34 ∷ behind = cc in
    let once = stands-once word other p.0 q.0 (34 ∷ rest) behind p.2 q.2 tails refl in
    let ends : 34 ∷ rest ≡ 34 ∷ behind = once.1 in
    (once.0, cc)

pub first-once : (line word other rest behind : List ℕ) → IsFirstWord line word rest → IsFirstWord line other behind
    → (word ≡ other) × (rest ≡ behind)
first-once line word other rest behind p q =
    spelled-once p.bytes q.bytes word other rest behind p.spelled q.spelled p.apart q.apart (sym (first-behind line word rest p) ∙ first-behind line other behind q)

-- ---- all words

pub words-before : (line : List ℕ) (words : List (List ℕ)) → HasWords (behind_blanks line) words → HasWords line words
words-before line [] h = blank-from line (sym (behind-again line) ∙ blank-behind (behind_blanks line) h)
words-before line (word ∷ words) h = (h.0, first-before line word h.0 h.1, h.2)

pub words-ahead : (line : List ℕ) (words : List (List ℕ)) → HasWords line words → HasWords (behind_blanks line) words
words-ahead line [] h = ap (list_all is_blank) (blank-behind line h)
words-ahead line (word ∷ words) h = (h.0, first-ahead line word h.0 h.1, h.2)

pub words-once : (words others : List (List ℕ)) (line : List ℕ) → HasWords line words → HasWords line others
    → words ≡ others
words-once [] [] line p q = refl
words-once [] (other ∷ others) line p q = absurd (blank-lacks line (blank-behind line p) other q.0 q.1)
words-once (word ∷ words) [] line p q = absurd (blank-lacks line (blank-behind line q) word p.0 p.1)
words-once (word ∷ words) (other ∷ others) line p q =
    let once = first-once line word other p.0 q.0 p.1 q.1 in
    let more = words-once words others p.0 p.2 (subst (λ t. HasWords t others) (sym once.1) q.2) in
    ap (λ w. w ∷ words) once.0 ∙ ap (λ ws. other ∷ ws) more

-- ---- how far words were read

pub record HasRead (line rest : List ℕ) (found : List (List ℕ)) : Type 0 where
  pub sound : (more : List (List ℕ)) → HasWords rest more → HasWords line (found ++ more)
  pub only : (all : List (List ℕ)) → HasWords line all
      → (more : List (List ℕ)) × (all ≡ found ++ more) × HasWords rest more
  pub front : behind_blanks rest ≡ rest

pub HasRead-start : (line : List ℕ) → HasRead line (behind_blanks line) []
HasRead-start line = record {
  sound = λ more h. words-before line more h;
  only = λ all h. (all, refl, words-ahead line all h);
  front = behind-again line;
}

pub HasRead-more : (line rest word behind : List ℕ) (found : List (List ℕ)) → HasRead line rest found → rest ≢ []
    → IsFirstWord rest word behind → HasRead line (behind_blanks behind) (found ++ word ∷ [])
HasRead-more line rest word behind found h some first = record {
  sound = λ more has. subst (HasWords line) (sym (append_assoc found (word ∷ []) more)) (h.sound (word ∷ more) (behind, first, words-before behind more has));
  only = λ all has.
      let cut = h.only all has in
      next all cut.0 cut.1 cut.2;
  front = behind-again behind;
}
  where
    next : (all more : List (List ℕ)) → all ≡ found ++ more → HasWords rest more
        → (left : List (List ℕ)) × (all ≡ (found ++ word ∷ []) ++ left) × HasWords (behind_blanks behind) left
    next all [] is has = absurd (some (sym h.front ∙ blank-behind rest has))
    next all (other ∷ left) is has =
        let once = first-once rest other word has.0 behind has.1 first in
        (left, is ∙ ap (λ w. found ++ w ∷ left) once.0 ∙ sym (append_assoc found (word ∷ []) left), words-ahead behind left (subst (λ t. HasWords t left) once.1 has.2))

pub HasRead-all : (line : List ℕ) (found : List (List ℕ)) → HasRead line [] found → HasWords line found
HasRead-all line found h = subst (HasWords line) (append_none found) (h.sound [] refl)
  where
    append_none : (xs : List (List ℕ)) → xs ++ [] ≡ xs
    append_none [] = refl
    append_none (x ∷ xs) = ap (λ t. x ∷ t) (append_none xs)

pub HasRead-lacks : (line rest : List ℕ) (found all : List (List ℕ)) → HasRead line rest found → rest ≢ []
    → LacksWord rest → HasWords line all → ⊥
HasRead-lacks line rest found all h some lacks has = let cut = h.only all has in ends cut.0 cut.2
  where
    ends : (more : List (List ℕ)) → HasWords rest more → ⊥
    ends [] blank = some (sym h.front ∙ blank-behind rest blank)
    ends (word ∷ more) first = lacks word first.0 first.1

-- ---- one word in the code

-- a word that begins with no quote, up to a place at which it ends
pub bare-first : (line : List ℕ) (end : ℕ) → is_bare (take 1 line) ≡ true → end ≤ length line
    → list_all (λ c. not (is_blank c)) (take end line) ≡ true → EndsWord (drop end line) → IsUtf8 (take end line)
    → IsFirstTaken line (take end line, end)
bare-first [] end bare within run apart utf8 = absurd (true≢false (sym bare))
bare-first (b ∷ line) end bare within run apart utf8 =
    (within, some, record { gap = []; bytes = take end (b ∷ line); line_is = sym (take-append-drop end (b ∷ line)); blank = refl; spelled = inl (bare_all, refl); utf8 = utf8; apart = apart })
  where
    parts : (not (b == 34) ≡ true) × (list_all (λ c. not (is_blank c)) (b ∷ []) ≡ true)
    parts = and_parts (not (b == 34)) (list_all (λ c. not (is_blank c)) (b ∷ [])) bare

    other : not (is_blank b) ≡ true
    other = (and_parts (not (is_blank b)) true parts.1).0

    positive : (n : ℕ) → EndsWord (drop n (b ∷ line)) → 0 < n
    positive zero ends = absurd (not-true (is_blank b) other ends)
    positive (suc n) ends = omega arith

    some : 0 < end
    some = positive end apart

    bare_at : (n : ℕ) → 0 < n → list_all (λ c. not (is_blank c)) (take n (b ∷ line)) ≡ true
        → is_bare (take n (b ∷ line)) ≡ true
    bare_at zero pos all = absurd (omega arith)
    bare_at (suc n) pos all = ap (λ t. t && list_all (λ c. not (is_blank c)) (b ∷ take n line)) parts.0 ∙ all

    bare_all : is_bare (take end (b ∷ line)) ≡ true
    bare_all = bare_at end some run

-- such a word that isn't UTF-8 is none
pub bare-lacks : (line : List ℕ) (end : ℕ) → is_bare (take 1 line) ≡ true
    → list_all (λ c. not (is_blank c)) (take end line) ≡ true → EndsWord (drop end line) → (IsUtf8 (take end line) → ⊥)
    → behind_blanks line ≡ line → LacksWord line
bare-lacks line end bare run apart bad front word rest h = by h.spelled
  where
    whole : take end line ++ drop end line ≡ h.bytes ++ rest
    whole = take-append-drop end line ∙ sym front ∙ first-behind line word rest h

    heads : (l bytes inside : List ℕ) → is_bare (take 1 l) ≡ true → l ≡ bytes ++ rest → bytes ≡ 34 ∷ inside → ⊥
    heads [] bytes inside b is q = true≢false (sym b)
    heads (x ∷ l) bytes inside b is q =
        let all : x ∷ l ≡ 34 ∷ (inside ++ rest) = is ∙ ap (λ t. t ++ rest) q in
        let head : x ≡ 34 = cc in
        true≢false (sym (sym (ap (λ (c : ℕ). not (c == 34)) head) ∙ (and_parts (not (x == 34)) (list_all (λ c. not (is_blank c)) (x ∷ [])) b).0))

    by : IsSpelled h.bytes word → ⊥
    by (inl p) =
        let once = run-once (take end line) h.bytes (drop end line) rest run (bare-run h.bytes p.0) apart h.apart whole in
        bad (subst IsUtf8 (sym p.1 ∙ sym once.0) h.utf8)
    by (inr q) = heads line h.bytes (q.0 ++ 34 ∷ []) bare (sym front ∙ first-behind line word rest h) q.1

-- what a quote at the front that ends a word leaves
pub closes-parts : (bytes : List ℕ) → closes bytes ≡ true → (bytes ≡ 34 ∷ drop 1 bytes) × EndsWord (drop 1 bytes)
closes-parts [] e = absurd (true≢false (sym e))
closes-parts (b ∷ []) e = (ap (λ (c : ℕ). c ∷ []) (eqb-true b 34 e), tt)
closes-parts (b ∷ c ∷ bytes) e =
    let parts = and_parts (b == 34) (is_blank c) e in
    (ap (λ (x : ℕ). x ∷ c ∷ bytes) (eqb-true b 34 parts.0), parts.1)

closes-quote : (behind : List ℕ) → EndsWord behind → closes (34 ∷ behind) ≡ true
closes-quote [] e = refl
closes-quote (c ∷ bytes) e = e

-- the bytes in quotes so far, and what is left
pub record IsInQuotes (line rest text : List ℕ) : Type 0 where
  pub inside : List ℕ
  pub is : line ≡ 34 ∷ (inside ++ rest)
  pub stands : StandsFor inside text

-- a quoted word that ends here
pub quoted-first : (line rest text : List ℕ) → IsInQuotes line rest text → closes rest ≡ true → IsUtf8 text
    → IsFirstTaken line (text, length line - length rest + 1)
quoted-first line rest text h e utf8 =
    let parts = closes-parts rest e in
    let behind = drop 1 rest in
    let bytes = 34 ∷ (h.inside ++ 34 ∷ []) in
    let whole : line ≡ bytes ++ behind = h.is ∙ ap (λ t. 34 ∷ (h.inside ++ t)) parts.0 ∙ ap (λ t. 34 ∷ t) (sym (append_assoc h.inside (34 ∷ []) behind)) in
    let all : length line ≡ length bytes + length behind = ap length whole ∙ length-append bytes behind in
    let left : length rest ≡ length behind + 1 = ap length parts.0 ∙ omega arith in
    let taken : length line - length rest + 1 ≡ length bytes + 0 = omega (arith, length-append h.inside (34 ∷ [])) in
    let some : 0 < length line - length rest + 1 = omega arith in
    let within : length line - length rest + 1 ≤ length line = omega (arith, length-append h.inside (34 ∷ [])) in
    let dropped : drop (length line - length rest + 1) line ≡ behind = ap (λ n. drop n line) taken ∙ ap (λ t. drop (length bytes + 0) t) whole ∙ drop-append-add bytes behind 0 in (
      within,
      some,
      record {
        gap = [];
        bytes = bytes;
        line_is = whole ∙ ap (λ t. bytes ++ t) (sym dropped);
        blank = refl;
        spelled = inr (h.inside, refl, h.stands);
        utf8 = utf8;
        apart = subst EndsWord (sym dropped) parts.1;
      },
    )

-- where nothing more is written, the first word ends there as it does here
quoted-once : (line rest text word behind : List ℕ) → IsInQuotes line rest text → written_at rest ≡ None
    → IsFirstWord line word behind → (text ≡ word) × (rest ≡ 34 ∷ behind)
quoted-once line rest text word behind h none first = by first.spelled
  where
    front : behind_blanks line ≡ line
    front = ap behind_blanks h.is ∙ sym h.is

    whole : 34 ∷ (h.inside ++ rest) ≡ first.bytes ++ behind
    whole = sym h.is ∙ sym front ∙ first-behind line word behind first

    by : IsSpelled first.bytes word → (text ≡ word) × (rest ≡ 34 ∷ behind)
    by (inl p) = absurd (bare-quote first.bytes behind (h.inside ++ rest) p.0 (sym whole))
    by (inr q) =
        let all : 34 ∷ (h.inside ++ rest) ≡ 34 ∷ (q.0 ++ 34 ∷ behind) = whole ∙ quoted-is first.bytes q.0 behind q.1 in
        let tails : h.inside ++ rest ≡ q.0 ++ 34 ∷ behind = cc in
        stands-once text word h.inside q.0 rest behind h.stands q.2 tails none

pub quoted-lacks : (line rest text : List ℕ) → IsInQuotes line rest text → written_at rest ≡ None → closes rest ≡ false
    → LacksWord line
quoted-lacks line rest text h none unclosed word behind first =
    let once = quoted-once line rest text word behind h none first in
    true≢false (sym (closes-quote behind first.apart) ∙ ap closes (sym once.1) ∙ unclosed)

pub quoted-no_text : (line rest text : List ℕ) → IsInQuotes line rest text → written_at rest ≡ None → (IsUtf8 text → ⊥)
    → LacksWord line
quoted-no_text line rest text h none bad word behind first =
    let once = quoted-once line rest text word behind h none first in
    bad (subst IsUtf8 (sym once.0) first.utf8)

-- a quote is at the front, and nothing was passed
pub quoted-start : (line : List ℕ) → take 1 line ≡ 34 ∷ [] → IsInQuotes line (drop 1 line) []
quoted-start [] e = absurd cc
quoted-start (b ∷ line) e =
    record { inside = []; is = let head : b ≡ 34 = cc in ap (λ (c : ℕ). c ∷ line) head; stands = refl }

-- one byte more
pub quoted-more : (line rest text more : List ℕ) (b : ℕ) → IsInQuotes line rest text → written_at rest ≡ Some (b, more)
    → IsInQuotes line more (text ++ b ∷ [])
quoted-more line rest text more b h found =
    let ahead = written_at-found rest b more found in
    record {
      inside = h.inside ++ ahead.first;
      is = h.is ∙ ap (λ t. 34 ∷ (h.inside ++ t)) ahead.is ∙ ap (λ t. 34 ∷ t) (sym (append_assoc h.inside ahead.first more));
      stands = stands-more h.inside text ahead.first b h.stands ahead.written;
    }

pub written-shorter : (rest more : List ℕ) (b : ℕ) → written_at rest ≡ Some (b, more) → length more < length rest
written-shorter rest more b found =
    let ahead = written_at-found rest b more found in
    let some = written-some ahead.first b ahead.written in
    let all : length rest ≡ length ahead.first + length more = ap length ahead.is ∙ length-append ahead.first more in
    omega (arith, some, all)

-- a list by the test of its length
pub empty-by : {A : Type 0} (xs : List A) → (length xs == 0) ≡ true → xs ≡ []
empty-by [] e = refl
empty-by (x ∷ xs) e = let none : length (x ∷ xs) ≡ 0 = eqb-true (length (x ∷ xs)) 0 e in absurd (omega arith)

pub some-by : {A : Type 0} (xs : List A) → (length xs == 0) ≡ false → xs ≢ []
some-by [] e = λ _. true≢false e
some-by (x ∷ xs) e = λ none. absurd cc

-- a line that begins with a word and no quote
pub bare-start : (line : List ℕ) → 0 < length line → behind_blanks line ≡ line → get_or line 0 0 ≢ 34
    → is_bare (take 1 line) ≡ true
bare-start [] some front other = absurd (omega arith)
bare-start (b ∷ line) some front other =
    ap (λ t. not t && (not (is_blank b) && true)) (ne_eqb b 34 other)
    ∙ ap (λ t. not t && true) (front-other b line front)
