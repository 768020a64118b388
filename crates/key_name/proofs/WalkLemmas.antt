-- A walk over raw parts, and the escapes of one.
use Rattle.std.proofs.Common.{◌≡◌, ◌≢◌, ℕ, ◌+◌, ◌<◌, Bool, true, false, not, cond, ◌==◌, ◌&&◌, ◌||◌, List, [], ◌∷◌, ◌++◌, length, drop, get_or, codes, map, Option, Some, option_and_then, refl, sym, ap, ap₂, subst, ◌∙◌, inl, inr, arith, append_assoc}
use Rattle.std.specs.List.{list_any}
use Rattle.std.specs.Prelude.{encode_utf8, encode_utf8_all}
use Rattle.std.proofs.lemmas.Bool.{cond-true, cond-false, and_right, ne_eqb, eqb-false, eq-eqb, or_from, or_parts, cases_eq}
use Rattle.std.proofs.lemmas.List.{append-nil}
use Rattle.std.specs.Str.{IsUtf8, chars}
use Rattle.std.proofs.lemmas.Str.{encodes-chars, encode_ascii, encodes-append}
use Rattle.model_names.specs.Name.{Part}
use Rattle.general_words.specs.Texts.{is_text}
use Rattle.model_names.specs.ArrayPart.{is_array_like, canonical_part, digits_of, part_of_digits}
use Rattle.model_names.specs.Spells.{Move, Adds, Stays, GoesUp, meaning, moved, part_of_text, walked, unescaped}
use Rattle.model_names.proofs.ReadLemmas.{meaning-by_form, unescaped_from, unescaped-escape, unescaped-next, unescaped-plain}
use Rattle.model_names.proofs.RefusesLemmas.{branch_taken, from_map, from_and_then}
use Rattle.key_name.specs.declared.raw_parts.Raw.{Raw}
use Rattle.key_name.specs.Raws.{texts}
use Rattle.model_names.proofs.ArrayLemmas.{canonical_part-from}
use Rattle.key_name.proofs.ArrayLemmas.{unescaped-array, is_array_like-unescaped, length_of_some}
use Rattle.model_names.proofs.EscapeLemmas.{IsUnescaped-encode_utf8, read_all, escapes_no_letter}
use Rattle.general_words.proofs.Texts.{other_text, same_text}
use Rattle.key_name.proofs.PassLemmas.{drop-item}
use Rattle.general_words.proofs.Lists.{some_is}

-- ---- what a raw part means

some_move : (m n : Move) → ◌≡◌ {A = Option Move} (Some m) (Some n) → m ≡ n
some_move m n e = cc

-- a raw part that is none of the three that add nothing
pub meaning-adds : (raw : List ℕ) (move : Move) → raw ≢ [] → raw ≢ codes "." → raw ≢ codes ".."
    → meaning raw ≡ Some move → (part : Part) × (move ≡ Adds part)
meaning-adds raw move filled dot dots h =
    let stays = or_from _ _ (length_of_some raw filled) (other_text raw (codes ".") dot) in
    let ups = other_text raw (codes "..") dots in
    let adds = sym (cond-false ((length raw == 0) || is_text raw (codes ".")) (Some Stays) _ stays ∙ cond-false (is_text raw (codes "..")) (Some GoesUp) _ ups) ∙ (sym (meaning-by_form raw) ∙ h) in
    branch_taken (is_text raw (codes "%")) _ _ _ adds (λ _ e. ([], sym (some_move _ _ e)))
    (λ h. branch_taken (is_text raw (92 ∷ codes "%")) _ _ _ h (λ _ e. (codes "%", sym (some_move _ _ e)))
    (λ h. branch_taken (is_text raw (92 ∷ codes ".")) _ _ _ h (λ _ e. (codes ".", sym (some_move _ _ e)))
    (λ h. branch_taken (is_text raw (92 ∷ codes "..")) _ _ _ h (λ _ e. (codes "..", sym (some_move _ _ e)))
    (λ h. let part = from_map Adds (option_and_then part_of_text (unescaped raw)) move h in (part.0, sym part.2)))))

adds_is : (a b : Part) → Adds a ≡ Adds b → a ≡ b
adds_is a b e = cc

-- a raw part that is none of the reserved ones
pub meaning-text : (raw : List ℕ) (part : Part) → raw ≢ codes "%" → raw ≢ 92 ∷ codes "%" → raw ≢ 92 ∷ codes "."
    → raw ≢ 92 ∷ codes ".." → meaning raw ≡ Some (Adds part) → option_and_then part_of_text (unescaped raw) ≡ Some part
meaning-text raw part empty percent dot dots h =
    branch_taken ((length raw == 0) || is_text raw (codes ".")) _ _ _ (sym (meaning-by_form raw) ∙ h) (λ _ e. absurd (cc))
    (λ h. branch_taken (is_text raw (codes "..")) _ _ _ h (λ _ e. absurd (cc))
    (λ h. branch_taken (is_text raw (codes "%")) _ _ _ h (λ t _. absurd (empty (same_text raw (codes "%") t)))
    (λ h. branch_taken (is_text raw (92 ∷ codes "%")) _ _ _ h (λ t _. absurd (percent (same_text raw (92 ∷ codes "%") t)))
    (λ h. branch_taken (is_text raw (92 ∷ codes ".")) _ _ _ h (λ t _. absurd (dot (same_text raw (92 ∷ codes ".") t)))
    (λ h. branch_taken (is_text raw (92 ∷ codes "..")) _ _ _ h (λ t _. absurd (dots (same_text raw (92 ∷ codes "..") t)))
    (λ h. let adds = from_map Adds (option_and_then part_of_text (unescaped raw)) (Adds part) h in adds.1 ∙ ap (λ p. Some p) (adds_is adds.0 part adds.2)))))))

pub part_of_text-array : (raw digits part : List ℕ) → is_array_like raw ≡ true → digits ≡ digits_of raw
    → option_and_then part_of_text (unescaped raw) ≡ Some part → part ≡ part_of_digits digits
part_of_text-array raw digits part like is h =
    let canonical = sym (ap (option_and_then part_of_text) (unescaped-array raw like) ∙ cond-true (is_array_like raw) (canonical_part raw) (Some raw) like) ∙ h in
    (canonical_part-from raw part canonical).is ∙ ap part_of_digits (sym is)

pub part_of_text-plain : (raw part : List ℕ) → is_array_like raw ≡ false
    → option_and_then part_of_text (unescaped raw) ≡ Some part → unescaped raw ≡ Some part
part_of_text-plain raw part other h =
    let text = from_and_then part_of_text (unescaped raw) part h in
    text.1
    ∙ sym (cond-false (is_array_like text.0) (canonical_part text.0) (Some text.0) (is_array_like-unescaped raw text.0 text.1 other))
    ∙ text.2

-- ---- escapes

-- a raw part without a backslash is read as it is
pub unescaped-bare : (raw part : List ℕ) → list_any (λ b. b == 92) raw ≡ false → unescaped raw ≡ Some part → raw ≡ part
unescaped-bare [] part h reads = cc
unescaped-bare (b ∷ raw) part h reads =
    let tests = or_parts (b == 92) (list_any (λ b. b == 92) raw) h in
    let rest = from_map (λ part. b ∷ part) (unescaped raw) part (sym (unescaped-plain b raw (eqb-false b 92 tests.0)) ∙ reads) in
    ap (λ r. b ∷ r) (unescaped-bare raw rest.0 tests.1 rest.1) ∙ rest.2

-- what is read of a part so far is written, and what is left of its text leads to the rest of the part
pub record Leads (waits : Bool) (written left part : List ℕ) : Type 0 where
  pub rest : Part
  pub reads : unescaped_from waits left ≡ Some rest
  pub whole : part ≡ written ++ rest

pub Leads-end : (waits : Bool) (written part : List ℕ) → Leads waits written [] part → written ≡ part
Leads-end true written part h = let reads = h.reads in absurd (cc)
Leads-end false written part h =
    let empty : [] ≡ h.rest = some_is [] h.rest h.reads in
    sym (h.whole ∙ ap (λ rest. written ++ rest) (sym empty) ∙ append-nil written)

one_letter : (letter left : List ℕ) (b : ℕ) → letter ≡ b ∷ [] → letter ++ left ≡ b ∷ left
one_letter letter left b e = ap (λ bytes. bytes ++ left) e

-- a letter that is neither a backslash nor a slash
pub Leads-ordinary : (waits : Bool) (written left part : List ℕ) (c : ℕ) → c ≢ 92 → c ≢ 47
    → Leads waits written (encode_utf8 c ++ left) part → Leads false (written ++ encode_utf8 c) left part
Leads-ordinary true written left part c no_backslash no_slash h =
    let none = escapes_no_letter c left no_backslash no_slash in
    let reads = h.reads in
    absurd (cc)
Leads-ordinary false written left part c no_backslash no_slash h =
    let tail = read_all (encode_utf8 c) left (IsUnescaped-encode_utf8 c no_backslash no_slash) h.rest h.reads in
    record {
      rest = tail.0;
      reads = tail.1;
      whole = h.whole ∙ ap (λ rest. written ++ rest) tail.2 ∙ sym (append_assoc written (encode_utf8 c) tail.0);
    }

-- a backslash, which waits or is escaped itself
pub Leads-backslash : (waits : Bool) (written left part : List ℕ) → Leads waits written (92 ∷ left) part
    → Leads (not waits) (written ++ cond (not waits) [] (92 ∷ [])) left part
Leads-backslash false written left part h =
    record { rest = h.rest; reads = h.reads; whole = h.whole ∙ ap (λ w. w ++ h.rest) (sym (append-nil written)) }
Leads-backslash true written left part h =
    let tail = from_map (λ part. 92 ∷ part) (unescaped left) h.rest (sym (unescaped-escape 92 left) ∙ h.reads) in
    record {
      rest = tail.0;
      reads = tail.1;
      whole = h.whole ∙ ap (λ rest. written ++ rest) (sym tail.2) ∙ sym (append_assoc written (92 ∷ []) tail.0);
    }

pub Leads-slash : (waits : Bool) (written left part : List ℕ) → Leads waits written (47 ∷ left) part
    → Leads false (written ++ 47 ∷ []) left part
Leads-slash false written left part h =
    let tail = from_map (λ part. 47 ∷ part) (unescaped left) h.rest (sym (unescaped-next 47 left) ∙ h.reads) in
    record {
      rest = tail.0;
      reads = tail.1;
      whole = h.whole ∙ ap (λ rest. written ++ rest) (sym tail.2) ∙ sym (append_assoc written (47 ∷ []) tail.0);
    }
Leads-slash true written left part h =
    let tail = from_map (λ part. 47 ∷ part) (unescaped left) h.rest (sym (unescaped-escape 47 left) ∙ h.reads) in
    record {
      rest = tail.0;
      reads = tail.1;
      whole = h.whole ∙ ap (λ rest. written ++ rest) (sym tail.2) ∙ sym (append_assoc written (47 ∷ []) tail.0);
    }

leads_at : (m n : Bool) (a b left part : List ℕ) → m ≡ n → a ≡ b → Leads n b left part → Leads m a left part
leads_at m n a b left part p q h =
    subst (λ (m : Bool). Leads m a left part) (sym p) (subst (λ (a : List ℕ). Leads n a left part) (sym q) h)

and_true : (t b : Bool) → b ≡ true → (t && b) ≡ t
and_true true b e = e
and_true false b e = refl

-- the next letter
pub Leads-next : (waits next : Bool) (written after left part : List ℕ) (c : ℕ) → next ≡ (not waits && (c == 92))
    → after ≡ written ++ cond next [] (encode_utf8 c) → Leads waits written (encode_utf8 c ++ left) part
    → Leads next after left part
Leads-next waits next written after left part c n a h =
    elim (cases_eq c 92) [
      | inl e ↦
          let bytes : encode_utf8 c ≡ 92 ∷ [] = encode_ascii c (omega arith) ∙ ap (λ b. b ∷ []) e in
          let waiting = n ∙ and_true (not waits) (c == 92) (eq-eqb c 92 e) in
          let added = a ∙ ap₂ (λ t bytes. written ++ cond t [] bytes) waiting bytes in
          leads_at next (not waits) after _ left part waiting added (Leads-backslash waits written left part (subst (λ (text : List ℕ). Leads waits written text part) (one_letter (encode_utf8 c) left 92 bytes) h))
      | inr other ↦
          let read = n ∙ and_right (not waits) (c == 92) (ne_eqb c 92 other) in
          let added = a ∙ ap (λ t. written ++ cond t [] (encode_utf8 c)) read in
          elim (cases_eq c 47) [
            | inl e ↦
                let bytes : encode_utf8 c ≡ 47 ∷ [] = encode_ascii c (omega arith) ∙ ap (λ b. b ∷ []) e in
                leads_at next false after _ left part read (added ∙ ap (λ bytes. written ++ bytes) bytes) (Leads-slash waits written left part (subst (λ (text : List ℕ). Leads waits written text part) (one_letter (encode_utf8 c) left 47 bytes) h))
            | inr plain ↦ leads_at next false after _ left part read added (Leads-ordinary waits written left part c other plain h)
          ]
    ]

pub letters_push : (letters left : List ℕ) (c : ℕ)
    → encode_utf8_all letters ++ (encode_utf8 c ++ left) ≡ encode_utf8_all (letters ++ c ∷ []) ++ left
letters_push letters left c =
    sym (append_assoc (encode_utf8_all letters) (encode_utf8 c) left)
    ∙ ap (λ bytes. (encode_utf8_all letters ++ bytes) ++ left) (sym (append-nil (encode_utf8 c)))
    ∙ ap (λ bytes. bytes ++ left) (sym (encodes-append letters (c ∷ [])))

map_same : (letters : List ℕ) → map (λ c. c) letters ≡ letters
map_same [] = refl
map_same (c ∷ letters) = ap (λ rest. c ∷ rest) (map_same letters)

-- all letters of a text
pub letters_all : (text letters : List ℕ) → IsUtf8 text → map (λ c. c) letters ≡ chars text
    → encode_utf8_all letters ≡ text
letters_all text letters utf8 h = ap encode_utf8_all (sym (map_same letters) ∙ h) ∙ encodes-chars text utf8

-- ---- the walk

pub walked-next : (parts after path : List Part) (raws : List Raw) (i : ℕ) (raw : Raw) → raw ≡ get_or raws i raw
    → i < length raws → ((move : Move) → meaning raw.text.now ≡ Some move → after ≡ moved parts move)
    → walked parts (texts (drop i raws)) ≡ Some path → walked after (texts (drop (i + 1) raws)) ≡ Some path
walked-next parts after path raws i raw is within moves h =
    let rest = texts (drop (i + 1) raws) in
    let next = ap (λ left. walked parts (texts left)) (drop-item raws i raw is within) in
    let move = from_and_then (λ move. walked (moved parts move) rest) (meaning raw.text.now) path (sym next ∙ h) in
    ap (λ p. walked p rest) (moves move.0 move.1) ∙ move.2
