-- The canonical spelling of a well-formed name spells it, and what a text spells is well formed.
use Rattle.std.specs.Prelude.{◌≡◌, ◌≢◌, ℕ, ◌<◌, ◌≤◌, true, false, ◌||◌, ◌==◌, List, [], ◌∷◌, ◌++◌, length, drop, map, Option, Some, option_and_then, codes, encode_utf8, encode_utf8_all}
use Rattle.std.proofs.Common.{refl, sym, ap, subst, ◌∙◌, inl, inr, arith, lit<, append_assoc, length-drop}
use Rattle.std.specs.List.{AllByRecursion, flat_map, onto_first}
use Rattle.std.specs.Option.{option_map}
use Rattle.std.specs.Str.{IsUtf8, all_scalars}
use Rattle.std.proofs.lemmas.Bool.{true≢false, false_from_ne_true, cond_both, cond-true, cond-false, and_parts, or_from, or_parts, ne_eqb, cases_Bool, cases_eq, eqb-false, eqb-true}
use Rattle.std.proofs.lemmas.List.{append-nil, nil_from_length}
use Rattle.std.proofs.lemmas.List.Concat.{flat_map-append}
use Rattle.std.proofs.lemmas.Slice.Eq.{bytes_eq-Decides}
use Rattle.std.proofs.lemmas.Str.{IsUtf8-append, IsUtf8-nil, IsUtf8-encode, encode_ascii}
use Rattle.model_names.specs.declared.namespaces.Namespace.{Namespace}
use Rattle.model_names.specs.declared.namespaces.Namespace.TheVariants.{Cascading, Spec, Proc, Dir, User, System, Default}
use Rattle.model_names.specs.ArrayPart.{is_array_like, canonical_part}
use Rattle.model_names.specs.Name.{Name, Part}
use Rattle.model_names.specs.RawParts.{raw_parts, raw_parts_from, put_before}
use Rattle.model_names.specs.Refuses.{begins_with_slash}
use Rattle.model_names.specs.Spells.{Spells, Adds, longest_path, walked, moved, meaning, part_of_text, unescaped}
use Rattle.general_words.specs.Texts.{is_text}
use Rattle.model_names.specs.Spelling.{spelling, spelled, escaped, is_reserved, word_of, path, path_of_parts, relative_text}
use Rattle.model_names.specs.WellFormed.{IsName, IsPart}
use Rattle.model_names.proofs.ArrayLemmas.{canonical_part-own}
use Rattle.model_names.proofs.EscapeLemmas.{flat_map-escaped-letter}
use Rattle.model_names.proofs.PartLemmas.{IsText, IsText-raw_parts, IsUtf8-byte, IsUtf8-cons, text_from_test, utf8_behind_slash, walked_parts}
use Rattle.model_names.proofs.ReadLemmas.{meaning-by_form, unescaped-escape, unescaped-plain}
use Rattle.model_names.proofs.RefusesLemmas.{slash_begins}
use Rattle.model_names.proofs.SpellsLemmas.{Spells-once, same_cut}
use Rattle.general_words.proofs.Lists.{some_is, all_append, all_back}
use Rattle.general_words.proofs.Texts.{same_text}

-- ---- what a text spells

pub spelled_is_name : (text : List ℕ) (name : Name) → Spells text name → IsName name
spelled_is_name text name h =
    let utf8 : IsUtf8 (word_of name.namespace ++ 47 ∷ h.rest) = subst (λ (t : List ℕ). IsUtf8 t) h.cut h.utf8 in
    let no_nul : AllByRecursion (λ b. 0 < b) (47 ∷ h.rest) = all_back (λ b. 0 < b) (word_of name.namespace) (47 ∷ h.rest) (subst (λ (t : List ℕ). AllByRecursion (λ b. 0 < b) t) h.cut h.no_nul) in
    record {
      parts = walked_parts [] (raw_parts h.rest) name.parts tt (IsText-raw_parts h.rest (IsUtf8-cons 47 h.rest (lit< tt) (utf8_behind_slash (word_of name.namespace) h.rest utf8)) no_nul) h.leads;
      limit = h.limit;
    }

-- ---- the canonical spelling

-- bytes before the first of raw parts
abbrev onto : List ℕ → List (List ℕ) → List (List ℕ)
onto [] raws = raws
onto (b ∷ bytes) raws = onto_first b (onto bytes raws)

onto-append : (a b : List ℕ) (raws : List (List ℕ)) → onto (a ++ b) raws ≡ onto a (onto b raws)
onto-append [] b raws = refl
onto-append (x ∷ a) b raws = ap (onto_first x) (onto-append a b raws)

onto-empty : (bytes : List ℕ) (raws : List (List ℕ)) → onto bytes ([] ∷ raws) ≡ bytes ∷ raws
onto-empty [] raws = refl
onto-empty (b ∷ bytes) raws = ap (onto_first b) (onto-empty bytes raws)

ordinary_raw : (b : ℕ) (rest : List ℕ) → b ≢ 92 → b ≢ 47 → raw_parts (b ∷ rest) ≡ onto_first b (raw_parts rest)
ordinary_raw b rest no_backslash no_slash =
    ap (λ t. put_before (b == 47) b (raw_parts_from t rest)) (ne_eqb b 92 no_backslash)
    ∙ ap (λ t. put_before t b (raw_parts rest)) (ne_eqb b 47 no_slash)

-- an escaped byte belongs to the raw part that it stands in
raw_parts-escaped : (b : ℕ) (rest : List ℕ) → raw_parts (escaped b ++ rest) ≡ onto (escaped b) (raw_parts rest)
raw_parts-escaped b rest =
    elim (cases_Bool ((b == 92) || (b == 47))) [
      | inl e ↦ let bytes : escaped b ≡ 92 ∷ b ∷ [] = cond-true _ _ _ e in ap (λ t. raw_parts (t ++ rest)) bytes ∙ ap (λ t. onto t (raw_parts rest)) (sym bytes)
      | inr e ↦
          let bytes : escaped b ≡ b ∷ [] = cond-false _ _ _ e in
          let other = or_parts (b == 92) (b == 47) e in
          ap (λ t. raw_parts (t ++ rest)) bytes ∙ ordinary_raw b rest (eqb-false b 92 other.0) (eqb-false b 47 other.1)
          ∙ ap (λ t. onto t (raw_parts rest)) (sym bytes)
    ]

raw_parts-all_escaped : (part rest : List ℕ)
    → raw_parts (flat_map escaped part ++ rest) ≡ onto (flat_map escaped part) (raw_parts rest)
raw_parts-all_escaped [] rest = refl
raw_parts-all_escaped (b ∷ part) rest =
    ap raw_parts (append_assoc (escaped b) (flat_map escaped part) rest)
    ∙ raw_parts-escaped b (flat_map escaped part ++ rest) ∙ ap (onto (escaped b)) (raw_parts-all_escaped part rest)
    ∙ sym (onto-append (escaped b) (flat_map escaped part) (raw_parts rest))

-- how a part is spelled
data SpelledAs (part : Part) : Type 0 where
  AsEmpty : part ≡ [] → SpelledAs part
  AsPercent : part ≡ codes "%" → SpelledAs part
  AsDot : part ≡ codes "." → SpelledAs part
  AsDots : part ≡ codes ".." → SpelledAs part
  AsText : (length part == 0) ≡ false → is_reserved part ≡ false → SpelledAs part

spelled_as : (part : Part) → SpelledAs part
spelled_as part =
    elim (cases_Bool (length part == 0)) [
      | inl e ↦ AsEmpty (nil_from_length part (eqb-true (length part) 0 e))
      | inr filled ↦ elim (cases_Bool (is_text part (codes "%"))) [
        | inl e ↦ AsPercent (same_text part (codes "%") e)
        | inr percent ↦ elim (cases_Bool (is_text part (codes "."))) [
          | inl e ↦ AsDot (same_text part (codes ".") e)
          | inr dot ↦ elim (cases_Bool (is_text part (codes ".."))) [
            | inl e ↦ AsDots (same_text part (codes "..") e)
            | inr dots ↦ AsText filled (or_from _ _ (or_from _ _ percent dot) dots)
          ]
        ]
      ]
    ]

pub spelled-text : (part : Part) → (length part == 0) ≡ false → is_reserved part ≡ false
    → spelled part ≡ flat_map escaped part
spelled-text part filled ordinary =
    cond-false (length part == 0) _ _ filled ∙ cond-false (is_reserved part) _ _ ordinary

-- a spelled part is one raw part
raw_parts-spelled : (part rest : List ℕ) → raw_parts (spelled part ++ rest) ≡ onto (spelled part) (raw_parts rest)
raw_parts-spelled part rest = by (spelled_as part)
  where
    at : (bytes : List ℕ) → spelled part ≡ bytes → raw_parts (bytes ++ rest) ≡ onto bytes (raw_parts rest)
        → raw_parts (spelled part ++ rest) ≡ onto (spelled part) (raw_parts rest)
    at bytes e h = ap (λ t. raw_parts (t ++ rest)) e ∙ h ∙ ap (λ t. onto t (raw_parts rest)) (sym e)

    by : SpelledAs part → raw_parts (spelled part ++ rest) ≡ onto (spelled part) (raw_parts rest)
    by (AsEmpty e) = at (codes "%") (ap spelled e) refl
    by (AsPercent e) = at (92 ∷ codes "%") (ap spelled e) refl
    by (AsDot e) = at (92 ∷ codes ".") (ap spelled e) refl
    by (AsDots e) = at (92 ∷ codes "..") (ap spelled e) refl
    by (AsText filled ordinary) =
        at (flat_map escaped part) (spelled-text part filled ordinary) (raw_parts-all_escaped part rest)

-- the parts of a path are its raw parts
raw_parts-path : (part : Part) (parts : List Part)
    → raw_parts (spelled part ++ flat_map (λ p. 47 ∷ spelled p) parts) ≡ spelled part ∷ map spelled parts
raw_parts-path part [] = raw_parts-spelled part [] ∙ onto-empty (spelled part) []
raw_parts-path part (next ∷ parts) =
    raw_parts-spelled part (47 ∷ spelled next ++ flat_map (λ p. 47 ∷ spelled p) parts) ∙ onto-empty (spelled part) _
    ∙ ap (λ raws. spelled part ∷ raws) (raw_parts-path next parts)

-- ---- what a spelled part means

ordinary_read : (b : ℕ) (bytes part : List ℕ) → b ≢ 92 → unescaped bytes ≡ Some part
    → unescaped (b ∷ bytes) ≡ Some (b ∷ part)
ordinary_read b bytes part other h = unescaped-plain b bytes other ∙ ap (option_map (λ part. b ∷ part)) h

-- the escapes of a part are read as the part
pub unescaped-escaped : (part : Part) → unescaped (flat_map escaped part) ≡ Some part
unescaped-escaped [] = refl
unescaped-escaped (b ∷ part) =
    elim (cases_Bool ((b == 92) || (b == 47))) [
      | inl e ↦
          let bytes : escaped b ≡ 92 ∷ b ∷ [] = cond-true _ _ _ e in
          ap (λ t. unescaped (t ++ flat_map escaped part)) bytes ∙ unescaped-escape b (flat_map escaped part)
          ∙ cond-true ((b == 92) || (b == 47)) _ _ e ∙ ap (option_map (λ part. b ∷ part)) (unescaped-escaped part)
      | inr e ↦
          let bytes : escaped b ≡ b ∷ [] = cond-false _ _ _ e in
          ap (λ t. unescaped (t ++ flat_map escaped part)) bytes
          ∙ ordinary_read b (flat_map escaped part) part (eqb-false b 92 (or_parts (b == 92) (b == 47) e).0) (unescaped-escaped part)
    ]

other_raw : (raw text : List ℕ) (part : Part) → unescaped raw ≡ Some part → (unescaped text ≡ Some part → ⊥)
    → is_text raw text ≡ false
other_raw raw text part reads apart =
    false_from_ne_true (is_text raw text) (λ e. apart (sym (ap unescaped (same_text raw text e)) ∙ reads))

not_empty : (raw : List ℕ) (part : Part) → unescaped raw ≡ Some part → (length part == 0) ≡ false
    → (length raw == 0) ≡ false
not_empty [] part reads filled =
    let none = ap length (some_is [] part reads) in absurd (true≢false (ap (λ n. n == 0) none ∙ filled))
not_empty (b ∷ raw) part reads filled = ne_eqb (length (b ∷ raw)) 0 (omega arith)

not_reserved : (text part : Part) → is_text part text ≡ false → ◌≡◌ {A = Option Part} (Some text) (Some part) → ⊥
not_reserved text part other e = true≢false (sym ((bytes_eq-Decides part text).1 (sym (some_is text part e))) ∙ other)

part_is_read : (part : Part) → IsPart part → part_of_text part ≡ Some part
part_is_read part h =
    elim (cases_Bool (is_array_like part)) [
      | inl like ↦ cond-true (is_array_like part) (canonical_part part) (Some part) like ∙ canonical_part-own part like (h.canonical like)
      | inr other ↦ cond-false (is_array_like part) (canonical_part part) (Some part) other
    ]

meaning-text : (part : Part) → IsPart part → (length part == 0) ≡ false → is_reserved part ≡ false
    → meaning (flat_map escaped part) ≡ Some (Adds part)
meaning-text part h filled ordinary =
    let raw = flat_map escaped part in
    let reads = unescaped-escaped part in
    let two = or_parts (is_text part (codes "%") || is_text part (codes ".")) (is_text part (codes "..")) ordinary in
    let one = or_parts (is_text part (codes "%")) (is_text part (codes ".")) two.0 in
    let stays = or_from _ _ (not_empty raw part reads filled) (other_raw raw (codes ".") part reads (not_reserved (codes ".") part one.1)) in
    meaning-by_form raw
    ∙ cond-false ((length raw == 0) || is_text raw (codes ".")) _ _ stays
    ∙ cond-false (is_text raw (codes "..")) _ _ (other_raw raw (codes "..") part reads (not_reserved (codes "..") part two.1))
    ∙ cond-false (is_text raw (codes "%")) _ _ (other_raw raw (codes "%") part reads (not_reserved (codes "%") part one.0))
    ∙ cond-false (is_text raw (92 ∷ codes "%")) _ _ (other_raw raw (92 ∷ codes "%") part reads (λ e. absurd (cc)))
    ∙ cond-false (is_text raw (92 ∷ codes ".")) _ _ (other_raw raw (92 ∷ codes ".") part reads (λ e. absurd (cc)))
    ∙ cond-false (is_text raw (92 ∷ codes "..")) _ _ (other_raw raw (92 ∷ codes "..") part reads (λ e. absurd (cc)))
    ∙ ap (λ o. option_map Adds (option_and_then part_of_text o)) reads
    ∙ ap (option_map Adds) (part_is_read part h)

-- a spelled part adds the part
pub meaning-spelled : (part : Part) → IsPart part → meaning (spelled part) ≡ Some (Adds part)
meaning-spelled part h = by (spelled_as part)
  where
    at : (text : Part) (bytes : List ℕ) → part ≡ text → spelled text ≡ bytes → meaning bytes ≡ Some (Adds text)
        → meaning (spelled part) ≡ Some (Adds part)
    at text bytes e same m = ap (λ p. meaning (spelled p)) e ∙ ap meaning same ∙ m ∙ ap (λ p. Some (Adds p)) (sym e)

    by : SpelledAs part → meaning (spelled part) ≡ Some (Adds part)
    by (AsEmpty e) = at [] (codes "%") e refl refl
    by (AsPercent e) = at (codes "%") (92 ∷ codes "%") e refl refl
    by (AsDot e) = at (codes ".") (92 ∷ codes ".") e refl refl
    by (AsDots e) = at (codes "..") (92 ∷ codes "..") e refl refl
    by (AsText filled ordinary) = ap meaning (spelled-text part filled ordinary) ∙ meaning-text part h filled ordinary

walked-spelled : (path parts : List Part) → AllByRecursion IsPart parts
    → walked path (map spelled parts) ≡ Some (path ++ parts)
walked-spelled path [] h = ap (λ p. Some p) (sym (append-nil path))
walked-spelled path (part ∷ parts) h =
    ap (option_and_then (λ move. walked (moved path move) (map spelled parts))) (meaning-spelled part h.0)
    ∙ walked-spelled (path ++ part ∷ []) parts h.1 ∙ ap (λ p. Some p) (append_assoc path (part ∷ []) parts)

-- ---- its bytes

IsText-append : (a b : List ℕ) → IsText a → IsText b → IsText (a ++ b)
IsText-append a b p q =
    record { utf8 = IsUtf8-append a b p.utf8 q.utf8; no_nul = all_append (λ b. 0 < b) a b p.no_nul q.no_nul }

escaped_letter : (c : ℕ) → IsUtf8 (encode_utf8 c) → IsUtf8 (flat_map escaped (encode_utf8 c))
escaped_letter c letter =
    elim (cases_eq c 92) [
      | inl e ↦ at 92 e (lit< tt) (IsUtf8-cons 92 (92 ∷ []) (lit< tt) (IsUtf8-byte 92 (lit< tt)))
      | inr no_backslash ↦ elim (cases_eq c 47) [
        | inl e ↦ at 47 e (lit< tt) (IsUtf8-cons 92 (47 ∷ []) (lit< tt) (IsUtf8-byte 47 (lit< tt)))
        | inr no_slash ↦ subst (λ (t : List ℕ). IsUtf8 t) (sym (flat_map-escaped-letter c no_backslash no_slash)) letter
      ]
    ]
  where
    at : (b : ℕ) → c ≡ b → b < 128 → IsUtf8 (flat_map escaped (b ∷ [])) → IsUtf8 (flat_map escaped (encode_utf8 c))
    at b e small h =
        subst (λ (t : List ℕ). IsUtf8 (flat_map escaped t)) (sym (encode_ascii c (omega arith) ∙ ap (λ b. b ∷ []) e)) h

escaped_utf8 : (letters : List ℕ) → all_scalars letters ≡ true → IsUtf8 (flat_map escaped (encode_utf8_all letters))
escaped_utf8 [] scalars = IsUtf8-nil
escaped_utf8 (c ∷ letters) scalars =
    let both = and_parts _ (all_scalars letters) scalars in
    subst (λ (t : List ℕ). IsUtf8 t) (sym (flat_map-append escaped (encode_utf8 c) (encode_utf8_all letters)))
    (IsUtf8-append (flat_map escaped (encode_utf8 c)) (flat_map escaped (encode_utf8_all letters)) (escaped_letter c (IsUtf8-encode c both.0)) (escaped_utf8 letters both.1))

escaped_no_nul : (part : Part) → AllByRecursion (λ b. 0 < b) part → AllByRecursion (λ b. 0 < b) (flat_map escaped part)
escaped_no_nul [] h = tt
escaped_no_nul (b ∷ part) h =
    all_append (λ b. 0 < b) (escaped b) (flat_map escaped part)
    (cond_both ((b == 92) || (b == 47)) (92 ∷ b ∷ []) (b ∷ []) (λ bytes. AllByRecursion (λ b. 0 < b) bytes) (λ _. (lit< tt, (h.0, tt))) (λ _. (h.0, tt)))
    (escaped_no_nul part h.1)

IsText-spelled : (part : Part) → IsPart part → IsText (spelled part)
IsText-spelled part h = by (spelled_as part)
  where
    at : (bytes : List ℕ) → spelled part ≡ bytes → IsText bytes → IsText (spelled part)
    at bytes e text = subst IsText (sym e) text

    by : SpelledAs part → IsText (spelled part)
    by (AsEmpty e) = at (codes "%") (ap spelled e) (text_from_test (codes "%") refl)
    by (AsPercent e) = at (92 ∷ codes "%") (ap spelled e) (text_from_test (92 ∷ codes "%") refl)
    by (AsDot e) = at (92 ∷ codes ".") (ap spelled e) (text_from_test (92 ∷ codes ".") refl)
    by (AsDots e) = at (92 ∷ codes "..") (ap spelled e) (text_from_test (92 ∷ codes "..") refl)
    by (AsText filled ordinary) =
        let letters = h.utf8 in
        at (flat_map escaped part) (spelled-text part filled ordinary) (record { utf8 = subst (λ (t : List ℕ). IsUtf8 (flat_map escaped t)) letters.1.1 (escaped_utf8 letters.0 letters.1.0); no_nul = escaped_no_nul part h.no_nul })

IsText-slashed : (parts : List Part) → AllByRecursion IsPart parts → IsText (flat_map (λ p. 47 ∷ spelled p) parts)
IsText-slashed [] h = text_from_test [] refl
IsText-slashed (part ∷ parts) h =
    IsText-append (47 ∷ spelled part) (flat_map (λ p. 47 ∷ spelled p) parts) (IsText-append (codes "/") (spelled part) (text_from_test (codes "/") refl) (IsText-spelled part h.0)) (IsText-slashed parts h.1)

IsText-path : (parts : List Part) → AllByRecursion IsPart parts → IsText (path_of_parts parts)
IsText-path [] h = text_from_test (codes "/") refl
IsText-path (part ∷ parts) h = IsText-slashed (part ∷ parts) h

IsText-word : (n : Namespace) → IsText (word_of n)
IsText-word Cascading = text_from_test [] refl
IsText-word Spec = text_from_test (codes "spec:") refl
IsText-word Proc = text_from_test (codes "proc:") refl
IsText-word Dir = text_from_test (codes "dir:") refl
IsText-word User = text_from_test (codes "user:") refl
IsText-word System = text_from_test (codes "system:") refl
IsText-word Default = text_from_test (codes "default:") refl

-- ---- the whole name

-- a path behind its first slash, and where it leads
record LeadsTo (parts : List Part) : Type 0 where
  rest : List ℕ
  cut : path_of_parts parts ≡ 47 ∷ rest
  leads : walked [] (raw_parts rest) ≡ Some parts

path_leads : (parts : List Part) → AllByRecursion IsPart parts → LeadsTo parts
path_leads [] h = record { rest = []; cut = refl; leads = refl }
path_leads (part ∷ parts) h =
    record {
      rest = spelled part ++ flat_map (λ p. 47 ∷ spelled p) parts;
      cut = refl;
      leads = ap (walked []) (raw_parts-path part parts) ∙ walked-spelled [] (part ∷ parts) h;
    }

pub spelling_spells : (name : Name) → IsName name → Spells (spelling name) name
spelling_spells name h =
    let to = path_leads name.parts h.parts in
    let text = IsText-append (word_of name.namespace) (path_of_parts name.parts) (IsText-word name.namespace) (IsText-path name.parts h.parts) in
    record {
      rest = to.rest;
      cut = ap (λ p. word_of name.namespace ++ p) to.cut;
      leads = to.leads;
      utf8 = text.utf8;
      no_nul = text.no_nul;
      limit = h.limit;
    }

-- two well-formed names of one spelling are one
pub one_spelling : (a b : Name) → IsName a → IsName b → spelling a ≡ spelling b → a ≡ b
one_spelling a b p q e =
    Spells-once (spelling a) a b (spelling_spells a p) (subst (λ (t : List ℕ). Spells t b) (sym e) (spelling_spells b q))

-- ---- the slash in front

-- a text that begins with a slash spells a cascading name
pub slash_is_cascading : (text : List ℕ) (name : Name) → begins_with_slash text ≡ true → Spells text name
    → name.namespace ≡ Cascading
slash_is_cascading text name begins h =
    let slash = slash_begins text begins in
    sym (same_cut Cascading name.namespace slash.0 h.rest (sym slash.1 ∙ h.cut)).0

path_begins : (parts : List Part) → begins_with_slash (path_of_parts parts) ≡ true
path_begins [] = refl
path_begins (part ∷ parts) = refl

-- the spelling of a cascading name begins with a slash
pub cascading_begins : (name : Name) → name.namespace ≡ Cascading → begins_with_slash (spelling name) ≡ true
cascading_begins name e = ap (λ n. begins_with_slash (word_of n ++ path_of_parts name.parts)) e ∙ path_begins name.parts

-- ---- a name as a file has it

-- the first byte of a path is the slash that a file leaves out
path-slash : (parts : List Part) → path_of_parts parts ≡ 47 ∷ drop 1 (path_of_parts parts)
path-slash [] = refl
path-slash (part ∷ parts) = refl

-- with it before it, the relative text of a cascading name is its spelling
pub relative_text-spelling : (name : Name) → name.namespace ≡ Cascading → spelling name ≡ 47 ∷ relative_text name
relative_text-spelling name cascading = ap (λ (n : Namespace). word_of n ++ path name) cascading ∙ path-slash name.parts

pub relative_text-spells : (name : Name) → IsName name → name.namespace ≡ Cascading
    → Spells (47 ∷ relative_text name) name
relative_text-spells name is cascading =
    subst (λ t. Spells t name) (relative_text-spelling name cascading) (spelling_spells name is)

pub length-relative_text : (name : Name) → IsName name → length (relative_text name) ≤ longest_path
length-relative_text name is = let limit = is.limit in omega (arith, length-drop 1 (path name))
