-- A plain path: what stands between its slashes are the parts that it leads to, and it is spelled as it is.
use Rattle.std.proofs.Common.{◌≡◌, ◌≢◌, ℕ, ◌+◌, ◌<◌, nat_lt, inl, inr, Bool, true, false, cond, not, ◌==◌, ◌&&◌, ◌||◌, List, [], ◌∷◌, ◌++◌, length, drop, codes, Some, None, option_and_then, refl, sym, ap, ap₂, subst, ◌∙◌, arith, append_assoc, length-append}
use Rattle.std.specs.List.{AllByRecursion, flat_map, list_all, position, position_or_len}
use Rattle.std.specs.Option.{option_map}
use Rattle.std.specs.Str.{IsUtf8}
use Rattle.std.proofs.lemmas.Bool.{and_left, and_parts, cases_Bool, cond-false, eqb-false, le-ltb, lt-ltb, ltb-false, ltb-true, ne_eqb, or_from, or_parts}
use Rattle.std.proofs.lemmas.List.{append-nil}
use Rattle.std.proofs.lemmas.Str.{IsUtf8-append}
use Rattle.model_names.specs.declared.namespaces.Namespace.{Namespace}
use Rattle.model_names.specs.declared.namespaces.Namespace.TheVariants.{Cascading, Spec, Proc, Dir, User, System, Default}
use Rattle.general_words.specs.Texts.{is_text}
use Rattle.general_words.proofs.Tests.{not_is}
use Rattle.general_words.proofs.Lists.{all_append}
use Rattle.model_names.specs.ArrayPart.{is_array_like}
use Rattle.model_names.specs.Name.{Part}
use Rattle.model_names.specs.RawParts.{raw_parts, raw_parts_from, put_before}
use Rattle.model_names.specs.Spelling.{is_reserved, path_of_parts, spelled, word_of}
use Rattle.model_names.specs.Spells.{Adds, Spells, longest_path, meaning, moved, part_of_text, unescaped, walked}
use Rattle.model_names.proofs.EscapeLemmas.{IsUnescaped, flat_map-escaped-same}
use Rattle.model_names.proofs.NameLemmas.{spelled-text}
use Rattle.model_names.proofs.PartLemmas.{IsText, slashed-raw_parts, text_from_test}
use Rattle.model_names.proofs.ReadLemmas.{meaning-by_form, unescaped-plain}
use Rattle.key_name.specs.Plain.{begins_plainly, is_plain, is_plain_byte, is_plain_part, plain_parts}
use Rattle.key_name.specs.PartList.{between_slashes}
use Rattle.key_name.proofs.SlashLemmas.{split_all}
use Rattle.key_name.specs.Raws.{text_behind}

-- ---- bytes

-- a byte that escapes nothing, and no NUL
pub record IsPlainByte (b : ℕ) : Type 0 where
  pub no_escape : b ≢ 92
  pub some : 0 < b

plain_byte : (b : ℕ) → is_plain_byte b ≡ true → IsPlainByte b
plain_byte b h =
    let tests = and_parts (not (b == 92)) (not (b == 0)) h in
    let none = eqb-false b 0 (not_is (b == 0) tests.1) in
    record { no_escape = eqb-false b 92 (not_is (b == 92) tests.0); some = omega (arith, none) }

pub no_nuls : (bytes : List ℕ) → AllByRecursion IsPlainByte bytes → AllByRecursion (λ b. 0 < b) bytes
no_nuls [] h = tt
no_nuls (b ∷ bytes) h = (h.0.some, no_nuls bytes h.1)

unescaped_bytes : (bytes : List ℕ) → AllByRecursion IsPlainByte bytes
    → AllByRecursion (λ b. b ≢ 47 → IsUnescaped b) bytes
unescaped_bytes [] h = tt
unescaped_bytes (b ∷ bytes) h =
    ((λ no_slash. record { no_backslash = h.0.no_escape; no_slash = no_slash }), unescaped_bytes bytes h.1)

-- ---- what a raw part means

raw_parts-plain : (bytes : List ℕ) → AllByRecursion IsPlainByte bytes → raw_parts bytes ≡ between_slashes bytes
raw_parts-plain [] h = refl
raw_parts-plain (b ∷ bytes) h =
    ap (λ e. put_before (b == 47) b (raw_parts_from e bytes)) (ne_eqb b 92 h.0.no_escape)
    ∙ ap (put_before (b == 47) b) (raw_parts-plain bytes h.1)

unescaped-same : (raw : List ℕ) → AllByRecursion IsUnescaped raw → unescaped raw ≡ Some raw
unescaped-same [] h = refl
unescaped-same (b ∷ raw) h =
    unescaped-plain b raw h.0.no_backslash ∙ ap (option_map (λ part. b ∷ part)) (unescaped-same raw h.1)

-- a raw part that stands for itself
pub record IsOrdinary (raw : List ℕ) : Type 0 where
  pub filled : (length raw == 0) ≡ false
  pub no_reserved : is_reserved raw ≡ false
  pub no_array : is_array_like raw ≡ false

-- by its first byte
begun_plainly : (b : ℕ) (raw : List ℕ) → begins_plainly b ≡ true → IsOrdinary (b ∷ raw)
begun_plainly b raw h =
    let last = and_parts (not (b == 46) && not (b == 37)) (not (b == 35)) h in
    let first = and_parts (not (b == 46)) (not (b == 37)) last.0 in
    let no_dot = not_is (b == 46) first.0 in
    record {
      filled = ne_eqb (length (b ∷ raw)) 0 (omega arith);
      no_reserved = or_from _ _ (or_from _ _ (and_left (b == 37) _ (not_is (b == 37) first.1)) (and_left (b == 46) _ no_dot)) (and_left (b == 46) _ no_dot);
      no_array = and_left (b == 35) _ (not_is (b == 35) last.1);
    }

no_escape_first : (raw text : List ℕ) → AllByRecursion IsUnescaped raw → is_text raw (92 ∷ text) ≡ false
no_escape_first [] text h = refl
no_escape_first (b ∷ raw) text h = and_left (b == 92) _ (ne_eqb b 92 h.0.no_backslash)

meaning-ordinary : (raw : List ℕ) → AllByRecursion IsUnescaped raw → IsOrdinary raw → meaning raw ≡ Some (Adds raw)
meaning-ordinary raw h o =
    let reserved = or_parts (is_text raw (codes "%") || is_text raw (codes ".")) (is_text raw (codes "..")) o.no_reserved in
    let one = or_parts (is_text raw (codes "%")) (is_text raw (codes ".")) reserved.0 in
    meaning-by_form raw
    ∙ cond-false _ _ _ (or_from _ _ o.filled one.1)
    ∙ cond-false _ _ _ reserved.1
    ∙ cond-false _ _ _ one.0
    ∙ cond-false _ _ _ (no_escape_first raw (codes "%") h)
    ∙ cond-false _ _ _ (no_escape_first raw (codes ".") h)
    ∙ cond-false _ _ _ (no_escape_first raw (codes "..") h)
    ∙ ap (λ text. option_map Adds (option_and_then part_of_text text)) (unescaped-same raw h)
    ∙ ap (option_map Adds) (cond-false _ _ _ o.no_array)

walked-ordinary : (path raws : List Part) → AllByRecursion (AllByRecursion IsUnescaped) raws
    → AllByRecursion IsOrdinary raws → walked path raws ≡ Some (path ++ raws)
walked-ordinary path [] h o = ap (λ p. Some p) (sym (append-nil path))
walked-ordinary path (raw ∷ raws) h o =
    ap (option_and_then (λ move. walked (moved path move) raws)) (meaning-ordinary raw h.0 o.0)
    ∙ walked-ordinary (path ++ raw ∷ []) raws h.1 o.1 ∙ ap (λ p. Some p) (append_assoc path (raw ∷ []) raws)

-- ---- how it is spelled

spelled-ordinary : (raw : List ℕ) → AllByRecursion IsUnescaped raw → IsOrdinary raw → spelled raw ≡ raw
spelled-ordinary raw h o = spelled-text raw o.filled o.no_reserved ∙ flat_map-escaped-same raw h

slashed-ordinary : (raws : List Part) → AllByRecursion (AllByRecursion IsUnescaped) raws
    → AllByRecursion IsOrdinary raws → flat_map (λ p. 47 ∷ spelled p) raws ≡ flat_map (λ raw. 47 ∷ raw) raws
slashed-ordinary [] h o = refl
slashed-ordinary (raw ∷ raws) h o =
    ap₂ (λ a b. (47 ∷ a) ++ b) (spelled-ordinary raw h.0 o.0) (slashed-ordinary raws h.1 o.1)

path_of_slashed : (parts : List Part) (bytes : List ℕ) → flat_map (λ p. 47 ∷ spelled p) parts ≡ 47 ∷ bytes
    → path_of_parts parts ≡ 47 ∷ bytes
path_of_slashed [] bytes h = absurd cc
path_of_slashed (part ∷ parts) bytes h = h

-- ---- behind a namespace's word

text_of_word : (namespace : Namespace) → IsText (word_of namespace ++ 47 ∷ [])
text_of_word Cascading = text_from_test _ refl
text_of_word Spec = text_from_test _ refl
text_of_word Proc = text_from_test _ refl
text_of_word Dir = text_from_test _ refl
text_of_word User = text_from_test _ refl
text_of_word System = text_from_test _ refl
text_of_word Default = text_from_test _ refl

joined_word : (word path : List ℕ) → (word ++ 47 ∷ []) ++ path ≡ word ++ 47 ∷ path
joined_word word path = append_assoc word (47 ∷ []) path

pub utf8_behind : (namespace : Namespace) (path : List ℕ) → IsUtf8 path → IsUtf8 (text_behind namespace path)
utf8_behind namespace path h =
    subst IsUtf8 (joined_word (word_of namespace) path) (IsUtf8-append (word_of namespace ++ 47 ∷ []) path (text_of_word namespace).utf8 h)

pub no_nul_behind : (namespace : Namespace) (path : List ℕ) → AllByRecursion (λ b. 0 < b) path
    → AllByRecursion (λ b. 0 < b) (text_behind namespace path)
no_nul_behind namespace path h =
    subst (AllByRecursion (λ b. 0 < b)) (joined_word (word_of namespace) path) (all_append (λ b. 0 < b) (word_of namespace ++ 47 ∷ []) path (text_of_word namespace).no_nul h)

-- ---- what the tests tell

plain_bytes : (bytes : List ℕ) → list_all is_plain_byte bytes ≡ true → AllByRecursion IsPlainByte bytes
plain_bytes [] h = tt
plain_bytes (b ∷ bytes) h =
    let tests = and_parts (is_plain_byte b) (list_all is_plain_byte bytes) h in
    (plain_byte b tests.0, plain_bytes bytes tests.1)

ordinary_parts : (parts : List Part) → list_all is_plain_part parts ≡ true → AllByRecursion IsOrdinary parts
ordinary_parts [] h = tt
ordinary_parts ([] ∷ parts) h = absurd cc
ordinary_parts ((b ∷ part) ∷ parts) h =
    let tests = and_parts (begins_plainly b) (list_all is_plain_part parts) h in
    (begun_plainly b part tests.0, ordinary_parts parts tests.1)

plain_tests : (path : List ℕ) → is_plain path ≡ true
    → AllByRecursion IsPlainByte path × AllByRecursion IsOrdinary (between_slashes path)
plain_tests path h =
    let tests = and_parts (list_all is_plain_byte path) (list_all is_plain_part (between_slashes path)) h in
    (plain_bytes path tests.0, ordinary_parts (between_slashes path) tests.1)

-- ---- one pass over the bytes makes them

-- the parts whose first byte is still ahead, at the first byte of a part or behind it
abbrev ahead : Bool → List Part → List Part
ahead true parts = parts
ahead false parts = drop 1 parts

-- what is left of a path is plain
abbrev pub plain_rest : Bool → List ℕ → Bool
plain_rest is_first bytes =
    list_all is_plain_byte bytes && list_all is_plain_part (ahead is_first (between_slashes bytes))

pub no_nul_in : (path : List ℕ) → is_plain path ≡ true → AllByRecursion (λ b. 0 < b) path
no_nul_in path h = no_nuls path (plain_tests path h).0

-- ---- the name

pub path-plain : (path : List ℕ) → is_plain path ≡ true → path_of_parts (between_slashes path) ≡ 47 ∷ path
path-plain path h =
    let tests = plain_tests path h in
    let bytes = tests.0 in
    let raws = split_all IsUnescaped path (unescaped_bytes path bytes) in
    path_of_slashed (between_slashes path) path (slashed-ordinary (between_slashes path) raws tests.1 ∙ ap (flat_map (λ raw. 47 ∷ raw)) (sym (raw_parts-plain path bytes)) ∙ slashed-raw_parts false path)

pub Spells-plain : (namespace : Namespace) (path : List ℕ) → IsUtf8 path → is_plain path ≡ true
    → length path < longest_path
    → Spells (text_behind namespace path) (record { namespace = namespace; parts = between_slashes path })
Spells-plain namespace path utf8 h short =
    let tests = plain_tests path h in
    let bytes = tests.0 in
    let raws = split_all IsUnescaped path (unescaped_bytes path bytes) in
    let long = ap length (path-plain path h) in
    record {
      rest = path;
      cut = refl;
      leads = ap (walked []) (raw_parts-plain path bytes) ∙ walked-ordinary [] (between_slashes path) raws tests.1;
      utf8 = utf8_behind namespace path utf8;
      no_nul = no_nul_behind namespace path (no_nuls path bytes);
      limit = omega (arith, long, short);
    }

-- ---- the first NUL of a text is that of its path

first_nul-behind : (front path : List ℕ) → AllByRecursion (λ b. 0 < b) front
    → position_or_len (λ b. b == 0) (front ++ path) ≡ length front + position_or_len (λ b. b == 0) path
first_nul-behind [] path h = omega arith
first_nul-behind (b ∷ front) path h =
    ap (λ t. cond (not t) (1 + position_or_len (λ b. b == 0) (front ++ path)) 0) (ne_eqb b 0 (omega (arith, h.0)))
    ∙ omega (arith, first_nul-behind front path h.1)

same_test : (k m n : ℕ) → nat_lt (k + m) (k + n) ≡ nat_lt m n
same_test k m n =
    elim (cases_Bool (nat_lt m n)) [
      | inl e ↦ let less = ltb-true m n e in lt-ltb (k + m) (k + n) (omega (arith, less)) ∙ sym e
      | inr e ↦ let more = ltb-false m n e in le-ltb (k + m) (k + n) (omega (arith, more)) ∙ sym e
    ]

shifted : (t : Bool) (k m : ℕ) → cond t (Some (k + m)) None ≡ option_map (λ at. k + at) (cond t (Some m) None)
shifted true k m = refl
shifted false k m = refl

position-behind : (front path : List ℕ) → AllByRecursion (λ b. 0 < b) front
    → position (λ b. b == 0) (front ++ path) ≡ option_map (λ at. length front + at) (position (λ b. b == 0) path)
position-behind front path h =
    let place = position_or_len (λ b. b == 0) path in
    ap₂ (λ at end. cond (nat_lt at end) (Some at) None) (first_nul-behind front path h) (length-append front path)
    ∙ ap (λ t. cond t (Some (length front + place)) None) (same_test (length front) place (length path))
    ∙ shifted (nat_lt place (length path)) (length front) place

position_behind : (namespace : Namespace) (path : List ℕ)
    → position (λ b. b == 0) (text_behind namespace path)
    ≡ option_map (λ at. length (word_of namespace ++ 47 ∷ []) + at) (position (λ b. b == 0) path)
position_behind namespace path =
    ap (position (λ b. b == 0)) (sym (joined_word (word_of namespace) path))
    ∙ position-behind (word_of namespace ++ 47 ∷ []) path (text_of_word namespace).no_nul

pub nul_behind : (namespace : Namespace) (path : List ℕ) (lead at : ℕ) → lead ≡ length (word_of namespace) + 1
    → position (λ b. b == 0) path ≡ Some at → position (λ b. b == 0) (text_behind namespace path) ≡ Some (lead + at)
nul_behind namespace path lead at e h =
    let same : length (word_of namespace ++ 47 ∷ []) + at ≡ lead + at = omega (arith, e, length-append (word_of namespace) (47 ∷ [])) in
    position_behind namespace path ∙ ap (option_map (λ at. length (word_of namespace ++ 47 ∷ []) + at)) h
    ∙ ap (λ n. Some n) same

pub no_nul_before : (namespace : Namespace) (path : List ℕ) → position (λ b. b == 0) path ≡ None
    → position (λ b. b == 0) (text_behind namespace path) ≡ None
no_nul_before namespace path h =
    position_behind namespace path ∙ ap (option_map (λ at. length (word_of namespace ++ 47 ∷ []) + at)) h

-- a list that is found by a test
pub if_found : (t : Bool) (found wanted : List Part) → Some found ≡ cond t (Some wanted) None
    → (t ≡ true) × (found ≡ wanted)
if_found true found wanted e = (refl, cc)
if_found false found wanted e = absurd cc

pub plain_found : (path : List ℕ) (parts : List Part) → Some parts ≡ plain_parts path
    → (is_plain path ≡ true) × (parts ≡ between_slashes path)
plain_found path parts e = if_found (is_plain path) parts (between_slashes path) e
