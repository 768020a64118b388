-- Refusals and spellings: a text has a refusal exactly where it spells no name.
use Rattle.std.specs.Prelude.{◌≡◌, ℕ, ◌+◌, ◌<◌, ◌≤◌, nat_lt, Bool, true, false, not, ◌||◌, ◌==◌, List, [], ◌∷◌, ◌++◌, length, drop, Option, Some, None, Result, Ok, Err, option_and_then, is_none, codes}
use Rattle.std.proofs.Common.{suc, append_assoc, cond, refl, sym, ap, ◌∙◌, inl, inr, arith}
use Rattle.std.specs.List.{AllByRecursion, position, position_or_len, before_first, after_first, list_any}
use Rattle.std.specs.Option.{option_map, option_flatten, option_or}
use Rattle.std.specs.Result.{result_ok, result_err}
use Rattle.std.specs.Str.{IsUtf8}
use Rattle.std.proofs.lemmas.Bool.{cond-true, cond-false, cond_both, eqb-true, eqb-false, ne_eqb, le-ltb, ltb-false, cases_Bool}
use Rattle.std.proofs.lemmas.List.Sums.{split_at_first, passes_at_first}
use Rattle.model_names.specs.declared.namespaces.Namespace.{Namespace}
use Rattle.model_names.specs.declared.namespaces.Namespace.TheVariants.{Cascading, Spec, Proc, Dir, User, System, Default}
use Rattle.model_names.specs.Name.{Name, Part}
use Rattle.general_words.specs.Texts.{is_text}
use Rattle.general_words.specs.Searches.{first_some}
use Rattle.model_names.specs.Spelling.{word_of, path, path_of_parts}
use Rattle.model_names.specs.RawParts.{raw_parts}
use Rattle.model_names.specs.Spells.{Spells, Move, meaning, moved, read_part, walked, longest_path}
use Rattle.model_names.specs.Refuses.{Refusal, NoNamespace, UnknownNamespace, NoSlash, BadEscape, BadArray, Nul, TooLong, Start, At, Refused, namespace_of_word, begins_with_slash, start_behind, start_of_text, placed, bad_escape, bad_array, too_long, refusal_behind, refusal_of}
use Rattle.model_names.proofs.SpellsLemmas.{drop-word}
use Rattle.general_words.proofs.Texts.{same_text}
use Rattle.general_words.proofs.Tests.{cond_off}

-- ---- options

pub from_map : {A B : Type 0} (f : A → B) (o : Option A) (y : B) → option_map f o ≡ Some y
    → (x : A) × (o ≡ Some x) × (f x ≡ y)
from_map f None y h = absurd cc
from_map f (Some x) y h = (x, refl, cc)

pub from_and_then : {A B : Type 0} (f : A → Option B) (o : Option A) (y : B) → option_and_then f o ≡ Some y
    → (x : A) × (o ≡ Some x) × (f x ≡ Some y)
from_and_then f None y h = absurd cc
from_and_then f (Some x) y h = (x, refl, h)

from_or : {A : Type 0} (a b : Option A) → option_or a b ≡ None → (a ≡ None) × (b ≡ None)
from_or None b h = (refl, h)
from_or (Some x) b h = absurd cc

map_none : {A B : Type 0} (f : A → B) (o : Option A) → option_map f o ≡ None → o ≡ None
map_none f None h = refl
map_none f (Some x) h = absurd cc

-- which of two branches was taken
pub branch_taken : {A G : Type 0} (t : Bool) (x y z : A) → cond t x y ≡ z → (t ≡ true → x ≡ z → G) → (y ≡ z → G) → G
branch_taken true x y z h f g = f refl h
branch_taken false x y z h f g = g h

-- ---- one raw part

-- a raw part has neither a bad escape nor a bad array
pub record IsFine (place : ℕ) (raw : List ℕ) : Type 0 where
  pub escapes : bad_escape (place, raw) ≡ None
  pub arrays : bad_array (place, raw) ≡ None

pub IsFine-from_meaning : (place : ℕ) (raw : List ℕ) (move : Move) → meaning raw ≡ Some move → IsFine place raw
IsFine-from_meaning place raw move h =
    let reads = reads_move (read_part raw) h in record { escapes = ap (λ r. option_map (λ at. place + at) (result_err r)) reads; arrays = ap (λ r. option_and_then (λ move. cond (is_none move) (Some place) None) (result_ok r)) reads }
  where
    reads_move : (r : Result (Option Move) ℕ) → option_flatten (result_ok r) ≡ Some move → r ≡ Ok (Some move)
    reads_move (Ok None) h = absurd cc
    reads_move (Ok (Some other)) h = ap (λ m. Ok m) h
    reads_move (Err at) h = absurd cc

pub meaning-fine : (place : ℕ) (raw : List ℕ) → IsFine place raw → (move : Move) × (meaning raw ≡ Some move)
meaning-fine place raw h = by (read_part raw) h.escapes h.arrays
  where
    by : (r : Result (Option Move) ℕ) → option_map (λ at. place + at) (result_err r) ≡ None
        → option_and_then (λ move. cond (is_none move) (Some place) None) (result_ok r) ≡ None
        → (move : Move) × (option_flatten (result_ok r) ≡ Some move)
    by (Ok None) escapes arrays = absurd cc
    by (Ok (Some move)) escapes arrays = (move, refl)
    by (Err at) escapes arrays = absurd cc

-- ---- all raw parts

-- no raw part has a bad escape or a bad array
pub record AreFine (place : ℕ) (raws : List (List ℕ)) : Type 0 where
  pub escapes : first_some bad_escape (placed place raws) ≡ None
  pub arrays : first_some bad_array (placed place raws) ≡ None

pub AreFine-from_walked : (place : ℕ) (raws : List (List ℕ)) (path parts : List Part) → walked path raws ≡ Some parts
    → AreFine place raws
AreFine-from_walked place [] path parts h = record { escapes = refl; arrays = refl }
AreFine-from_walked place (raw ∷ raws) path parts h =
    let move = from_and_then (λ move. walked (moved path move) raws) (meaning raw) parts h in
    let one = IsFine-from_meaning place raw move.0 move.1 in
    let rest = AreFine-from_walked (place + length raw + 1) raws (moved path move.0) parts move.2 in
    record {
      escapes = ap (λ o. option_or o (first_some bad_escape (placed (place + length raw + 1) raws))) one.escapes ∙ rest.escapes;
      arrays = ap (λ o. option_or o (first_some bad_array (placed (place + length raw + 1) raws))) one.arrays ∙ rest.arrays;
    }

pub walked-fine : (place : ℕ) (raws : List (List ℕ)) (path : List Part) → AreFine place raws
    → (parts : List Part) × (walked path raws ≡ Some parts)
walked-fine place [] path h = (path, refl)
walked-fine place (raw ∷ raws) path h =
    let escapes = from_or (bad_escape (place, raw)) _ h.escapes in
    let arrays = from_or (bad_array (place, raw)) _ h.arrays in
    let move = meaning-fine place raw (record { escapes = escapes.0; arrays = arrays.0 }) in
    let rest = walked-fine (place + length raw + 1) raws (moved path move.0) (record { escapes = escapes.1; arrays = arrays.1 }) in
    (rest.0, ap (option_and_then (λ move. walked (moved path move) raws)) move.1 ∙ rest.1)

-- ---- NUL

first_nul-none : (text : List ℕ) → AllByRecursion (λ b. 0 < b) text → position_or_len (λ b. b == 0) text ≡ length text
first_nul-none [] h = refl
first_nul-none (b ∷ text) h =
    ap (λ t. cond (not t) (1 + position_or_len (λ b. b == 0) text) 0) (ne_eqb b 0 (omega (arith, h.0)))
    ∙ omega (arith, first_nul-none text h.1)

pub position-no_nul : (text : List ℕ) → AllByRecursion (λ b. 0 < b) text → position (λ b. b == 0) text ≡ None
position-no_nul text h =
    let none = first_nul-none text h in
    cond-false _ _ _ (le-ltb (position_or_len (λ b. b == 0) text) (length text) (omega arith))

cond_length : (t : Bool) (n m : ℕ) → m + 1 ≤ cond (not t) (1 + n) 0 → (t ≡ false) × (m ≤ n)
cond_length true n m h = absurd (omega arith)
cond_length false n m h = (refl, omega arith)

all_above_nul : (text : List ℕ) → length text ≤ position_or_len (λ b. b == 0) text → AllByRecursion (λ b. 0 < b) text
all_above_nul [] h = tt
all_above_nul (b ∷ text) h =
    let parts = cond_length (b == 0) (position_or_len (λ b. b == 0) text) (length text) (omega (arith, h)) in
    let other = eqb-false b 0 parts.0 in
    (omega (arith, other), all_above_nul text parts.1)

pub no_nul-from_position : (text : List ℕ) → position (λ b. b == 0) text ≡ None → AllByRecursion (λ b. 0 < b) text
no_nul-from_position text h =
    all_above_nul text (ltb-false _ _ (cond_off (nat_lt (position_or_len (λ b. b == 0) text) (length text)) _ h))

-- ---- the length

pub too_long-at : (raws : List (List ℕ)) (parts : List Part) → walked [] raws ≡ Some parts
    → too_long raws
    ≡ cond (nat_lt longest_path (length (path_of_parts parts))) (Some (length (path_of_parts parts))) None
too_long-at raws parts h =
    ap (option_and_then (λ parts. cond (nat_lt longest_path (length (path_of_parts parts))) (Some (length (path_of_parts parts))) None)) h

pub too_long-short : (raws : List (List ℕ)) (parts : List Part) → walked [] raws ≡ Some parts
    → length (path_of_parts parts) ≤ longest_path → too_long raws ≡ None
too_long-short raws parts h short =
    too_long-at raws parts h ∙ cond-false _ _ _ (le-ltb longest_path (length (path_of_parts parts)) short)

short_from_too_long : (raws : List (List ℕ)) (parts : List Part) → walked [] raws ≡ Some parts → too_long raws ≡ None
    → length (path_of_parts parts) ≤ longest_path
short_from_too_long raws parts h none =
    ltb-false longest_path (length (path_of_parts parts)) (cond_off _ (length (path_of_parts parts)) (sym (too_long-at raws parts h) ∙ none))

-- ---- the start

-- a text spells a namespace's word and a slash, before the rest
pub record Begins (text : List ℕ) : Type 0 where
  pub namespace : Namespace
  pub rest : List ℕ
  pub cut : text ≡ word_of namespace ++ 47 ∷ rest

pub start_of_text-word : (n : Namespace) (rest : List ℕ)
    → start_of_text (word_of n ++ 47 ∷ rest) ≡ At (length (word_of n))
start_of_text-word Cascading rest = refl
start_of_text-word Spec rest = refl
start_of_text-word Proc rest = refl
start_of_text-word Dir rest = refl
start_of_text-word User rest = refl
start_of_text-word System rest = refl
start_of_text-word Default rest = refl

pub slash_begins : (text : List ℕ) → begins_with_slash text ≡ true → (rest : List ℕ) × (text ≡ 47 ∷ rest)
slash_begins [] e = absurd cc
slash_begins (b ∷ rest) e = (rest, ap (λ b. b ∷ rest) (eqb-true b 47 e))

-- the start of a text behind a namespace's word and a colon
unfoldable pub start_at : List ℕ → List ℕ → Option Namespace → Start
start_at word rest None = Refused UnknownNamespace
start_at word rest (Some namespace) = cond (begins_with_slash rest) (At (length word + 1)) (Refused NoSlash)

pub start_behind-word : (word rest : List ℕ) → start_behind word rest ≡ start_at word rest (namespace_of_word word)
unfolding start_at
start_behind-word word rest = refl

word_at : (word text : List ℕ) (m n : Namespace) → text ++ 58 ∷ [] ≡ word_of m → is_text word text ≡ true → m ≡ n
    → word ++ 58 ∷ [] ≡ word_of n
word_at word text m n q e same = ap (λ w. w ++ 58 ∷ []) (same_text word text e) ∙ q ∙ ap word_of same

pub some_namespace : (m n : Namespace) → ◌≡◌ {A = Option Namespace} (Some m) (Some n) → m ≡ n
some_namespace m n e = cc

-- a word that is a namespace's
pub word_is : (word : List ℕ) (n : Namespace) → namespace_of_word word ≡ Some n → word ++ 58 ∷ [] ≡ word_of n
word_is word n h =
    branch_taken (is_text word (codes "spec")) _ _ _ h (λ e h. word_at word (codes "spec") Spec n refl e (some_namespace Spec n h))
    (λ h. branch_taken (is_text word (codes "proc")) _ _ _ h (λ e h. word_at word (codes "proc") Proc n refl e (some_namespace Proc n h))
    (λ h. branch_taken (is_text word (codes "dir")) _ _ _ h (λ e h. word_at word (codes "dir") Dir n refl e (some_namespace Dir n h))
    (λ h. branch_taken (is_text word (codes "user")) _ _ _ h (λ e h. word_at word (codes "user") User n refl e (some_namespace User n h))
    (λ h. branch_taken (is_text word (codes "system")) _ _ _ h (λ e h. word_at word (codes "system") System n refl e (some_namespace System n h))
    (λ h. branch_taken (is_text word (codes "default")) _ _ _ h (λ e h. word_at word (codes "default") Default n refl e (some_namespace Default n h)) (λ h. absurd (cc)))))))

any_before_end : (text : List ℕ) → list_any (λ b. b == 58) text ≡ true
    → position_or_len (λ b. b == 58) text < length text
any_before_end [] h = absurd cc
any_before_end (b ∷ text) h =
    cond_both (not (b == 58)) (1 + position_or_len (λ b. b == 58) text) 0 (λ n. n < length (b ∷ text))
    (λ other. omega (arith, any_before_end text (behind (b == 58) (list_any (λ b. b == 58) text) other h)))
    (λ _. omega arith)
  where
    behind : (t rest : Bool) → not t ≡ true → (t || rest) ≡ true → rest ≡ true
    behind true rest n h = absurd cc
    behind false rest n h = h

none_before_end : (text : List ℕ) → position_or_len (λ b. b == 58) text ≡ length text
    → list_any (λ b. b == 58) text ≡ false
none_before_end text h =
    elim (cases_Bool (list_any (λ b. b == 58) text)) [ inl e ↦ let lt = any_before_end text e in absurd (omega arith) | inr e ↦ e ]

any_from_end : (text : List ℕ) → position_or_len (λ b. b == 58) text < length text → list_any (λ b. b == 58) text ≡ true
any_from_end [] h = absurd (omega arith)
any_from_end (b ∷ text) h =
    found (b == 58) (position_or_len (λ b. b == 58) text) (list_any (λ b. b == 58) text) (length text) h (any_from_end text)
  where
    found : (t : Bool) (n : ℕ) (rest : Bool) (m : ℕ) → cond (not t) (1 + n) 0 < suc m → (n < m → rest ≡ true)
        → (t || rest) ≡ true
    found true n rest m h f = refl
    found false n rest m h f = f (omega arith)

-- a text without a colon
pub start_of_text-no_colon : (text : List ℕ) → begins_with_slash text ≡ false
    → position_or_len (λ b. b == 58) text ≡ length text → start_of_text text ≡ Refused NoNamespace
start_of_text-no_colon text slash colon =
    cond-false (begins_with_slash text) _ _ slash
    ∙ cond-false (list_any (λ b. b == 58) text) _ _ (none_before_end text colon)

-- a text with a colon
pub start_of_text-colon : (text : List ℕ) → begins_with_slash text ≡ false
    → position_or_len (λ b. b == 58) text < length text
    → start_of_text text
    ≡ start_at (before_first (λ b. b == 58) text) (after_first (λ b. b == 58) text) (namespace_of_word (before_first (λ b. b == 58) text))
start_of_text-colon text slash colon =
    cond-false (begins_with_slash text) _ _ slash
    ∙ cond-true (list_any (λ b. b == 58) text) _ _ (any_from_end text colon)
    ∙ start_behind-word (before_first (λ b. b == 58) text) (after_first (λ b. b == 58) text)

-- a text begins with a namespace and a slash, or it is refused before its parts are read
pub data Opening (text : List ℕ) : Type 0 where
  Begun : Begins text → Opening text
  Turned : (refusal : Refusal) → start_of_text text ≡ Refused refusal → Opening text

pub word_cut : (word rest tail : List ℕ) (n : Namespace) → word ++ 58 ∷ [] ≡ word_of n → rest ≡ 47 ∷ tail
    → word ++ 58 ∷ rest ≡ word_of n ++ 47 ∷ tail
word_cut word rest tail n h e =
    ap (λ r. word ++ 58 ∷ r) e ∙ sym (append_assoc word (58 ∷ []) (47 ∷ tail)) ∙ ap (λ w. w ++ 47 ∷ tail) h

opening_behind : (text word rest : List ℕ) (namespace : Option Namespace) → text ≡ word ++ 58 ∷ rest
    → namespace_of_word word ≡ namespace → start_of_text text ≡ start_at word rest (namespace_of_word word)
    → Opening text
unfolding start_at
opening_behind text word rest None cut e start = Turned UnknownNamespace (start ∙ ap (start_at word rest) e)
opening_behind text word rest (Some n) cut e start =
    elim (cases_Bool (begins_with_slash rest)) [
      | inl b ↦ let tail = slash_begins rest b in Begun (record { namespace = n; rest = tail.0; cut = cut ∙ word_cut word rest tail.0 n (word_is word n e) tail.1 })
      | inr b ↦ Turned NoSlash (start ∙ ap (start_at word rest) e ∙ cond-false (begins_with_slash rest) _ _ b)
    ]

pub colon_cut : (text : List ℕ) → position_or_len (λ b. b == 58) text < length text
    → text ≡ before_first (λ b. b == 58) text ++ 58 ∷ after_first (λ b. b == 58) text
colon_cut text colon =
    split_at_first (λ b. b == 58) text 0 colon
    ∙ ap (λ b. before_first (λ b. b == 58) text ++ b ∷ after_first (λ b. b == 58) text) (eqb-true _ 58 (passes_at_first (λ b. b == 58) text 0 colon))

pub opening : (text : List ℕ) → Opening text
opening text =
    elim (cases_Bool (begins_with_slash text)) [
      | inl s ↦ let rest = slash_begins text s in Begun (record { namespace = Cascading; rest = rest.0; cut = rest.1 })
      | inr s ↦ elim (cases_Bool (list_any (λ b. b == 58) text)) [
        | inl a ↦ let colon = any_before_end text a in opening_behind text (before_first (λ b. b == 58) text) (after_first (λ b. b == 58) text) _ (colon_cut text colon) refl (start_of_text-colon text s colon)
        | inr a ↦ Turned NoNamespace (cond-false (begins_with_slash text) _ _ s ∙ cond-false (list_any (λ b. b == 58) text) _ _ a)
      ]
    ]

-- ---- the whole text

pub refusal_of-refused : (text : List ℕ) (refusal : Refusal) → start_of_text text ≡ Refused refusal
    → refusal_of text ≡ Some refusal
refusal_of-refused text refusal h =
    ap (λ start. elim start [ At place ↦ refusal_behind text place | Refused refusal ↦ Some refusal ]) h

pub refusal_of-at : (text : List ℕ) (place : ℕ) → start_of_text text ≡ At place
    → refusal_of text ≡ refusal_behind text place
refusal_of-at text place h =
    ap (λ start. elim start [ At place ↦ refusal_behind text place | Refused refusal ↦ Some refusal ]) h

-- the first of four answers
unfoldable pub first_refusal : Option ℕ → Option ℕ → Option ℕ → Option ℕ → Option Refusal
first_refusal escape array nul length =
    option_or (option_map BadEscape escape) (option_or (option_map BadArray array) (option_or (option_map Nul nul) (option_map TooLong length)))

-- what is wrong with a text behind its start
pub refusal_of-behind : (n : Namespace) (rest text : List ℕ) → text ≡ word_of n ++ 47 ∷ rest
    → refusal_of text
    ≡ first_refusal (first_some bad_escape (placed (length (word_of n) + 1) (raw_parts rest))) (first_some bad_array (placed (length (word_of n) + 1) (raw_parts rest))) (position (λ b. b == 0) text) (too_long (raw_parts rest))
unfolding first_refusal
refusal_of-behind n rest text cut =
    let place = length (word_of n) in
    let left : drop (place + 1) text ≡ rest = ap (drop (place + 1)) cut ∙ drop-word n rest in
    refusal_of-at text place (ap start_of_text cut ∙ start_of_text-word n rest)
    ∙ ap (λ r. first_refusal (first_some bad_escape (placed (place + 1) (raw_parts r))) (first_some bad_array (placed (place + 1) (raw_parts r))) (position (λ b. b == 0) text) (too_long (raw_parts r))) left

pub refusal_of-spelled : (text : List ℕ) (name : Name) → Spells text name → refusal_of text ≡ None
unfolding first_refusal
refusal_of-spelled text name h =
    let fine = AreFine-from_walked (length (word_of name.namespace) + 1) (raw_parts h.rest) [] name.parts h.leads in
    let nul = position-no_nul text h.no_nul in
    let length = too_long-short (raw_parts h.rest) name.parts h.leads h.limit in
    refusal_of-behind name.namespace h.rest text h.cut
    ∙ (λ i. first_refusal (fine.escapes i) (fine.arrays i) (nul i) (length i))

-- where there is no answer, each of the four is none
pub record HasNone (escape array nul length : Option ℕ) : Type 0 where
  pub escape_none : escape ≡ None
  pub array_none : array ≡ None
  pub nul_none : nul ≡ None
  pub length_none : length ≡ None

HasNone-from_first : (escape array nul length : Option ℕ) → first_refusal escape array nul length ≡ None
    → HasNone escape array nul length
unfolding first_refusal
HasNone-from_first escape array nul length h =
    let one = from_or (option_map BadEscape escape) _ h in
    let two = from_or (option_map BadArray array) _ one.1 in
    let three = from_or (option_map Nul nul) (option_map TooLong length) two.1 in
    record {
      escape_none = map_none BadEscape escape one.0;
      array_none = map_none BadArray array two.0;
      nul_none = map_none Nul nul three.0;
      length_none = map_none TooLong length three.1;
    }

spells_behind : (text : List ℕ) → IsUtf8 text → refusal_of text ≡ None → Begins text → (name : Name) × Spells text name
spells_behind text utf8 none begins =
    let place = length (word_of begins.namespace) + 1 in
    let raws = raw_parts begins.rest in
    let four = HasNone-from_first (first_some bad_escape (placed place raws)) (first_some bad_array (placed place raws)) (position (λ b. b == 0) text) (too_long raws) (sym (refusal_of-behind begins.namespace begins.rest text begins.cut) ∙ none) in
    let parts = walked-fine place raws [] (record { escapes = four.escape_none; arrays = four.array_none }) in (
      record { namespace = begins.namespace; parts = parts.0 },
      record {
        rest = begins.rest;
        cut = begins.cut;
        leads = parts.1;
        utf8 = utf8;
        no_nul = no_nul-from_position text four.nul_none;
        limit = short_from_too_long raws parts.0 parts.1 four.length_none;
      },
    )

pub Spells-from_no_refusal : (text : List ℕ) → IsUtf8 text → refusal_of text ≡ None → (name : Name) × Spells text name
Spells-from_no_refusal text utf8 none =
    elim (opening text) [
      | Begun begins ↦ spells_behind text utf8 none begins
      | Turned refusal start ↦ let some = refusal_of-refused text refusal start in absurd (cc)
    ]
