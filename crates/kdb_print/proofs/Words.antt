-- Lines as words with blanks between them: a text of such lines tells its lines and their words.
use Rattle.std.specs.Prelude.{◌≡◌, ◌≢◌, T, ℕ, nat_eq, zero, suc, ◌<◌, ◌/◌, ◌%◌, ◌==◌, true, false, List, [], ◌∷◌, ◌++◌, map as over, slice_index_or}
use Rattle.std.proofs.Common.{refl, sym, ap, ap₂, ◌∙◌, arith, append_assoc, eq-eqb}
use Rattle.std.specs.Fmt.{decimal, digit_glyph, digits, digits_onto}
use Rattle.std.specs.List.{AllByRecursion, flat_map, list_all}
use Rattle.std.proofs.lemmas.Bool.Decides.{nat_tests}
use Rattle.std.proofs.lemmas.Bool.{and_from, cond_both}
use Rattle.general_words.proofs.Lists.{head_is, tail_is}
use Rattle.general_words.proofs.Tests.{true_is}
use Rattle.model_lines.specs.Lines.{ended}
use Rattle.model_names.specs.Name.{Name}
use Rattle.model_names.specs.Spelling.{spelling}
use Rattle.model_names.specs.WellFormed.{IsName}
use Rattle.model_quoting.specs.Quoted.{is_plain_byte, shown}
use Rattle.model_quoting.proofs.AlikeLemmas.{shown-once}
use Rattle.model_quoting.proofs.CutLemmas.{Ends, IsWord, Plain, shown_text-IsWord, word-cut}

-- a line: its first word, and the others
abbrev pub Line : Type 0
Line = List ℕ × List (List ℕ)

-- a word of a line, and a line, by their places
abbrev pub word_at : ℕ → Line → List ℕ
word_at place (first, words) = slice_index_or (first ∷ words) place []

abbrev pub line_at : ℕ → List Line → Line
line_at place lines = slice_index_or lines place ([], [])

-- words behind others, each behind a blank, up to the end of their line
abbrev pub behind : List (List ℕ) → List ℕ → List ℕ
behind [] rest = 10 ∷ rest
behind (word ∷ words) rest = 32 ∷ (word ++ behind words rest)

-- lines as a text
abbrev pub text_of : List Line → List ℕ
text_of [] = []
text_of ((first, words) ∷ lines) = first ++ behind words (text_of lines)

abbrev pub HasWords : Line → Type 0
HasWords (first, words) = IsWord first × AllByRecursion IsWord words

behind-Ends : (words : List (List ℕ)) (rest : List ℕ) → Ends (behind words rest)
behind-Ends [] rest = omega arith
behind-Ends (word ∷ words) rest = omega arith

behind-cut : (vs bs : List (List ℕ)) (xs ys : List ℕ) → AllByRecursion IsWord vs → AllByRecursion IsWord bs
    → behind vs xs ≡ behind bs ys → (vs ≡ bs) × (xs ≡ ys)
behind-cut [] [] xs ys p q e = (refl, cc)
behind-cut [] (b ∷ bs) xs ys p q e = absurd cc
behind-cut (a ∷ vs) [] xs ys p q e = absurd cc
behind-cut (a ∷ vs) (b ∷ bs) xs ys p q e =
    let there : a ++ behind vs xs ≡ b ++ behind bs ys = cc in
    let first = word-cut a b (behind vs xs) (behind bs ys) p.0 q.0 (behind-Ends vs xs) (behind-Ends bs ys) there in
    let rest = behind-cut vs bs xs ys p.1 q.1 first.1 in
    let word : a ≡ b = first.0 in let words : vs ≡ bs = rest.0 in (cc, rest.1)

no_line : (word : List ℕ) (words : List (List ℕ)) (rest : List ℕ) → [] ≢ word ++ behind words rest
no_line [] [] rest e = cc
no_line [] (word ∷ words) rest e = cc
no_line (b ∷ word) words rest e = cc

-- a text of lines with words tells them
pub text_of-once : (vs bs : List Line) → AllByRecursion HasWords vs → AllByRecursion HasWords bs
    → text_of vs ≡ text_of bs → vs ≡ bs
text_of-once [] [] p q e = refl
text_of-once [] ((b, bs) ∷ lines) p q e = absurd (no_line b bs (text_of lines) e)
text_of-once ((a, vs) ∷ lines) [] p q e = absurd (no_line a vs (text_of lines) (sym e))
text_of-once ((a, vs) ∷ xs) ((b, bs) ∷ ys) p q e =
    let first = word-cut a b (behind vs (text_of xs)) (behind bs (text_of ys)) p.0.0 q.0.0 (behind-Ends vs (text_of xs)) (behind-Ends bs (text_of ys)) e in
    let words = behind-cut vs bs (text_of xs) (text_of ys) p.0.1 q.0.1 first.1 in
    let rest = text_of-once xs ys p.1 q.1 words.1 in
    let w : a ≡ b = first.0 in let ws : vs ≡ bs = words.0 in ap₂ (λ line lines. line ∷ lines) (ap₂ (λ x y. (x, y)) w ws) rest

-- a line is spelled by these words
abbrev pub Spells : Line → List ℕ → Type 0
Spells (first, words) line = (rest : List ℕ) → line ++ 10 ∷ rest ≡ first ++ behind words rest

-- lines that are spelled by words, one by one
abbrev pub AllSpell : List Line → List (List ℕ) → Type 0
AllSpell [] [] = Unit {0}
AllSpell [] (line ∷ lines) = ⊥
AllSpell (words ∷ rest) [] = ⊥
AllSpell (words ∷ rest) (line ∷ lines) = Spells words line × AllSpell rest lines

pub AllSpell-append : (xs ys : List Line) (ls ms : List (List ℕ)) → AllSpell xs ls → AllSpell ys ms
    → AllSpell (xs ++ ys) (ls ++ ms)
AllSpell-append [] ys [] ms p q = q
AllSpell-append [] ys (line ∷ ls) ms p q = absurd p
AllSpell-append (words ∷ xs) ys [] ms p q = absurd p
AllSpell-append (words ∷ xs) ys (line ∷ ls) ms p q = (p.0, AllSpell-append xs ys ls ms p.1 q)

pub ended-text_of : (words : List Line) (lines : List (List ℕ)) → AllSpell words lines → ended lines ≡ text_of words
ended-text_of [] [] p = refl
ended-text_of [] (line ∷ lines) p = absurd p
ended-text_of (words ∷ rest) [] p = absurd p
ended-text_of ((first, others) ∷ rest) (line ∷ lines) p =
    append_assoc line (10 ∷ []) (ended lines)
    ∙ (p.0 (ended lines) ∙ ap (λ text. first ++ behind others text) (ended-text_of rest lines p.1))

-- numbers that differ are not the same, as a test that computes
pub numbers_test : (m n : ℕ) → m ≡ n → T (nat_eq m n)
numbers_test m n e = true_is (nat_eq m n) (eq-eqb m n e)

-- a number as a word
glyph_plain : (d : ℕ) → d < 10 → is_plain_byte (digit_glyph false d) ≡ true
glyph_plain d small = grind (arith, nat_tests)

digits_plain : (k n : ℕ) (digits : List ℕ) → list_all is_plain_byte digits ≡ true
    → list_all is_plain_byte (digits_onto k 10 false n digits) ≡ true
digits_plain zero n digits plain = plain
digits_plain (suc k) n digits plain =
    let more : list_all is_plain_byte (digit_glyph false (n % 10) ∷ digits) ≡ true = and_from _ _ (glyph_plain (n % 10) (omega arith)) plain in
    cond_both (n / 10 == 0) (digit_glyph false (n % 10) ∷ digits) (digits_onto k 10 false (n / 10) (digit_glyph false (n % 10) ∷ digits))
    (λ text. list_all is_plain_byte text ≡ true) (λ _. more) (λ _. digits_plain k (n / 10) (digit_glyph false (n % 10) ∷ digits) more)

pub number-IsWord : (n : ℕ) → IsWord (decimal n)
unfolding digits
number-IsWord n = Plain (digits_plain 64 n [] refl)

pub name-IsWord : (name : Name) → IsWord (shown name)
name-IsWord name = shown_text-IsWord (spelling name)

-- names behind a first word, each behind a blank
pub names-spell : (names : List Name) (rest : List ℕ)
    → flat_map (λ name. 32 ∷ shown name) names ++ 10 ∷ rest ≡ behind (over shown names) rest
names-spell [] rest = refl
names-spell (name ∷ names) rest =
    ap (λ text. 32 ∷ text) (append_assoc (shown name) (flat_map (λ n. 32 ∷ shown n) names) (10 ∷ rest) ∙ ap (λ text. shown name ++ text) (names-spell names rest))

pub names-HasWords : (names : List Name) → AllByRecursion IsWord (over shown names)
names-HasWords [] = tt
names-HasWords (name ∷ names) = (name-IsWord name, names-HasWords names)

pub names-once : (ms ns : List Name) → AllByRecursion IsName ms → AllByRecursion IsName ns
    → over shown ms ≡ over shown ns → ms ≡ ns
names-once [] [] hs ks e = refl
names-once [] (n ∷ ns) hs ks e = absurd cc
names-once (m ∷ ms) [] hs ks e = absurd cc
names-once (m ∷ ms) (n ∷ ns) hs ks e =
    ap₂ (λ x xs. x ∷ xs) (shown-once m n hs.0 ks.0 (head_is (shown m) (shown n) (over shown ms) (over shown ns) e)) (names-once ms ns hs.1 ks.1 (tail_is (shown m) (shown n) (over shown ms) (over shown ns) e))

-- lines one behind the other
pub words-append : (xs ys : List Line) → AllByRecursion HasWords xs → AllByRecursion HasWords ys
    → AllByRecursion HasWords (xs ++ ys)
words-append [] ys p q = q
words-append (x ∷ xs) ys p q = (p.0, words-append xs ys p.1 q)
