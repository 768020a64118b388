-- The words of bytes: those that were written with blanks between them, and what holds of the words of a line.
use Rattle.std.specs.Prelude.{◌≡◌, ◌≢◌, ℕ, ◌<◌, true, false, ◌==◌, List, [], ◌∷◌, ◌++◌, Option, None, Some}
use Rattle.std.proofs.Common.{refl, ap, ◌∙◌, append-nil}
use Rattle.std.specs.List.{AllByRecursion, All, filter, flat_map, list_any, slice_split, onto_first}
use Rattle.std.proofs.lemmas.Bool.{ne_eqb, eqb-false, cond_both, or_from, or_parts}
use Rattle.std.proofs.lemmas.List.Elements.{All-from_recursion}
use Rattle.std.proofs.lemmas.List.Splits.{slice_split_none, slice_split_at}
use Rattle.model_lines.proofs.AllLemmas.{all-weaker, all-both}
use Rattle.model_lines.proofs.LineLemmas.{IsInLine, all-without_return}
use Rattle.model_lines.specs.Lines.{without_return}
use Rattle.model_hosts.specs.Line.{cut_at_hash, is_blank, is_filled, words, Meaning, Skipped, Comment, Gives, Unreadable, meaning_of, meaning}
use Rattle.model_hosts.specs.Keys.{IsWordByte, IsWord, IsOneLine}

-- a word byte isn't blank
pub word_byte-not_blank : (b : ℕ) → IsWordByte b → is_blank b ≡ false
word_byte-not_blank b h = or_from (b == 32) (b == 9) (ne_eqb b 32 h.no_blank) (ne_eqb b 9 h.no_tab)

not_blanks : (word : List ℕ) → IsWord word → All (λ b. is_blank b ≡ false) word
not_blanks word is =
    All-from_recursion (λ b. is_blank b ≡ false) word (all-weaker IsWordByte (λ b. is_blank b ≡ false) word_byte-not_blank word is.bytes)

filter-filled : (word : List ℕ) (rest : List (List ℕ)) → IsWord word
    → filter is_filled (word ∷ rest) ≡ word ∷ filter is_filled rest
filter-filled [] rest is = absurd (is.filled refl)
filter-filled (b ∷ word) rest is = refl

-- a word, a blank, and what follows
pub words-word : (word : List ℕ) (blank : ℕ) (rest : List ℕ) → IsWord word → is_blank blank ≡ true
    → words (word ++ blank ∷ rest) ≡ word ∷ words rest
words-word word blank rest is is_one =
    ap (filter is_filled) (slice_split_at is_blank word blank rest (not_blanks word is) is_one)
    ∙ filter-filled word (slice_split is_blank rest) is

-- a word, and words each behind a blank
pub words-row : (word : List ℕ) (row : List (List ℕ)) → IsWord word → AllByRecursion IsWord row
    → words (word ++ flat_map (λ w. 32 ∷ w) row) ≡ word ∷ row
words-row word [] is are =
    ap words (append-nil word) ∙ ap (filter is_filled) (slice_split_none is_blank word (not_blanks word is))
    ∙ filter-filled word [] is
words-row word (next ∷ row) is are =
    words-word word 32 (next ++ flat_map (λ w. 32 ∷ w) row) is refl
    ∙ ap (λ ws. word ∷ ws) (words-row next row are.0 are.1)

-- ---- what holds of the words and the comment of a line

-- a word of a line, which may still hold NUL
pub record IsTokenByte (b : ℕ) : Type 0 where
  pub no_tab : b ≢ 9
  pub no_feed : b ≢ 10
  pub no_return : b ≢ 13
  pub no_blank : b ≢ 32
  pub no_hash : b ≢ 35

pub record IsToken (word : List ℕ) : Type 0 where
  pub filled : word ≢ []
  pub bytes : AllByRecursion IsTokenByte word

-- and without NUL it is a word
pub word-from_token : (word : List ℕ) → IsToken word → AllByRecursion (λ b. 0 < b) word → IsWord word
word-from_token word is no_nul = record {
  filled = is.filled;
  bytes = all-weaker (λ b. IsTokenByte b × (0 < b)) IsWordByte
      (λ b h. record { some = h.1; no_tab = h.0.no_tab; no_feed = h.0.no_feed; no_return = h.0.no_return; no_blank = h.0.no_blank; no_hash = h.0.no_hash }) word
      (all-both IsTokenByte (λ b. 0 < b) word is.bytes no_nul);
}

abbrev pub IsOwn : Option (List ℕ) → Type 0
IsOwn None = Unit {0}
IsOwn (Some own) = IsOneLine own

-- what a line says has words without blanks and texts of one line
abbrev pub IsFine : Meaning → Type 0
IsFine Skipped = Unit {0}
IsFine (Comment text) = IsOneLine text
IsFine (Gives address host aliases own) = IsToken address × IsToken host × AllByRecursion IsToken aliases × IsOwn own
IsFine Unreadable = Unit {0}

-- bytes that stand in a line and are no carriage return
abbrev IsClean : ℕ → Type 0
IsClean b = (b ≢ 10) × (b ≢ 13)

-- such bytes that are no `#` either, as they stand before the first one
abbrev IsData : ℕ → Type 0
IsData b = (b ≢ 10) × (b ≢ 13) × (b ≢ 35)

cut_at_hash-data : (bytes : List ℕ) → AllByRecursion IsClean bytes → AllByRecursion IsData (cut_at_hash bytes).0
cut_at_hash-data [] h = tt
cut_at_hash-data (b ∷ bytes) h =
    cond_both (b == 35) ([], Some bytes) (b ∷ (cut_at_hash bytes).0, (cut_at_hash bytes).1) (λ (cut : List ℕ × Option (List ℕ)). AllByRecursion IsData cut.0) (λ _. tt)
    (λ other. ((h.0.0, h.0.1, eqb-false b 35 other), cut_at_hash-data bytes h.1))

cut_at_hash-own : (bytes : List ℕ) → AllByRecursion IsClean bytes → IsOwn (cut_at_hash bytes).1
cut_at_hash-own [] h = tt
cut_at_hash-own (b ∷ bytes) h =
    cond_both (b == 35) ([], Some bytes) (b ∷ (cut_at_hash bytes).0, (cut_at_hash bytes).1) (λ (cut : List ℕ × Option (List ℕ)). IsOwn cut.1) (λ _. h.1) (λ _. cut_at_hash-own bytes h.1)

token_byte : (b : ℕ) → IsData b → is_blank b ≡ false → IsTokenByte b
token_byte b h not_blank =
    let tests = or_parts (b == 32) (b == 9) not_blank in
    record {
      no_tab = eqb-false b 9 tests.1;
      no_feed = h.0;
      no_return = h.1;
      no_blank = eqb-false b 32 tests.0;
      no_hash = h.2;
    }

onto_first-tokens : (b : ℕ) (parts : List (List ℕ)) → IsTokenByte b → AllByRecursion (AllByRecursion IsTokenByte) parts
    → AllByRecursion (AllByRecursion IsTokenByte) (onto_first b parts)
onto_first-tokens b [] h all = ((h, tt), tt)
onto_first-tokens b (part ∷ parts) h all = ((h, all.0), all.1)

split-tokens : (bytes : List ℕ) → AllByRecursion IsData bytes
    → AllByRecursion (AllByRecursion IsTokenByte) (slice_split is_blank bytes)
split-tokens [] h = (tt, tt)
split-tokens (b ∷ bytes) h =
    cond_both (is_blank b) ([] ∷ slice_split is_blank bytes) (onto_first b (slice_split is_blank bytes)) (λ parts. AllByRecursion (AllByRecursion IsTokenByte) parts)
    (λ _. (tt, split-tokens bytes h.1))
    (λ not_blank. onto_first-tokens b (slice_split is_blank bytes) (token_byte b h.0 not_blank) (split-tokens bytes h.1))

filtered-tokens : (parts : List (List ℕ)) → AllByRecursion (AllByRecursion IsTokenByte) parts
    → AllByRecursion IsToken (filter is_filled parts)
filtered-tokens [] h = tt
filtered-tokens ([] ∷ parts) h = filtered-tokens parts h.1
filtered-tokens ((b ∷ word) ∷ parts) h = (record { filled = λ e. absurd cc; bytes = h.0 }, filtered-tokens parts h.1)

fine-meaning_of : (tokens : List (List ℕ)) (own : Option (List ℕ)) → AllByRecursion IsToken tokens → IsOwn own
    → IsFine (meaning_of tokens own)
fine-meaning_of [] None h own = tt
fine-meaning_of [] (Some text) h own = own
fine-meaning_of (word ∷ []) own h is_own = tt
fine-meaning_of (address ∷ host ∷ aliases) own h is_own = (h.0, h.1.0, h.1.1, is_own)

no_returns : (bytes : List ℕ) → list_any (λ b. b == 13) bytes ≡ false → AllByRecursion (λ b. b ≢ 13) bytes
no_returns [] h = tt
no_returns (b ∷ bytes) h =
    let parts = or_parts (b == 13) (list_any (λ b. b == 13) bytes) h in (eqb-false b 13 parts.0, no_returns bytes parts.1)

pub fine-meaning : (line : List ℕ) → AllByRecursion IsInLine line → IsFine (meaning line)
fine-meaning line in_line =
    let bytes = without_return line in
    let cut = cut_at_hash bytes in
    cond_both (list_any (λ b. b == 13) bytes) Unreadable (meaning_of (words cut.0) cut.1) IsFine (λ _. tt) (λ none.
    let clean = all-both IsInLine (λ b. b ≢ 13) bytes (all-without_return IsInLine line in_line) (no_returns bytes none) in
    fine-meaning_of (words cut.0) cut.1 (filtered-tokens (slice_split is_blank cut.0) (split-tokens cut.0 (cut_at_hash-data bytes clean))) (cut_at_hash-own bytes clean))
