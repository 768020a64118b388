-- The lines that are written say what they were written for, and end no line.
use Rattle.std.specs.Prelude.{◌≡◌, ◌≢◌, ℕ, false, ◌==◌, List, [], ◌∷◌, ◌++◌, Option, None, Some}
use Rattle.std.proofs.Common.{cond, refl, ap, ◌∙◌}
use Rattle.std.specs.List.{AllByRecursion, flat_map, list_any}
use Rattle.std.proofs.lemmas.Bool.{ne_eqb, eqb-false, cond-false, or_from}
use Rattle.model_lines.proofs.AllLemmas.{all-weaker, all-flat_map}
use Rattle.model_lines.proofs.LineLemmas.{IsInLine, without_return-same}
use Rattle.model_hosts.specs.Line.{cut_at_hash, words, Meaning, Comment, Gives, Unreadable, meaning_of, meaning}
use Rattle.model_hosts.specs.Keys.{IsWordByte, IsWord, IsOneLine}
use Rattle.model_hosts.specs.Text.{host_line}
use Rattle.model_hosts.proofs.WordLemmas.{words-word, words-row}
use Rattle.general_words.proofs.Lists.{all_append}

no_return-any : (bytes : List ℕ) → AllByRecursion (λ b. b ≢ 13) bytes → list_any (λ b. b == 13) bytes ≡ false
no_return-any [] h = refl
no_return-any (b ∷ bytes) h =
    or_from (b == 13) (list_any (λ b. b == 13) bytes) (ne_eqb b 13 h.0) (no_return-any bytes h.1)

cut_at_hash-none : (bytes : List ℕ) → AllByRecursion (λ b. b ≢ 35) bytes → cut_at_hash bytes ≡ (bytes, None)
cut_at_hash-none [] h = refl
cut_at_hash-none (b ∷ bytes) h =
    cond-false (b == 35) ([], Some bytes) (b ∷ (cut_at_hash bytes).0, (cut_at_hash bytes).1) (ne_eqb b 35 h.0)
    ∙ ap (λ (cut : List ℕ × Option (List ℕ)). (b ∷ cut.0, cut.1)) (cut_at_hash-none bytes h.1)

-- what bytes without a carriage return say
meaning-clean : (line : List ℕ) → AllByRecursion (λ b. b ≢ 13) line
    → meaning line ≡ meaning_of (words (cut_at_hash line).0) (cut_at_hash line).1
meaning-clean line h =
    let said : List ℕ → Meaning = λ bytes. cond (list_any (λ b. b == 13) bytes) Unreadable (meaning_of (words (cut_at_hash bytes).0) (cut_at_hash bytes).1) in
    ap said (without_return-same line h) ∙ cond-false (list_any (λ b. b == 13) line) Unreadable _ (no_return-any line h)

-- a comment
pub meaning-comment : (text : List ℕ) → IsOneLine text → meaning (35 ∷ text) ≡ Comment text
meaning-comment text h =
    meaning-clean (35 ∷ text) (eqb-false 35 13 refl, all-weaker (λ b. (b ≢ 10) × (b ≢ 13)) (λ b. b ≢ 13) (λ b p. p.1) text h)

pub comment-in_line : (text : List ℕ) → IsOneLine text → AllByRecursion IsInLine (35 ∷ text)
comment-in_line text h = (eqb-false 35 10 refl, all-weaker (λ b. (b ≢ 10) × (b ≢ 13)) IsInLine (λ b p. p.0) text h)

-- bytes that stand in the line of an entry
record IsEntryByte (b : ℕ) : Type 0 where
  no_feed : b ≢ 10
  no_return : b ≢ 13
  no_hash : b ≢ 35

word-entry : (word : List ℕ) → IsWord word → AllByRecursion IsEntryByte word
word-entry word is =
    all-weaker IsWordByte IsEntryByte (λ b h. record { no_feed = h.no_feed; no_return = h.no_return; no_hash = h.no_hash }) word is.bytes

blank-entry : IsEntryByte 32
blank-entry =
    record { no_feed = eqb-false 32 10 refl; no_return = eqb-false 32 13 refl; no_hash = eqb-false 32 35 refl }

tab-entry : IsEntryByte 9
tab-entry = record { no_feed = eqb-false 9 10 refl; no_return = eqb-false 9 13 refl; no_hash = eqb-false 9 35 refl }

host_line-entry : (address host : List ℕ) (aliases : List (List ℕ)) → IsWord address → IsWord host
    → AllByRecursion IsWord aliases → AllByRecursion IsEntryByte (host_line address host aliases)
host_line-entry address host aliases is_address is_host are_aliases =
    all_append IsEntryByte address (9 ∷ (host ++ flat_map (λ alias. 32 ∷ alias) aliases)) (word-entry address is_address) (
      tab-entry,
      all_append IsEntryByte host (flat_map (λ alias. 32 ∷ alias) aliases) (word-entry host is_host)
          (all-flat_map IsEntryByte (λ alias. 32 ∷ alias) aliases (all-weaker IsWord (λ alias. AllByRecursion IsEntryByte (32 ∷ alias)) (λ alias is. (blank-entry, word-entry alias is)) aliases are_aliases)),
    )

-- an entry
pub meaning-host_line : (address host : List ℕ) (aliases : List (List ℕ)) → IsWord address → IsWord host
    → AllByRecursion IsWord aliases → meaning (host_line address host aliases) ≡ Gives address host aliases None
meaning-host_line address host aliases is_address is_host are_aliases =
    let line = host_line address host aliases in
    let entry = host_line-entry address host aliases is_address is_host are_aliases in
    let cut = cut_at_hash-none line (all-weaker IsEntryByte (λ b. b ≢ 35) (λ b h. h.no_hash) line entry) in
    let row : words line ≡ address ∷ host ∷ aliases = words-word address 9 (host ++ flat_map (λ alias. 32 ∷ alias) aliases) is_address refl ∙ ap (λ ws. address ∷ ws) (words-row host aliases is_host are_aliases) in
    meaning-clean line (all-weaker IsEntryByte (λ b. b ≢ 13) (λ b h. h.no_return) line entry)
    ∙ ap (λ (c : List ℕ × Option (List ℕ)). meaning_of (words c.0) c.1) cut
    ∙ ap (λ ws. meaning_of ws None) row

pub host_line-in_line : (address host : List ℕ) (aliases : List (List ℕ)) → IsWord address → IsWord host
    → AllByRecursion IsWord aliases → AllByRecursion IsInLine (host_line address host aliases)
host_line-in_line address host aliases is_address is_host are_aliases =
    all-weaker IsEntryByte IsInLine (λ b h. h.no_feed) (host_line address host aliases) (host_line-entry address host aliases is_address is_host are_aliases)
