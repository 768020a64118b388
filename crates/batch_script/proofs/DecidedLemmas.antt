-- A line adds one thing behind the lines before it, or nothing: each part of it can be told.
use Rattle.std.specs.Prelude.{◌≡◌, ◌≢◌, ◌⊎◌, ℕ, zero, suc, ◌+◌, ◌-◌, ◌<◌, ◌≤◌, true, false, not, ◌&&◌, List, [], ◌∷◌, ◌++◌, length, take, drop, Option, Some, None}
use Rattle.std.specs.List.{list_all}
use Rattle.std.specs.Str.{IsUtf8}
use Rattle.std.proofs.Common.{refl, sym, ap, subst, ◌∙◌, inl, inr, arith, length-append}
use Rattle.std.proofs.lemmas.Bool.{cases_Bool, cases_eq, ne_eqb}
use Rattle.std.proofs.lemmas.List.{length-drop}
use Rattle.model_lines.specs.Lines.{without_return}
use Rattle.model_lines.proofs.Leading.{IsDecided}
use Rattle.model_lines.proofs.Telling.{utf8-told, IsFound}
use Rattle.batch_script.specs.declared.items.Item.{Item}
use Rattle.batch_script.specs.Letters.{written_at}
use Rattle.batch_script.specs.Words.{is_blank, is_bare, is_nothing, behind_blanks, closes, EndsWord, HasWords, IsFirstWord, LacksWord}
use Rattle.batch_script.specs.Rows.{said}
use Rattle.batch_script.specs.Places.{may_follow}
use Rattle.batch_script.specs.Scripts.{Adds}
use Rattle.batch_script.proofs.WordLemmas.{bare-first, bare-lacks, behind-again, blank-behind, blank-from, blank-lacks, first-ahead, first-before, first-once, front-other, gap-of, quoted-first, quoted-lacks, quoted-more, quoted-no_text, quoted-start, written-shorter, IsInQuotes}
use Rattle.batch_script.proofs.LineLemmas.{follow-lacks, item-adds, nothing-adds, said-lacks, words-lack}

-- some word and what stands behind it are the first of a line, or none are
abbrev First : List ℕ → Type 0
First line =
    ((word : List ℕ) × (rest : List ℕ) × IsFirstWord line word rest × (length rest < length line)) ⊎ LacksWord line

-- a run of bytes without blanks ends somewhere
pub record EndsAt (bytes : List ℕ) (end : ℕ) : Type 0 where
  pub within : end ≤ length bytes
  pub run : list_all (λ c. not (is_blank c)) (take end bytes) ≡ true
  pub apart : EndsWord (drop end bytes)

run-told : (bytes : List ℕ) → (end : ℕ) × EndsAt bytes end
run-told [] = (0, record { within = omega arith; run = refl; apart = tt })
run-told (b ∷ bytes) =
    elim (cases_Bool (is_blank b)) [
      | inl blank ↦ (0, record { within = omega arith; run = refl; apart = blank })
      | inr other ↦
          let more = run-told bytes in
          (suc more.0, record { within = omega (arith, more.1.within); run = ap (λ t. not t && list_all (λ c. not (is_blank c)) (take more.0 bytes)) other ∙ more.1.run; apart = more.1.apart })
    ]

bare-told : (b : ℕ) (bytes : List ℕ) → is_blank b ≡ false → b ≢ 34 → behind_blanks (b ∷ bytes) ≡ b ∷ bytes
    → First (b ∷ bytes)
bare-told b bytes other no_quote front =
    let line = b ∷ bytes in
    let ends = run-told line in
    let bare : is_bare (take 1 line) ≡ true = ap (λ t. not t && (not (is_blank b) && true)) (ne_eqb b 34 no_quote) ∙ ap (λ t. not t && true) other in
    elim (utf8-told (take ends.0 line)) [
      | inl utf8 ↦
          let first = bare-first line ends.0 bare ends.1.within ends.1.run ends.1.apart utf8 in
          inl (take ends.0 line, drop ends.0 line, first.2, omega (arith, length-drop ends.0 line, first.0, first.1))
      | inr bad ↦ inr (bare-lacks line ends.0 bare ends.1.run ends.1.apart bad front)
    ]

-- where nothing more is written in quotes
pub record Stops (line : List ℕ) : Type 0 where
  pub rest : List ℕ
  pub text : List ℕ
  pub inside : IsInQuotes line rest text
  pub none : written_at rest ≡ None

stops-by : (fuel : ℕ) (line rest text : List ℕ) → length rest < fuel → IsInQuotes line rest text → Stops line
stops-by zero line rest text less h = absurd (omega (arith, less))
stops-by (suc fuel) line rest text less h = by (stops-by fuel line) (written_at rest) refl
  where
    by : ((more next : List ℕ) → length more < fuel → IsInQuotes line more next → Stops line)
        → (found : Option (ℕ × List ℕ)) → written_at rest ≡ found → Stops line
    by go None e = record { rest = rest; text = text; inside = h; none = e }
    by go (Some (b, more)) e =
        go more (text ++ b ∷ []) (omega (arith, less, written-shorter rest more b e)) (quoted-more line rest text more b h e)

quoted-told : (bytes : List ℕ) → First (34 ∷ bytes)
quoted-told bytes =
    let line = 34 ∷ bytes in
    let stops = stops-by (suc (length bytes)) line bytes [] (omega arith) (quoted-start line refl) in
    elim (cases_Bool (closes stops.rest)) [
      | inl closed ↦ elim (utf8-told stops.text) [
        | inl utf8 ↦
            let first = quoted-first line stops.rest stops.text stops.inside closed utf8 in
            let taken = length line - length stops.rest + 1 in
            inl (stops.text, drop taken line, first.2, omega (arith, length-drop taken line, first.0, first.1))
        | inr bad ↦ inr (quoted-no_text line stops.rest stops.text stops.inside stops.none bad)
      ]
      | inr unclosed ↦ inr (quoted-lacks line stops.rest stops.text stops.inside stops.none unclosed)
    ]

front-told : (line : List ℕ) → behind_blanks line ≡ line → line ≢ [] → First line
front-told [] front some = absurd (some refl)
front-told (b ∷ bytes) front some =
    elim (cases_eq b 34) [
      | inl quote ↦ subst (λ (c : ℕ). First (c ∷ bytes)) (sym quote) (quoted-told bytes)
      | inr other ↦ bare-told b bytes (front-other b bytes front) other front
    ]

-- the words of a line that is shorter than so many bytes
words-by : (fuel : ℕ) (line : List ℕ) → length line < fuel → IsFound (HasWords line)
words-by zero line less = absurd (omega (arith, less))
words-by (suc fuel) line less = by (words-by fuel) (behind_blanks line) refl
  where
    lacks : (rest : List ℕ) → behind_blanks line ≡ rest → rest ≢ [] → LacksWord line → (words : List (List ℕ))
        → HasWords line words → ⊥
    lacks rest e some none [] has = some (sym e ∙ blank-behind line has)
    lacks rest e some none (word ∷ words) has = none word has.0 has.1

    others : (word rest : List ℕ) → IsFirstWord line word rest → ((words : List (List ℕ)) → HasWords rest words → ⊥)
        → (words : List (List ℕ)) → HasWords line words → ⊥
    others word rest first none [] has = blank-lacks line (blank-behind line has) word rest first
    others word rest first none (other ∷ words) has =
        none words (subst (λ t. HasWords t words) (first-once line other word has.0 rest has.1 first).1 has.2)

    by : ((rest : List ℕ) → length rest < fuel → IsFound (HasWords rest)) → (rest : List ℕ) → behind_blanks line ≡ rest
        → IsFound (HasWords line)
    by go [] e = inl ([], blank-from line e)
    by go (b ∷ bytes) e =
        let front : behind_blanks (b ∷ bytes) ≡ b ∷ bytes = ap behind_blanks (sym e) ∙ behind-again line ∙ e in
        elim (front-told (b ∷ bytes) front (λ none. absurd cc)) [
          | inl found ↦
              let first = first-before line found.0 found.1 (subst (λ t. IsFirstWord t found.0 found.1) (sym e) found.2) in
              let cut = gap-of line in
              let whole : length line ≡ length cut.0 + length (b ∷ bytes) = ap length (cut.1.is ∙ ap (λ t. cut.0 ++ t) e) ∙ length-append cut.0 (b ∷ bytes) in
              elim (go found.1 (omega (arith, less, whole, found.3))) [
                | inl more ↦ inl (found.0 ∷ more.0, (found.1, first, more.1))
                | inr none ↦ inr (others found.0 found.1 first none)
              ]
          | inr none ↦ inr (lacks (b ∷ bytes) e (λ empty. absurd cc) (λ word rest first. none word rest (subst (λ t. IsFirstWord t word rest) e (first-ahead line word rest first))))
        ]

words-told : (line : List ℕ) → IsFound (HasWords line)
words-told line = words-by (suc (length line)) line (omega arith)

pub Adds-told : IsDecided Adds
Adds-told before line =
    elim (utf8-told line) [
      | inl utf8 ↦ elim (cases_Bool (is_nothing (behind_blanks (without_return line)))) [
        | inl nothing ↦ inl (before, nothing-adds before line utf8 nothing)
        | inr something ↦ elim (words-told (behind_blanks (without_return line))) [
          | inl has ↦ by_said utf8 something has.0 has.1 (said has.0) refl
          | inr none ↦ inr (λ after. words-lack before after line something none)
        ]
      ]
      | inr bad ↦ inr (λ after adds. bad adds.utf8)
    ]
  where
    by_said : IsUtf8 line → is_nothing (behind_blanks (without_return line)) ≡ false → (words : List (List ℕ))
        → HasWords (behind_blanks (without_return line)) words → (found : Option Item) → said words ≡ found
        → ((after : List Item) × Adds before line after) ⊎ ((after : List Item) → Adds before line after → ⊥)
    by_said utf8 something words has None e = inr (λ after. said-lacks before after line words something has e)
    by_said utf8 something words has (Some item) e =
        elim (cases_Bool (may_follow before item)) [
          | inl follows ↦ inl (before ++ item ∷ [], item-adds before line words item utf8 has e follows)
          | inr fails ↦ inr (λ after. follow-lacks before after line words item something has e fails)
        ]
