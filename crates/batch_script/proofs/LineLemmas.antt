-- What one line adds to what the lines before it say.
use Rattle.std.specs.Prelude.{◌≡◌, ℕ, ◌==◌, true, false, List, [], ◌∷◌, ◌++◌, Some, None}
use Rattle.std.specs.Str.{IsUtf8}
use Rattle.std.proofs.Common.{refl, sym, ap, ◌∙◌, inl, inr}
use Rattle.std.proofs.lemmas.Bool.{true≢false, eqb-true}
use Rattle.std.proofs.lemmas.Option.{none-some, same_Some}
use Rattle.model_lines.specs.Lines.{without_return}
use Rattle.model_lines.proofs.Leading.{IsFunctional}
use Rattle.batch_script.specs.declared.items.Item.{Item}
use Rattle.batch_script.specs.Words.{is_nothing, behind_blanks, HasWords, IsComment, IsSpelled}
use Rattle.batch_script.specs.Rows.{said}
use Rattle.batch_script.specs.Places.{may_follow}
use Rattle.batch_script.specs.Scripts.{Adds, Means, MeansNothing}
use Rattle.batch_script.proofs.WordLemmas.{behind-gap, blank-behind, blank-from, first-behind, gap-of, words-ahead, words-before, words-once}

-- ---- lines that mean nothing

nothing-by : (line rest : List ℕ) → behind_blanks line ≡ rest → is_nothing rest ≡ true → MeansNothing line
nothing-by line [] e is = inl (blank-from line e)
nothing-by line (b ∷ bytes) e is =
    let cut = gap-of line in
    inr (record { gap = cut.0; comment = bytes; line_is = cut.1.is ∙ ap (λ t. cut.0 ++ t) (e ∙ ap (λ (c : ℕ). c ∷ bytes) (eqb-true b 35 is)); blank = cut.1.blank })

comment-behind : (line : List ℕ) (h : IsComment line) → behind_blanks line ≡ 35 ∷ h.comment
comment-behind line h = ap behind_blanks h.line_is ∙ behind-gap h.gap (35 ∷ h.comment) h.blank

nothing-means : (line : List ℕ) → MeansNothing line → is_nothing (behind_blanks line) ≡ true
nothing-means line (inl blank) = ap is_nothing (blank-behind line blank)
nothing-means line (inr h) = ap is_nothing (comment-behind line h)

pub nothing-adds : (items : List Item) (line : List ℕ) → IsUtf8 line
    → is_nothing (behind_blanks (without_return line)) ≡ true → Adds items line items
nothing-adds items line utf8 is = record { utf8 = utf8; means = inl (nothing-by (without_return line) _ refl is, refl) }

-- the words of a comment say nothing
comment-says : (bytes word rest comment : List ℕ) (words : List (List ℕ)) (item : Item) → IsSpelled bytes word
    → bytes ++ rest ≡ 35 ∷ comment → said (word ∷ words) ≡ Some item → ⊥
comment-says [] word rest comment words item (inl bare) e says = true≢false (sym bare.0)
comment-says (b ∷ bytes) word rest comment words item (inl bare) e says =
    let head : b ≡ 35 = cc in
    let is : word ≡ 35 ∷ bytes = sym bare.1 ∙ ap (λ (c : ℕ). c ∷ bytes) head in
    let none : said ((35 ∷ bytes) ∷ words) ≡ None = refl in
    none-some item (sym none ∙ ap (λ w. said (w ∷ words)) (sym is) ∙ says)
comment-says [] word rest comment words item (inr quoted) e says = let e' = quoted.1 in absurd cc
comment-says (b ∷ bytes) word rest comment words item (inr quoted) e says =
    let head : b ≡ 35 = cc in
    let other : b ≡ 34 = let e' = quoted.1 in cc in
    let same : ◌≡◌ {A = ℕ} 35 34 = sym head ∙ other in
    true≢false (ap (λ (n : ℕ). n == 35) same)

nothing-says : (line : List ℕ) (words : List (List ℕ)) (item : Item) → MeansNothing line → HasWords line words
    → said words ≡ Some item → ⊥
nothing-says line [] item nothing has says = none-some item says
nothing-says line (word ∷ words) item (inl blank) has says =
    let none : [] ≡ word ∷ words = words-once [] (word ∷ words) line blank has in absurd cc
nothing-says line (word ∷ words) item (inr h) has says =
    let first = has.1 in
    comment-says first.bytes word has.0 h.comment words item first.spelled (sym (first-behind line word has.0 first) ∙ comment-behind line h) says

-- ---- lines that say something

-- a line that adds something, and has words, adds what they say
pub says-of : (items after : List Item) (line : List ℕ) (words : List (List ℕ)) → Adds items line after
    → is_nothing (behind_blanks (without_return line)) ≡ false → HasWords (behind_blanks (without_return line)) words
    → (item : Item) × (said words ≡ Some item) × (may_follow items item ≡ true)
says-of items after line words adds something has = by adds.means
  where
    by : Means items (without_return line) after
        → (item : Item) × (said words ≡ Some item) × (may_follow items item ≡ true)
    by (inl h) = absurd (true≢false (sym (nothing-means (without_return line) h.0) ∙ something))
    by (inr h) =
        let once : h.1.words ≡ words = words-once h.1.words words (without_return line) h.1.has (words-before (without_return line) words has) in
        (h.0, ap said (sym once) ∙ h.1.is_said, h.1.follows)

-- a line that has no words adds nothing
pub words-lack : (items after : List Item) (line : List ℕ) → is_nothing (behind_blanks (without_return line)) ≡ false
    → ((words : List (List ℕ)) → HasWords (behind_blanks (without_return line)) words → ⊥) → Adds items line after → ⊥
words-lack items after line something none adds = by adds.means
  where
    by : Means items (without_return line) after → ⊥
    by (inl h) = true≢false (sym (nothing-means (without_return line) h.0) ∙ something)
    by (inr h) = none h.1.words (words-ahead (without_return line) h.1.words h.1.has)

-- words that say nothing add nothing
pub said-lacks : (items after : List Item) (line : List ℕ) (words : List (List ℕ))
    → is_nothing (behind_blanks (without_return line)) ≡ false → HasWords (behind_blanks (without_return line)) words
    → said words ≡ None → Adds items line after → ⊥
said-lacks items after line words something has none adds =
    let says = says-of items after line words adds something has in
    none-some says.0 (sym none ∙ says.1)

-- what may not follow adds nothing
pub follow-lacks : (items after : List Item) (line : List ℕ) (words : List (List ℕ)) (item : Item)
    → is_nothing (behind_blanks (without_return line)) ≡ false → HasWords (behind_blanks (without_return line)) words
    → said words ≡ Some item → may_follow items item ≡ false → Adds items line after → ⊥
follow-lacks items after line words item something has said_is fails adds =
    let says = says-of items after line words adds something has in
    let same : item ≡ says.0 = same_Some item says.0 (sym said_is ∙ says.1) in
    true≢false (sym says.2 ∙ ap (may_follow items) (sym same) ∙ fails)

pub item-adds : (items : List Item) (line : List ℕ) (words : List (List ℕ)) (item : Item) → IsUtf8 line
    → HasWords (behind_blanks (without_return line)) words → said words ≡ Some item → may_follow items item ≡ true
    → Adds items line (items ++ item ∷ [])
item-adds items line words item utf8 has said_is follows = record {
  utf8 = utf8;
  means = inr (item, record { words = words; has = words-before (without_return line) words has; is_said = said_is; follows = follows }, refl);
}

-- ---- one reading

pub Adds-once : IsFunctional Adds
Adds-once before line a b p q = by p.means q.means
  where
    by : Means before (without_return line) a → Means before (without_return line) b → a ≡ b
    by (inl h) (inl k) = h.1 ∙ sym k.1
    by (inl h) (inr k) = absurd (nothing-says (without_return line) k.1.words k.0 h.0 k.1.has k.1.is_said)
    by (inr h) (inl k) = absurd (nothing-says (without_return line) h.1.words h.0 k.0 h.1.has h.1.is_said)
    by (inr h) (inr k) =
        let words : h.1.words ≡ k.1.words = words-once h.1.words k.1.words (without_return line) h.1.has k.1.has in
        let item : h.0 ≡ k.0 = same_Some h.0 k.0 (sym h.1.is_said ∙ ap said words ∙ k.1.is_said) in
        h.2 ∙ ap (λ (i : Item). before ++ i ∷ []) item ∙ sym k.2
