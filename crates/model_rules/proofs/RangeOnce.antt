-- A text is a range of one list of intervals at most: in an item that is two numbers, the minus between them is the
-- first one behind the first byte.
use Rattle.std.specs.Prelude.{◌≡◌, ◌≢◌, ℕ, suc, ◌<◌, Bool, true, false, List, [], ◌∷◌, ◌++◌, length, drop, ℤ}
use Rattle.std.specs.List.{AllZip, slice_split}
use Rattle.std.specs.Str.Parse.{AllDigits, IsNumeral}
use Rattle.std.proofs.Common.{refl, sym, ap, ap₂, subst, ◌∙◌, arith, get_or}
use Rattle.model_rules.specs.Number.{IsNumber, with_sign}
use Rattle.model_rules.specs.Range.{IsItem, Single, Between, IsRange, is_comma}
use Rattle.model_rules.specs.declared.intervals.Interval.{Interval}
use Rattle.model_rules.proofs.NumberOnce.{no_minus, IsNumber-once}
use Rattle.general_words.proofs.Lists.{head_is}

-- no byte is a minus
abbrev pub HasNoMinus : List ℕ → Type 0
HasNoMinus [] = Unit {0}
HasNoMinus (b ∷ bytes) = (b ≡ 45 → ⊥) × HasNoMinus bytes

HasNoMinus-digits : (digits : List ℕ) → AllDigits 10 digits → HasNoMinus digits
HasNoMinus-digits [] h = tt
HasNoMinus-digits (c ∷ digits) h = (λ e. no_minus c e h.0, HasNoMinus-digits digits h.1)

pub HasNoMinus-at : (bytes : List ℕ) → ((i : ℕ) → i < length bytes → get_or bytes i 0 ≢ 45) → HasNoMinus bytes
HasNoMinus-at [] h = tt
HasNoMinus-at (b ∷ bytes) h = (h 0 (omega arith), HasNoMinus-at bytes (λ i l. h (suc i) (omega arith)))

pub no_minus_inside : (r x : List ℕ) → HasNoMinus (r ++ (45 ∷ x)) → ⊥
no_minus_inside [] x h = h.0 refl
no_minus_inside (c ∷ r) x h = no_minus_inside r x h.1

-- a text has a first byte, and no minus behind it
pub record IsFront (text : List ℕ) : Type 0 where
  pub first : ℕ
  pub rest : List ℕ
  pub whole : text ≡ first ∷ rest
  pub none : HasNoMinus rest

number_front : (minus : Bool) (digits : List ℕ) → IsNumeral 10 digits → IsFront (with_sign minus digits)
number_front true digits h = record { first = 45; rest = digits; whole = refl; none = HasNoMinus-digits digits h.1 }
number_front false [] h = absurd (omega (arith, h.0))
number_front false (c ∷ digits) h =
    record { first = c; rest = digits; whole = refl; none = HasNoMinus-digits digits h.1.1 }

pub IsNumber-front : (text : List ℕ) (value : ℤ) → IsNumber text value → IsFront text
IsNumber-front text value p = subst IsFront (sym p.spelled) (number_front p.minus p.digits p.number.numeral)

-- what stands before the first minus is told by it
fronts_once : (r s x y : List ℕ) → HasNoMinus r → HasNoMinus s → r ++ (45 ∷ x) ≡ s ++ (45 ∷ y) → (r ≡ s) × (x ≡ y)
fronts_once [] [] x y p q e = (refl, ap (drop 1) e)
fronts_once [] (c ∷ s) x y p q e = absurd (q.0 (sym (head_is 45 c x (s ++ (45 ∷ y)) e)))
fronts_once (c ∷ r) [] x y p q e = absurd (p.0 (head_is c 45 (r ++ (45 ∷ x)) y e))
fronts_once (c ∷ r) (d ∷ s) x y p q e =
    let more = fronts_once r s x y p.1 q.1 (ap (drop 1) e) in
    (ap₂ (λ (b : ℕ) (bytes : List ℕ). b ∷ bytes) (head_is c d (r ++ (45 ∷ x)) (s ++ (45 ∷ y)) e) more.0, more.1)

-- a front has no minus behind its first byte
pub one_front_alone : (text first last : List ℕ) → IsFront text → IsFront first → text ≡ first ++ (45 ∷ last) → ⊥
one_front_alone text first last p q e =
    let whole : p.first ∷ p.rest ≡ q.first ∷ (q.rest ++ (45 ∷ last)) = sym p.whole ∙ e ∙ ap (λ t. t ++ (45 ∷ last)) q.whole in
    no_minus_inside q.rest last (subst HasNoMinus (ap (drop 1) whole) p.none)

-- a front and what stands behind the next minus are told by the whole
pub two_parts_once : (first last first' last' : List ℕ) → IsFront first → IsFront first'
    → first ++ (45 ∷ last) ≡ first' ++ (45 ∷ last') → (first ≡ first') × (last ≡ last')
two_parts_once first last first' last' p q e =
    let whole : p.first ∷ (p.rest ++ (45 ∷ last)) ≡ q.first ∷ (q.rest ++ (45 ∷ last')) = sym (ap (λ t. t ++ (45 ∷ last)) p.whole) ∙ e ∙ ap (λ t. t ++ (45 ∷ last')) q.whole in
    let more = fronts_once p.rest q.rest last last' p.none q.none (ap (drop 1) whole) in
    let heads = head_is p.first q.first (p.rest ++ (45 ∷ last)) (q.rest ++ (45 ∷ last')) whole in
    (p.whole ∙ ap₂ (λ (b : ℕ) (bytes : List ℕ). b ∷ bytes) heads more.0 ∙ sym q.whole, more.1)

abbrev interval : ℤ → ℤ → Interval
interval low high = record { low = low; high = high }

pub IsItem-once : (item : List ℕ) (a b : Interval) → IsItem item a → IsItem item b → a ≡ b
IsItem-once item a b (Single l h) (Single l' h') =
    ap₂ interval (IsNumber-once item a.low b.low l l') (IsNumber-once item a.high b.high h h')
IsItem-once item a b (Single l h) (Between first last e f g o) =
    absurd (one_front_alone item first last (IsNumber-front item a.low l) (IsNumber-front first b.low f) e)
IsItem-once item a b (Between first last e f g o) (Single l h) =
    absurd (one_front_alone item first last (IsNumber-front item b.low l) (IsNumber-front first a.low f) e)
IsItem-once item a b (Between first last e f g o) (Between first' last' e' f' g' o') =
    let same = two_parts_once first last first' last' (IsNumber-front first a.low f) (IsNumber-front first' b.low f') (sym e ∙ e') in
    ap₂ interval (IsNumber-once first a.low b.low f (subst (λ t. IsNumber t b.low) (sym same.0) f')) (IsNumber-once last a.high b.high g (subst (λ t. IsNumber t b.high) (sym same.1) g'))

zips_once : (items : List (List ℕ)) (a b : List Interval) → AllZip IsItem items a → AllZip IsItem items b → a ≡ b
zips_once [] [] [] p q = refl
zips_once [] [] (y ∷ b) p q = absurd q
zips_once [] (x ∷ a) b p q = absurd p
zips_once (item ∷ items) [] b p q = absurd p
zips_once (item ∷ items) (x ∷ a) [] p q = absurd q
zips_once (item ∷ items) (x ∷ a) (y ∷ b) p q =
    ap₂ (λ (i : Interval) (is : List Interval). i ∷ is) (IsItem-once item x y p.0 q.0) (zips_once items a b p.1 q.1)

pub IsRange-once : (text : List ℕ) (a b : List Interval) → IsRange text a → IsRange text b → a ≡ b
IsRange-once text a b = zips_once (slice_split is_comma text) a b
