-- What the signs that are written for a text are: none is a bare backslash, line feed, carriage return or tab, in a
-- name none is a bare equals sign, the ends aren't blank, and a name begins with no mark.
use Rattle.std.specs.Prelude.{◌≡◌, ◌≢◌, ℕ, false, ◌||◌, ◌==◌, List, [], ◌∷◌, map}
use Rattle.std.proofs.Common.{cond, refl}
use Rattle.std.specs.List.{AllByRecursion}
use Rattle.std.proofs.lemmas.Bool.{ne_eqb, eqb-false, cond_both, or_from}
use Rattle.model_ini.specs.declared.signs.Sign.{Sign}
use Rattle.model_ini.specs.declared.signs.Sign.TheVariants.{Plain, Covered}
use Rattle.model_ini.specs.Signs.{is_blank, is_equals}
use Rattle.model_ini.specs.Text.{value_sign, name_sign, cover_blank, cover_mark, at_first, at_last, value_signs, name_signs}
use Rattle.model_ini.proofs.SignLemmas.{by_byte, IsBare}
use Rattle.model_ini.proofs.Trimming.{FirstFails, LastFails, FirstFails-at_first, LastFails-at_last, LastFails-at_first}

-- a byte that would be read as another thing if it stood as it is
pub record IsOrdinary (b : ℕ) : Type 0 where
  pub no_backslash : b ≢ 92
  pub no_feed : b ≢ 10
  pub no_return : b ≢ 13
  pub no_tab : b ≢ 9

-- a sign that is written: what stands as it is is ordinary, and what is covered is a letter or a mark
abbrev pub IsWritten : Sign → Type 0
IsWritten (Plain b) = IsOrdinary b
IsWritten (Covered b) = (b ≢ 10) × (b ≢ 13)

-- a sign with which a line may begin
abbrev pub Begins : Sign → Type 0
Begins (Plain b) = (b ≢ 32) × (b ≢ 9) × (b ≢ 35) × (b ≢ 59) × (b ≢ 91)
Begins (Covered b) = Unit {0}

-- some signs, of which the first may begin a line
abbrev pub AreBegun : List Sign → Type 0
AreBegun [] = ⊥
AreBegun (s ∷ ss) = Begins s

abbrev pub IsFilled : {A : Type 0} → List A → Type 0
IsFilled [] = ⊥
IsFilled (x ∷ xs) = Unit {0}

all-mapped : {A B : Type 0} (P : B → Type 0) (f : A → B) → ((x : A) → P (f x)) → (xs : List A)
    → AllByRecursion P (map f xs)
all-mapped P f each [] = tt
all-mapped P f each (x ∷ xs) = (each x, all-mapped P f each xs)

all-at_first : {A : Type 0} (P : A → Type 0) (f : A → A) → ((x : A) → P x → P (f x)) → (xs : List A)
    → AllByRecursion P xs → AllByRecursion P (at_first f xs)
all-at_first P f keeps [] h = tt
all-at_first P f keeps (x ∷ xs) h = (keeps x h.0, h.1)

all-at_last : {A : Type 0} (P : A → Type 0) (f : A → A) → ((x : A) → P x → P (f x)) → (xs : List A)
    → AllByRecursion P xs → AllByRecursion P (at_last f xs)
all-at_last P f keeps [] h = tt
all-at_last P f keeps (x ∷ []) h = (keeps x h.0, tt)
all-at_last P f keeps (x ∷ y ∷ xs) h = (h.0, all-at_last P f keeps (y ∷ xs) h.1)

-- ---- each sign

written-value : (b : ℕ) → IsWritten (value_sign b)
written-value b =
    by_byte (λ t. IsWritten (cond t (Covered 92) (cond (b == 10) (Covered 110) (cond (b == 13) (Covered 114) (cond (b == 9) (Covered 116) (Plain b)))))) b 92 (λ _. (eqb-false 92 10 refl, eqb-false 92 13 refl)) (λ no_backslash.
    by_byte (λ t. IsWritten (cond t (Covered 110) (cond (b == 13) (Covered 114) (cond (b == 9) (Covered 116) (Plain b))))) b 10 (λ _. (eqb-false 110 10 refl, eqb-false 110 13 refl)) (λ no_feed.
    by_byte (λ t. IsWritten (cond t (Covered 114) (cond (b == 9) (Covered 116) (Plain b)))) b 13 (λ _. (eqb-false 114 10 refl, eqb-false 114 13 refl)) (λ no_return.
    by_byte (λ t. IsWritten (cond t (Covered 116) (Plain b))) b 9 (λ _. (eqb-false 116 10 refl, eqb-false 116 13 refl)) (λ no_tab.
    record { no_backslash = no_backslash; no_feed = no_feed; no_return = no_return; no_tab = no_tab }))))

written-name : (b : ℕ) → IsWritten (name_sign b)
written-name b =
    by_byte (λ t. IsWritten (cond t (Covered 61) (value_sign b))) b 61 (λ _. (eqb-false 61 10 refl, eqb-false 61 13 refl)) (λ _. written-value b)

written-cover_blank : (s : Sign) → IsWritten s → IsWritten (cover_blank s)
written-cover_blank (Plain b) h =
    by_byte (λ t. IsWritten (cond t (Covered 115) (Plain b))) b 32 (λ _. (eqb-false 115 10 refl, eqb-false 115 13 refl)) (λ _. h)
written-cover_blank (Covered b) h = h

written-cover_mark : (s : Sign) → IsWritten s → IsWritten (cover_mark s)
written-cover_mark (Plain b) h =
    cond_both ((b == 35) || (b == 59) || (b == 91)) (Covered b) (Plain b) IsWritten (λ _. (h.no_feed, h.no_return)) (λ _. h)
written-cover_mark (Covered b) h = h

not_blank : (b : ℕ) → b ≢ 32 → b ≢ 9 → is_blank (Plain b) ≡ false
not_blank b no_space no_tab = or_from (b == 32) (b == 9) (ne_eqb b 32 no_space) (ne_eqb b 9 no_tab)

-- at an end no sign is blank, and it stays so
covered-not_blank : (s : Sign) → IsWritten s → is_blank (cover_blank s) ≡ false
covered-not_blank (Plain b) h =
    by_byte (λ t. is_blank (cond t (Covered 115) (Plain b)) ≡ false) b 32 (λ _. refl) (λ no_space. not_blank b no_space h.no_tab)
covered-not_blank (Covered b) h = refl

cover_blank-not_blank : (s : Sign) → is_blank s ≡ false → is_blank (cover_blank s) ≡ false
cover_blank-not_blank (Plain b) h =
    cond_both (b == 32) (Covered 115) (Plain b) (λ s. is_blank s ≡ false) (λ _. refl) (λ _. h)
cover_blank-not_blank (Covered b) h = refl

cover_mark-not_blank : (s : Sign) → is_blank s ≡ false → is_blank (cover_mark s) ≡ false
cover_mark-not_blank (Plain b) h =
    cond_both ((b == 35) || (b == 59) || (b == 91)) (Covered b) (Plain b) (λ s. is_blank s ≡ false) (λ _. refl) (λ _. h)
cover_mark-not_blank (Covered b) h = refl

-- in a name no sign is a bare equals sign
value_sign-not_equals : (b : ℕ) → b ≢ 61 → is_equals (value_sign b) ≡ false
value_sign-not_equals b h =
    cond_both (b == 92) (Covered 92) _ (λ s. is_equals s ≡ false) (λ _. refl) (λ _.
    cond_both (b == 10) (Covered 110) _ (λ s. is_equals s ≡ false) (λ _. refl) (λ _.
    cond_both (b == 13) (Covered 114) _ (λ s. is_equals s ≡ false) (λ _. refl) (λ _.
    cond_both (b == 9) (Covered 116) (Plain b) (λ s. is_equals s ≡ false) (λ _. refl) (λ _. ne_eqb b 61 h))))

name_sign-not_equals : (b : ℕ) → is_equals (name_sign b) ≡ false
name_sign-not_equals b =
    by_byte (λ t. is_equals (cond t (Covered 61) (value_sign b)) ≡ false) b 61 (λ _. refl) (λ other. value_sign-not_equals b other)

cover_blank-not_equals : (s : Sign) → is_equals s ≡ false → is_equals (cover_blank s) ≡ false
cover_blank-not_equals (Plain b) h =
    cond_both (b == 32) (Covered 115) (Plain b) (λ s. is_equals s ≡ false) (λ _. refl) (λ _. h)
cover_blank-not_equals (Covered b) h = refl

cover_mark-not_equals : (s : Sign) → is_equals s ≡ false → is_equals (cover_mark s) ≡ false
cover_mark-not_equals (Plain b) h =
    cond_both ((b == 35) || (b == 59) || (b == 91)) (Covered b) (Plain b) (λ s. is_equals s ≡ false) (λ _. refl) (λ _. h)
cover_mark-not_equals (Covered b) h = refl

-- the first sign of a name may begin a line
begins : (s : Sign) → IsWritten s → Begins (cover_mark (cover_blank s))
begins (Plain b) h =
    by_byte (λ t. Begins (cover_mark (cond t (Covered 115) (Plain b)))) b 32 (λ _. tt) (λ no_space.
    by_byte (λ t. Begins (cond (t || (b == 59) || (b == 91)) (Covered b) (Plain b))) b 35 (λ _. tt) (λ no_hash.
    by_byte (λ t. Begins (cond (t || (b == 91)) (Covered b) (Plain b))) b 59 (λ _. tt) (λ no_semicolon.
    by_byte (λ t. Begins (cond t (Covered b) (Plain b))) b 91 (λ _. tt) (λ no_bracket.
    (no_space, h.no_tab, no_hash, no_semicolon, no_bracket)))))
begins (Covered b) h = tt

-- ---- the signs of a value and of a name

value_body : (text : List ℕ) → AllByRecursion IsWritten (at_last cover_blank (map value_sign text))
value_body text =
    all-at_last IsWritten cover_blank written-cover_blank (map value_sign text) (all-mapped IsWritten value_sign written-value text)

name_body : (text : List ℕ) → AllByRecursion IsWritten (at_last cover_blank (map name_sign text))
name_body text =
    all-at_last IsWritten cover_blank written-cover_blank (map name_sign text) (all-mapped IsWritten name_sign written-name text)

pub value_signs-written : (text : List ℕ) → AllByRecursion IsWritten (value_signs text)
value_signs-written text =
    all-at_first IsWritten cover_blank written-cover_blank (at_last cover_blank (map value_sign text)) (value_body text)

name_opened : (text : List ℕ)
    → AllByRecursion IsWritten (at_first cover_blank (at_last cover_blank (map name_sign text)))
name_opened text =
    all-at_first IsWritten cover_blank written-cover_blank (at_last cover_blank (map name_sign text)) (name_body text)

pub name_signs-written : (text : List ℕ) → AllByRecursion IsWritten (name_signs text)
name_signs-written text =
    all-at_first IsWritten cover_mark written-cover_mark (at_first cover_blank (at_last cover_blank (map name_sign text))) (name_opened text)

pub value_signs-first : (text : List ℕ) → FirstFails is_blank (value_signs text)
value_signs-first text =
    FirstFails-at_first is_blank IsWritten cover_blank covered-not_blank (at_last cover_blank (map value_sign text)) (value_body text)

pub value_signs-last : (text : List ℕ) → LastFails is_blank (value_signs text)
value_signs-last text =
    LastFails-at_first is_blank cover_blank cover_blank-not_blank (at_last cover_blank (map value_sign text))
    (LastFails-at_last is_blank IsWritten cover_blank covered-not_blank (map value_sign text) (all-mapped IsWritten value_sign written-value text))

pub name_signs-last : (text : List ℕ) → LastFails is_blank (name_signs text)
name_signs-last text =
    LastFails-at_first is_blank cover_mark cover_mark-not_blank (at_first cover_blank (at_last cover_blank (map name_sign text)))
    (LastFails-at_first is_blank cover_blank cover_blank-not_blank (at_last cover_blank (map name_sign text))
    (LastFails-at_last is_blank IsWritten cover_blank covered-not_blank (map name_sign text) (all-mapped IsWritten name_sign written-name text)))

pub name_signs-not_equals : (text : List ℕ) → AllByRecursion (λ s. is_equals s ≡ false) (name_signs text)
name_signs-not_equals text =
    let P : Sign → Type 0 = λ s. is_equals s ≡ false in
    all-at_first P cover_mark cover_mark-not_equals (at_first cover_blank (at_last cover_blank (map name_sign text)))
    (all-at_first P cover_blank cover_blank-not_equals (at_last cover_blank (map name_sign text))
    (all-at_last P cover_blank cover_blank-not_equals (map name_sign text) (all-mapped P name_sign name_sign-not_equals text)))

at_last-filled : {A : Type 0} (f : A → A) (x : A) (xs : List A) → IsFilled (at_last f (x ∷ xs))
at_last-filled f x [] = tt
at_last-filled f x (y ∷ xs) = tt

begun : (ss : List Sign) → IsFilled ss → AllByRecursion IsWritten ss
    → AreBegun (at_first cover_mark (at_first cover_blank ss))
begun [] filled h = filled
begun (s ∷ ss) filled h = begins s h.0

pub name_signs-begun : (text : List ℕ) → IsFilled text → AreBegun (name_signs text)
name_signs-begun [] filled = absurd filled
name_signs-begun (b ∷ text) filled =
    begun (at_last cover_blank (map name_sign (b ∷ text))) (at_last-filled cover_blank (name_sign b) (map name_sign text)) (name_body (b ∷ text))

-- a written sign is read back
pub bare-written : (s : Sign) → IsWritten s → IsBare s
bare-written (Plain b) h = h.no_backslash
bare-written (Covered b) h = tt
