-- How an item of a range is read: behind its sign the next minus, if there is one, stands between two numbers.
use Rattle.std.specs.Prelude.{◌≡◌, ◌≢◌, ℕ, Bool, true, false, List, [], ◌∷◌, ◌++◌, ◌<◌, drop, length, Option, None, Some, ℤ, MatchOption}
use Rattle.std.proofs.Common.{refl, sym, ap, subst, ◌∙◌, Bor, get_or}
use Rattle.model_rules.specs.Number.{IsNumber, AreDigitsOf, with_sign}
use Rattle.model_rules.specs.Range.{IsItem, Single, Between}
use Rattle.model_rules.specs.declared.intervals.Interval.{Interval}
use Rattle.model_rules.proofs.NumberOnce.{IsBare, IsNumber-digits}
use Rattle.model_rules.proofs.RangeOnce.{HasNoMinus, HasNoMinus-at, IsFront, IsNumber-front, no_minus_inside, one_front_alone, two_parts_once}
use Rattle.range_check.specs.Items.{IsAlone, IsBetween}

-- what a reader of an interval finds: the one that is there, or that none is
abbrev Finds : (Interval → Type 0) → Option Interval → Type 0
Finds Is r = MatchOption r ((interval : Interval) → Is interval → ⊥) Is

number_from : (minus : Bool) (digits : List ℕ) (number : ℤ) → AreDigitsOf minus digits number
    → IsNumber (with_sign minus digits) number
number_from minus digits number p = record { minus = minus; digits = digits; spelled = refl; number = p }

-- without a further minus an item is one number
no_two : (minus : Bool) (rest first last : List ℕ) → HasNoMinus rest → IsFront first
    → with_sign minus rest ≡ first ++ (45 ∷ last) → ⊥
no_two true rest first last none p e =
    no_minus_inside p.rest last (subst HasNoMinus (ap (drop 1) (e ∙ ap (λ t. t ++ (45 ∷ last)) p.whole)) none)
no_two false rest first last none p e = no_minus_inside first last (subst HasNoMinus e none)

alone_item : (minus : Bool) (rest : List ℕ) (interval : Interval) → IsBare minus rest → HasNoMinus rest
    → IsItem (with_sign minus rest) interval → IsAlone minus rest interval
alone_item minus rest interval bare none (Single l h) =
    record {
      low = IsNumber-digits minus rest interval.low bare l;
      high = IsNumber-digits minus rest interval.high bare h;
    }
alone_item minus rest interval bare none (Between first last e f g o) =
    absurd (no_two minus rest first last none (IsNumber-front first interval.low f) e)

one_number : (minus : Bool) (rest : List ℕ) (r : Option Interval) → IsBare minus rest → HasNoMinus rest
    → Finds (IsAlone minus rest) r → Finds (IsItem (with_sign minus rest)) r
one_number minus rest None bare none p = λ interval i. p interval (alone_item minus rest interval bare none i)
one_number minus rest (Some interval) bare none p =
    Single (number_from minus rest interval.low p.low) (number_from minus rest interval.high p.high)

-- what stands before the further minus is a front
bare_front : (minus : Bool) (first last : List ℕ) → IsBare minus (first ++ (45 ∷ last)) → HasNoMinus first
    → IsFront (with_sign minus first)
bare_front true first last bare none = record { first = 45; rest = first; whole = refl; none = none }
bare_front false [] last bare none = absurd (bare refl last refl)
bare_front false (c ∷ first) last bare none = record { first = c; rest = first; whole = refl; none = none.1 }

bare_part : (minus : Bool) (first last : List ℕ) → IsBare minus (first ++ (45 ∷ last)) → IsBare minus first
bare_part minus first last bare = λ plain bytes e. bare plain (bytes ++ (45 ∷ last)) (ap (λ t. t ++ (45 ∷ last)) e)

sign_first : (minus : Bool) (first last : List ℕ)
    → with_sign minus (first ++ (45 ∷ last)) ≡ with_sign minus first ++ (45 ∷ last)
sign_first true first last = refl
sign_first false first last = refl

between_item : (minus : Bool) (first last : List ℕ) (interval : Interval) → IsBare minus (first ++ (45 ∷ last))
    → HasNoMinus first → IsItem (with_sign minus (first ++ (45 ∷ last))) interval → IsBetween minus first last interval
between_item minus first last interval bare none (Single l h) =
    absurd (one_front_alone _ (with_sign minus first) last (IsNumber-front _ interval.low l) (bare_front minus first last bare none) (sign_first minus first last))
between_item minus first last interval bare none (Between first' last' e f g o) =
    let same = two_parts_once (with_sign minus first) last first' last' (bare_front minus first last bare none) (IsNumber-front first' interval.low f) (sym (sign_first minus first last) ∙ e) in
    record {
      low = IsNumber-digits minus first interval.low (bare_part minus first last bare) (subst (λ t. IsNumber t interval.low) (sym same.0) f);
      high = subst (λ t. IsNumber t interval.high) (sym same.1) g;
      order = o;
    }

two_numbers : (minus : Bool) (first last : List ℕ) (r : Option Interval) → IsBare minus (first ++ (45 ∷ last))
    → HasNoMinus first → Finds (IsBetween minus first last) r
    → Finds (IsItem (with_sign minus (first ++ (45 ∷ last)))) r
two_numbers minus first last None bare none p =
    λ interval i. p interval (between_item minus first last interval bare none i)
two_numbers minus first last (Some interval) bare none p =
    Between (with_sign minus first) last (sign_first minus first last) (number_from minus first interval.low p.low) p.high p.order

-- the clause of `split_once` at a minus
abbrev IsCut : List ℕ → Option (Bor (List ℕ) × Bor (List ℕ)) → Type 0
IsCut rest cut =
    MatchOption cut ((i : ℕ) → i < length rest → get_or rest i 0 ≢ 45) (λ x. (rest ≡ x.0.now ++ (45 ∷ x.1.now)) × ((i : ℕ) → i < length x.0.now → get_or x.0.now i 0 ≢ 45))

pub uncut_item : (minus : Bool) (rest : List ℕ) (cut : Option (Bor (List ℕ) × Bor (List ℕ))) (r : Option Interval)
    → IsBare minus rest → IsCut rest cut → cut ≡ None → Finds (IsAlone minus rest) r
    → Finds (IsItem (with_sign minus rest)) r
uncut_item minus rest cut r bare is none p =
    one_number minus rest r bare (HasNoMinus-at rest (subst (IsCut rest) none is)) p

pub cut_item : (minus : Bool) (rest : List ℕ) (cut : Option (Bor (List ℕ) × Bor (List ℕ)))
    (x : Bor (List ℕ) × Bor (List ℕ)) (r : Option Interval) → IsBare minus rest → IsCut rest cut → cut ≡ Some x
    → Finds (IsBetween minus x.0.now x.1.now) r → Finds (IsItem (with_sign minus rest)) r
cut_item minus rest cut x r bare is some p =
    let here : (rest ≡ x.0.now ++ (45 ∷ x.1.now)) × ((i : ℕ) → i < length x.0.now → get_or x.0.now i 0 ≢ 45) = subst (IsCut rest) some is in
    let whole = two_numbers minus x.0.now x.1.now r (subst (IsBare minus) here.0 bare) (HasNoMinus-at x.0.now here.1) p in
    subst (λ t. Finds (IsItem (with_sign minus t)) r) (sym here.0) whole

-- the clause of `strip_prefix` at a minus
abbrev IsStripped : List ℕ → Option (Bor (List ℕ)) → Type 0
IsStripped item o = MatchOption o ((rest : List ℕ) → item ≢ 45 ∷ rest) (λ y. item ≡ 45 ∷ y.now)

-- an item from which a minus was stripped is read behind it
pub stripped_item : (item : List ℕ) (p : Option (Bor (List ℕ))) (x : Bor (List ℕ)) (r : Option Interval)
    → IsStripped item p → p ≡ Some x → Finds (IsItem (45 ∷ x.now)) r → Finds (IsItem item) r
stripped_item item p x r is some h =
    let here : item ≡ 45 ∷ x.now = subst (IsStripped item) some is in
    subst (λ t. Finds (IsItem t) r) (sym here) h
