-- What becomes of a name, by which of its three entries are one.
use Rattle.std.proofs.Common.{◌≡◌, Bool, true, false, cond, Option, None, Some, refl, sym, ap}
use Rattle.std.specs.Bool.{Decides}
use Rattle.std.specs.Prelude.{◌≢◌}
use Rattle.general_words.proofs.Deciding.{said}
use Rattle.model_maps.specs.Entry.{Entry}
use Rattle.key_set.specs.Same.{same_entry}
use Rattle.key_set.proofs.SameLemmas.{entry_decides}
use Rattle.key_merge.specs.declared.choices.Choice as choices
use Rattle.key_merge.specs.declared.choices.Choice.TheVariants as choice
use Rattle.key_merge.specs.Merging.{choice_of, is_same_entry}

same_decides : (x y : Option Entry) → Decides (is_same_entry x y) (x ≡ y)
same_decides None None = (λ _. refl, λ _. refl)
same_decides None (Some y) = (λ e. absurd cc, λ e. absurd cc)
same_decides (Some x) None = (λ e. absurd cc, λ e. absurd cc)
same_decides (Some x) (Some y) = said (same_entry x y) (ap Some) (λ e. let one : x ≡ y = cc in one) (entry_decides x y)

same : (x : Option Entry) → is_same_entry x x ≡ true
same x = (same_decides x x).1 refl

other : (x y : Option Entry) → x ≢ y → is_same_entry x y ≡ false
other x y apart = by (is_same_entry x y) refl
  where
    by : (b : Bool) → is_same_entry x y ≡ b → b ≡ false
    by true e = absurd (apart ((same_decides x y).0 e))
    by false e = refl

-- by the three tests
abbrev chosen : (our-their our-base their-base : Bool) → choices.Choice
chosen our-their our-base their-base =
    cond our-their choice.Our (cond our-base choice.Their (cond their-base choice.Our choice.Conflict))

pub choice_of-alike : (base both : Option Entry) → choice_of base both both ≡ choice.Our
choice_of-alike base both = ap (λ b. chosen b (is_same_entry both base) (is_same_entry both base)) (same both)

pub choice_of-their : (base their : Option Entry) → their ≢ base → choice_of base base their ≡ choice.Their
choice_of-their base their apart =
    λ i. chosen (other base their (λ e. apart (sym e)) i) (same base i) (is_same_entry their base)

pub choice_of-our : (base our : Option Entry) → our ≢ base → choice_of base our base ≡ choice.Our
choice_of-our base our apart = λ i. chosen (other our base apart i) (other our base apart i) (same base i)

pub choice_of-conflict : (base our their : Option Entry) → our ≢ base → their ≢ base → our ≢ their
    → choice_of base our their ≡ choice.Conflict
choice_of-conflict base our their ours theirs apart =
    λ i. chosen (other our their apart i) (other our base ours i) (other their base theirs i)
