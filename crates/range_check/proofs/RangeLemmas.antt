-- Where a range is kept: the value is a number in one of its intervals.
use Rattle.std.specs.Prelude.{◌≡◌, ℕ, List, Some, ℤ, codes}
use Rattle.std.specs.FinMap as map
use Rattle.std.proofs.Common.{subst}
use Rattle.model_maps.specs.Entry.{Meta}
use Rattle.model_rules.specs.Number.{IsNumber}
use Rattle.model_rules.specs.Range.{IsRange, LiesIn}
use Rattle.model_rules.specs.Rules.{BreaksRange, BadRange, OutOfRange}
use Rattle.model_rules.specs.declared.breaches.Broken.{Broken}
use Rattle.model_rules.specs.declared.intervals.Interval.{Interval}
use Rattle.model_rules.proofs.RangeOnce.{IsRange-once}
use Rattle.general_words.proofs.Lists.{found_once}

pub keeps_range : (value : List ℕ) (meta : Meta) (text : List ℕ) (intervals : List Interval) (broken : Broken)
    → map.get meta (codes "check/range") ≡ Some text → IsRange text intervals
    → (number : ℤ) × IsNumber value number × LiesIn intervals number → BreaksRange value meta broken → ⊥
keeps_range value meta text intervals broken get range inside (BadRange t f none e) =
    none intervals (subst (λ x. IsRange x intervals) (found_once text t get f) range)
keeps_range value meta text intervals broken get range inside (OutOfRange t is f r none e) =
    let same = IsRange-once text intervals is range (subst (λ x. IsRange x is) (found_once t text f get) r) in
    none inside.0 inside.1 (subst (λ x. LiesIn x inside.0) same inside.2)
