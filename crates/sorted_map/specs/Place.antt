-- Where a key stands among entries in the order of their keys, or would stand. (This project's own.)
use Rattle.std.specs.Prelude.{◌≡◌, ℕ, ◌<◌, ◌≤◌, List, length, slice_index_or}
use Rattle.std.specs.declared.cmp.Ordering.{Ordering}
use Rattle.std.specs.declared.cmp.Ordering.TheVariants.{Less, Equal, Greater}

-- the entry at this place has the key
pub record IsPlace {K X : Type 0} (R : K → K → Ordering) (es : List (K × X)) (q : K) (at : ℕ) : Type 0 where
  pub in_range : at < length es
  pub tied : (d : K × X) → R (slice_index_or es at d).0 q ≡ Equal

-- no entry has the key: those before this place are smaller, and the others larger
pub record IsGap {K X : Type 0} (R : K → K → Ordering) (es : List (K × X)) (q : K) (at : ℕ) : Type 0 where
  pub in_range : at ≤ length es
  pub before : (k : ℕ) (d : K × X) → k < at → R (slice_index_or es k d).0 q ≡ Less
  pub after : (k : ℕ) (d : K × X) → at ≤ k → k < length es → R (slice_index_or es k d).0 q ≡ Greater
