-- Entries in chunks: what the chunks hold together, and where a key belongs among them. (This project's own.)
use Rattle.std.specs.Prelude.{◌≡◌, ℕ, suc, ◌-◌, ◌<◌, ◌≤◌, ◌^◌, ◌++◌, ◌∷◌, [], Bool, T, not, List, length, take, drop, slice_index_or}
use Rattle.std.specs.FinMap.{is_sorted}
use Rattle.std.specs.FinMap.Entries.{below_all}
use Rattle.std.specs.List.{AllByRecursion, flat_map, list_all}
use Rattle.std.specs.Ordering.{is_lt}
use Rattle.std.specs.declared.cmp.Ordering.{Ordering}
use Rattle.std.specs.declared.cmp.Ordering.TheVariants.{Greater}

-- what stands in the chunks, one after the other
abbrev pub joined : {A : Type 0} → List (List A) → List A
joined chunks = flat_map (λ chunk. chunk) chunks

-- a chunk has 1 to 64 entries
pub record IsSized {A : Type 0} (chunk : List A) : Type 0 where
  pub some : 0 < length chunk
  pub few : length chunk ≤ 64

-- the entries stand in the order of their keys, each key once, in chunks that are sized; the chunks can be counted
pub record AreChunks {K X : Type 0} (R : K → K → Ordering) (chunks : List (List (K × X))) : Type 0 where
  pub sorted : T (is_sorted R (joined chunks))
  pub sizes : AllByRecursion IsSized chunks
  pub count : length chunks ≤ 2 ^ 57

-- each key stands before q
abbrev pub all_before : {K X : Type 0} → (K → K → Ordering) → K → List (K × X) → Bool
all_before R q = list_all (λ e. is_lt (R e.0 q))

-- no key stands before q
abbrev pub none_before : {K X : Type 0} → (K → K → Ordering) → K → List (K × X) → Bool
none_before R q = list_all (λ e. not (is_lt (R e.0 q)))

-- a key belongs into this chunk, or into one to be put there: those before it hold smaller keys, and those behind it
-- larger ones
pub record IsChunkOf {K X : Type 0} (R : K → K → Ordering) (chunks : List (List (K × X))) (q : K) (at : ℕ) : Type 0 where
  pub within : at ≤ length chunks
  pub before : T (all_before R q (joined (take at chunks)))
  pub behind : T (below_all R q (joined (drop (suc at) chunks)))

-- a key stands before the last of some entries
pub record IsBeforeLast {K X : Type 0} (R : K → K → Ordering) (q : K) (es : List (K × X)) : Type 0 where
  pub late : (d : K × X) → R (slice_index_or es (length es - 1) d).0 q ≡ Greater

-- chunks with some others in the place of one
abbrev pub in_place : {A : Type 0} → List A → ℕ → List A → List A
in_place chunks at others = take at chunks ++ (others ++ drop (suc at) chunks)

-- chunks with the one at a place cut in two, behind its first n entries
abbrev pub parted : {A : Type 0} → List (List A) → ℕ → ℕ → List (List A)
parted chunks at n =
    in_place chunks at (take n (slice_index_or chunks at []) ∷ drop n (slice_index_or chunks at []) ∷ [])
