-- Keys of `spec:` whose names have holes, in order, and what is kept where they are narrowed down by one part.
use Rattle.std.specs.Prelude.{◌≡◌, ◌⊎◌, ℕ, ◌+◌, ◌≤◌, Bool, true, false, ◌==◌, List, [], ◌∷◌, ◌++◌, length, take, drop, map, slice_get, Option, Some, None}
use Rattle.std.specs.Borrow.{Bor}
use Rattle.std.specs.Cmp.Lexicographic.{slice_cmp}
use Rattle.std.specs.FinMap as finite
use Rattle.std.specs.List.{AllByRecursion, filter}
use Rattle.std.specs.List.Sorted.{IsStrictlySortedBy}
use Rattle.std.specs.declared.cmp.Ordering.{Ordering}
use Rattle.std.specs.declared.cmp.Ordering.TheVariants.{Less, Greater}
use Rattle.std.specs.Ordering.{is_le}
use Rattle.key_set.specs.EntryView.{entry_of}
use Rattle.model_names.specs.declared.namespaces.Namespace.TheVariants.{Spec}
use Rattle.model_names.specs.Name.{Name, Part}
use Rattle.model_names.specs.Order.{part_cmp}
use Rattle.model_maps.specs.Entry.{Entry}
use Rattle.model_maps.specs.KeyMap.{KeyMap}
use Rattle.model_specified.specs.Globs.{has_glob}
use Rattle.model_specified.specs.SpecMeta.{is_pattern_of}
use Rattle.plugin_chain.specs.declared.globs.Glob.{Glob}

-- a glob as a key
abbrev pub seen : Glob → Name × Entry
seen glob = (glob.name.now, entry_of glob.entry.now)

-- globs that are lent
abbrev pub lent : List (Bor Glob) → List Glob
lent globs = map (λ glob. glob.now) globs

-- all keys are of `spec:`
abbrev pub AreInSpec : KeyMap → Type 0
AreInSpec keys = AllByRecursion (λ (key : Name × Entry). key.0.namespace ≡ Spec) (finite.entries keys)

-- the parts of a glob's name
abbrev pub parts_of : Glob → List Part
parts_of glob = glob.name.now.parts

-- globs rise by the parts from a depth on
abbrev pub IsRising : ℕ → List Glob → Type 0
IsRising depth globs =
    IsStrictlySortedBy (λ a b. slice_cmp part_cmp (drop depth (parts_of a)) (drop depth (parts_of b))) globs

-- the keys of a set whose names have holes, in order
pub record AreGlobsOf (keys : KeyMap) (globs : List Glob) : Type 0 where
  pub in_spec : AreInSpec keys
  pub all : map seen globs ≡ filter (λ (key : Name × Entry). has_glob key.0.parts) (finite.entries keys)
  pub rising : IsRising 0 globs

-- the globs among some that are patterns of a path
abbrev pub patterns_in : List Part → List Glob → List Glob
patterns_in path globs = filter (λ glob. is_pattern_of path glob.name.now) globs

-- how a glob's part at a depth compares with a word: where it has none, it is less
abbrev pub cmp_at : Option Part → Part → Ordering
cmp_at None word = Less
cmp_at (Some part) word = part_cmp part word

abbrev pub beside : ℕ → Part → Glob → Ordering
beside depth word glob = cmp_at (slice_get (parts_of glob) depth) word

-- a glob has a word at a depth
abbrev pub HasPart : ℕ → Part → Glob → Type 0
HasPart depth word glob = slice_get (parts_of glob) depth ≡ Some word

-- those that pass a test stand before a place, and the others behind it
pub record SplitsAt (test : Glob → Bool) (globs : List Glob) (place : ℕ) : Type 0 where
  pub bound : place ≤ length globs
  pub front : AllByRecursion (λ glob. test glob ≡ true) (take place globs)
  pub back : AllByRecursion (λ glob. test glob ≡ false) (drop place globs)

-- the globs with a word at a depth, and those behind them
pub record IsCut (depth : ℕ) (word : Part) (globs same behind : List Glob) : Type 0 where
  pub before : List Glob
  pub all : globs ≡ before ++ (same ++ behind)
  pub lower : AllByRecursion (λ glob. beside depth word glob ≡ Less) before
  pub equal : AllByRecursion (HasPart depth word) same
  pub higher : AllByRecursion (λ glob. beside depth word glob ≡ Greater) behind
  pub deeper : IsRising (depth + 1) same
  pub rest : IsRising depth behind

-- three words in order
pub record AreAscending (first second third : Part) : Type 0 where
  pub lower : is_le (part_cmp first second) ≡ true
  pub upper : is_le (part_cmp second third) ≡ true

-- the globs with one of three words at a depth, word by word
pub record HaveWords (depth : ℕ) (one two three : Part) (globs first second third : List Glob) : Type 0 where
  pub kept : (test : Glob → Bool)
      → ((glob : Glob) → test glob ≡ true → HasPart depth one glob ⊎ (HasPart depth two glob ⊎ HasPart depth three glob))
      → filter test globs ≡ filter test first ++ (filter test second ++ filter test third)
  pub first_deeper : IsRising (depth + 1) first
  pub second_deeper : IsRising (depth + 1) second
  pub third_deeper : IsRising (depth + 1) third

-- no pattern of a path with a part at a depth is lost
pub record IsNarrowed (depth : ℕ) (part : Part) (globs first second third : List Glob) : Type 0 where
  pub kept : (path : List Part) → slice_get path depth ≡ Some part
      → patterns_in path globs ≡ patterns_in path first ++ (patterns_in path second ++ patterns_in path third)
  pub first_deeper : IsRising (depth + 1) first
  pub second_deeper : IsRising (depth + 1) second
  pub third_deeper : IsRising (depth + 1) third

-- a part begins as an item of an array does
abbrev pub begins_as_item : Part → Bool
begins_as_item [] = false
begins_as_item (b ∷ bytes) = b == 35
