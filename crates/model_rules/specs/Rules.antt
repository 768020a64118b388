-- What a value breaks under its metadata: each case of a rule with its number and the text that is given. (This
-- project's own, after Elektra's plugins `type`, `range` and `validation`.)
use Rattle.std.specs.Prelude.{◌≡◌, ◌≢◌, ℕ, ◌<◌, ◌≤◌, List, [], length, Option, None, Some, ℤ, MatchOption, codes}
use Rattle.std.specs.FinMap as map
use Rattle.std.specs.List.{Contains}
use Rattle.model_maps.specs.Entry.{Meta, array_texts}
use Rattle.model_rules.specs.Number.{IsNumber}
use Rattle.model_rules.specs.Range.{IsRange, LiesIn}
use Rattle.model_rules.specs.Types.{IsOfKind, kind_of}
use Rattle.model_rules.specs.declared.breaches.Broken.{Broken}
use Rattle.model_rules.specs.declared.kinds.Kind.{Kind}
use Rattle.model_rules.specs.declared.intervals.Interval.{Interval}

-- the breach of a rule, with the text that is given
abbrev pub breach : ℕ → List ℕ → Broken
breach rule given = record { rule = rule; given = given }

-- 1 where `type` is no word of the table, 2 where the value isn't of that type
pub data BreaksType (value : List ℕ) (meta : Meta) (broken : Broken) : Type 0 where
  UnknownType : (word : List ℕ) → map.get meta (codes "type") ≡ Some word → kind_of word ≡ None → broken ≡ breach 1 word
      → BreaksType value meta broken
  WrongType : (word : List ℕ) (kind : Kind) → map.get meta (codes "type") ≡ Some word → kind_of word ≡ Some kind
      → (IsOfKind kind value → ⊥) → broken ≡ breach 2 value → BreaksType value meta broken

-- 3 where `check/range` is no range, 4 where the value is no number or lies in none of its intervals
pub data BreaksRange (value : List ℕ) (meta : Meta) (broken : Broken) : Type 0 where
  BadRange : (text : List ℕ) → map.get meta (codes "check/range") ≡ Some text
      → ((intervals : List Interval) → IsRange text intervals → ⊥) → broken ≡ breach 3 text
      → BreaksRange value meta broken
  OutOfRange : (text : List ℕ) (intervals : List Interval) → map.get meta (codes "check/range") ≡ Some text
      → IsRange text intervals → ((number : ℤ) → IsNumber value number → LiesIn intervals number → ⊥)
      → broken ≡ breach 4 value → BreaksRange value meta broken

-- 5 where the array `check/enum` has an item and none is the value
pub record BreaksEnum (value : List ℕ) (meta : Meta) (broken : Broken) : Type 0 where
  pub some : array_texts meta (codes "check/enum") ≢ []
  pub none : Contains (array_texts meta (codes "check/enum")) value → ⊥
  pub is : broken ≡ breach 5 value

-- the most bytes of a pattern
abbrev pub longest_pattern : ℕ
longest_pattern = 1024

-- 6 where `check/validation` is too long for a pattern or is refused as one, 7 where that pattern matches nowhere in
-- the value. Which patterns are refused, and which match nowhere in a value, is the matcher's matter
pub data BreaksPattern (Refuses : List ℕ → Type 0) (Misses : List ℕ → List ℕ → Type 0) (value : List ℕ) (meta : Meta) (broken : Broken) : Type 0 where
  LongPattern : (pattern : List ℕ) → map.get meta (codes "check/validation") ≡ Some pattern
      → longest_pattern < length pattern → broken ≡ breach 6 pattern → BreaksPattern Refuses Misses value meta broken
  BadPattern : (pattern : List ℕ) → map.get meta (codes "check/validation") ≡ Some pattern
      → length pattern ≤ longest_pattern → Refuses pattern → broken ≡ breach 6 pattern
      → BreaksPattern Refuses Misses value meta broken
  Mismatch : (pattern : List ℕ) → map.get meta (codes "check/validation") ≡ Some pattern
      → length pattern ≤ longest_pattern → Misses pattern value → broken ≡ breach 7 value
      → BreaksPattern Refuses Misses value meta broken

-- a value with this metadata keeps the rules on patterns: there is none, or it is short enough and matches
abbrev pub KeepsPattern : (List ℕ → List ℕ → Type 0) → List ℕ → Meta → Type 0
KeepsPattern Matches value meta =
    (pattern : List ℕ) → map.get meta (codes "check/validation") ≡ Some pattern → (length pattern ≤ longest_pattern) × Matches pattern value

-- the answer of a check: a breach, or none where there is none
abbrev pub Tells : (Broken → Type 0) → Option Broken → Type 0
Tells Breaks answer = MatchOption answer ((broken : Broken) → Breaks broken → ⊥) Breaks
