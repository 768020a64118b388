-- Parts that number the items of an array: a `#`, one underscore less than the index has digits, and these digits, so
-- that they sort by their indices. (After Elektra's page on arrays; the canonical form is this project's own.)
use Rattle.std.specs.Prelude.{◌≡◌, ℕ, ◌+◌, ◌-◌, nat_lt, nat_le, Bool, true, false, not, ◌&&◌, ◌||◌, ◌==◌, if◌then◌else◌, List, [], ◌∷◌, ◌++◌, length, drop, replicate, slice_index, Option, Some, None}
use Rattle.std.specs.Char.{is_ascii_digit}
use Rattle.std.specs.Fmt.{decimal}
use Rattle.std.specs.List.{list_all}
use Rattle.std.specs.Str.Parse.{digits_value}
use Rattle.model_names.specs.Name.{Part}

-- the greatest index of an array
abbrev pub last_index : ℕ
last_index = 9223372036854775807

-- what stands behind the underscores at the front
abbrev pub without_underscores : List ℕ → List ℕ
without_underscores [] = []
without_underscores (b ∷ bytes) = if b == 95 then without_underscores bytes else b ∷ bytes

-- one or more digits, and nothing else
abbrev pub are_digits : List ℕ → Bool
are_digits digits = nat_lt 0 (length digits) && list_all is_ascii_digit digits

-- a part looks like an array's: `#`, then only underscores, then one or more digits
abbrev pub is_array_like : Part → Bool
is_array_like [] = false
is_array_like (b ∷ bytes) = (b == 35) && are_digits (without_underscores bytes)

-- the digits of such a part
abbrev pub digits_of : Part → List ℕ
digits_of part = without_underscores (drop 1 part)

-- how many underscores it has
abbrev pub underscores_of : Part → ℕ
underscores_of part = length part - length (digits_of part) - 1

-- a zero stands before other digits
abbrev pub has_leading_zero : List ℕ → Bool
has_leading_zero digits = nat_lt 1 (length digits) && (slice_index digits 0 == 48)

-- digits are an index: they have no leading zero, and are at most the last one
abbrev pub is_index : List ℕ → Bool
is_index digits = not (has_leading_zero digits) && nat_le (digits_value 10 digits) last_index

-- a part that looks like an array's is canonical: its digits are an index, and it has one underscore less than digits
abbrev pub is_canonical : Part → Bool
is_canonical part = is_index (digits_of part) && (underscores_of part + 1 == length (digits_of part))

-- or it leaves its underscores out
abbrev pub is_bare : Part → Bool
is_bare part = is_index (digits_of part) && (underscores_of part == 0)

-- a part stands for an item of an array
abbrev pub IsArrayPart : Part → Type 0
IsArrayPart part = (is_array_like part && is_canonical part) ≡ true

-- the part of an index's digits
abbrev pub part_of_digits : List ℕ → Part
part_of_digits digits = 35 ∷ (replicate (length digits - 1) 95 ++ digits)

-- the part of an index
abbrev pub array_part : ℕ → Part
array_part index = part_of_digits (decimal index)

-- the part that an array-like part stands for: it may leave the underscores out; any other form has no meaning
abbrev pub canonical_part : Part → Option Part
canonical_part part = if is_canonical part || is_bare part then Some (part_of_digits (digits_of part)) else None
