-- Which texts name a file of a store. This project's own.
use Rattle.std.specs.Prelude.{◌≡◌, ◌≢◌, ◌⊎◌, ℕ, ◌≤◌, nat_le, Bool, not, ◌&&◌, ◌||◌, ◌==◌, List, length, All, slice_index}
use Rattle.std.specs.Char.{IsAsciiAlphanumeric, is_ascii_alphanumeric}
use Rattle.std.specs.List.{list_all}

-- the byte of a `.`
abbrev pub dot : ℕ
dot = 46

-- the byte of a `_`
abbrev pub underscore : ℕ
underscore = 95

-- the byte of a `-`
abbrev pub hyphen : ℕ
hyphen = 45

-- an ASCII letter, a digit, `.`, `_` or `-`
abbrev pub IsNameByte : ℕ → Type 0
IsNameByte b = IsAsciiAlphanumeric b ⊎ (b ≡ dot) ⊎ (b ≡ underscore) ⊎ (b ≡ hyphen)

-- the most bytes of a file's name
abbrev pub longest_file_name : ℕ
longest_file_name = 100

-- 1 to 100 such bytes, and no `.` first
pub record IsFileName (bytes : List ℕ) : Type 0 where
  pub not_empty : 1 ≤ length bytes
  pub not_long : length bytes ≤ longest_file_name
  pub plain : All IsNameByte bytes
  pub not_hidden : slice_index bytes 0 ≢ dot

-- the same as tests
abbrev pub is_name_byte : ℕ → Bool
is_name_byte b = is_ascii_alphanumeric b || ((b == dot) || ((b == underscore) || (b == hyphen)))

abbrev pub is_file_name : List ℕ → Bool
is_file_name bytes =
    nat_le 1 (length bytes) && (nat_le (length bytes) longest_file_name && (list_all is_name_byte bytes && not (slice_index bytes 0 == dot)))
