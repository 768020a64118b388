-- Paths that are taken as they are: what stands between their slashes are the parts that they lead to. (This project's
-- own.)
use Rattle.std.specs.Prelude.{ℕ, Bool, false, not, ◌&&◌, ◌==◌, if◌then◌else◌, List, [], ◌∷◌, Option, Some, None}
use Rattle.std.specs.List.{list_all}
use Rattle.model_names.specs.Name.{Part}
use Rattle.key_name.specs.PartList.{between_slashes}

-- a byte that escapes nothing, and no NUL
abbrev pub is_plain_byte : ℕ → Bool
is_plain_byte b = not (b == 92) && not (b == 0)

-- a byte with which no part begins that is reserved or like an array's: no dot, `%` or `#`
abbrev pub begins_plainly : ℕ → Bool
begins_plainly b = not (b == 46) && not (b == 37) && not (b == 35)

-- a part that is not empty, and neither reserved nor like an array's by its first byte
abbrev pub is_plain_part : Part → Bool
is_plain_part [] = false
is_plain_part (b ∷ part) = begins_plainly b

-- a path that is taken as it is: each of its bytes and each of its parts is plain
abbrev pub is_plain : List ℕ → Bool
is_plain path = list_all is_plain_byte path && list_all is_plain_part (between_slashes path)

-- its parts
abbrev pub plain_parts : List ℕ → Option (List Part)
plain_parts path = if is_plain path then Some (between_slashes path) else None
