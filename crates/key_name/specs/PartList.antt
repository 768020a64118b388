-- The parts of a name in one text: each stands behind a NUL, which no part has. (After Elektra's unescaped names.)
use Rattle.std.specs.Prelude.{◌≡◌, ℕ, ◌<◌, Bool, true, ◌==◌, if◌then◌else◌, List, [], ◌∷◌, drop, string_bytes}
use Rattle.std.specs.List.{AllByRecursion, flat_map, slice_split}
use Rattle.model_names.specs.Name.{Part}
use Rattle.key_name.specs.declared.part_list.PartList.TheInside.{Inside}

-- a part has no NUL
abbrev pub HasNoNul : Part → Type 0
HasNoNul part = AllByRecursion (λ b. 0 < b) part

-- parts, each behind a NUL
abbrev pub behind_nuls : List Part → List ℕ
behind_nuls parts = flat_map (λ part. 0 ∷ part) parts

-- parts as they are, each behind a slash
abbrev pub behind_slashes : List Part → List ℕ
behind_slashes parts = flat_map (λ part. 47 ∷ part) parts

-- a byte of a list of parts as a path has it
abbrev pub slash_for_nul : ℕ → ℕ
slash_for_nul b = if b == 0 then 47 else b

-- and a byte of a path as a list of parts has it
abbrev pub nul_for_slash : ℕ → ℕ
nul_for_slash b = if b == 47 then 0 else b

-- what stands between the slashes of a path
abbrev pub between_slashes : List ℕ → List Part
between_slashes path = slice_split (λ b. b == 47) path

-- what stands between the NULs of a text
abbrev pub between_nuls : List ℕ → List Part
between_nuls bytes = slice_split (λ b. b == 0) bytes

-- the parts of a text in which each is behind a NUL
abbrev pub parts_in : List ℕ → List Part
parts_in bytes = drop 1 (between_nuls bytes)

abbrev pub parts_of : Inside → List Part
parts_of inside = parts_in (string_bytes inside.text)

-- nothing stands in the text but its parts
abbrev pub HasPartsAlone : Inside → Type 0
HasPartsAlone inside = string_bytes inside.text ≡ behind_nuls (parts_of inside)

-- bytes are none, or begin with the NUL of a part
abbrev pub begins_part : List ℕ → Bool
begins_part [] = true
begins_part (b ∷ bytes) = b == 0
