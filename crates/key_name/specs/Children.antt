-- A name with one more part, and why a part can't be that one. (This project's own.)
use Rattle.std.specs.Prelude.{nat_lt, Bool, not, ◌&&◌, ◌==◌, if◌then◌else◌, [], ◌∷◌, ◌++◌, length, Option, Some, None}
use Rattle.std.specs.List.{position}
use Rattle.std.specs.Option.{option_map, option_or}
use Rattle.general_words.specs.Saturated.{saturated}
use Rattle.model_names.specs.ArrayPart.{is_array_like, is_canonical}
use Rattle.model_names.specs.Name.{Name, Part}
use Rattle.model_names.specs.Refuses.{Refusal, BadArray, Nul, TooLong}
use Rattle.model_names.specs.Spelling.{path}
use Rattle.model_names.specs.Spells.{longest_path}

-- a name with a part behind its own
abbrev pub child_of : Name → Part → Name
child_of name part = record { namespace = name.namespace; parts = name.parts ++ part ∷ [] }

-- a part looks like an array's, and isn't canonical
abbrev pub is_misspelled : Part → Bool
is_misspelled part = is_array_like part && not (is_canonical part)

-- the length of a path, where it is over the limit. A length beyond the type's end is given as its last value
abbrev pub too_long_path : Name → Option Refusal
too_long_path name =
    let bytes = length (path name) in if nat_lt longest_path bytes then Some (TooLong (saturated bytes)) else None

-- what is wrong with a part behind a name: the first of array form, NUL and length
abbrev pub child_refusal : Name → Part → Option Refusal
child_refusal name part =
    if is_misspelled part then Some (BadArray 0) else option_or (option_map Nul (position (λ b. b == 0) part)) (too_long_path (child_of name part))
