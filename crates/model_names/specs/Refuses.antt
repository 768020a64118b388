-- Why a text spells no name: the first refusal of a table, with its place in the text. (This project's own.)
use Rattle.std.specs.Prelude.{ℕ, ◌+◌, nat_lt, Bool, false, ◌==◌, if◌then◌else◌, List, [], ◌∷◌, length, drop, Option, Some, None, option_and_then, is_none, codes}
use Rattle.std.specs.List.{position, before_first, after_first, list_any}
use Rattle.std.specs.Option.{option_map, option_or}
use Rattle.std.specs.Result.{result_ok, result_err}
use Rattle.model_names.specs.declared.namespaces.Namespace.{Namespace}
use Rattle.model_names.specs.declared.namespaces.Namespace.TheVariants.{Spec, Proc, Dir, User, System, Default}
use Rattle.general_words.specs.Texts.{is_text}
use Rattle.general_words.specs.Searches.{first_some}
use Rattle.model_names.specs.Spelling.{path_of_parts}
use Rattle.model_names.specs.RawParts.{raw_parts}
use Rattle.model_names.specs.Spells.{read_part, walked, longest_path}

-- what is wrong with a text; places count its bytes from 0
pub data Refusal : Type 0 where
  NoNamespace : Refusal
  UnknownNamespace : Refusal
  NoSlash : Refusal
  BadEscape : ℕ → Refusal
  BadArray : ℕ → Refusal
  Nul : ℕ → Refusal
  TooLong : ℕ → Refusal

-- the namespace of a word without its colon
abbrev pub namespace_of_word : List ℕ → Option Namespace
namespace_of_word word =
    if is_text word (codes "spec") then Some Spec else
    (if is_text word (codes "proc") then Some Proc else
    (if is_text word (codes "dir") then Some Dir else
    (if is_text word (codes "user") then Some User else
    (if is_text word (codes "system") then Some System else
    (if is_text word (codes "default") then Some Default else None)))))

-- a text begins with a slash
abbrev pub begins_with_slash : List ℕ → Bool
begins_with_slash [] = false
begins_with_slash (b ∷ bytes) = b == 47

-- a text's first slash stands at a place, or there is a refusal before any part is read
pub data Start : Type 0 where
  At : ℕ → Start
  Refused : Refusal → Start

-- where the first slash of a text stands, by the text before its first colon and the text behind it
abbrev pub start_behind : List ℕ → List ℕ → Start
start_behind word rest = start_of (namespace_of_word word)
  where
    start_of : Option Namespace → Start
    start_of None = Refused UnknownNamespace
    start_of (Some namespace) = if begins_with_slash rest then At (length word + 1) else Refused NoSlash

-- where the first slash of a text stands
abbrev pub start_of_text : List ℕ → Start
start_of_text text =
    if begins_with_slash text then At 0 else
    (if list_any (λ b. b == 58) text then start_behind (before_first (λ b. b == 58) text) (after_first (λ b. b == 58) text) else Refused NoNamespace)

-- raw parts with the places at which they begin, of which the first is given
abbrev pub placed : ℕ → List (List ℕ) → List (ℕ × List ℕ)
placed place [] = []
placed place (raw ∷ raws) = (place, raw) ∷ placed (place + length raw + 1) raws

-- the place of the first backslash of a raw part that escapes nothing
abbrev pub bad_escape : ℕ × List ℕ → Option ℕ
bad_escape part = option_map (λ at. part.0 + at) (result_err (read_part part.1))

-- the place of a raw part that looks like an array's and has no canonical form
abbrev pub bad_array : ℕ × List ℕ → Option ℕ
bad_array part = option_and_then (λ move. if is_none move then Some part.0 else None) (result_ok (read_part part.1))

-- the length of the path that raw parts lead to, where it is over the limit
abbrev pub too_long : List (List ℕ) → Option ℕ
too_long raws =
    option_and_then (λ parts. let bytes = length (path_of_parts parts) in if nat_lt longest_path bytes then Some bytes else None) (walked [] raws)

-- what is wrong with a text whose first slash stands at a place: the first of escapes, array parts, NUL and length
abbrev pub refusal_behind : List ℕ → ℕ → Option Refusal
refusal_behind text place =
    let raws = raw_parts (drop (place + 1) text) in
    let parts = placed (place + 1) raws in
    option_or (option_map BadEscape (first_some bad_escape parts))
    (option_or (option_map BadArray (first_some bad_array parts))
    (option_or (option_map Nul (position (λ b. b == 0) text)) (option_map TooLong (too_long raws))))

-- the first refusal of a text; none where it spells a name
abbrev pub refusal_of : List ℕ → Option Refusal
refusal_of text = elim (start_of_text text) [ At place ↦ refusal_behind text place | Refused refusal ↦ Some refusal ]
