-- The name that a text spells, as a function of the text. (This project's own; it is `Spells` as a function.)
use Rattle.std.specs.Prelude.{ℕ, ◌+◌, ◌-◌, ◌&&◌, ◌==◌, if◌then◌else◌, List, [], drop, take, Option, Some, None, option_and_then, is_none}
use Rattle.std.specs.Option.{option_map}
use Rattle.std.specs.Str.{is_utf8}
use Rattle.model_names.specs.declared.namespaces.Namespace.{Namespace}
use Rattle.model_names.specs.declared.namespaces.Namespace.TheVariants.{Cascading}
use Rattle.model_names.specs.Name.{Name}
use Rattle.model_names.specs.RawParts.{raw_parts}
use Rattle.model_names.specs.Refuses.{At, Refused, namespace_of_word, start_of_text, refusal_of}
use Rattle.model_names.specs.Spells.{walked}

-- the namespace of a text by the place of its first slash: cascading where it begins with it, and else that of the word
abbrev pub namespace_before : List ℕ → ℕ → Option Namespace
namespace_before text place = if place == 0 then Some Cascading else namespace_of_word (take (place - 1) text)

-- the name of a text by the place of its first slash: the raw parts behind it lead from the root to the parts
abbrev pub name_behind : List ℕ → ℕ → Option Name
name_behind text place =
    option_and_then (λ namespace. option_map (λ parts. record { namespace = namespace; parts = parts }) (walked [] (raw_parts (drop (place + 1) text)))) (namespace_before text place)

-- the name that a text spells; none where it is refused, or its bytes are no text
abbrev pub name_of : List ℕ → Option Name
name_of text =
    if is_utf8 text && is_none (refusal_of text)
    then (elim (start_of_text text) [ At place ↦ name_behind text place | Refused refusal ↦ None ])
    else None
