-- Raw parts as the code has them: with their places, and cut off a text one by one.
use Rattle.std.specs.Prelude.{ℕ, suc, Bool, not, ◌&&◌, ◌==◌, if◌then◌else◌, List, [], ◌∷◌, ◌++◌, map}
use Rattle.model_names.specs.declared.namespaces.Namespace.{Namespace}
use Rattle.model_names.specs.Spelling.{word_of}
use Rattle.key_name.specs.declared.raw_parts.Raw.{Raw}

-- how many bytes the first raw part of a text has, of which the first byte may be escaped
abbrev pub first_len : Bool → List ℕ → ℕ
first_len is_escaped [] = 0
first_len is_escaped (b ∷ bytes) =
    if not is_escaped && (b == 47) then 0 else suc (first_len (not is_escaped && (b == 92)) bytes)

-- raw parts with their places
abbrev pub with_places : List Raw → List (ℕ × List ℕ)
with_places raws = map (λ raw. (raw.at, raw.text.now)) raws

-- raw parts without their places
abbrev pub texts : List Raw → List (List ℕ)
texts raws = map (λ raw. raw.text.now) raws

-- the text of a path behind a namespace's word and the first slash
abbrev pub text_behind : Namespace → List ℕ → List ℕ
text_behind namespace path = word_of namespace ++ 47 ∷ path
