-- Which texts spell which names. (After Elektra's page on key names: empty parts, `.` and `..` as in a path of files.
-- The literal parts, the escapes, the array parts and the limit are this project's own.)
use Rattle.std.specs.Prelude.{◌≡◌, ℕ, ◌+◌, ◌-◌, ◌<◌, ◌≤◌, ◌||◌, ◌==◌, if◌then◌else◌, List, [], ◌∷◌, ◌++◌, length, take, Option, Some, Result, Ok, Err, option_and_then, codes}
use Rattle.std.specs.List.{AllByRecursion}
use Rattle.std.specs.Option.{option_map, option_flatten}
use Rattle.std.specs.Result.{result_map_both, result_ok}
use Rattle.std.specs.Str.{IsUtf8}
use Rattle.model_names.specs.Name.{Part, Name}
use Rattle.model_names.specs.ArrayPart.{is_array_like, canonical_part}
use Rattle.general_words.specs.Texts.{is_text}
use Rattle.model_names.specs.Spelling.{word_of, path}
use Rattle.model_names.specs.RawParts.{raw_parts}

-- the most bytes of a path
abbrev pub longest_path : ℕ
longest_path = 4096

-- what a raw part does to the path so far: it adds a part, leaves the path as it is, or takes its last part away
pub data Move : Type 0 where
  Adds : Part → Move
  Stays : Move
  GoesUp : Move

-- a letter before what is read behind it; the place of a fault behind it moves by the bytes that the letter stands in
abbrev pub put_letter : ℕ → ℕ → Result Part ℕ → Result Part ℕ
put_letter bytes letter rest = result_map_both (λ part. letter ∷ part) (λ at. at + bytes) rest

-- the letters of a raw part without their escapes, or the place in it of the first backslash that escapes nothing: one
-- that stands before neither a slash nor a backslash
abbrev pub read_letters : List ℕ → Result Part ℕ
read_letters [] = Ok []
read_letters (b ∷ []) = if b == 92 then Err 0 else Ok (b ∷ [])
read_letters (b ∷ c ∷ bytes) =
    if b == 92 then (if (c == 92) || (c == 47) then put_letter 2 c (read_letters bytes) else Err 0) else put_letter 1 b (read_letters (c ∷ bytes))

-- a raw part without its escapes; none where one of its backslashes escapes nothing
abbrev pub unescaped : List ℕ → Option Part
unescaped raw = result_ok (read_letters raw)

-- the part that a raw part stands for which is none of the reserved ones: an array-like part is made canonical or
-- refused
abbrev pub part_of_text : Part → Option Part
part_of_text part = if is_array_like part then canonical_part part else Some part

-- what is read of a raw part: its move, or none where it looks like an array's part and has no canonical form, or the
-- place in it of its first backslash that escapes nothing. `%` is the empty part, and `\%`, `\.` and `\..` are literal
-- parts
abbrev pub read_part : List ℕ → Result (Option Move) ℕ
read_part raw =
    if (length raw == 0) || is_text raw (codes ".") then Ok (Some Stays) else
    (if is_text raw (codes "..") then Ok (Some GoesUp) else
    (if is_text raw (codes "%") then Ok (Some (Adds [])) else
    (if is_text raw (92 ∷ codes "%") then Ok (Some (Adds (codes "%"))) else
    (if is_text raw (92 ∷ codes ".") then Ok (Some (Adds (codes "."))) else
    (if is_text raw (92 ∷ codes "..") then Ok (Some (Adds (codes ".."))) else
    result_map_both (λ text. option_map Adds (part_of_text text)) (λ at. at) (read_letters raw))))))

-- what a raw part means; none where it is refused
abbrev pub meaning : List ℕ → Option Move
meaning raw = option_flatten (result_ok (read_part raw))

-- the path after a move; there is nothing above a root
abbrev pub moved : List Part → Move → List Part
moved path (Adds part) = path ++ part ∷ []
moved path Stays = path
moved path GoesUp = take (length path - 1) path

-- where raw parts lead from a path; none where one of them has no meaning
abbrev pub walked : List Part → List (List ℕ) → Option (List Part)
walked path [] = Some path
walked path (raw ∷ raws) = option_and_then (λ move. walked (moved path move) raws) (meaning raw)

-- a text spells a name: behind the namespace's word and the first slash, its raw parts lead from the root to the parts
pub record Spells (text : List ℕ) (name : Name) : Type 0 where
  pub rest : List ℕ
  pub cut : text ≡ word_of name.namespace ++ 47 ∷ rest
  pub leads : walked [] (raw_parts rest) ≡ Some name.parts
  pub utf8 : IsUtf8 text
  pub no_nul : AllByRecursion (λ b. 0 < b) text
  pub limit : length (path name) ≤ longest_path
