-- A path in which nothing is escaped: its parts as they are, each behind a slash.
use Rattle.std.proofs.Common.{◌≡◌, ◌≢◌, ℕ, zero, suc, length-drop, ◌+◌, ◌-◌, ◌<◌, ◌≤◌, inl, inr, true, true≢false, cond, ◌==◌, List, [], ◌∷◌, ◌++◌, length, drop, take, get_or, set, add-one, map, codes, refl, sym, ap, ◌∙◌, arith, length-append}
use Rattle.std.specs.List.{AllByRecursion, flat_map, onto_first}
use Rattle.std.specs.Str.{IsUtf8}
use Rattle.std.proofs.lemmas.Bool.{cases_Bool, cond_both, cond-false, cond-true, eqb-false, ne_eqb}
use Rattle.std.proofs.lemmas.List.{map-append, take_all}
use Rattle.std.proofs.lemmas.Str.{IsUtf8-append, IsUtf8-from_ascii}
use Rattle.std.proofs.lemmas.Str.Ascii.{IsAscii-cons, IsAscii-nil}
use Rattle.std_alloc.proofs.string.Cased.{changed}
use Rattle.model_names.specs.Name.{Part}
use Rattle.model_names.specs.Spelling.{escaped, spelled, is_reserved, path_of_parts}
use Rattle.key_name.specs.PartList.{HasNoNul, behind_nuls, behind_slashes, between_slashes, nul_for_slash, parts_in, slash_for_nul}
use Rattle.key_name.proofs.MeasureLemmas.{escaped_as_it_is}
use Rattle.key_name.proofs.PartListLemmas.{HasParts, NoNuls-in}
use Rattle.key_name.proofs.WellFormedLemmas.{length-all_escaped-least}

filled : (b : ℕ) (part : Part) → (length (b ∷ part) == 0) ≡ true → length part ≡ length (b ∷ part)
filled b part e = absurd (true≢false (sym e ∙ ne_eqb (length (b ∷ part)) 0 (omega arith)))

spelled-least : (part : Part) → length part ≤ length (spelled part)
spelled-least [] = omega arith
spelled-least (b ∷ part) =
    cond_both (length (b ∷ part) == 0) (codes "%") (cond (is_reserved (b ∷ part)) (92 ∷ b ∷ part) (flat_map escaped (b ∷ part))) (λ bytes. length (b ∷ part) ≤ length bytes)
    (λ e. let no = filled b part e in omega (arith, no))
    (λ _. cond_both (is_reserved (b ∷ part)) (92 ∷ b ∷ part) (flat_map escaped (b ∷ part)) (λ bytes. length (b ∷ part) ≤ length bytes) (λ _. omega arith) (λ _. length-all_escaped-least (b ∷ part)))

spelled-same : (part : Part) → length (spelled part) ≡ length part → spelled part ≡ part
spelled-same [] h = absurd (omega (arith, h))
spelled-same (b ∷ part) h =
    cond_both (length (b ∷ part) == 0) (codes "%") (cond (is_reserved (b ∷ part)) (92 ∷ b ∷ part) (flat_map escaped (b ∷ part))) (λ bytes. length bytes ≡ length (b ∷ part) → bytes ≡ b ∷ part)
    (λ e g. let no = filled b part e in absurd (omega (arith, no)))
    (λ _. cond_both (is_reserved (b ∷ part)) (92 ∷ b ∷ part) (flat_map escaped (b ∷ part)) (λ bytes. length bytes ≡ length (b ∷ part) → bytes ≡ b ∷ part) (λ _ g. absurd (omega (arith, g))) (λ _ g. escaped_as_it_is (b ∷ part) g))
    h

slashed-least : (parts : List Part)
    → length (behind_nuls parts) ≤ length (flat_map (λ (p : Part). 47 ∷ spelled p) parts)
slashed-least [] = omega arith
slashed-least (part ∷ parts) =
    omega (arith, slashed-least parts, spelled-least part, length-append part (behind_nuls parts), length-append (spelled part) (flat_map (λ (p : Part). 47 ∷ spelled p) parts))

slashed-same : (parts : List Part) → length (flat_map (λ (p : Part). 47 ∷ spelled p) parts) ≡ length (behind_nuls parts)
    → flat_map (λ (p : Part). 47 ∷ spelled p) parts ≡ behind_slashes parts
slashed-same [] h = refl
slashed-same (part ∷ parts) h =
    let more = slashed-least parts in
    let one = spelled-least part in
    let left = length-append part (behind_nuls parts) in
    let right = length-append (spelled part) (flat_map (λ (p : Part). 47 ∷ spelled p) parts) in
    ap (λ bytes. 47 ∷ (bytes ++ flat_map (λ (p : Part). 47 ∷ spelled p) parts)) (spelled-same part (omega (arith, h, more, one, left, right)))
    ∙ ap (λ bytes. 47 ∷ (part ++ bytes)) (slashed-same parts (omega (arith, h, more, one, left, right)))

-- a path with no more bytes than its parts has them as they are
pub path-unescaped : (parts : List Part) → length (behind_nuls parts) ≡ length (path_of_parts parts)
    → path_of_parts parts ≡ behind_slashes parts
path-unescaped [] h = absurd (omega (arith, h))
path-unescaped (part ∷ parts) h = slashed-same (part ∷ parts) (sym h)

part-slashes : (part : Part) → HasNoNul part → map slash_for_nul part ≡ part
part-slashes [] h = refl
part-slashes (b ∷ part) h =
    ap (λ c. c ∷ map slash_for_nul part) (cond-false (b == 0) 47 b (ne_eqb b 0 (omega (arith, h.0))))
    ∙ ap (λ bytes. b ∷ bytes) (part-slashes part h.1)

-- with slashes for NULs, parts stand behind slashes
pub slashes-nuls : (parts : List Part) → AllByRecursion HasNoNul parts
    → map slash_for_nul (behind_nuls parts) ≡ behind_slashes parts
slashes-nuls [] h = refl
slashes-nuls (part ∷ parts) h =
    ap (λ bytes. 47 ∷ bytes) (map-append slash_for_nul part (behind_nuls parts) ∙ ap (λ bytes. bytes ++ map slash_for_nul (behind_nuls parts)) (part-slashes part h.0) ∙ ap (λ bytes. part ++ bytes) (slashes-nuls parts h.1))

-- the text of a list of parts with slashes for NULs
pub slashes_in : (text : List ℕ) → text ≡ behind_nuls (parts_in text)
    → behind_slashes (parts_in text) ≡ map slash_for_nul text
slashes_in text h = sym (ap (map slash_for_nul) h ∙ slashes-nuls (parts_in text) (NoNuls-in text))

-- all but the first of them
pub drop_first : (bytes : List ℕ) → drop 1 (map slash_for_nul bytes) ≡ map slash_for_nul (drop 1 bytes)
drop_first [] = refl
drop_first (b ∷ bytes) = refl

-- the bytes behind the first, as a pattern has them
pub behind_first : (bytes : List ℕ) → take (length bytes - 1) (drop 1 bytes) ≡ drop 1 bytes
behind_first bytes = take_all (length bytes - 1) (drop 1 bytes) (omega (arith, length-drop 1 bytes))

-- ---- what stands between the slashes of a path

-- what holds of the bytes that are no slash holds of those between the slashes
onto_all : (P : ℕ → Type 0) (b : ℕ) (parts : List Part) → P b → AllByRecursion (AllByRecursion P) parts
    → AllByRecursion (AllByRecursion P) (onto_first b parts)
onto_all P b [] p h = ((p, tt), tt)
onto_all P b (part ∷ parts) p h = ((p, h.0), h.1)

pub split_all : (P : ℕ → Type 0) (bytes : List ℕ) → AllByRecursion (λ b. b ≢ 47 → P b) bytes
    → AllByRecursion (AllByRecursion P) (between_slashes bytes)
split_all P [] h = (tt, tt)
split_all P (b ∷ bytes) h =
    let rest = split_all P bytes h.1 in
    cond_both (b == 47) ([] ∷ between_slashes bytes) (onto_first b (between_slashes bytes)) (AllByRecursion (AllByRecursion P)) (λ _. (tt, rest)) (λ no. onto_all P b (between_slashes bytes) (h.0 (eqb-false b 47 no)) rest)

some_bytes : (bytes : List ℕ) → HasNoNul bytes → AllByRecursion (λ b. b ≢ 47 → 0 < b) bytes
some_bytes [] h = tt
some_bytes (b ∷ bytes) h = ((λ _. h.0), some_bytes bytes h.1)

nuls-onto : (b : ℕ) (parts : List Part) (rest : List ℕ) → behind_nuls parts ≡ 0 ∷ rest
    → behind_nuls (onto_first b parts) ≡ 0 ∷ b ∷ rest
nuls-onto b [] rest h = absurd cc
nuls-onto b (part ∷ parts) rest h = ap (λ bytes. 0 ∷ b ∷ drop 1 bytes) h

-- behind NULs, they are the path with NULs for slashes, behind one more
nuls-slashes : (path : List ℕ) → behind_nuls (between_slashes path) ≡ 0 ∷ map nul_for_slash path
nuls-slashes [] = refl
nuls-slashes (b ∷ path) =
    elim (cases_Bool (b == 47)) [
      | inl is ↦ ap behind_nuls (cond-true (b == 47) ([] ∷ between_slashes path) (onto_first b (between_slashes path)) is)
          ∙ ap (λ bytes. 0 ∷ bytes) (nuls-slashes path)
          ∙ ap (λ c. 0 ∷ c ∷ map nul_for_slash path) (sym (cond-true (b == 47) 0 b is))
      | inr other ↦ ap behind_nuls (cond-false (b == 47) ([] ∷ between_slashes path) (onto_first b (between_slashes path)) other)
          ∙ nuls-onto b (between_slashes path) (map nul_for_slash path) (nuls-slashes path)
          ∙ ap (λ c. 0 ∷ c ∷ map nul_for_slash path) (sym (cond-false (b == 47) 0 b other))
    ]

pub HasParts-slashes : (text path : List ℕ) → HasNoNul path → text ≡ 0 ∷ map nul_for_slash path
    → HasParts text (between_slashes path)
HasParts-slashes text path h e =
    record { bytes = e ∙ sym (nuls-slashes path); no_nuls = split_all (λ b. 0 < b) path (some_bytes path h) }

-- a text stays one where ASCII stands for ASCII
pub utf8-nuls : (path : List ℕ) → IsUtf8 path → IsUtf8 (0 ∷ map nul_for_slash path)
utf8-nuls path h =
    IsUtf8-append (0 ∷ []) (map nul_for_slash path) (IsUtf8-from_ascii (0 ∷ []) (IsAscii-cons 0 [] (omega arith) IsAscii-nil))
    (changed nul_for_slash (λ b low. cond_both (b == 47) 0 b (λ c. c < 128) (λ _. omega arith) (λ _. low)) (λ b high. cond-false (b == 47) 0 b (ne_eqb b 47 (omega (arith, high)))) path h)

turned_more : (f : ℕ → ℕ) (xs : List ℕ) (i : ℕ) → i < length xs
    → set (map f (take i xs) ++ drop i xs) i (f (get_or (map f (take i xs) ++ drop i xs) i 0))
    ≡ map f (take (suc i) xs) ++ drop (suc i) xs
turned_more f [] i h = absurd (omega (arith, h))
turned_more f (x ∷ xs) zero h = refl
turned_more f (x ∷ xs) (suc i) h = ap (λ ys. f x ∷ ys) (turned_more f xs i (omega (arith, h)))

-- a byte is turned where those before it are
pub turned_next : (f : ℕ → ℕ) (xs : List ℕ) (i : ℕ) → i < length xs
    → set (map f (take i xs) ++ drop i xs) i (f (get_or (map f (take i xs) ++ drop i xs) i 0))
    ≡ map f (take (i + 1) xs) ++ drop (i + 1) xs
turned_next f xs i h = turned_more f xs i h ∙ ap (λ n. map f (take n xs) ++ drop n xs) (sym (add-one i))
