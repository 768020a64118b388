-- Names made of the parts of well-formed names are well formed, and how long their paths are.
use Rattle.std.proofs.Common.{◌≡◌, ◌≢◌, ℕ, true, cond, codes, ◌==◌, ◌||◌, ◌+◌, ◌<◌, ◌≤◌, List, [], ◌∷◌, ◌++◌, length, drop, take, refl, sym, ap, subst, ◌∙◌, arith, length-append}
use Rattle.std.specs.List.{AllByRecursion, flat_map}
use Rattle.std.proofs.lemmas.Bool.{cond_both, eqb-false}
use Rattle.std.proofs.lemmas.List.{append-nil, take-append-drop}
use Rattle.std.proofs.lemmas.List.Concat.{flat_map-append}
use Rattle.model_names.specs.declared.namespaces.Namespace.{Namespace}
use Rattle.model_names.specs.declared.namespaces.Namespace.TheVariants.{Cascading}
use Rattle.model_names.specs.Below.{IsBelow, is_at_or_below}
use Rattle.model_names.specs.Name.{Name, Part}
use Rattle.model_names.specs.Spelling.{escaped, is_reserved, path_of_parts, spelled}
use Rattle.model_names.specs.WellFormed.{IsName, IsPart}
use Rattle.model_names.proofs.BelowLemmas.{at_or_below-rest}
use Rattle.key_name.specs.Joining.{joined}
use Rattle.general_words.proofs.Lists.{all_back}

-- a slash and the spelling of each part
abbrev pub slashed : List Part → List ℕ
slashed parts = flat_map (λ p. 47 ∷ spelled p) parts

-- ---- lengths

length-escaped-least : (b : ℕ) → 1 ≤ length (escaped b)
length-escaped-least b =
    cond_both ((b == 92) || (b == 47)) (92 ∷ b ∷ []) (b ∷ []) (λ bytes. 1 ≤ length bytes) (λ _. omega arith) (λ _. omega arith)

pub length-all_escaped-least : (part : Part) → length part ≤ length (flat_map escaped part)
length-all_escaped-least [] = omega arith
length-all_escaped-least (b ∷ part) =
    omega (arith, length-escaped-least b, length-all_escaped-least part, length-append (escaped b) (flat_map escaped part))

-- each part is spelled in some bytes
length-spelled-least : (part : Part) → 1 ≤ length (spelled part)
length-spelled-least part =
    cond_both (length part == 0) (codes "%") (cond (is_reserved part) (92 ∷ part) (flat_map escaped part)) (λ bytes. 1 ≤ length bytes)
    (λ _. omega arith)
    (λ filled. let some = eqb-false (length part) 0 filled in cond_both (is_reserved part) (92 ∷ part) (flat_map escaped part) (λ bytes. 1 ≤ length bytes) (λ _. omega arith) (λ _. omega (arith, some, length-all_escaped-least part)))

pub path_some : (parts : List Part) → 0 < length (path_of_parts parts)
path_some [] = omega arith
path_some (part ∷ parts) = omega arith

pub length-slashed-append : (front back : List Part)
    → length (slashed (front ++ back)) ≡ length (slashed front) + length (slashed back)
length-slashed-append front back =
    ap length (flat_map-append (λ p. 47 ∷ spelled p) front back) ∙ length-append (slashed front) (slashed back)

pub length-path-back : (front back : List Part) → length (path_of_parts back) ≤ length (path_of_parts (front ++ back))
length-path-back [] back = omega arith
length-path-back (part ∷ front) [] = omega (arith, path_some ((part ∷ front) ++ []))
length-path-back (part ∷ front) (next ∷ back) = omega (arith, length-slashed-append (part ∷ front) (next ∷ back))

-- ---- well-formed names

pub IsName-drop : (m n : Namespace) (parts : List Part) (k : ℕ) → IsName (record { namespace = m; parts = parts })
    → IsName (record { namespace = n; parts = drop k parts })
IsName-drop m n parts k h =
    let whole = take-append-drop k parts in
    let shorter = length-path-back (take k parts) (drop k parts) in
    let same = ap (λ p. length (path_of_parts p)) whole in
    record {
      parts = all_back IsPart (take k parts) (drop k parts) (subst (λ (p : List Part). AllByRecursion IsPart p) (sym whole) h.parts);
      limit = omega (arith, h.limit);
    }

-- ---- below

-- a name at or below another is that one with the rest behind it
pub joined-way : (above name : Name) → is_at_or_below above name ≡ true
    → joined above (record { namespace = Cascading; parts = drop (length above.parts) name.parts }) ≡ name
joined-way above name e =
    let rest = at_or_below-rest above name e in
    λ i. record { namespace = sym rest.0 i; parts = sym rest.1 i }

-- ---- how long the rest of a path is

-- what the lengths of paths say of a list and a front of it that isn't empty
pub record HasBytesBehind (front rest whole : List Part) : Type 0 where
  pub none : length (path_of_parts whole) ≡ length (path_of_parts front) → length (path_of_parts rest) ≡ 1
  pub some : length (path_of_parts whole) ≢ length (path_of_parts front)
      → length (path_of_parts whole) ≡ length (path_of_parts front) + length (path_of_parts rest)

bytes_behind : (front rest : List Part) → 0 < length front → HasBytesBehind front rest (front ++ rest)
bytes_behind [] rest some = absurd (omega arith)
bytes_behind (part ∷ front) [] some =
    let same = ap (λ parts. length (path_of_parts parts)) (append-nil (part ∷ front)) in
    record { none = λ _. refl; some = λ other. absurd (other same) }
bytes_behind (part ∷ front) (next ∷ rest) some = record {
  none = λ same. absurd (omega (arith, same, length-slashed-append (part ∷ front) (next ∷ rest), path_some (next ∷ rest)));
  some = λ _. omega (arith, length-slashed-append (part ∷ front) (next ∷ rest));
}

pub bytes_of_rest : (above name : Name) → is_at_or_below above name ≡ true → 0 < length above.parts
    → HasBytesBehind above.parts (drop (length above.parts) name.parts) name.parts
bytes_of_rest above name e some =
    let rest = drop (length above.parts) name.parts in
    subst (HasBytesBehind above.parts rest) (sym (at_or_below-rest above name e).1) (bytes_behind above.parts rest some)

longer : (front more : List Part) → more ≢ [] → length (path_of_parts front) < length (path_of_parts (front ++ more))
longer front [] some = absurd (some refl)
longer [] (part ∷ more) some =
    omega (arith, length-spelled-least part, length-append (47 ∷ spelled part) (slashed more))
longer (first ∷ front) (part ∷ more) some =
    omega (arith, length-slashed-append (first ∷ front) (part ∷ more), path_some (part ∷ more))

-- a name below another has the longer path
pub below_is_longer : (name above : Name) → IsBelow name above
    → length (path_of_parts above.parts) < length (path_of_parts name.parts)
below_is_longer name above below =
    let same = ap (λ parts. length (path_of_parts parts)) below.parts in omega (arith, same, longer above.parts below.more below.some_more)
