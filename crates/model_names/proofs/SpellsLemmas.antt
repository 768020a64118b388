-- A text spells at most one name: the bytes before its first slash tell the namespace.
use Rattle.std.specs.Prelude.{◌≡◌, ℕ, ◌+◌, ◌<◌, ◌≤◌, nat_lt, ◌&&◌, Bool, true, false, List, [], ◌∷◌, ◌++◌, length, drop, Option, Some, None}
use Rattle.std.proofs.Common.{cond, eqb, get_or, refl, sym, ap, ◌∙◌}
use Rattle.std.proofs.lemmas.Bool.{ltb-true}
use Rattle.std.proofs.lemmas.List.Sums.{AllPass-from_list_all}
use Rattle.std.proofs.lemmas.List.Elements.{All-from_recursion, recursion_from_All}
use Rattle.std.proofs.lemmas.Str.{IsUtf8-from_ascii}
use Rattle.std.proofs.lemmas.Str.Ascii.{IsAscii-from_all}
use Rattle.std.specs.List.{AllByRecursion, list_all}
use Rattle.model_names.specs.declared.namespaces.Namespace.{Namespace}
use Rattle.model_names.specs.declared.namespaces.Namespace.TheVariants.{Cascading, Spec, Proc, Dir, User, System, Default}
use Rattle.model_names.specs.Name.{Name, Part}
use Rattle.model_names.specs.Spelling.{word_of, path}
use Rattle.model_names.specs.RawParts.{raw_parts}
use Rattle.model_names.specs.Spells.{Spells, walked, longest_path}
use Rattle.general_words.proofs.Lists.{some_is}

-- the namespace that the first two bytes of a text tell
namespace_of : List ℕ → Namespace
namespace_of text =
    let first = get_or text 0 0 in
    let second = get_or text 1 0 in
    cond (eqb first 47) Cascading (cond (eqb first 117) User (cond (eqb first 115) (cond (eqb second 112) Spec System) (cond (eqb first 112) Proc (cond (eqb second 105) Dir Default))))

namespace_of-word : (n : Namespace) (rest : List ℕ) → namespace_of (word_of n ++ 47 ∷ rest) ≡ n
unfolding namespace_of
namespace_of-word Cascading rest = refl
namespace_of-word Spec rest = refl
namespace_of-word Proc rest = refl
namespace_of-word Dir rest = refl
namespace_of-word User rest = refl
namespace_of-word System rest = refl
namespace_of-word Default rest = refl

pub drop-word : (n : Namespace) (rest : List ℕ) → drop (length (word_of n) + 1) (word_of n ++ 47 ∷ rest) ≡ rest
drop-word Cascading rest = refl
drop-word Spec rest = refl
drop-word Proc rest = refl
drop-word Dir rest = refl
drop-word User rest = refl
drop-word System rest = refl
drop-word Default rest = refl

-- a text is cut in one way
pub same_cut : (m n : Namespace) (a b : List ℕ) → word_of m ++ 47 ∷ a ≡ word_of n ++ 47 ∷ b → (m ≡ n) × (a ≡ b)
same_cut m n a b e =
    let one : m ≡ n = sym (namespace_of-word m a) ∙ ap namespace_of e ∙ namespace_of-word n b in
    let rest : drop (length (word_of m) + 1) (word_of m ++ 47 ∷ a) ≡ drop (length (word_of n) + 1) (word_of n ++ 47 ∷ b) =
    ap (drop (length (word_of m) + 1)) e ∙ ap (λ k. drop (length (word_of k) + 1) (word_of n ++ 47 ∷ b)) one in
    (one, sym (drop-word m a) ∙ rest ∙ drop-word n b)

pub Spells-once : (text : List ℕ) (a b : Name) → Spells text a → Spells text b → a ≡ b
Spells-once text a b p q =
    let cut = same_cut a.namespace b.namespace p.rest q.rest (sym p.cut ∙ q.cut) in
    let parts : a.parts ≡ b.parts = some_is a.parts b.parts (sym p.leads ∙ ap (λ r. walked [] (raw_parts r)) cut.1 ∙ q.leads) in
    λ i. record { namespace = cut.0 i; parts = parts i }

-- a byte that is ASCII and not NUL
abbrev pub is_ascii_text_byte : ℕ → Bool
is_ascii_text_byte b = nat_lt 0 b && nat_lt b 128

both_true : (a b : Bool) → (a && b) ≡ true → (a ≡ true) × (b ≡ true)
both_true true b e = (refl, e)
both_true false b e = absurd cc

pub no_nul-from_test : (text : List ℕ) → AllByRecursion (λ b. is_ascii_text_byte b ≡ true) text
    → AllByRecursion (λ b. 0 < b) text
no_nul-from_test [] h = tt
no_nul-from_test (b ∷ text) h = (ltb-true 0 b (both_true _ _ h.0).0, no_nul-from_test text h.1)

pub is_ascii-from_test : (text : List ℕ) → AllByRecursion (λ b. is_ascii_text_byte b ≡ true) text
    → AllByRecursion (λ b. b < 128) text
is_ascii-from_test [] h = tt
is_ascii-from_test (b ∷ text) h = (ltb-true b 128 (both_true _ _ h.0).1, is_ascii-from_test text h.1)

-- an ASCII text spells a name, by computation
pub Spells-from_tests : (text : List ℕ) (name : Name) (rest : List ℕ) → text ≡ word_of name.namespace ++ 47 ∷ rest
    → walked [] (raw_parts rest) ≡ Some name.parts → list_all is_ascii_text_byte text ≡ true
    → length (path name) ≤ longest_path → Spells text name
Spells-from_tests text name rest cut leads bytes limit =
    let pass = recursion_from_All (λ b. is_ascii_text_byte b ≡ true) text (AllPass-from_list_all is_ascii_text_byte text bytes) in
    record {
      rest = rest;
      cut = cut;
      leads = leads;
      utf8 = IsUtf8-from_ascii text (IsAscii-from_all text (All-from_recursion (λ b. b < 128) text (is_ascii-from_test text pass)));
      no_nul = no_nul-from_test text pass;
      limit = limit;
    }

-- a text spells nothing where its raw parts lead nowhere
pub spells_nothing : (namespace : Namespace) (rest : List ℕ) → walked [] (raw_parts rest) ≡ None → (name : Name)
    → Spells (word_of namespace ++ 47 ∷ rest) name → ⊥
spells_nothing namespace rest none name spells =
    let cut = same_cut namespace name.namespace rest spells.rest spells.cut in
    let leads : ◌≡◌ {A = Option (List Part)} None (Some name.parts) = sym none ∙ ap (λ r. walked [] (raw_parts r)) cut.1 ∙ spells.leads in
    absurd cc
