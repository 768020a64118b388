-- The function from texts to names gives just what texts spell.
use Rattle.std.proofs.Common.{◌≡◌, ℕ, ◌+◌, Bool, true, false, ◌&&◌, List, [], ◌∷◌, ◌++◌, length, Option, Some, None, refl, sym, ap, subst, ◌∙◌}
use Rattle.std.specs.Prelude.{drop, is_none, option_and_then}
use Rattle.std.specs.Option.{option_map}
use Rattle.std.specs.Str.{is_utf8}
use Rattle.std.proofs.lemmas.Bool.{and_from, and_parts, cond-true, cond-false}
use Rattle.std.proofs.lemmas.Str.{IsUtf8-from_is_utf8, is_utf8-from_IsUtf8}
use Rattle.general_words.proofs.Tests.{cond_some}
use Rattle.model_names.specs.declared.namespaces.Namespace.{Namespace}
use Rattle.model_names.specs.declared.namespaces.Namespace.TheVariants.{Cascading, Spec, Proc, Dir, User, System, Default}
use Rattle.model_names.specs.Name.{Name}
use Rattle.model_names.specs.NameOf.{namespace_before, name_behind, name_of}
use Rattle.model_names.specs.RawParts.{raw_parts}
use Rattle.model_names.specs.Refuses.{At, Refused, Refusal, start_of_text, refusal_of}
use Rattle.model_names.specs.Spelling.{word_of}
use Rattle.model_names.specs.Spells.{Spells, walked}
use Rattle.model_names.proofs.RefusesLemmas.{refusal_of-spelled, start_of_text-word, Spells-from_no_refusal}
use Rattle.model_names.proofs.SpellsLemmas.{drop-word}

namespace_before-word : (n : Namespace) (rest : List ℕ)
    → namespace_before (word_of n ++ 47 ∷ rest) (length (word_of n)) ≡ Some n
namespace_before-word Cascading rest = refl
namespace_before-word Spec rest = refl
namespace_before-word Proc rest = refl
namespace_before-word Dir rest = refl
namespace_before-word User rest = refl
namespace_before-word System rest = refl
namespace_before-word Default rest = refl

name_behind-word : (name : Name) (rest : List ℕ) → walked [] (raw_parts rest) ≡ Some name.parts
    → name_behind (word_of name.namespace ++ 47 ∷ rest) (length (word_of name.namespace)) ≡ Some name
name_behind-word name rest leads =
    let n = name.namespace in
    ap (option_and_then (λ namespace. option_map (λ parts. record { namespace = namespace; parts = parts }) (walked [] (raw_parts (drop (length (word_of n) + 1) (word_of n ++ 47 ∷ rest)))))) (namespace_before-word n rest)
    ∙ ap (λ left. option_map (λ parts. record { namespace = n; parts = parts }) (walked [] (raw_parts left))) (drop-word n rest)
    ∙ ap (option_map (λ parts. record { namespace = n; parts = parts })) leads

none_refused : (o : Option Refusal) → is_none o ≡ true → o ≡ None
none_refused None h = refl
none_refused (Some refusal) h = absurd cc

-- a text that spells a name has it
pub name_of-spelled : (text : List ℕ) (name : Name) → Spells text name → name_of text ≡ Some name
name_of-spelled text name h =
    cond-true _ _ _ (and_from _ _ (is_utf8-from_IsUtf8 text h.utf8) (ap is_none (refusal_of-spelled text name h)))
    ∙ ap (λ t. elim (start_of_text t) [ At place ↦ name_behind t place | Refused refusal ↦ None ]) h.cut
    ∙ ap (λ start. elim start [ At place ↦ name_behind (word_of name.namespace ++ 47 ∷ h.rest) place | Refused refusal ↦ None ]) (start_of_text-word name.namespace h.rest)
    ∙ name_behind-word name h.rest h.leads

some_name : (a b : Name) → ◌≡◌ {A = Option Name} (Some a) (Some b) → a ≡ b
some_name a b e = cc

-- and the other way
pub Spells-name_of : (text : List ℕ) (name : Name) → name_of text ≡ Some name → Spells text name
Spells-name_of text name h =
    let tests = and_parts (is_utf8 text) (is_none (refusal_of text)) (cond_some (is_utf8 text && is_none (refusal_of text)) _ name h).0 in
    let spelled = Spells-from_no_refusal text (IsUtf8-from_is_utf8 text tests.0) (none_refused (refusal_of text) tests.1) in
    subst (Spells text) (some_name spelled.0 name (sym (name_of-spelled text spelled.0 spelled.1) ∙ h)) spelled.1

-- a text that is refused has none
pub name_of-refused : (text : List ℕ) (refusal : Refusal) → refusal_of text ≡ Some refusal → name_of text ≡ None
name_of-refused text refusal h =
    cond-false _ _ _ (ap (λ o. is_utf8 text && is_none o) h ∙ never (is_utf8 text))
  where
    never : (b : Bool) → (b && false) ≡ false
    never true = refl
    never false = refl
