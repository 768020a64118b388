-- Lists of candidates, one piece behind the other.
use Rattle.std.proofs.Common.{◌≡◌, ℕ, List, [], ◌∷◌, ◌++◌, Option, ap, ap₂, ◌∙◌}
use Rattle.std.specs.List.{flat_map}
use Rattle.std.specs.Prelude.{codes, Result, Ok, Err, IfOk}
use Rattle.model_names.specs.Name.{Name, Part}
use Rattle.model_maps.specs.Entry.{Meta, array_texts}
use Rattle.model_maps.specs.KeyMap.{KeyMap}
use Rattle.model_specified.specs.SpecMeta.{spec_meta}
use Rattle.model_specified.specs.Specified.{default_name}
use Rattle.spec_cascade.specs.Candidates.{candidates, candidates_by, names_of, paths_by}
use Rattle.spec_cascade.specs.Found.{first_present, present}
use Rattle.spec_cascade.specs.declared.founds.Found.{Found}
use Rattle.general_words.specs.Searches.{first_some}
use Rattle.general_words.proofs.Lists.{appended_four}

-- the candidates of a path: four pieces from nothing on
pub four_kinds : (path : List Part) (said : Meta) (overrides words fallbacks : List (List ℕ))
    (l0 l1 l2 l3 l4 : List Name)
    → overrides ≡ array_texts said (codes "override") → words ≡ array_texts said (codes "namespace")
    → fallbacks ≡ array_texts said (codes "fallback") → l0 ≡ []
    → l1 ≡ l0 ++ flat_map names_of overrides → l2 ≡ l1 ++ paths_by path words → l3 ≡ l2 ++ flat_map names_of fallbacks
    → l4 ≡ l3 ++ default_name path ∷ [] → l4 ≡ candidates path said
four_kinds path said overrides words fallbacks l0 l1 l2 l3 l4 os ws fs none e1 e2 e3 e4 =
    appended_four l0 l1 l2 l3 l4 (flat_map names_of overrides) (paths_by path words) (flat_map names_of fallbacks) (default_name path ∷ []) e1 e2 e3 e4
    ∙ (λ i. none i ++ (flat_map names_of (os i) ++ (paths_by path (ws i) ++ (flat_map names_of (fs i) ++ default_name path ∷ []))))

-- by what the three arrays hold
pub candidates-by : (path : List Part) (said : Meta) (overrides words fallbacks : List (List ℕ))
    → array_texts said (codes "override") ≡ overrides → array_texts said (codes "namespace") ≡ words
    → array_texts said (codes "fallback") ≡ fallbacks
    → candidates path said ≡ candidates_by path overrides words fallbacks
candidates-by path said overrides words fallbacks os ws fs = λ i. candidates_by path (os i) (ws i) (fs i)

-- the first that is present of a path's candidates
pub first_found : {E : Type 0} (keys : KeyMap) (path : List Part) (said : Meta) (default : Name) (names : List Name)
    (r : Result (Option Found) E) → said ≡ spec_meta keys path → default ≡ default_name path
    → names ≡ candidates path said
    → IfOk r (λ found. found ≡ first_some (present keys said default) names)
    → IfOk r (λ found. found ≡ first_present keys path (spec_meta keys path))
first_found keys path said default names (Ok found) is_said is_default are is =
    is ∙ ap₂ (λ (name : Name) (all : List Name). first_some (present keys said name) all) is_default are
    ∙ ap (first_present keys path) is_said
first_found keys path said default names (Err error) is_said is_default are is = is
