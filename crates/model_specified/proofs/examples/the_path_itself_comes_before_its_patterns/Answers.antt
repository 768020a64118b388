use Rattle.std.specs.Prelude.{◌≡◌, ℕ, [], ◌∷◌, List, Option, None, Some, codes}
use Rattle.std.proofs.Common.{refl, ap, ap₂, ◌∙◌, map as mapped, ◌++◌}
use Rattle.std.specs.List.{filter}
use Rattle.std.specs.Option.{option_to_list}
use Rattle.model_specified.specs.SpecMeta.{is_pattern_of}
use Rattle.std.specs.FinMap as map
use Rattle.std.specs.FinMap.{find}
use Rattle.std.specs.FinMap.Entries.{put, where_key}
use Rattle.std.specs.Option.{option_or}
use Rattle.general_words.specs.Searches.{first_some}
use Rattle.general_words.proofs.Maps.{entries-empty, entries-retain, get-insert_same}
use Rattle.general_words.proofs.Searches.{first_some-map}
use Rattle.general_words.proofs.Texts.{text_cmp-total}
use Rattle.model_names.specs.Below.{is_at_or_below}
use Rattle.model_names.specs.Name.{Name, Part}
use Rattle.model_names.specs.Order.{name_cmp}
use Rattle.model_names.proofs.OrderLemmas.{name_cmp_total, name_cmp-IsAntisymmetric}
use Rattle.model_maps.specs.Entry.{Entry, plain_entry, with_meta}
use Rattle.model_maps.specs.KeyMap.{KeyMap, no_keys}
use Rattle.model_specified.specs.SpecMeta.{spec_keys, spec_meta, spec_name, specs_of}
use Rattle.model_specified.proofs.LaidOver.{get-laid_over}
use Rattle.model_specified.proofs.examples.the_path_itself_comes_before_its_patterns.Goals as goal

abbrev any : Name
any = spec_name (codes "_" ∷ [])

abbrev one : Name
one = spec_name (codes "a" ∷ [])

abbrev typed : List ℕ → Entry
typed type = with_meta (plain_entry []) (codes "type") type

abbrev keys : KeyMap
keys = map.insert (map.insert no_keys any (typed (codes "char"))) one (typed (codes "string"))

abbrev both : List (Name × Entry)
both = (any, typed (codes "char")) ∷ (one, typed (codes "string")) ∷ []

entries_are : map.entries keys ≡ both
entries_are =
    map.entries-insert name_cmp_total (map.insert no_keys any (typed (codes "char"))) one (typed (codes "string"))
    ∙ ap (put name_cmp one (typed (codes "string"))) (map.entries-insert name_cmp_total no_keys any (typed (codes "char")) ∙ ap (put name_cmp any (typed (codes "char"))) (entries-empty name_cmp Entry))

specs_are : map.entries (spec_keys keys) ≡ both
specs_are =
    entries-retain name_cmp_total name_cmp-IsAntisymmetric keys (is_at_or_below (spec_name []))
    ∙ ap (where_key name_cmp (is_at_or_below (spec_name []))) entries_are

get_is : (name : Name) (o : Option Entry) → find name_cmp name both ≡ o → map.get (spec_keys keys) name ≡ o
get_is name o is = map.get-entries (spec_keys keys) name ∙ ap (find name_cmp name) specs_are ∙ is

type_is : (type : List ℕ) → map.get (typed type).meta (codes "type") ≡ Some type
type_is type = get-insert_same text_cmp-total map.empty (codes "type") type

-- the type of the first of some specifications
said : (path : List Part) (specs : List Entry) (type : List ℕ) → specs_of (spec_keys keys) path ≡ specs
    → first_some (λ spec. map.get spec.meta (codes "type")) specs ≡ Some type
    → map.get (spec_meta keys path) (codes "type") ≡ Some type
said path specs type are is =
    get-laid_over (mapped (λ (spec : Entry). spec.meta) (specs_of (spec_keys keys) path)) (codes "type")
    ∙ first_some-map (λ meta. map.get meta (codes "type")) (λ (spec : Entry). spec.meta) (specs_of (spec_keys keys) path)
    ∙ ap (first_some (λ (spec : Entry). map.get spec.meta (codes "type"))) are
    ∙ is

specs_at : (path : List Part) (o : Option Entry) → find name_cmp (spec_name path) both ≡ o
    → specs_of (spec_keys keys) path
    ≡ option_to_list o ++ mapped (λ key. key.1) (filter (λ key. is_pattern_of path key.0) both)
specs_at path o is =
    ap₂ (λ (p : Option Entry) (es : List (Name × Entry)). option_to_list p ++ mapped (λ key. key.1) (filter (λ key. is_pattern_of path key.0) es)) (get_is (spec_name path) o is) specs_are

pub returns-clause-own : goal.returns-clause-own
returns-clause-own c =
    said (codes "a" ∷ []) (typed (codes "string") ∷ typed (codes "char") ∷ []) (codes "string") (specs_at (codes "a" ∷ []) (Some (typed (codes "string"))) refl)
    (ap (λ o. option_or o (first_some (λ (spec : Entry). map.get spec.meta (codes "type")) (typed (codes "char") ∷ []))) (type_is (codes "string")))

pub returns-clause-other : goal.returns-clause-other
returns-clause-other c =
    said (codes "b" ∷ []) (typed (codes "char") ∷ []) (codes "char") (specs_at (codes "b" ∷ []) None refl)
    (ap (λ o. option_or o None) (type_is (codes "char")))
