-- What the keys of `spec:` say of a path, key by key.
use Rattle.std.proofs.Common.{◌≡◌, ◌&&◌, nat_eq, not, Bool, true, false, cond, List, [], ◌∷◌, ◌++◌, length, map, Option, Some, None, Result, Ok, Err, refl, sym, ap, ap₂, subst, ◌∙◌}
use Rattle.std.specs.Prelude.{IfOk, if◌then◌else◌}
use Rattle.std.specs.Bool.{Decides, one_answer}
use Rattle.std.specs.FinMap as finite
use Rattle.std.specs.Cmp.Lexicographic.{pointwise}
use Rattle.std.specs.FinMap.{find}
use Rattle.std.specs.FinMap.Entries.{where_key}
use Rattle.std.specs.List.{AllByRecursion, filter, starts_with}
use Rattle.std.specs.Option.{option_map_or, option_to_list}
use Rattle.std.proofs.lemmas.Bool.{and_parts}
use Rattle.std.proofs.lemmas.Bool.Decides.{Decides-eqb}
use Rattle.std.proofs.lemmas.List.{nil_from_length}
use Rattle.general_words.proofs.Maps.{entries-retain}
use Rattle.model_names.specs.declared.namespaces.Namespace.TheVariants.{Spec}
use Rattle.model_names.specs.Below.{is_at_or_below}
use Rattle.model_names.proofs.OrderLemmas.{name_cmp_total, name_cmp-IsAntisymmetric, same_rank}
use Rattle.model_names.specs.Glob.{MatchesGlob}
use Rattle.model_names.specs.Name.{Name, Part, rank}
use Rattle.model_names.specs.Order.{name_cmp, name_eq}
use Rattle.model_maps.specs.Entry.{Entry, Meta}
use Rattle.model_maps.specs.KeyMap.{KeyMap}
use Rattle.model_specified.specs.Globs.{matches_glob}
use Rattle.model_specified.specs.SpecMeta.{is_pattern_of, laid_over, said_of, spec_keys, spec_name}
use Rattle.model_specified.proofs.GlobTests.{matches_glob-Decides}
use Rattle.model_specified.proofs.LaidOver.{laid_over-alone, laid_over-empty, laid_over-next, laid_over-none}
use Rattle.plugin_chain.specs.declared.globs.Glob.{Glob}
use Rattle.plugin_chain.specs.Globs.{AreInSpec, seen}

-- the metadata of those keys that are patterns of a path
abbrev pub metas_of : List Part → List (Name × Entry) → List Meta
metas_of path keys = map (λ spec. spec.meta) (map (λ key. key.1) (filter (λ key. is_pattern_of path key.0) keys))

started : (o : Option Entry) (specs : List Entry)
    → laid_over (option_map_or (λ spec. spec.meta) o finite.empty ∷ map (λ spec. spec.meta) specs)
    ≡ laid_over (map (λ spec. spec.meta) (option_to_list o ++ specs))
started None specs = laid_over-empty (map (λ spec. spec.meta) specs)
started (Some spec) specs = refl

-- the metadata of the path's own key stands over that of all patterns
pub said_first : (specs : KeyMap) (path : List Part) (own : Name) (meta : Meta) → own ≡ spec_name path
    → meta ≡ option_map_or (λ spec. spec.meta) (finite.get specs own) finite.empty
    → laid_over (meta ∷ metas_of path (finite.entries specs)) ≡ said_of specs path
said_first specs path own meta is_own is =
    ap (λ m. laid_over (m ∷ metas_of path (finite.entries specs))) (is ∙ ap (λ n. option_map_or (λ (spec : Entry). spec.meta) (finite.get specs n) finite.empty) is_own)
    ∙ started (finite.get specs (spec_name path)) (map (λ key. key.1) (filter (λ key. is_pattern_of path key.0) (finite.entries specs)))

stepped : (path : List Part) (key : Name × Entry) (rest : List (Name × Entry)) (meta : Meta) (b : Bool)
    → laid_over ((if b then laid_over (meta ∷ key.1.meta ∷ []) else meta) ∷ metas_of path rest)
    ≡ laid_over (meta ∷ map (λ spec. spec.meta) (map (λ k. k.1) (cond b (key ∷ filter (λ k. is_pattern_of path k.0) rest) (filter (λ k. is_pattern_of path k.0) rest))))
stepped path key rest meta true = laid_over-next meta key.1.meta (metas_of path rest)
stepped path key rest meta false = refl

-- one more key
pub said_next : (path : List Part) (key : Name × Entry) (keys rest : List (Name × Entry)) (meta after said : Meta)
    (b : Bool) → keys ≡ key ∷ rest → b ≡ is_pattern_of path key.0
    → after ≡ (if b then laid_over (meta ∷ key.1.meta ∷ []) else meta) → laid_over (meta ∷ metas_of path keys) ≡ said
    → laid_over (after ∷ metas_of path rest) ≡ said
said_next path key keys rest meta after said b are tells is so_far =
    ap (λ m. laid_over (m ∷ metas_of path rest)) (is ∙ ap (λ t. if t then laid_over (meta ∷ key.1.meta ∷ []) else meta) tells)
    ∙ stepped path key rest meta (is_pattern_of path key.0)
    ∙ ap (λ ks. laid_over (meta ∷ metas_of path ks)) (sym are)
    ∙ so_far

-- no key is left
pub said_last : (path : List Part) (keys : List (Name × Entry)) (meta said : Meta) → keys ≡ []
    → laid_over (meta ∷ metas_of path keys) ≡ said → meta ≡ said
said_last path keys meta said none so_far =
    sym (laid_over-alone meta) ∙ ap (λ ks. laid_over (meta ∷ metas_of path ks)) (sym none) ∙ so_far

-- there is no key
pub said_nothing : (specs : KeyMap) (path : List Part) → length (finite.entries specs) ≡ 0
    → finite.empty ≡ said_of specs path
said_nothing specs path none =
    let no : finite.entries specs ≡ [] = nil_from_length (finite.entries specs) none in
    let nowhere : finite.get specs (spec_name path) ≡ None = finite.get-entries specs (spec_name path) ∙ ap (find name_cmp (spec_name path)) no in
    sym (ap₂ (λ (o : Option Entry) (keys : List (Name × Entry)). laid_over (map (λ spec. spec.meta) (option_to_list o ++ map (λ key. key.1) (filter (λ key. is_pattern_of path key.0) keys)))) nowhere no ∙ laid_over-none)

-- a name's parts match, and it isn't the path's own
pub pattern_told : (path : List Part) (own name : Name) (matches : Bool) → own ≡ spec_name path
    → Decides matches (MatchesGlob path name.parts) → (matches && not (name_eq name own)) ≡ is_pattern_of path name
pattern_told path own name matches is decides =
    ap₂ (λ (b : Bool) (n : Name). b && not (name_eq name n)) (one_answer matches (matches_glob path name.parts) decides (matches_glob-Decides path name.parts)) is

-- the parts match
pub pattern_then : (path : List Part) (own name : Name) (matches differs : Bool) → own ≡ spec_name path
    → Decides matches (MatchesGlob path name.parts) → matches ≡ true → differs ≡ not (name_eq name own)
    → differs ≡ is_pattern_of path name
pattern_then path own name matches differs is decides fits told =
    told ∙ ap (λ b. b && not (name_eq name own)) (sym fits) ∙ pattern_told path own name matches is decides

-- they don't
pub pattern_else : (path : List Part) (own name : Name) (matches : Bool) → own ≡ spec_name path
    → Decides matches (MatchesGlob path name.parts) → matches ≡ false → matches ≡ is_pattern_of path name
pattern_else path own name matches is decides fails =
    fails ∙ ap (λ b. b && not (name_eq name own)) (sym fails) ∙ pattern_told path own name matches is decides

-- ---- the globs of a path in place of all keys

-- the metadata of the path's own key stands over that of all patterns among some globs
pub said_start : (specs keys : KeyMap) (path : List Part) (own : Name) (meta : Meta) (found : List Glob) → keys ≡ specs
    → own ≡ spec_name path → meta ≡ option_map_or (λ spec. spec.meta) (finite.get keys own) finite.empty
    → filter (λ (key : Name × Entry). is_pattern_of path key.0) (map seen found)
    ≡ filter (λ (key : Name × Entry). is_pattern_of path key.0) (finite.entries specs)
    → laid_over (meta ∷ metas_of path (map seen found)) ≡ said_of specs path
said_start specs keys path own meta found same is_own is are =
    ap (λ (ks : List (Name × Entry)). laid_over (meta ∷ map (λ spec. spec.meta) (map (λ key. key.1) ks))) are
    ∙ said_first specs path own meta is_own (is ∙ ap (λ ks. option_map_or (λ (spec : Entry). spec.meta) (finite.get ks own) finite.empty) same)

-- ---- the keys of `spec:`

kept_in_spec : (keys : List (Name × Entry))
    → AllByRecursion (λ (key : Name × Entry). key.0.namespace ≡ Spec) (where_key name_cmp (is_at_or_below (spec_name [])) keys)
kept_in_spec [] = tt
kept_in_spec (key ∷ keys) =
    elim (is_at_or_below (spec_name []) key.0) as (λ b. is_at_or_below (spec_name []) key.0 ≡ b → AllByRecursion (λ (spec : Name × Entry). spec.0.namespace ≡ Spec) (cond b (key ∷ where_key name_cmp (is_at_or_below (spec_name [])) keys) (where_key name_cmp (is_at_or_below (spec_name [])) keys))) [
      | true ↦ λ is. (same_rank key.0.namespace Spec ((Decides-eqb (rank key.0.namespace) (rank Spec)).0 (and_parts (nat_eq (rank key.0.namespace) (rank Spec)) (starts_with (pointwise nat_eq) key.0.parts []) is).0), kept_in_spec keys)
      | false ↦ λ is. kept_in_spec keys
    ] refl

pub are_in_spec : {E : Type 0} (keys : KeyMap) (r : Result KeyMap E) → IfOk r (λ specs. specs ≡ spec_keys keys)
    → IfOk r AreInSpec
are_in_spec keys (Ok specs) is =
    subst (AllByRecursion (λ (spec : Name × Entry). spec.0.namespace ≡ Spec)) (sym (ap finite.entries is ∙ entries-retain name_cmp_total name_cmp-IsAntisymmetric keys (is_at_or_below (spec_name [])))) (kept_in_spec (finite.entries keys))
are_in_spec keys (Err e) is = is
