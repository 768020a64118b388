-- What a specification says of a path, it says in the specified set too.
use Rattle.std.proofs.Common.{◌≡◌, Bool, true, false, cond, not, ◌&&◌, List, [], ◌∷◌, ◌++◌, map, Option, Some, None, refl, sym, ap, ap₂, ◌∙◌}
use Rattle.std.specs.Prelude.{nat_eq, if◌then◌else◌, option_and_then}
use Rattle.std.specs.Cmp.Lexicographic.{pointwise}
use Rattle.std.specs.FinMap as finite
use Rattle.std.specs.FinMap.Entries.{where_key}
use Rattle.std.specs.List.{filter, starts_with}
use Rattle.std.specs.Option.{option_map, option_or, option_to_list}
use Rattle.std.proofs.lemmas.Bool.Decides.{Decides-eqb}
use Rattle.std.proofs.lemmas.Bool.{and_parts}
use Rattle.std.proofs.lemmas.List.{map-append}
use Rattle.general_words.proofs.Maps.{entries-retain}
use Rattle.model_names.specs.Name.{Name, Part, rank}
use Rattle.model_names.specs.Order.{name_cmp}
use Rattle.model_names.proofs.OrderLemmas.{name_cmp_total, name_cmp-IsAntisymmetric, same_rank}
use Rattle.model_names.specs.declared.namespaces.Namespace.TheVariants.{Default, Spec}
use Rattle.model_maps.specs.Entry.{Entry, Meta}
use Rattle.model_maps.specs.KeyMap.{KeyMap}
use Rattle.model_specified.specs.Globs.{has_glob}
use Rattle.model_specified.specs.SpecMeta.{is_pattern_of, laid_over, said_of, spec_keys, spec_meta, spec_name}
use Rattle.model_specified.specs.Specified.{default_at, default_text, is_specified, specified, specified_entry, specified_key, with_defaults}
use Rattle.model_specified.proofs.DefaultLemmas.{get-with_defaults}
use Rattle.model_specified.proofs.SpecifiedLemmas.{entries-specified, get-specified}
use Rattle.plugin_chain.proofs.OneNameLemmas.{get-spec_keys, in_spec}
use Rattle.plugin_chain.proofs.SpecLemmas.{metas_of}

entries-spec_keys : (keys : KeyMap) → finite.entries (spec_keys keys) ≡ where_key name_cmp in_spec (finite.entries keys)
entries-spec_keys keys = entries-retain name_cmp_total name_cmp-IsAntisymmetric keys in_spec

-- two sets with the same keys at the names of `spec:` have the same keys of `spec:`
same_specs : (few keys : KeyMap) → ((name : Name) → in_spec name ≡ true → finite.get few name ≡ finite.get keys name)
    → spec_keys few ≡ spec_keys keys
same_specs few keys each = finite.same_map name_cmp_total name_cmp-IsAntisymmetric (spec_keys few) (spec_keys keys) (λ name.
    get-spec_keys few name ∙ by name (in_spec name) refl ∙ sym (get-spec_keys keys name))
  where
    by : (name : Name) (b : Bool) → in_spec name ≡ b
        → cond b (finite.get few name) None ≡ cond b (finite.get keys name) None
    by name true is = each name is
    by name false is = refl

-- a test by names passes over entries whose values change
where-changed : (p : Name → Bool) (f : Name → Entry → Entry) (es : List (Name × Entry))
    → filter (λ (e : Name × Entry). p e.0) (map (λ (e : Name × Entry). (e.0, f e.0 e.1)) es)
    ≡ map (λ (e : Name × Entry). (e.0, f e.0 e.1)) (filter (λ (e : Name × Entry). p e.0) es)
where-changed p f [] = refl
where-changed p f (e ∷ es) = by (p e.0) (filter (λ (k : Name × Entry). p k.0) (map (λ (k : Name × Entry). (k.0, f k.0 k.1)) es)) (filter (λ (k : Name × Entry). p k.0) es) (where-changed p f es)
  where
    by : (b : Bool) (xs ys : List (Name × Entry)) → xs ≡ map (λ (k : Name × Entry). (k.0, f k.0 k.1)) ys
        → cond b ((e.0, f e.0 e.1) ∷ xs) xs ≡ map (λ (k : Name × Entry). (k.0, f k.0 k.1)) (cond b (e ∷ ys) ys)
    by true xs ys same = ap (λ ks. (e.0, f e.0 e.1) ∷ ks) same
    by false xs ys same = same

-- a name at or below `spec:/` is one of `spec:`
of_spec : (name : Name) → in_spec name ≡ true → name.namespace ≡ Spec
of_spec name is =
    same_rank name.namespace Spec ((Decides-eqb (rank name.namespace) (rank Spec)).0 (and_parts (nat_eq (rank name.namespace) (rank Spec)) (starts_with (pointwise nat_eq) name.parts []) is).0)

-- no default is one of `spec:`
no_default : (specs : KeyMap) (name : Name) → in_spec name ≡ true → default_at specs name ≡ None
no_default specs name is =
    ap (λ n. if nat_eq (rank n) (rank Default) && not (has_glob name.parts) then option_and_then default_text (finite.get specs (spec_name name.parts)) else None) (of_spec name is)

-- the specified entry of a key of `spec:` has the metadata that the key has
meta_stays : (specs : KeyMap) (name : Name) (entry : Entry) → in_spec name ≡ true
    → (specified_entry specs name entry).meta ≡ entry.meta
meta_stays specs name entry is =
    ap (λ n. if is_specified n then laid_over (said_of specs name.parts ∷ entry.meta ∷ []) else entry.meta) (of_spec name is)

-- the defaults leave the keys of `spec:` as they are
specs-with_defaults : (keys : KeyMap) → spec_keys (with_defaults (spec_keys keys) keys) ≡ spec_keys keys
specs-with_defaults keys = same_specs (with_defaults (spec_keys keys) keys) keys (λ name is.
    get-with_defaults keys name ∙ ap (λ o. option_or o (finite.get keys name)) (no_default (spec_keys keys) name is))

-- the keys of `spec:` in the specified set
entries-specs : (keys : KeyMap)
    → finite.entries (spec_keys (specified keys))
    ≡ map (specified_key (spec_keys keys)) (where_key name_cmp in_spec (finite.entries keys))
entries-specs keys =
    let made = with_defaults (spec_keys keys) keys in
    entries-spec_keys (specified keys)
    ∙ ap (where_key name_cmp in_spec) (entries-specified keys)
    ∙ where-changed in_spec (specified_entry (spec_keys keys)) (finite.entries made)
    ∙ ap (map (specified_key (spec_keys keys))) (sym (entries-spec_keys made) ∙ ap finite.entries (specs-with_defaults keys) ∙ entries-spec_keys keys)

abbrev metas : List Entry → List Meta
metas = map (λ spec. spec.meta)

patterns_stay : (specs : KeyMap) (path : List Part) (es : List (Name × Entry))
    → metas_of path (map (specified_key specs) (where_key name_cmp in_spec es))
    ≡ metas_of path (where_key name_cmp in_spec es)
patterns_stay specs path [] = refl
patterns_stay specs path (e ∷ es) = by (in_spec e.0) refl (where_key name_cmp in_spec es) (patterns_stay specs path es)
  where
    one : (b : Bool) (changed : Entry) (xs ys : List (Name × Entry)) → changed.meta ≡ e.1.meta
        → metas (map (λ key. key.1) xs) ≡ metas (map (λ key. key.1) ys)
        → metas (map (λ key. key.1) (cond b ((e.0, changed) ∷ xs) xs)) ≡ metas (map (λ key. key.1) (cond b (e ∷ ys) ys))
    one true changed xs ys is rest = ap₂ (λ m ms. m ∷ ms) is rest
    one false changed xs ys is rest = rest

    by : (b : Bool) → in_spec e.0 ≡ b → (xs : List (Name × Entry))
        → metas_of path (map (specified_key specs) xs) ≡ metas_of path xs
        → metas_of path (map (specified_key specs) (cond b (e ∷ xs) xs)) ≡ metas_of path (cond b (e ∷ xs) xs)
    by true is xs rest =
        one (is_pattern_of path e.0) (specified_entry specs e.0 e.1) (filter (λ key. is_pattern_of path key.0) (map (specified_key specs) xs)) (filter (λ key. is_pattern_of path key.0) xs) (meta_stays specs e.0 e.1 is) rest
    by false is xs rest = rest

-- the key of a path itself
own_stays : (keys : KeyMap) (path : List Part)
    → metas (option_to_list (finite.get (spec_keys (specified keys)) (spec_name path)))
    ≡ metas (option_to_list (finite.get (spec_keys keys) (spec_name path)))
own_stays keys path =
    ap (λ o. metas (option_to_list o)) (get-spec_keys (specified keys) (spec_name path)
    ∙ ap (λ o. cond (in_spec (spec_name path)) o None) (get-specified keys (spec_name path) ∙ ap (option_map (specified_entry (spec_keys keys) (spec_name path))) (get-with_defaults keys (spec_name path))))
    ∙ by (in_spec (spec_name path)) (finite.get keys (spec_name path))
    ∙ sym (ap (λ o. metas (option_to_list o)) (get-spec_keys keys (spec_name path)))
  where
    by : (b : Bool) (o : Option Entry)
        → metas (option_to_list (cond b (option_map (specified_entry (spec_keys keys) (spec_name path)) o) None))
        ≡ metas (option_to_list (cond b o None))
    by true None = refl
    by true (Some e) = refl
    by false o = refl

-- what a specification says of a path, it says in the specified set too
pub spec_meta-specified : (keys : KeyMap) (path : List Part) → spec_meta (specified keys) path ≡ spec_meta keys path
spec_meta-specified keys path = ap laid_over (
    map-append (λ spec. spec.meta) (option_to_list (finite.get (spec_keys (specified keys)) (spec_name path))) _
    ∙ ap₂ (λ xs ys. xs ++ ys) (own_stays keys path)
    (ap (metas_of path) (entries-specs keys) ∙ patterns_stay (spec_keys keys) path (finite.entries keys) ∙ ap (metas_of path) (sym (entries-spec_keys keys)))
    ∙ sym (map-append (λ spec. spec.meta) (option_to_list (finite.get (spec_keys keys) (spec_name path))) _))
