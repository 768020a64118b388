-- Layers laid together, one by one.
use Rattle.std.proofs.Common.{◌≡◌, ℕ, ◌+◌, ◌<◌, ◌≤◌, drop, get_or, List, [], ◌∷◌, ◌++◌, length, map, sym, ap, ◌∙◌}
use Rattle.std.specs.FinMap as finite
use Rattle.std.proofs.lemmas.List.{drop_all, drop_more, map-append, nil_from_length}
use Rattle.general_words.specs.Texts.{text_cmp}
use Rattle.general_words.proofs.Texts.{text_cmp-total, text_cmp-IsAntisymmetric}
use Rattle.general_words.proofs.Searches.{or_none}
use Rattle.model_maps.specs.Entry.{Meta}
use Rattle.model_specified.specs.SpecMeta.{laid_over}
use Rattle.model_specified.proofs.LaidOver.{get-over, laid_over-alone, laid_over-empty, laid_over-next, laid_over-none}
use Rattle.plugin_chain.specs.declared.layers.Layer.{Layer}
use Rattle.plugin_chain.specs.Layers.{laid, meta_of}
use Rattle.std.specs.Option.{option_or}

-- over nothing
over_empty : (upper : Meta) → laid_over (upper ∷ finite.empty ∷ []) ≡ upper
over_empty upper = finite.same_map text_cmp-total text_cmp-IsAntisymmetric (laid_over (upper ∷ finite.empty ∷ [])) upper (λ q.
    get-over upper finite.empty q ∙ ap (option_or (finite.get upper q)) (finite.get-empty text_cmp q) ∙ or_none (finite.get upper q))

below_all : (upper : Meta) (metas : List Meta) (lowest : Meta)
    → laid_over (upper ∷ (metas ++ lowest ∷ [])) ≡ laid_over (laid_over (upper ∷ metas) ∷ lowest ∷ [])
below_all upper [] lowest = ap (λ m. laid_over (m ∷ lowest ∷ [])) (sym (laid_over-alone upper))
below_all upper (meta ∷ metas) lowest =
    sym (laid_over-next upper meta (metas ++ lowest ∷ []))
    ∙ below_all (laid_over (upper ∷ meta ∷ [])) metas lowest
    ∙ ap (λ m. laid_over (m ∷ lowest ∷ [])) (laid_over-next upper meta metas)

-- one below some
below : (metas : List Meta) (lowest : Meta)
    → laid_over (metas ++ lowest ∷ []) ≡ laid_over (laid_over metas ∷ lowest ∷ [])
below [] lowest = sym (ap (λ m. laid_over (m ∷ lowest ∷ [])) laid_over-none ∙ laid_over-empty (lowest ∷ []))
below (upper ∷ metas) lowest = below_all upper metas lowest

-- a layer more
pub one_more : (layers after : List Layer) (layer : Layer) → after ≡ layers ++ layer ∷ []
    → laid after ≡ laid_over (laid layers ∷ meta_of layer ∷ [])
one_more layers after layer is =
    ap laid is ∙ ap laid_over (map-append meta_of layers (layer ∷ [])) ∙ below (map meta_of layers) (meta_of layer)

-- metadata without a name adds nothing
pub bare_more : (upper meta : Meta) → length (finite.entries meta) ≡ 0 → upper ≡ laid_over (upper ∷ meta ∷ [])
bare_more upper meta bare =
    sym (ap (λ m. laid_over (upper ∷ m ∷ [])) (finite.empty_of_len meta (finite.len-entries meta ∙ bare)) ∙ over_empty upper)

-- no layer
pub laid-none : (layers : List Layer) → length layers ≡ 0 → laid layers ≡ finite.empty
laid-none layers none = ap laid (nil_from_length layers none) ∙ laid_over-none

-- one layer alone
pub laid-one : (layers : List Layer) (layer : Layer) → length layers ≡ 1 → layer ≡ get_or layers 0 layer
    → meta_of layer ≡ laid layers
laid-one [] layer one is = absurd cc
laid-one (l ∷ []) layer one is = ap meta_of is ∙ sym (laid_over-alone (meta_of l))
laid-one (l ∷ m ∷ layers) layer one is = absurd cc

-- the first below none
pub first_more : (layers before : List Layer) (meta : Meta) → before ≡ []
    → laid layers ≡ laid_over (laid before ∷ meta ∷ []) → laid layers ≡ meta
first_more layers before meta none is =
    is ∙ ap (λ ls. laid_over (laid ls ∷ meta ∷ [])) none ∙ ap (λ m. laid_over (m ∷ meta ∷ [])) laid_over-none
    ∙ laid_over-empty (meta ∷ []) ∙ laid_over-alone meta

-- a step of a walk that lays the others below what was laid so far
pub lay_next : (layers : List Layer) (i : ℕ) (layer : Layer) (meta after all : Meta) → i < length layers
    → layer ≡ get_or layers i layer → after ≡ laid_over (meta ∷ meta_of layer ∷ [])
    → laid_over (meta ∷ map meta_of (drop i layers)) ≡ all → laid_over (after ∷ map meta_of (drop (i + 1) layers)) ≡ all
lay_next layers i layer meta after all lt is made so_far =
    let rest = map meta_of (drop (i + 1) layers) in
    ap (λ m. laid_over (m ∷ rest)) made
    ∙ laid_over-next meta (meta_of layer) rest
    ∙ ap (λ (l : Layer). laid_over (meta ∷ meta_of l ∷ rest)) is
    ∙ sym (ap (λ ls. laid_over (meta ∷ map meta_of ls)) (drop_more layers i layer lt))
    ∙ so_far

pub lay_last : (layers : List Layer) (i : ℕ) (meta all : Meta) → length layers ≤ i
    → laid_over (meta ∷ map meta_of (drop i layers)) ≡ all → meta ≡ all
lay_last layers i meta all le so_far =
    sym (laid_over-alone meta) ∙ sym (ap (λ ls. laid_over (meta ∷ map meta_of ls)) (drop_all i layers le)) ∙ so_far
