-- What metadata laid over other has at a name.
use Rattle.std.proofs.Common.{◌≡◌, ℕ, List, [], ◌∷◌, refl, sym, ap, ap₂, ◌∙◌}
use Rattle.std.specs.FinMap as map
use Rattle.std.specs.FinMap.{find}
use Rattle.std.specs.List.{flat_map}
use Rattle.std.specs.Option.{option_or}
use Rattle.general_words.specs.Searches.{first_some}
use Rattle.general_words.specs.Texts.{text_cmp}
use Rattle.general_words.proofs.Texts.{text_cmp-total, text_cmp-IsAntisymmetric}
use Rattle.general_words.proofs.Searches.{or_none, or_assoc}
use Rattle.general_words.proofs.Entries.{find-both}
use Rattle.model_maps.specs.Entry.{Meta}
use Rattle.model_specified.specs.SpecMeta.{laid_over}

found : (metas : List Meta) (name : List ℕ)
    → find text_cmp name (flat_map (λ meta. map.entries meta) metas) ≡ first_some (λ meta. map.get meta name) metas
found [] name = refl
found (meta ∷ metas) name =
    find-both text_cmp (map.entries meta) (flat_map (λ other. map.entries other) metas) name
    ∙ ap₂ option_or (sym (map.get-entries meta name)) (found metas name)

pub get-laid_over : (metas : List Meta) (name : List ℕ)
    → map.get (laid_over metas) name ≡ first_some (λ meta. map.get meta name) metas
unfolding laid_over
get-laid_over metas name =
    map.get-from_entries text_cmp-total (flat_map (λ meta. map.entries meta) metas) name ∙ found metas name

-- of two
pub get-over : (upper lower : Meta) (name : List ℕ)
    → map.get (laid_over (upper ∷ lower ∷ [])) name ≡ option_or (map.get upper name) (map.get lower name)
get-over upper lower name =
    get-laid_over (upper ∷ lower ∷ []) name ∙ ap (option_or (map.get upper name)) (or_none (map.get lower name))

same_meta : (a b : Meta) → ((name : List ℕ) → map.get a name ≡ map.get b name) → a ≡ b
same_meta a b h = map.same_map text_cmp-total text_cmp-IsAntisymmetric a b h

pub laid_over-none : laid_over [] ≡ map.empty
laid_over-none = same_meta (laid_over []) map.empty (λ q. get-laid_over [] q ∙ sym (map.get-empty text_cmp q))

pub laid_over-alone : (meta : Meta) → laid_over (meta ∷ []) ≡ meta
laid_over-alone meta =
    same_meta (laid_over (meta ∷ [])) meta (λ q. get-laid_over (meta ∷ []) q ∙ or_none (map.get meta q))

-- nothing over metadata
pub laid_over-empty : (metas : List Meta) → laid_over (map.empty ∷ metas) ≡ laid_over metas
laid_over-empty metas = same_meta (laid_over (map.empty ∷ metas)) (laid_over metas) (λ q.
    get-laid_over (map.empty ∷ metas) q ∙ ap (λ o. option_or o (first_some (λ meta. map.get meta q) metas)) (map.get-empty text_cmp q) ∙ sym (get-laid_over metas q))

-- the first two of some may be laid over each other before
pub laid_over-next : (upper lower : Meta) (metas : List Meta)
    → laid_over (laid_over (upper ∷ lower ∷ []) ∷ metas) ≡ laid_over (upper ∷ lower ∷ metas)
laid_over-next upper lower metas = same_meta (laid_over (laid_over (upper ∷ lower ∷ []) ∷ metas)) (laid_over (upper ∷ lower ∷ metas)) (λ q.
    get-laid_over (laid_over (upper ∷ lower ∷ []) ∷ metas) q
    ∙ ap (λ o. option_or o (first_some (λ meta. map.get meta q) metas)) (get-over upper lower q)
    ∙ or_assoc (map.get upper q) (map.get lower q) (first_some (λ meta. map.get meta q) metas)
    ∙ sym (get-laid_over (upper ∷ lower ∷ metas) q))
