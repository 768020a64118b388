-- Metadata laid over other item by item.
use Rattle.std.proofs.Common.{◌≡◌, ℕ, true, false, cond, List, [], ◌∷◌, Option, Some, None, refl, sym, ap, ◌∙◌}
use Rattle.std.specs.Prelude.{is_some}
use Rattle.std.specs.FinMap as map
use Rattle.std.specs.FinMap.{find}
use Rattle.std.specs.Option.{option_or}
use Rattle.std.specs.Ordering.{eq_by_cmp}
use Rattle.general_words.specs.Texts.{text_cmp}
use Rattle.general_words.proofs.Orders.{tied}
use Rattle.general_words.proofs.Texts.{text_cmp-total, text_cmp-IsAntisymmetric}
use Rattle.general_words.proofs.Searches.{or_none}
use Rattle.model_maps.specs.Entry.{Meta}
use Rattle.model_specified.specs.SpecMeta.{laid_over}
use Rattle.model_specified.proofs.LaidOver.{get-over}
use Rattle.plugin_chain.specs.Steps.{with_missing}

-- what is found in metadata, or else among items
abbrev pub found_over : Meta → List (List ℕ × List ℕ) → List ℕ → Option (List ℕ)
found_over meta items q = option_or (map.get meta q) (find text_cmp q items)

-- metadata that finds what other finds with all of a third behind it is laid over that
pub laid_over_all : (old other new : Meta) → ((q : List ℕ) → found_over new [] q ≡ found_over old (map.entries other) q)
    → new ≡ laid_over (old ∷ other ∷ [])
laid_over_all old other new each = map.same_map text_cmp-total text_cmp-IsAntisymmetric new (laid_over (old ∷ other ∷ [])) (λ q.
    sym (or_none (map.get new q))
    ∙ each q
    ∙ ap (option_or (map.get old q)) (sym (map.get-entries other q))
    ∙ sym (get-over old other q))

-- a text that is missing is found where it was before, behind the metadata
pub found_over-next : (meta : Meta) (name text : List ℕ) (items : List (List ℕ × List ℕ)) (q : List ℕ)
    → found_over (with_missing name text meta) items q ≡ found_over meta ((name, text) ∷ items) q
found_over-next meta name text items q = by (map.get meta name) refl
  where
    rest : Option (List ℕ)
    rest = find text_cmp q items

    same_name : eq_by_cmp text_cmp q name ≡ true → q ≡ name
    same_name same = text_cmp-IsAntisymmetric q name (tied _ same)

    by : (o : Option (List ℕ)) → map.get meta name ≡ o
        → option_or (map.get (cond (is_some o) meta (map.insert meta name text)) q) rest
        ≡ option_or (map.get meta q) (cond (eq_by_cmp text_cmp q name) (Some text) rest)
    by (Some had) is = elim (eq_by_cmp text_cmp q name) as (λ b. eq_by_cmp text_cmp q name ≡ b → option_or (map.get meta q) rest ≡ option_or (map.get meta q) (cond b (Some text) rest)) [
      | true ↦ λ same.
          let there : map.get meta q ≡ Some had = ap (map.get meta) (same_name same) ∙ is in
          ap (λ o. option_or o rest) there ∙ sym (ap (λ o. option_or o (Some text)) there)
      | false ↦ λ other. refl
    ] refl
    by None is = ap (λ o. option_or o rest) (map.get-insert text_cmp-total meta name text q) ∙ elim (eq_by_cmp text_cmp q name) as (λ b. eq_by_cmp text_cmp q name ≡ b → option_or (cond b (Some text) (map.get meta q)) rest ≡ option_or (map.get meta q) (cond b (Some text) rest)) [
      | true ↦ λ same.
          let none : map.get meta q ≡ None = ap (map.get meta) (same_name same) ∙ is in
          sym (ap (λ o. option_or o (Some text)) none)
      | false ↦ λ other. refl
    ] refl
