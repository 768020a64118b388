-- The tests of globs decide what the relations of `model_names` say.
use Rattle.std.proofs.Common.{◌≡◌, ◌⊎◌, Bool, true, false, ◌||◌, List, [], ◌∷◌, refl, inl, inr}
use Rattle.std.specs.Prelude.{codes}
use Rattle.std.specs.Bool.{Decides}
use Rattle.general_words.proofs.Deciding.{said, decided_both}
use Rattle.general_words.proofs.Texts.{is_text-Decides}
use Rattle.model_names.specs.ArrayPart.{IsArrayPart}
use Rattle.model_names.specs.Glob.{FitsPart, Same, AnyPart, Item, MatchesGlob, HasGlob}
use Rattle.model_names.specs.Name.{Part}
use Rattle.model_specified.specs.Globs.{fits_part, matches_glob, has_glob}

-- two tests decide together what one of them says
decided_either : {P Q : Type 0} (a b : Bool) → Decides a P → Decides b Q → Decides (a || b) (P ⊎ Q)
decided_either true b p q = (λ e. inl (p.0 refl), λ h. refl)
decided_either {P = P} {Q = Q} false b p q = (λ e. inr (q.0 e), back)
  where
    back : P ⊎ Q → b ≡ true
    back (inl h) = let clash : false ≡ true = p.1 h in absurd cc
    back (inr h) = q.1 h

abbrev Fits : Part → Part → Type 0
Fits part pattern = (part ≡ pattern) ⊎ ((pattern ≡ codes "_") ⊎ ((pattern ≡ codes "#") × IsArrayPart part))

fits : (part pattern : Part) → Fits part pattern → FitsPart part pattern
fits part pattern (inl e) = Same e
fits part pattern (inr (inl e)) = AnyPart e
fits part pattern (inr (inr h)) = Item h.0 h.1

said_fits : (part pattern : Part) → FitsPart part pattern → Fits part pattern
said_fits part pattern (Same e) = inl e
said_fits part pattern (AnyPart e) = inr (inl e)
said_fits part pattern (Item e h) = inr (inr (e, h))

pub fits_part-Decides : (part pattern : Part) → Decides (fits_part part pattern) (FitsPart part pattern)
fits_part-Decides part pattern =
    said (fits_part part pattern) (fits part pattern) (said_fits part pattern)
    (decided_either _ _ (is_text-Decides part pattern) (decided_either _ _ (is_text-Decides pattern (codes "_")) (decided_both _ _ (is_text-Decides pattern (codes "#")) (λ e. e, λ e. e))))

pub matches_glob-Decides : (parts patterns : List Part)
    → Decides (matches_glob parts patterns) (MatchesGlob parts patterns)
matches_glob-Decides [] [] = (λ e. tt, λ h. refl)
matches_glob-Decides [] (pattern ∷ patterns) = (λ e. absurd cc, λ h. absurd h)
matches_glob-Decides (part ∷ parts) [] = (λ e. absurd cc, λ h. absurd h)
matches_glob-Decides (part ∷ parts) (pattern ∷ patterns) =
    decided_both (fits_part part pattern) (matches_glob parts patterns) (fits_part-Decides part pattern) (matches_glob-Decides parts patterns)

pub has_glob-Decides : (parts : List Part) → Decides (has_glob parts) (HasGlob parts)
has_glob-Decides [] = (λ e. absurd cc, λ h. absurd h)
has_glob-Decides (part ∷ parts) =
    decided_either _ (has_glob parts) (decided_either _ _ (is_text-Decides part (codes "_")) (is_text-Decides part (codes "#"))) (has_glob-Decides parts)
