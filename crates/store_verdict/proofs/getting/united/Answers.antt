-- What is split and united again are the keys in reach.
use Rattle.std.proofs.Common.{◌≡◌, ℕ, List, [], ◌∷◌, map as over, refl, ap, subst, ◌∙◌}
use Rattle.std.proofs.lemmas.Result.{IfOk-weaker}
use Rattle.model_maps.specs.KeyMap.{KeyMap}
use Rattle.set_split.specs.Seen.{maps_of, numbered}
use Rattle.set_split.specs.Union.{IsUnion}
use Rattle.set_split.specs.declared.parts.Part.{Part}
use Rattle.set_split.proofs.UnionLemmas.{united-again}
use Rattle.store_verdict.proofs.getting.united.Goals as goal

maps-numbered : (parts : List Part) → maps_of parts ≡ over (λ (part : ℕ × KeyMap). part.1) (numbered parts)
maps-numbered [] = refl
maps-numbered (part ∷ parts) = ap (λ l. part.keys ∷ l) (maps-numbered parts)

pub returns : goal.returns
returns c =
    IfOk-weaker c.unite.result _ _ (λ found union points parent keys parts. united-again points parent keys found
    (subst (λ (maps : List KeyMap). IsUnion maps found) (ap maps_of (ap (λ (parts : _). parts.parts) c.in_ok-copy.ensures) ∙ maps-numbered c.args.parts.now.parts ∙ ap (over (λ (part : ℕ × KeyMap). part.1)) parts) union))
    c.unite.ensures
