-- Each turn adds one more part.
use Rattle.std.proofs.Common.{◌∷◌, [], ap, sym, ◌∙◌}
use Rattle.std.specs.FinMap as map
use Rattle.std.proofs.lemmas.List.{map-append}
use Rattle.set_split.specs.declared.parts.Part.{Part}
use Rattle.set_split.specs.Seen.{maps_of}
use Rattle.set_split.specs.Union.{last_entry}
use Rattle.set_split.proofs.UnionLemmas.{IsUnion-none, IsUnion-next}
use Rattle.set_split.proofs.uniting.unite.Goals as goal

pub loop-part-init : goal.loop-part-init
loop-part-init c = λ name. ap (λ m. map.get m name) c.new-keys.ensures ∙ IsUnion-none name

pub loop-part-preserved : goal.loop-part-preserved
loop-part-preserved c = λ name.
    IsUnion-next (maps_of c.loop-part.yielded) c.loop-part.keys c.in-Some.part.keys c.add_all.new.keys c.loop-part.invariant c.in_ok-add_all.ensures name
    ∙ ap (λ maps. last_entry maps name) (sym (map-append (λ (part : Part). part.keys) c.loop-part.yielded (c.in-Some.part ∷ [])))
