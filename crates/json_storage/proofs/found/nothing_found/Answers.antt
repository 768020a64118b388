use Rattle.std.proofs.Common.{sym, subst}
use Rattle.model_maps.specs.KeyMap.{KeyMap}
use Rattle.json_storage.specs.Found.{IsSound}
use Rattle.json_storage.proofs.TextLemmas.{nothing-sound}
use Rattle.json_storage.proofs.found.nothing_found.Goals as goal

pub returns-clause-sound : goal.returns-clause-sound
returns-clause-sound c =
    subst (λ (keys : KeyMap). IsSound (record { keys = keys; weight = 0 })) (sym c.new.ensures) nothing-sound
