use Rattle.std.proofs.Common.{cond, take, ap, ◌-◌, ◌∙◌}
use Rattle.std.specs.FinMap as map
use Rattle.model_history.specs.History.{replay}
use Rattle.model_undo.specs.Undoing.{changes_made}
use Rattle.model_undo.proofs.UndoLemmas.{get-turned_back}
use Rattle.model_undo.proofs.laws.an_inverse_sets_the_names_of_its_commit_back.Goals as goal

pub returns-clause-back : goal.returns-clause-back
returns-clause-back c = λ start keys history number name is.
    let before = replay start (take (number - 1) history) in
    get-turned_back before (changes_made history number) keys name
    ∙ ap (λ b. cond b (map.get before name) (map.get keys name)) is

pub returns-clause-other : goal.returns-clause-other
returns-clause-other c = λ start keys history number name is.
    let before = replay start (take (number - 1) history) in
    get-turned_back before (changes_made history number) keys name
    ∙ ap (λ b. cond b (map.get before name) (map.get keys name)) is
