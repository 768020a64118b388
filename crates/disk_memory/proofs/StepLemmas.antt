-- One more step, or one more change, behind those so far. This project's own.
use Rattle.std.proofs.Common.{◌≡◌, ◌≢◌, Bool, true, false, cond, List, ℕ, [], ◌∷◌, ◌++◌, bytes_eq, refl, sym, ap, ◌∙◌, subst}
use Rattle.std.proofs.lemmas.Bool.{cond-true, cond-false}
use Rattle.disk_memory.specs.declared.changes.Change.{Change}
use Rattle.disk_memory.specs.declared.changes.Step.{Step}
use Rattle.disk_memory.specs.Steps.{steps_of, after, after_all, Leaves, LeavesAfter}
use Rattle.disk_memory.proofs.Named.{is_this_name, is_other_name}

-- what a read gives after one more step
pub after_all-push : (seen : List ℕ) (steps : List Step) (step : Step)
    → after_all seen (steps ++ step ∷ []) ≡ after (after_all seen steps) step
after_all-push seen [] step = refl
after_all-push seen (first ∷ steps) step = after_all-push (after seen first) steps step

-- what a crash behind one more step may leave came by it
pub LeavesAfter-last : (seen former : List ℕ) (steps : List Step) (step : Step) (now : List ℕ)
    → LeavesAfter seen former (steps ++ step ∷ []) now
    → (before : List ℕ) × LeavesAfter seen former steps before × Leaves step (after_all seen steps) before now
LeavesAfter-last seen former [] step now left = (former, refl, subst (Leaves step seen former) (sym left.2) left.1)
LeavesAfter-last seen former (first ∷ steps) step now left =
    let rest = LeavesAfter-last (after seen first) left.0 steps step now left.2 in
    (rest.0, (left.0, left.1, rest.1), rest.2)

-- a step behind, or none
step_behind : (b : Bool) (first last : Step) (steps : List Step)
    → cond b (first ∷ (steps ++ last ∷ [])) (steps ++ last ∷ []) ≡ cond b (first ∷ steps) steps ++ last ∷ []
step_behind true first last steps = refl
step_behind false first last steps = refl

-- the steps of the file that changed
steps_of-named : (file : List ℕ) (past : List Change) (change : Change) → bytes_eq change.file file ≡ true
    → steps_of file (past ++ change ∷ []) ≡ steps_of file past ++ change.step ∷ []
steps_of-named file [] change named = cond-true _ _ _ named
steps_of-named file (first ∷ past) change named =
    ap (λ steps. cond (bytes_eq first.file file) (first.step ∷ steps) steps) (steps_of-named file past change named)
    ∙ step_behind (bytes_eq first.file file) first.step change.step (steps_of file past)

-- the steps of a file that didn't
steps_of-not_named : (file : List ℕ) (past : List Change) (change : Change) → bytes_eq change.file file ≡ false
    → steps_of file (past ++ change ∷ []) ≡ steps_of file past
steps_of-not_named file [] change differ = cond-false _ _ _ differ
steps_of-not_named file (first ∷ past) change differ =
    ap (λ steps. cond (bytes_eq first.file file) (first.step ∷ steps) steps) (steps_of-not_named file past change differ)

-- the file that changed has one more step
pub steps_of-push : (past : List Change) (change : Change)
    → steps_of change.file (past ++ change ∷ []) ≡ steps_of change.file past ++ change.step ∷ []
steps_of-push past change = steps_of-named change.file past change (is_this_name change.file)

-- every other file has the same steps
pub steps_of-push_other : (past : List Change) (change : Change) (other : List ℕ) → other ≢ change.file
    → steps_of other (past ++ change ∷ []) ≡ steps_of other past
steps_of-push_other past change other differ =
    steps_of-not_named other past change (is_other_name change.file other differ)
