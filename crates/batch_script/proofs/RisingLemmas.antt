-- The sessions of a phase are some of the numbers of sessions, in their order.
use Rattle.std.specs.Prelude.{ℕ, zero, suc, ◌+◌, ◌≤◌, List, [], ◌∷◌, map, filter_map, None}
use Rattle.std.specs.List.{cons_option, range_with_len, AllByRecursion}
use Rattle.std.proofs.Common.{arith}
use Rattle.batch_script.specs.declared.items.Item.{Item}
use Rattle.batch_script.specs.declared.steps.Phase as phase
use Rattle.batch_script.specs.declared.steps.Step.{Step}
use Rattle.batch_script.specs.declared.steps.Steps.{Steps}
use Rattle.batch_script.specs.Phases.{phase_of, steps_behind, with_steps}
use Rattle.batch_script.specs.Rows.{most_sessions}
use Rattle.batch_script.specs.Rising.{AreAscending, IsRising}

abbrev number_of : Steps → ℕ
number_of steps = steps.session

abbrev some_of : (ℕ → List Step) → ℕ → ℕ → List Steps
some_of steps first count = filter_map (λ session. with_steps session (steps session)) (range_with_len first count)

rising-less : (least : ℕ) (ns : List ℕ) → IsRising (least + 1) ns → IsRising least ns
rising-less least [] h = tt
rising-less least (n ∷ ns) h = (omega (arith, h.0), h.1)

rising-of : (steps : ℕ → List Step) (count first : ℕ) → IsRising first (map number_of (some_of steps first count))
rising-of steps zero first = tt
rising-of steps (suc count) first =
    by (steps first) (some_of steps (first + 1) count) (rising-of steps count (first + 1))
  where
    by : (own : List Step) (rest : List Steps) → IsRising (first + 1) (map number_of rest)
        → IsRising first (map number_of (cons_option (with_steps first own) rest))
    by [] rest h = rising-less first (map number_of rest) h
    by (step ∷ own) rest h = (omega arith, h)

most-of : (steps : ℕ → List Step) (last count first : ℕ) → first + count ≤ last + 1
    → AllByRecursion (λ (s : Steps). s.session ≤ last) (some_of steps first count)
most-of steps last zero first within = tt
most-of steps last (suc count) first within =
    by (steps first) (some_of steps (first + 1) count) (most-of steps last count (first + 1) (omega (arith, within)))
  where
    by : (own : List Step) (rest : List Steps) → AllByRecursion (λ (s : Steps). s.session ≤ last) rest
        → AllByRecursion (λ (s : Steps). s.session ≤ last) (cons_option (with_steps first own) rest)
    by [] rest h = h
    by (step ∷ own) rest h = (omega (arith, within), h)

pub phase-ascends : (items : List Item) → AreAscending (phase_of items).sessions
phase-ascends items =
    let steps = λ (session : ℕ). steps_behind session None items in
    record {
      rising = rising-of steps most_sessions 1;
      most = most-of steps most_sessions most_sessions 1 (omega arith);
    }

pub phases-ascend : (phases : List (List Item))
    → AllByRecursion (λ (p : phase.Phase). AreAscending p.sessions) (map phase_of phases)
phases-ascend [] = tt
phases-ascend (items ∷ phases) = (phase-ascends items, phases-ascend phases)
