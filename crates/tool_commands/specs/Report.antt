-- What a run tells: its status, and the bytes that it puts on out and on err. (This project's own.)
use Rattle.std.specs.Prelude.{◌≡◌, ◌≢◌, ◌⊎◌, ◌<◌, ℕ, List, [], ◌∷◌}
use Rattle.std.specs.List.{flat_map}
use Rattle.model_specified.specs.declared.violations.Violation.{Violation}
use Rattle.tool_commands.specs.Lines.{line, line_of_violation}

-- what a run tells: its status, and what it puts on out and on err
pub record Report : Type 0 where
  pub status : ℕ
  pub out : List ℕ
  pub err : List ℕ

-- the command was done, and puts this on out
abbrev pub told : List ℕ → Report
told out = record { status = 0; out = out; err = [] }

-- the command was refused, with one line on err
abbrev pub warned : ℕ → List ℕ → Report
warned status text = record { status = status; out = []; err = line text }

-- a merge met conflicts, and puts their lines on out
abbrev pub met : List ℕ → Report
met out = record { status = 12; out = out; err = [] }

-- keys break rules, and this is put on out
abbrev pub found : List ℕ → Report
found out = record { status = 13; out = out; err = [] }

-- what `validate` tells of some violations: a line for each, and a status of its own where there is one
abbrev pub checked : List Violation → Report
checked [] = told []
checked (violation ∷ violations) = found (flat_map line_of_violation (violation ∷ violations))

-- the status of a run that ended neither in want of memory nor in a fault
abbrev pub IsAnswered : ℕ → Type 0
IsAnswered status = (status ≢ 70) × (status ≢ 74)

-- a status is one of some
abbrev pub IsOneOf : List ℕ → ℕ → Type 0
IsOneOf [] status = ⊥
IsOneOf (one ∷ others) status = (status ≡ one) ⊎ IsOneOf others status

-- how a command ends that reached the files: with 0 where it is done, 5 where the store refuses, or a status of its
-- own, which is none of want of memory or of a fault
abbrev pub IsEnd : List ℕ → ℕ → Type 0
IsEnd own status = IsOneOf (0 ∷ 5 ∷ own) status × (status < 70)
