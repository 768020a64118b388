-- When an answer to a commit may come: a fault of the disk only where the disk's count rose, and a refused pattern only
-- where the matcher's did. (This project's own.)
use Rattle.std.specs.Prelude.{◌≡◌, ℕ, ◌≤◌, length, Err}
use Rattle.kdb_outside.specs.Faults.{HasRisen}
use Rattle.model_rules.specs.Rules.{longest_pattern}
use Rattle.store_core.specs.declared.committing.CommitFault.TheVariants.{Invalid, DiskFault}
use Rattle.store_play.specs.declared.events.Answer.{Answer}
use Rattle.store_play.specs.declared.events.Answer.TheVariants.{Committed}

-- an answer has its cause, by the disk's count of faults and the matcher's count of refusals, each before and after
abbrev pub IsCaused : ℕ → ℕ → ℕ → ℕ → Answer → Type 0
IsCaused faults now refusals later (Committed (Err (DiskFault front))) = HasRisen faults now
IsCaused faults now refusals later (Committed (Err (Invalid violation front))) =
    violation.rule ≡ 6 → length violation.given ≤ longest_pattern → HasRisen refusals later
IsCaused faults now refusals later answer = Unit {0}
