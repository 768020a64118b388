-- The causes of answers: of one commit, and over more time than it took.
use Rattle.std.proofs.Common.{◌≡◌, ℕ, ◌≤◌, All, List, [], ◌∷◌, ◌++◌, length, Result, Ok, Err, refl, arith}
use Rattle.std.proofs.lemmas.List.Elements.{All-push, All-same, All-weaker}
use Rattle.std.specs.Prelude.{IfOk}
use Rattle.kdb_outside.specs.declared.disks.Disk.{Ghosts}
use Rattle.kdb_outside.specs.Faults.{HasRisen}
use Rattle.kdb_outside.specs.Frames.{GoesOn}
use Rattle.kdb_outside.proofs.Rises.{risen_since, risen_still}
use Rattle.model_rules.specs.Rules.{longest_pattern}
use Rattle.model_specified.specs.declared.violations.Violation.{Violation}
use Rattle.store_core.specs.declared.committing.CommitFault.{CommitFault}
use Rattle.store_core.specs.declared.committing.CommitFault.TheVariants as fault
use Rattle.store_core.specs.declared.committing.Done.{Done}
use Rattle.store_core.specs.declared.faults.OpenRefused.{OpenRefused}
use Rattle.store_play.specs.Causes.{IsCaused}
use Rattle.store_play.specs.Ran.{disk_of}
use Rattle.store_play.specs.declared.events.Answer.{Answer}
use Rattle.store_play.specs.declared.events.Answer.TheVariants as told
use Rattle.store_play.specs.declared.running.Ran.{Ran}

-- a commit's answer has the causes that the commit tells
pub commit_caused : (faults now refusals later : ℕ) (result : Result Done CommitFault)
    → ((front : ℕ) → result ≡ Err (fault.DiskFault front) → HasRisen faults now)
    → ((violation : Violation) (front : ℕ) → result ≡ Err (fault.Invalid violation front) → violation.rule ≡ 6 → length violation.given ≤ longest_pattern → HasRisen refusals later)
    → IsCaused faults now refusals later (told.Committed result)
commit_caused faults now refusals later (Ok done) cause refused = tt
commit_caused faults now refusals later (Err (fault.Conflict mount by front)) cause refused = tt
commit_caused faults now refusals later (Err (fault.FileTooLarge mount bytes front)) cause refused = tt
commit_caused faults now refusals later (Err (fault.Invalid violation front)) cause refused =
    refused violation front refl
commit_caused faults now refusals later (Err (fault.DatabaseFull weight front)) cause refused = tt
commit_caused faults now refusals later (Err (fault.HistoryFull weight front)) cause refused = tt
commit_caused faults now refusals later (Err (fault.DiskFault front)) cause refused = cause front refl
commit_caused faults now refusals later (Err fault.Memory) cause refused = tt

-- ---- over more time

module _ (first faults now last before refusals later end : ℕ) (began : first ≤ faults) (went : faults ≤ now) (ended : now ≤ last) (first_told : before ≤ refusals) (then_told : refusals ≤ later) (last_told : later ≤ end) where
  failed : HasRisen faults now → HasRisen first last
  failed risen = risen_still first now last (omega arith) ended (risen_since first faults now began risen)

  refused : HasRisen refusals later → HasRisen before end
  refused risen =
      risen_still before later end (omega arith) last_told (risen_since before refusals later first_told risen)

  pub caused_over : (answer : Answer) → IsCaused faults now refusals later answer
      → IsCaused first last before end answer
  caused_over (told.Got result) caused = tt
  caused_over (told.Prepared result) caused = tt
  caused_over (told.Skipped why) caused = tt
  caused_over (told.Committed (Ok done)) caused = tt
  caused_over (told.Committed (Err (fault.Conflict mount by front))) caused = tt
  caused_over (told.Committed (Err (fault.FileTooLarge mount bytes front))) caused = tt
  caused_over (told.Committed (Err (fault.Invalid violation front))) caused = λ six short. refused (caused six short)
  caused_over (told.Committed (Err (fault.DatabaseFull weight front))) caused = tt
  caused_over (told.Committed (Err (fault.HistoryFull weight front))) caused = tt
  caused_over (told.Committed (Err (fault.DiskFault front))) caused = failed caused
  caused_over (told.Committed (Err fault.Memory)) caused = tt

  pub all_caused_over : (answers : List Answer) → All (IsCaused faults now refusals later) answers
      → All (IsCaused first last before end) answers
  all_caused_over answers all =
      All-weaker (IsCaused faults now refusals later) (IsCaused first last before end) caused_over answers all

-- one answer more
pub caused_next : (faults now last refusals later end : ℕ) (answers more : List Answer) (answer : Answer) → faults ≤ now
    → now ≤ last → refusals ≤ later → later ≤ end → more ≡ answers ++ answer ∷ []
    → All (IsCaused faults now refusals later) answers → IsCaused now last later end answer
    → All (IsCaused faults last refusals end) more
caused_next faults now last refusals later end answers more answer went ended told last_told is all next =
    All-same (IsCaused faults last refusals end) more (answers ++ answer ∷ []) is (All-push (IsCaused faults last refusals end) answers answer
    (all_caused_over faults faults now last refusals refusals later end (omega arith) went ended (omega arith) told last_told answers all)
    (caused_over faults now last last refusals later end end went ended (omega arith) told last_told (omega arith) answer next))

-- the answers of a run, from before its opening on
pub caused_behind : {D P : Type 0} (g : Ghosts D) (refusals : P → ℕ) (disk opened : D) (patterns held : P)
    (result : Result (Ran D P) (OpenRefused D P)) → g.faults disk ≤ g.faults opened → refusals held ≡ refusals patterns
    → GoesOn g opened (disk_of result) → IfOk result (λ ran. refusals held ≤ refusals ran.patterns)
    → IfOk result (λ ran. All (IsCaused (g.faults opened) (g.faults ran.disk) (refusals held) (refusals ran.patterns)) ran.answers)
    → IfOk result (λ ran. All (IsCaused (g.faults disk) (g.faults ran.disk) (refusals patterns) (refusals ran.patterns)) ran.answers)
caused_behind g refusals disk opened patterns held (Ok ran) first same goes later all =
    all_caused_over (g.faults disk) (g.faults opened) (g.faults ran.disk) (g.faults ran.disk) (refusals patterns) (refusals held) (refusals ran.patterns) (refusals ran.patterns)
    first goes.later (omega arith) (omega arith) later (omega arith) ran.answers all
caused_behind g refusals disk opened patterns held (Err refused) first same goes later all = tt
