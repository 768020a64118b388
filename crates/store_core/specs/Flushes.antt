-- What `Core::flush` promises. (This project's own.)
use Rattle.std.specs.Prelude.{◌≡◌, ◌≢◌, Bool, true, false, [], Result, Ok, IfOk}
use Rattle.kdb_outside.specs.declared.disks.Disk.{Ghosts}
use Rattle.kdb_outside.specs.declared.faults.Failed.{Failed}
use Rattle.kdb_outside.specs.Faults.{HasCause}
use Rattle.kdb_outside.specs.Frames.{GoesOn}
use Rattle.intent_journal.specs.Outcomes.{HasOnly}
use Rattle.intent_journal.specs.States.{IsSettled}
use Rattle.journal_steps.specs.Moments.{LeavesOnly}
use Rattle.journal_steps.specs.Outcomes.{IsEither}
use Rattle.model_crashes.specs.Runs.{Run, files_of}
use Rattle.store_core.specs.declared.cores.Core.{Core}
use Rattle.store_phases.specs.Stores.{IsStore}

pub record FlushesStore {D P : Type 0} (g : Ghosts D) (old new : Core D P) (result : Result Bool Failed) : Type 0 where
  -- false exactly where no entry waits, and then nothing is done
  pub none : old.journal.list ≡ [] → (new ≡ old) × (result ≡ Ok false)
  pub some : old.journal.list ≢ [] → IfOk result (λ wrote. wrote ≡ true)
  -- what is kept stays
  pub history : new.history ≡ old.history
  pub start : new.start ≡ old.start
  pub keys : new.keys ≡ old.keys
  pub wrote : new.wrote ≡ old.wrote
  pub patterns : new.patterns ≡ old.patterns
  -- and so does the run: each file is as its commits leave it, where the flush wrote them
  pub on_disk : (opened : D) (run : Run) → IsStore g opened old.journal run → IsStore g opened new.journal run
  pub written : (opened : D) (run : Run) → IsStore g opened old.journal run → result ≡ Ok true
      → IsSettled (g.may_leave new.journal.disk) (files_of run)
  pub any_moment : (opened : D) (run : Run) → IsStore g opened old.journal run
      → LeavesOnly g old.journal.disk new.journal.disk (HasOnly (IsEither (files_of run) run.doubt))
  pub goes : GoesOn g old.journal.disk new.journal.disk
  pub cause : HasCause (g.faults old.journal.disk) (g.faults new.journal.disk) result
