-- However a run goes on, what it began with stays.
use Rattle.std.proofs.Common.{◌≡◌, ℕ, List, Option, Some, None, ap}
use Rattle.kdb_outside.specs.Images.{Image}
use Rattle.model_crashes.specs.Runs.{Run}
use Rattle.model_maps.specs.KeyMap.{KeyMap}
use Rattle.model_store.specs.Events.{Answer, Memory, Bad, Got, Refused, Ready, Judged, Failed}
use Rattle.model_store.specs.Sets.{Prepared}
use Rattle.model_store.specs.Store.{Store, Formats}
use Rattle.model_store.specs.Verdicts.{Late, Same, Conflict, TooLarge, Invalid, DatabaseFull, HistoryFull, Commits}
use Rattle.store_core.specs.Committing.{BeginsSet, RunsOn}

-- the names of the journal's head, the files, and the count of faults
abbrev pub beginning : Run → List (List ℕ) × Image × ℕ
beginning run = (run.names, run.files, run.faults)

module _ (formats : Formats) (store : Store) (keys : KeyMap) (run later : Run) where
  begun_stays : (set : Option Prepared) → BeginsSet formats store keys run set later → beginning later ≡ beginning run
  begun_stays None begun = absurd begun
  begun_stays (Some set) begun = ap beginning begun.2

  judged_stays : (set : Option Prepared) (front : ℕ) (late : Late)
      → RunsOn formats store keys run set (Judged front late) later → beginning later ≡ beginning run
  judged_stays set front (Same aside) on = ap beginning on
  judged_stays set front (Conflict m by) on = ap beginning on
  judged_stays set front (TooLarge m size) on = ap beginning on
  judged_stays set front (Invalid violation risen) on = ap beginning on
  judged_stays set front (DatabaseFull n) on = ap beginning on
  judged_stays set front (HistoryFull n) on = ap beginning on
  judged_stays set front (Commits commit aside) on = ap beginning on

  pub stays_on : (set : Option Prepared) (answer : Answer) → RunsOn formats store keys run set answer later
      → beginning later ≡ beginning run
  stays_on set Memory on = ap beginning on
  stays_on set (Bad m) on = ap beginning on
  stays_on set (Got front got) on = ap beginning on
  stays_on set (Refused why) on = ap beginning on
  stays_on set Ready on = ap beginning on
  stays_on set (Judged front late) on = judged_stays set front late on
  stays_on set (Failed front) on = begun_stays set on

  pub names-stay : (set : Option Prepared) (answer : Answer) → RunsOn formats store keys run set answer later
      → later.names ≡ run.names
  names-stay set answer on = ap (λ (b : List (List ℕ) × Image × ℕ). b.0) (stays_on set answer on)
