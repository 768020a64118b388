-- A store from its opening to its close.
use Rattle.std.proofs.Common.{◌≡◌, ℕ, ◌≤◌, Bool, List, [], ◌∷◌, length, Option, Some, None, Result, Ok, Err, ◌≢◌, inl, inr, true, false, refl, sym, ap, subst, ◌∙◌}
use Rattle.std.specs.Prelude.{IfErr, IfOk}
use Rattle.kdb_outside.specs.Crashes.{EveryImage}
use Rattle.kdb_outside.specs.Faults.{HasRisen}
use Rattle.kdb_outside.specs.Frames.{GoesOn}
use Rattle.kdb_outside.specs.Images.{Image}
use Rattle.kdb_outside.specs.declared.disks.Disk.{Ghosts}
use Rattle.kdb_outside.proofs.Rises.{risen_since, risen_still}
use Rattle.intent_journal.specs.Opened.{opened_files}
use Rattle.journal_steps.specs.Moments.{LeavesOnly}
use Rattle.intent_journal.specs.Outcomes.{HasOnly}
use Rattle.journal_steps.specs.Outcomes.{IsEither}
use Rattle.intent_journal.specs.States.{IsCalm}
use Rattle.journal_codec.specs.declared.files.FileText.{FileText}
use Rattle.model_crashes.specs.Runs.{Run, IsReached}
use Rattle.model_crashes.proofs.Moments.{only_both}
use Rattle.model_maps.specs.KeyMap.{KeyMap}
use Rattle.model_files.specs.Files.{table_files}
use Rattle.model_files.specs.Texts.{entries_of}
use Rattle.model_store.specs.Cores as cores
use Rattle.model_store.specs.Records as model
use Rattle.model_store.specs.Records.{no_record}
use Rattle.model_store.specs.Store.{Store, Formats}
use Rattle.model_store.specs.Worlds.{first_world}
use Rattle.model_store.proofs.Owning.{one_owner}
use Rattle.mounted_files.specs.Files.{Reading, Badness}
use Rattle.mounted_files.specs.Opening.{IsOpened}
use Rattle.mounted_files.specs.declared.files.MountedFile.{MountedFile}
use Rattle.store_core.specs.Cores.{StandsFor}
use Rattle.store_core.specs.Faults.{RefusesStore}
use Rattle.store_core.specs.declared.cores.Core.{Core}
use Rattle.store_core.specs.declared.faults.OpenFault.{OpenFault}
use Rattle.store_core.specs.declared.faults.OpenFault.TheVariants.{BadJournal, DiskFault as OfDisk, Memory as OfMemory, UnknownVersion}
use Rattle.store_core.specs.declared.faults.OpenRefused.{OpenRefused}
use Rattle.store_core.proofs.Beginnings.{beginning, stays_on}
use Rattle.store_play.specs.Handles.{Holds, AreHandles, AreNew, HoldNothing, procs_at, records_of}
use Rattle.store_play.specs.Plays.{Does, HasPlayed, Plays}
use Rattle.store_play.specs.Ran.{HasPlayedNew, HasRun, HasRunFiles, HasRunOpened, CrashesCalm, WasOrReached, disk_of, first_stage, store_with}
use Rattle.store_play.specs.Stages.{Stage, set_asked, stage_of}
use Rattle.store_play.specs.Told.{asked_of}
use Rattle.store_play.specs.declared.events.Answer.{Answer}
use Rattle.store_play.specs.declared.events.Answer.TheVariants as told
use Rattle.store_play.specs.declared.events.Event.{Event}
use Rattle.store_play.specs.declared.running.Ran.{Ran}
use Rattle.store_play.proofs.HandleLemmas.{new-nothing, held-nothing}
use Rattle.store_play.proofs.PlayLemmas.{called}
use Rattle.store_verdict.specs.declared.prepared.Prepared.{Prepared}
use Rattle.store_verdict.specs.declared.records.Record.{Record}

-- ---- the beginning of a run stays

module _ (formats : Formats) (store : Store) (files : List MountedFile) where
  stays_done : (before after : Stage) (event : Event) (answer : Answer)
      → Does formats store files before event answer after → beginning after.run ≡ beginning before.run
  stays_done before after event (told.Skipped why) does = ap (λ (s : Stage). beginning s.run) does.1
  stays_done before after event (told.Got result) does =
      stays_on formats store before.core.keys before.run after.run (set_asked before.core.sets (asked_of event)) does.answer does.runs_on
  stays_done before after event (told.Prepared result) does =
      stays_on formats store before.core.keys before.run after.run (set_asked before.core.sets (asked_of event)) does.answer does.runs_on
  stays_done before after event (told.Committed result) does =
      stays_on formats store before.core.keys before.run after.run (set_asked before.core.sets (asked_of event)) does.answer does.runs_on

  pub stays_played : (first last : Stage) (events : List Event) (answers : List Answer)
      → Plays formats store files first events answers last → beginning last.run ≡ beginning first.run
  stays_played first last [] [] plays = ap (λ (s : Stage). beginning s.run) plays
  stays_played first last [] (a ∷ answers) plays = absurd plays
  stays_played first last (e ∷ events) [] plays = absurd plays
  stays_played first last (e ∷ events) (a ∷ answers) plays =
      stays_played plays.0 last events answers plays.2 ∙ stays_done first plays.0 e a plays.1

-- ---- new handles

module _ (formats : Formats) {D P : Type 0} (g : Ghosts D) (mounted : List MountedFile) (procs : List KeyMap) (opened : D) (core : Core D P) (run : Run) (stands : StandsFor formats g (store_with mounted procs) opened core (λ r. no_record) (λ p. None) first_world run)
    (records : List Record) (places : List (Option Prepared)) (handles : AreHandles mounted (procs_at procs) records) (new : AreNew records) (empty : HoldNothing places) where
  -- new handles hold on a store that was just opened
  pub holds_first : Holds formats g mounted (procs_at procs) opened core records places (λ p. None) first_world run
  holds_first = record {
    stands = subst (λ (rs : ℕ → model.Record). StandsFor formats g (store_with mounted procs) opened core rs (λ p. None) first_world run) (new-nothing records new) stands;
    handles = handles;
    held = λ p set e. let none : None ≡ Some set = sym (empty p) ∙ e in absurd cc;
  }

  -- and the stage is the first one
  stage_first : core.history.commits ≡ [] → core.keys ≡ (store_with mounted procs).start → (count room : ℕ)
      → length records ≡ count → length places ≡ room
      → stage_of core records places (λ p. None) run ≡ first_stage (store_with mounted procs) run count room
  stage_first none keys count room counts rooms = λ i. record {
    core = record { history = none i; keys = keys i; records = sym (new-nothing records new) i; sets = λ p. None };
    run = run;
    held = sym (held-nothing places empty) i;
    handles = counts i;
    places = rooms i;
  }

  pub played_new : (events : List Event) (answers : List Answer) (after : Core D P) (later_records : List Record)
      (later_places : List (Option Prepared)) (room : ℕ) → length records ≡ length procs → length places ≡ room
      → HasPlayed formats g mounted (procs_at procs) opened (stage_of core records places (λ p. None) run) events answers after later_records later_places
      → HasPlayedNew formats g mounted procs room opened run events answers after
  played_new events answers after later_records later_places room counts rooms played =
      let stood = played.stood in
      record {
        last = stage_of after later_records later_places stood.known stood.run;
        plays =
            subst (λ (first : Stage). Plays formats (store_with mounted procs) mounted first events answers (stage_of after later_records later_places stood.known stood.run))
            (stage_first stands.here.stands.history stands.here.stands.keys (length procs) room counts rooms) stood.plays;
        records = records_of later_records;
        known = stood.known;
        world = stood.world;
        core_is = refl;
        stands = stood.holds.stands;
      }

  pub new_played : {E : Type 0} (events : List Event) (result : Result (List Answer) E) (after : Core D P)
      (later_records : List Record) (later_places : List (Option Prepared)) (room : ℕ) → length records ≡ length procs
      → length places ≡ room
      → IfOk result (λ answers. HasPlayed formats g mounted (procs_at procs) opened (stage_of core records places (λ p. None) run) events answers after later_records later_places)
      → IfOk result (λ answers. HasPlayedNew formats g mounted procs room opened run events answers after)
  new_played events (Ok answers) after later_records later_places room counts rooms played =
      played_new events answers after later_records later_places room counts rooms played
  new_played events (Err why) after later_records later_places room counts rooms played = tt

-- ---- from the opening to the close

module _ (formats : Formats) {D P : Type 0} (g : Ghosts D) (mounted : List MountedFile) (procs : List KeyMap) (places : ℕ) (disk opened : D) (files : Image) (doubt : Option (List FileText)) (begun : Run) (events : List Event) (ran : Ran D P)
    (has : HasRunOpened formats g mounted procs places opened begun events ran) where
  abbrev store : Store
  store = store_with mounted procs

  abbrev first : Stage
  first = first_stage store begun (length procs) places

  pub has_run : g.moment disk ≤ g.moment opened → LeavesOnly g disk opened (HasOnly (IsEither files doubt))
      → HasRun formats g mounted procs places disk files doubt begun events ran
  has_run later opening =
      let played = has.played in
      let run = played.last.run in
      let calls = called formats store mounted first played.last events ran.answers played.plays in
      let same : has.core.history.commits ≡ played.last.core.history = sym (ap (λ (c : cores.Core). c.history) played.core_is) in
      let stays = stays_played formats store mounted first played.last events ran.answers played.plays in
      let faults : run.faults ≡ begun.faults = ap (λ (b : List (List ℕ) × Image × ℕ). b.2) stays in
      record {
        last = played.last;
        plays = played.plays;
        calls = calls.calls;
        are_calls = calls.are;
        one_owner = one_owner formats store played.stands.here.stands.sound calls.calls played.last.core calls.runs;
        history = has.history ∙ same;
        entries = played.stands.entries ∙ ap (entries_of formats store) same;
        files_stay = ap (λ (b : List (List ℕ) × Image × ℕ). b.1) stays;
        any_moment =
            only_both g disk opened ran.disk (HasOnly (IsEither files doubt)) (IsReached run.files run.commits run.begun) (WasOrReached files doubt run)
            (λ image held. inl held) (λ image held. inr held) later opening has.reached;
        now = has.now;
        shown = λ still. has.shown (subst (λ n. ¬ HasRisen n (g.faults ran.disk)) (sym faults) still);
        calm = λ still. has.calm (subst (λ n. ¬ HasRisen n (g.faults ran.disk)) (sym faults) still);
      }

-- the opening, the run behind it and the close
module _ (formats : Formats) (Reads : Reading) (IsBad : Badness) {D P : Type 0} (g : Ghosts D) (mounted : List MountedFile) (procs : List KeyMap) (places : ℕ) (events : List Event) (disk opened : D) (files : Image) (doubt : Option (List FileText)) (begun : List (List ℕ) → Run)
    (later : g.moment disk ≤ g.moment opened) (opening : LeavesOnly g disk opened (HasOnly (IsEither files doubt))) where
  -- under a head that names the files of the store
  pub ran_files : (result : Result (Ran D P) (OpenRefused D P))
      → IsOpened Reads IsBad (opened_files (g.seen disk)) mounted
      → IfOk result (HasRunOpened formats g mounted procs places opened (begun (table_files (store_with mounted procs))) events)
      → IfOk result (HasRunFiles formats Reads IsBad g procs places events disk files doubt begun)
  ran_files (Ok ran) is has =
      (mounted, is, has_run formats g mounted procs places disk opened files doubt (begun (table_files (store_with mounted procs))) events ran has later opening)
  ran_files (Err refused) is has = tt

-- a crash amid a run that is refused behind the opening leaves what the run had reached when it began
pub reached_files : {D P : Type 0} (g : Ghosts D) (disk opened : D) (files : Image) (doubt : Option (List FileText))
    (begun : Run) → g.moment disk ≤ g.moment opened
    → LeavesOnly g disk opened (HasOnly (IsEither files doubt)) → (result : Result (Ran D P) (OpenRefused D P))
    → IfErr result (λ refused. LeavesOnly g opened refused.disk (IsReached begun.files begun.commits begun.begun))
    → IfErr result (λ refused. LeavesOnly g disk refused.disk (WasOrReached files doubt begun))
reached_files g disk opened files doubt begun later opening (Ok ran) reached = tt
reached_files g disk opened files doubt begun later opening (Err refused) reached =
    only_both g disk opened refused.disk (HasOnly (IsEither files doubt)) (IsReached begun.files begun.commits begun.begun) (WasOrReached files doubt begun) (λ image held. inl held) (λ image held. inr held) later opening reached

-- ---- a journal that isn't broken

pub sound_now : {D : Type 0} (g : Ghosts D) (disk : D) (files : Image) (doubt : Option (List FileText))
    → EveryImage (g.may_leave disk) (HasOnly (IsEither files doubt)) → CrashesCalm g disk
sound_now g disk files doubt every image is = (files, doubt, every image is)

pub sound_since : {D : Type 0} (g : Ghosts D) (old new : D) (files : Image) (doubt : Option (List FileText))
    → g.tells old ≡ true → GoesOn g old new → LeavesOnly g old new (HasOnly (IsEither files doubt)) → CrashesCalm g new
sound_since g old new files doubt tells goes only image is =
    (files, doubt, only.each image (g.counts_now new (g.moment old) image (goes.tells ∙ tells) goes.moment is))

-- ---- a run that is refused

module _ (Reads : Reading) (IsBad : Badness) (bytes : List ℕ) where
  -- want of memory refuses a store whatever its files are, and is none of the other causes
  pub memory_refuses : (fault : OpenFault) → fault ≡ OfMemory → RefusesStore Reads IsBad bytes fault
  memory_refuses fault is = subst (RefusesStore Reads IsBad bytes) (sym is) tt

pub memory_is_no_journal : (fault : OpenFault) (at : ℕ) → fault ≡ OfMemory → fault ≢ BadJournal at
memory_is_no_journal fault at is = λ bad. let e : OfMemory ≡ BadJournal at = sym is ∙ bad in absurd cc

pub memory_is_no_version : (fault : OpenFault) (version : ℕ) → fault ≡ OfMemory → fault ≢ UnknownVersion version
memory_is_no_version fault version is = λ known. let e : OfMemory ≡ UnknownVersion version = sym is ∙ known in absurd cc

pub memory_is_no_fault : (fault : OpenFault) → fault ≡ OfMemory → fault ≢ OfDisk
memory_is_no_fault fault is = λ disk. let e : OfMemory ≡ OfDisk = sym is ∙ disk in absurd cc

-- ---- a run that is refused behind the opening

-- a store that was closed as it was opened leaves its disk as calm as before
pub closed_calm : {D : Type 0} (g : Ghosts D) (old new : D) (files : Image) (doubt : Option (List FileText))
    (wrote : Bool)
    → (wrote ≡ false → new ≡ old) → (wrote ≡ true → IsCalm (g.seen new) (g.may_leave new) files doubt)
    → IsCalm (g.seen old) (g.may_leave old) files doubt → IsCalm (g.seen new) (g.may_leave new) files doubt
closed_calm g old new files doubt true alone settled calm = settled refl
closed_calm g old new files doubt false alone settled calm =
    subst (λ d. IsCalm (g.seen d) (g.may_leave d) files doubt) (sym (alone refl)) calm

-- and so the run leaves it as calm as it was handed in, where no fault came
pub refused_calm : {D P : Type 0} (g : Ghosts D) (disk opened : D) (result : Result (Ran D P) (OpenRefused D P))
    (files : Image) (doubt : Option (List FileText)) → GoesOn g disk opened → GoesOn g opened (disk_of result)
    → (¬ HasRisen (g.faults disk) (g.faults opened) → IsCalm (g.seen opened) (g.may_leave opened) files doubt)
    → IfErr result (λ refused. ¬ HasRisen (g.faults opened) (g.faults refused.disk) → IsCalm (g.seen opened) (g.may_leave opened) files doubt → IsCalm (g.seen refused.disk) (g.may_leave refused.disk) files doubt)
    → IfErr result (λ refused. ¬ HasRisen (g.faults disk) (g.faults refused.disk) → IsCalm (g.seen refused.disk) (g.may_leave refused.disk) files doubt)
refused_calm g disk opened (Ok ran) files doubt opening closing calm closed = tt
refused_calm g disk opened (Err refused) files doubt opening closing calm closed = λ still.
    closed (λ risen. still (risen_since (g.faults disk) (g.faults opened) (g.faults refused.disk) opening.later risen))
    (calm (λ risen. still (risen_still (g.faults disk) (g.faults opened) (g.faults refused.disk) opening.later closing.later risen)))
