-- What the turn of an undoing leaves, by what it got and made, and by what became of its set.
use Rattle.std.proofs.Common.{◌≡◌, inl, inr, ℕ, Bool, true, false, List, [], ◌++◌, length, None, Result, Ok, Err, refl, sym, ap, subst, ◌∙◌, append-nil}
use Rattle.std.specs.Coded.{Coded}
use Rattle.kdb_outside.specs.declared.disks.Disk.{Ghosts}
use Rattle.kdb_handle.specs.Opened.{store_at}
use Rattle.kdb_handle.specs.Sets.{tells_refusal}
use Rattle.kdb_handle.specs.Shares.{IsShared, told_now}
use Rattle.kdb_handle.specs.Story.{Told, commits_of}
use Rattle.kdb_handle.specs.Turns.{MayCommit, record_by, told_by}
use Rattle.kdb_handle.specs.UndoTurns.{IsCommitted, IsFetched, IsUnprepared, MayUndo, SetsIn, Undoes, undo_in, wants_memory}
use Rattle.kdb_handle.specs.Undoing.{IsBarred, IsUndoneBy, IsUnset, Undo, keys_got, parent_of, rec_got, set_made, told_by_undo}
use Rattle.kdb_handle.specs.declared.setting.SetFault.{SetFault}
use Rattle.kdb_handle.specs.declared.setting.SetFault.TheVariants as set_fault
use Rattle.kdb_handle.specs.declared.shared.Fresh.{Fresh}
use Rattle.kdb_handle.specs.declared.shared.Shared.{Shared}
use Rattle.kdb_handle.specs.declared.taking_back.Fetching.{Fetching}
use Rattle.kdb_handle.specs.declared.undoing.UndoFault.{UndoFault}
use Rattle.kdb_handle.specs.declared.undoing.UndoFault.TheVariants as undo_fault
use Rattle.kdb_handle.proofs.HandleLemmas.{judged-as}
use Rattle.kdb_handle.proofs.SharedLemmas.{shared_same}
use Rattle.kdb_handle.proofs.UndoLemmas.{barred, barred_told, can, can_commit, can_prepare, history_is, is_known, keys_are, may_fetched, may_set, the_set}
use Rattle.model_history.specs.History.{Commit, replay}
use Rattle.model_maps.specs.KeyMap.{KeyMap}
use Rattle.model_store.specs.Records.{IsRecord}
use Rattle.model_store.specs.Sets as sets
use Rattle.model_store.specs.Sets.{front_in}
use Rattle.model_store.specs.Store.{Store, Formats}
use Rattle.model_store.specs.Verdicts.{IsEarly}
use Rattle.model_undone.proofs.InverseSets.{changes-are, never-same}
use Rattle.mounted_files.specs.declared.files.MountedFile.{MountedFile}
use Rattle.store_core.specs.Answers.{IsJudged}
use Rattle.store_core.specs.declared.committing.CommitFault.{CommitFault}
use Rattle.store_core.specs.declared.committing.CommitFault.TheVariants as commit_fault
use Rattle.store_core.specs.declared.committing.Done.{Done}
use Rattle.store_core.specs.declared.committing.Done.TheVariants as done
use Rattle.store_verdict.specs.Preparing.{IsRefusedSet}
use Rattle.store_verdict.specs.PreparedView.{prepared_of}
use Rattle.store_verdict.specs.RecordView.{handle_of, places_of, proc_of, record_of}
use Rattle.store_verdict.specs.declared.faults.PrepareFault.{PrepareFault}
use Rattle.store_verdict.specs.declared.faults.PrepareFault.TheVariants as prepare_fault
use Rattle.store_verdict.specs.declared.records.Record.{Record}

-- where nothing was told, the story is as it was
untold : (log told : List Told) → told ≡ [] → log ≡ log ++ told
untold log told none = sym (append-nil log) ∙ ap (λ (l : List Told). log ++ l) (sym none)

module _ (formats : Formats) {D F P : Type 0} (g : Ghosts D) (code : Coded D) (refused : P → ℕ) (files : List MountedFile) (old new : Shared D F P) (rec left : Record) (number : ℕ) (fetching : Fetching) where
  abbrev store : Store
  store = store_at files

  abbrev May : List Told → Type 0
  May log = MayUndo formats g code refused files old.core old.entries log rec

  abbrev Sets : Result Done SetFault → Type 0
  Sets result = SetsIn formats g code refused files old new fetching.rec left fetching.parent fetching.made result

  module _ (log : List Told) (may : May log) (is : IsFetched (undo_in files rec log number) rec fetching) where
    abbrev undo : Undo
    undo = undo_in files rec log number

    abbrev history : List Commit
    history = commits_of log

    abbrev present : KeyMap
    present = replay store.start history

    may_here : MayUndo formats g code refused files old.core old.entries log fetching.rec
    may_here = may_fetched formats g code refused files old.core old.entries log rec number may fetching is

    -- ---- a set that was prepared

    module _ (result : Result Done CommitFault) (set : IsCommitted formats g code refused files old new fetching.rec left fetching.parent fetching.made result) where
      set_is : prepared_of set.set ≡ set_made undo
      set_is = set.made.is ∙ the_set formats g code refused files old.core old.entries log rec number may fetching is

      given : MayCommit formats g code refused files old.core old.entries log fetching.rec set.set
      given =
          may_set formats g code refused files old.core old.entries log fetching.rec number may_here set.set fetching.parent fetching.made set.made

      early : IsEarly formats store (set_made undo) None
      early = subst (λ (s : sets.Prepared). IsEarly formats store s None) set_is set.made.early

      judged : IsJudged formats store (tells_refusal result) history present (set_made undo) result
      judged =
          subst (λ (s : sets.Prepared). IsJudged formats store (tells_refusal result) history present s result) set_is
          (subst (λ (cs : List Commit). IsJudged formats store (tells_refusal result) cs present (prepared_of set.set) result) (history_is formats g code refused files old.core old.entries log rec number may)
          (subst (λ (k : KeyMap). IsJudged formats store (tells_refusal result) old.core.history.commits k (prepared_of set.set) result) (keys_are formats g code refused files old.core old.entries log rec number may)
          (judged-as formats store set.commits.judged.0 old.core.history.commits old.core.keys (prepared_of set.set) result set.commits.judged.1)))

      kept : record_of left ≡ record_by store history (set_made undo) result (rec_got undo)
      kept =
          let past = history_is formats g code refused files old.core old.entries log rec number may in
          set.commits.kept log given ∙ (λ i. record_by store (past i) (set_is i) result (is.rec_is i))

      told : told_now new.fresh ≡ told_by (set_made undo) result
      told = set.commits.told ∙ ap (λ (s : sets.Prepared). told_by s result) set_is

    -- ---- what became of the set

    sets_shared : (result : Result Done SetFault) → Sets result
        → IsShared formats g code refused new.core new.entries (log ++ told_now new.fresh)
    sets_shared (Ok made) set = set.commits.shared log (given (Ok made) set)
    sets_shared (Err (set_fault.Commit why)) set = set.commits.shared log (given (Err why) set)
    sets_shared (Err (set_fault.Prepare why)) set =
        shared_same formats g code refused old.core new.core old.entries new.entries log (told_now new.fresh) set.core set.entries set.told may.shared

    sets_keeps : (result : Result Done SetFault) → Sets result
        → IsRecord store (commits_of (log ++ told_now new.fresh)) (handle_of left) (front_in (record_of left)) (record_of left)
    sets_keeps (Ok made) set = set.commits.keeps log (given (Ok made) set)
    sets_keeps (Err (set_fault.Commit why)) set = set.commits.keeps log (given (Err why) set)
    sets_keeps (Err (set_fault.Prepare why)) set =
        subst (λ (r : Record). IsRecord store (commits_of (log ++ told_now new.fresh)) (handle_of r) (front_in (record_of r)) (record_of r)) (sym set.left_is)
        (subst (λ (l : List Told). IsRecord store (commits_of l) (handle_of fetching.rec) (front_in (record_of fetching.rec)) (record_of fetching.rec)) (untold log (told_now new.fresh) set.told) may_here.keeps)

    committed : (keys : KeyMap) (made : Done) → Sets (Ok made)
        → IsUndoneBy formats undo keys (record_of left) fetching.made (Ok made)
    committed keys (done.Committed commit aside) set = record {
      got = is.got;
      early = early (Ok (done.Committed commit aside)) set;
      judged = judged (Ok (done.Committed commit aside)) set;
      changes = changes-are formats store history (handle_of rec) (parent_of undo) (record_of rec) (keys_got undo) number (can formats g code refused files old.core old.entries log rec number may fetching is);
      left_is = kept (Ok (done.Committed commit aside)) set;
      after_is = is.made_is;
    }
    committed keys (done.Same front aside) set =
        never-same formats store history (handle_of rec) (parent_of undo) (record_of rec) (keys_got undo) number (can formats g code refused files old.core old.entries log rec number may fetching is) aside
        (judged (Ok (done.Same front aside)) set).1

    unset : (keys : KeyMap) (why : SetFault) → Sets (Err why) → wants_memory why ≡ false
        → IsUndoneBy formats undo keys (record_of left) fetching.got (Err (undo_fault.Set why))
    unset keys (set_fault.Prepare why) set known =
        let refuses : IsRefusedSet formats store (set_made undo) why =
        subst (λ (s : sets.Prepared). IsRefusedSet formats store s why) (the_set formats g code refused files old.core old.entries log rec number may fetching is) (set.refused (is_known why known)) in
        record {
          got = is.got;
          can = can_prepare formats g code refused files old.core old.entries log rec number may fetching is why known refuses;
          refused = refuses;
          left_is = ap record_of set.left_is ∙ is.rec_is;
          after_is = is.got_is;
        }
    unset keys (set_fault.Commit why) set known = record {
      got = is.got;
      can = can_commit formats g code refused files old.core old.entries log rec number may fetching is why known (judged (Err why) set);
      refused = (early (Err why) set, judged (Err why) set);
      left_is = kept (Err why) set;
      after_is = is.got_is;
    }

    -- ---- what is told of it

    told_ok : (made : Done) → Sets (Ok made) → told_now new.fresh ≡ told_by_undo (set_made undo) (Ok made)
    told_ok made set = told (Ok made) set

    told_err : (why : SetFault) → Sets (Err why)
        → told_now new.fresh ≡ told_by_undo (set_made undo) (Err (undo_fault.Set why))
    told_err (set_fault.Prepare why) set = set.told
    told_err (set_fault.Commit why) set = told (Err why) set

    -- nothing, where memory is wanting
    told_none : (why : SetFault) → Sets (Err why) → wants_memory why ≡ true → told_now new.fresh ≡ []
    told_none (set_fault.Prepare why) set lacks = set.told
    told_none (set_fault.Commit commit_fault.Memory) set lacks = told (Err commit_fault.Memory) set
    told_none (set_fault.Commit (commit_fault.Conflict mount by front)) set lacks = absurd cc
    told_none (set_fault.Commit (commit_fault.FileTooLarge mount bytes front)) set lacks = absurd cc
    told_none (set_fault.Commit (commit_fault.Invalid violation front)) set lacks = absurd cc
    told_none (set_fault.Commit (commit_fault.DatabaseFull weight front)) set lacks = absurd cc
    told_none (set_fault.Commit (commit_fault.HistoryFull weight front)) set lacks = absurd cc
    told_none (set_fault.Commit (commit_fault.DiskFault front)) set lacks = absurd cc

  -- ---- what stays

  left_handle : (result : Result Done SetFault) → Sets result → handle_of left ≡ handle_of fetching.rec
  left_handle (Ok made) set = set.commits.handle
  left_handle (Err (set_fault.Commit why)) set = set.commits.handle
  left_handle (Err (set_fault.Prepare why)) set = ap handle_of set.left_is

  left_places : (result : Result Done SetFault) → Sets result → places_of left ≡ places_of fetching.rec
  left_places (Ok made) set = set.commits.places
  left_places (Err (set_fault.Commit why)) set = set.commits.places
  left_places (Err (set_fault.Prepare why)) set = ap places_of set.left_is

  left_procs : (result : Result Done SetFault) → Sets result → proc_of left ≡ proc_of fetching.rec
  left_procs (Ok made) set = set.commits.proc
  left_procs (Err (set_fault.Commit why)) set = set.commits.proc
  left_procs (Err (set_fault.Prepare why)) set = ap proc_of set.left_is

  -- ---- the ends of a turn

  module _ (given : (log : List Told) × May log) (fetched : (log : List Told) → May log → IsFetched (undo_in files rec log number) rec fetching) (keys : KeyMap) where
    here : IsFetched (undo_in files rec given.0 number) rec fetching
    here = fetched given.0 given.1

    pub undoes_ok : (made : Done) → Sets (Ok made)
        → Undoes formats g code refused files old new rec left number keys fetching.made (Ok made)
    undoes_ok made set = record {
      shared = λ log may. sets_shared log may (fetched log may) (Ok made) set;
      keeps = λ log may. sets_keeps log may (fetched log may) (Ok made) set;
      told = λ log may. told_ok log may (fetched log may) made set;
      undone = λ log may. committed log may (fetched log may) keys made set;
      handle = left_handle (Ok made) set ∙ here.handle;
      places = left_places (Ok made) set ∙ here.places;
      proc = left_procs (Ok made) set ∙ here.procs;
    }

    pub undoes_err : (why : SetFault) → Sets (Err why) → wants_memory why ≡ false
        → Undoes formats g code refused files old new rec left number keys fetching.got (Err (undo_fault.Set why))
    undoes_err why set known = record {
      shared = λ log may. sets_shared log may (fetched log may) (Err why) set;
      keeps = λ log may. sets_keeps log may (fetched log may) (Err why) set;
      told = λ log may. told_err log may (fetched log may) why set;
      undone = λ log may. unset log may (fetched log may) keys why set known;
      handle = left_handle (Err why) set ∙ here.handle;
      places = left_places (Err why) set ∙ here.places;
      proc = left_procs (Err why) set ∙ here.procs;
    }

    -- the record and the keys stay, where memory is wanting
    pub undoes_none : (why : SetFault) → Sets (Err why) → wants_memory why ≡ true
        → Undoes formats g code refused files old new rec rec number keys keys (Err undo_fault.Memory)
    undoes_none why set lacks = record {
      shared = λ log may. sets_shared log may (fetched log may) (Err why) set;
      keeps = λ log may.
          subst (λ (l : List Told). IsRecord store (commits_of l) (handle_of rec) (front_in (record_of rec)) (record_of rec)) (untold log (told_now new.fresh) (told_none log may (fetched log may) why set lacks)) may.keeps;
      told = λ log may. told_none log may (fetched log may) why set lacks;
      undone = λ log may. (tt, refl, refl);
      handle = refl;
      places = refl;
      proc = refl;
    }

-- a turn that is refused before its set
pub undoes_barred : (formats : Formats) {D F P : Type 0} (g : Ghosts D) (code : Coded D) (refused : P → ℕ)
    (files : List MountedFile) (old new : Shared D F P) (rec : Record) (number : ℕ) (keys : KeyMap) (why : UndoFault)
    → new.core ≡ old.core → new.entries ≡ old.entries → told_now new.fresh ≡ []
    → ((log : List Told) → MayUndo formats g code refused files old.core old.entries log rec → IsBarred (undo_in files rec log number) why)
    → Undoes formats g code refused files old new rec rec number keys keys (Err why)
undoes_barred formats g code refused files old new rec number keys why core entries none bars = record {
  shared = λ log may. shared_same formats g code refused old.core new.core old.entries new.entries log (told_now new.fresh) core entries none may.shared;
  keeps = λ log may. subst (λ (l : List Told). IsRecord (store_at files) (commits_of l) (handle_of rec) (front_in (record_of rec)) (record_of rec)) (untold log (told_now new.fresh) none) may.keeps;
  told = λ log may. none ∙ barred_told formats g code refused files old.core old.entries log rec number may why (bars log may);
  undone = λ log may. barred formats g code refused files old.core old.entries log rec number may why (bars log may) keys;
  handle = refl;
  places = refl;
  proc = refl;
}

-- what the core had told before doesn't matter
pub undoes_again : (formats : Formats) {D F P : Type 0} (g : Ghosts D) (code : Coded D) (refused : P → ℕ)
    (files : List MountedFile) (old : Shared D F P) (told : Fresh) (new : Shared D F P) (rec left : Record) (number : ℕ)
    (keys after : KeyMap) (result : Result Done UndoFault)
    → Undoes formats g code refused files (record old { fresh = told }) new rec left number keys after result
    → Undoes formats g code refused files old new rec left number keys after result
undoes_again formats g code refused files old told new rec left number keys after result turn = record {
  shared = turn.shared;
  keeps = turn.keeps;
  told = turn.told;
  undone = turn.undone;
  handle = turn.handle;
  places = turn.places;
  proc = turn.proc;
}
