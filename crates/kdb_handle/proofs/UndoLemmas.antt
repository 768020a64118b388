-- What a turn with an undoing gets, makes and sets.
use Rattle.std.proofs.Common.{◌≡◌, ◌≢◌, inl, inr, ℕ, ◌≤◌, Bool, true, false, true≢false, List, [], ◌++◌, length, map as over, Option, Some, None, Result, Ok, Err, refl, sym, ap, subst, ◌∙◌, append-nil}
use Rattle.std.specs.Coded.{Coded}
use Rattle.std.specs.FinMap as map
use Rattle.std.specs.Option.{option_map}
use Rattle.commit_log.specs.CommitView.{change_of}
use Rattle.commit_log.specs.declared.commits.Change.{Change}
use Rattle.commit_undo.specs.Inverting.{IsInverse, IsRefusal}
use Rattle.commit_undo.specs.declared.faults.InverseFault.{InverseFault}
use Rattle.commit_undo.specs.declared.faults.InverseFault.TheVariants as inverse_fault
use Rattle.kdb_outside.specs.declared.disks.Disk.{Ghosts}
use Rattle.kdb_handle.specs.Gets.{Gives, IsGotAt}
use Rattle.kdb_handle.specs.Opened.{store_at}
use Rattle.kdb_handle.specs.Sets.{tells_refusal}
use Rattle.kdb_handle.specs.Shares.{IsShared, told_now}
use Rattle.kdb_handle.specs.Story.{Told, commits_of}
use Rattle.kdb_handle.specs.Turns.{Commits, MayCommit, record_by, told_by}
use Rattle.kdb_handle.specs.UndoTurns.{IsCommitted, IsFetched, IsUnprepared, MayUndo, SetsIn, of_get, undo_in, wants_memory}
use Rattle.kdb_handle.specs.Undoing.{CanRefuse, IsBarred, IsSetRefused, IsUndoneBy, IsUnset, Undo, keys_got, keys_made, of_inverse, parent_of, rec_got, set_made, told_by_undo}
use Rattle.kdb_handle.specs.declared.setting.SetFault.{SetFault}
use Rattle.kdb_handle.specs.declared.setting.SetFault.TheVariants as set_fault
use Rattle.kdb_handle.specs.declared.shared.Shared.{Shared}
use Rattle.kdb_handle.specs.declared.taking_back.Fetching.{Fetching}
use Rattle.kdb_handle.specs.declared.undoing.UndoFault.{UndoFault}
use Rattle.kdb_handle.specs.declared.undoing.UndoFault.TheVariants as undo_fault
use Rattle.kdb_handle.proofs.HandleLemmas.{got_at, judged-as, record_got, shared_history, shared_keys, shared_legal}
use Rattle.kdb_handle.proofs.RecordLemmas.{numbered}
use Rattle.kdb_handle.proofs.SharedLemmas.{shared_same}
use Rattle.key_name.specs.Owner.{IsPoints}
use Rattle.model_history.specs.Changes.{changed_by}
use Rattle.model_history.specs.History.{Commit, replay}
use Rattle.model_maps.specs.KeyMap.{KeyMap, no_keys}
use Rattle.model_names.specs.Name.{Name}
use Rattle.model_store.specs.Events.{first_bad, put}
use Rattle.model_store.specs.Events as event
use Rattle.model_store.specs.Fitting.{Early}
use Rattle.model_store.specs.Fitting as early
use Rattle.model_store.specs.Legal.{IsLegal}
use Rattle.model_store.specs.Records as model
use Rattle.model_store.specs.Records.{IsRecord, no_record}
use Rattle.model_store.specs.Sets as sets
use Rattle.model_store.specs.Sets.{front_in, prepared}
use Rattle.model_store.specs.Store.{Store, Formats, points_at, points_of, store_of}
use Rattle.model_store.specs.Verdicts.{IsEarly}
use Rattle.model_store.proofs.Accepting.{put-here}
use Rattle.model_undo.specs.Undoing.{IsThere, inverse}
use Rattle.model_undone.specs.UndoSets.{CanUndo, parent_over, touched_by}
use Rattle.model_undone.proofs.InverseSets.{changes-are, never-blocked, never-same, never-unfetched}
use Rattle.model_undone.proofs.ParentLemmas.{can_undo}
use Rattle.mount_table.specs.declared.mounts.Mount.{Mount}
use Rattle.mounted_files.specs.Visible.{visible_keys}
use Rattle.mounted_files.specs.declared.files.MountedFile.{MountedFile}
use Rattle.mounted_files.specs.declared.refusals.GetFault.{GetFault}
use Rattle.mounted_files.specs.declared.refusals.GetFault.TheVariants as get_fault
use Rattle.store_core.specs.Answers.{IsJudged}
use Rattle.store_core.specs.Gets.{HasGot}
use Rattle.store_core.specs.declared.committing.CommitFault.{CommitFault}
use Rattle.store_core.specs.declared.committing.CommitFault.TheVariants as commit_fault
use Rattle.store_core.specs.declared.committing.Done.{Done}
use Rattle.store_core.specs.declared.committing.Done.TheVariants as done
use Rattle.store_core.specs.declared.cores.Core.{Core}
use Rattle.store_core.specs.declared.getting.Got.{Got}
use Rattle.store_verdict.specs.Preparing.{IsMade, IsRefusedSet, fault_of}
use Rattle.store_verdict.specs.PreparedView.{prepared_of}
use Rattle.store_verdict.specs.ProcKeys.{AreProc}
use Rattle.store_verdict.specs.RecordView.{handle_of, places_of, proc_of, record_of}
use Rattle.store_verdict.specs.declared.faults.PrepareFault.{PrepareFault}
use Rattle.store_verdict.specs.declared.faults.PrepareFault.TheVariants as prepare_fault
use Rattle.store_verdict.specs.declared.prepared.Prepared.{Prepared}
use Rattle.store_verdict.specs.declared.records.Record.{Record}

-- ---- why a set is refused

-- a fault tells that a mount wasn't fetched
abbrev tells_unfetched : PrepareFault → Bool
tells_unfetched (prepare_fault.NotFetched mount) = true
tells_unfetched why = false

-- another fault at a mount doesn't
told_other : (told : Name → PrepareFault) → ((at : Name) → tells_unfetched (told at) ≡ false)
    → (o : Option Mount) (mount : Name)
    → option_map (λ (m : Mount). told m.at) o ≡ Some (prepare_fault.NotFetched mount) → ⊥
told_other told other None mount is = absurd cc
told_other told other (Some m) mount is =
    let on : Some (tells_unfetched (told m.at)) ≡ Some true = ap (option_map tells_unfetched) is in
    let off : tells_unfetched (told m.at) ≡ false = other m.at in
    absurd cc

module _ (formats : Formats) (store : Store) (set : sets.Prepared) (fetched : (m : ℕ) → IsEarly formats store set (Some (early.NotFetched m)) → ⊥) where
  unfetched : (why : Early) (mount : Name) → IsEarly formats store set (Some why)
      → fault_of store.mounts why ≡ Some (prepare_fault.NotFetched mount) → ⊥
  unfetched (early.NotFetched m) mount is tells = fetched m is
  unfetched (early.ValueTooLong key bytes) mount is tells = absurd cc
  unfetched (early.TooHeavy m weight) mount is tells =
      told_other (λ at. prepare_fault.FileTooLarge at weight) (λ at. refl) _ mount tells
  unfetched (early.NotStorable m key) mount is tells =
      told_other (λ at. prepare_fault.NotStorable at key) (λ at. refl) _ mount tells
  unfetched (early.TooLong m bytes) mount is tells =
      told_other (λ at. prepare_fault.FileTooLarge at bytes) (λ at. refl) _ mount tells
  unfetched (early.BadTable why) mount is tells = absurd cc

  prepare_can : (why : PrepareFault) → wants_memory (set_fault.Prepare why) ≡ false → IsRefusedSet formats store set why
      → CanRefuse (set_fault.Prepare why)
  prepare_can (prepare_fault.NotFetched mount) known is = unfetched is.early mount is.refused is.is
  prepare_can (prepare_fault.ValueTooLong key bytes) known is = tt
  prepare_can (prepare_fault.NotStorable mount key) known is = tt
  prepare_can (prepare_fault.FileTooLarge mount bytes) known is = tt
  prepare_can (prepare_fault.BadTable fault) known is = tt
  prepare_can prepare_fault.Memory known is = absurd cc

pub is_known : (why : PrepareFault) → wants_memory (set_fault.Prepare why) ≡ false → why ≢ prepare_fault.Memory
is_known why known is = true≢false (sym (ap (λ w. wants_memory (set_fault.Prepare w)) is) ∙ known)

-- ---- where an undoing may be made

module _ (formats : Formats) {D P : Type 0} (g : Ghosts D) (code : Coded D) (refused : P → ℕ) (files : List MountedFile) (core : Core D P) (entries : ℕ) (log : List Told) (rec : Record) (number : ℕ) (may : MayUndo formats g code refused files core entries log rec) where
  abbrev store : Store
  store = store_at files

  abbrev undo : Undo
  undo = undo_in files rec log number

  abbrev history : List Commit
  history = commits_of log

  abbrev present : KeyMap
  present = replay store.start history

  pub history_is : core.history.commits ≡ history
  history_is = shared_history formats g code refused core entries log may.shared

  pub keys_are : core.keys ≡ present
  keys_are = shared_keys formats g code refused files core entries log may.shared may.opening

  start_is : core.start ≡ store.start
  start_is = may.shared.start ∙ ap visible_keys may.opening

  pub legal : IsLegal formats store history
  legal = shared_legal formats g code refused files core entries log may.shared may.opening

  -- ---- the inverse

  inverse_is : (changes : List Change) → IsInverse core.start core.history.commits number changes
      → IsInverse store.start history number changes
  inverse_is changes is =
      subst (λ (cs : List Commit). IsInverse store.start cs number changes) history_is (subst (λ (k : KeyMap). IsInverse k core.history.commits number changes) start_is is)

  -- ---- the get

  module _ (mounts : List Mount) (mounts_are : mounts ≡ over (λ (file : MountedFile). file.mount) files) (parent : Name) (parent_is : parent ≡ parent_over (points_at mounts) (touched_by core.history.commits number)) where
    parent_so : parent ≡ parent_of undo
    parent_so = parent_is ∙ (λ i. parent_over (points_at (mounts_are i)) (touched_by (history_is i) number))

    module _ (copied new : Record) (handle : handle_of copied ≡ handle_of rec) (procs : proc_of copied ≡ proc_of rec) (kept : record_of copied ≡ record_of rec) (result : Result Got GetFault)
        (clause : (procs : ℕ → KeyMap) (records : ℕ → model.Record) (known : ℕ → Option sets.Prepared) → procs (handle_of copied) ≡ proc_of copied → records (handle_of copied) ≡ record_of copied
        → HasGot formats (store_of files procs) files core records known parent copied new result) where
      abbrev own : ℕ → KeyMap
      own r = proc_of rec

      got_here : IsGotAt (store_of files own) files history (handle_of rec) (parent_of undo) (record_of rec) (record_of new) result
      got_here =
          let here = got_at (store_of files own) files history core history_is keys_are (λ p. None) parent copied new formats result
          (clause own (put (handle_of copied) (record_of copied) (λ r. no_record)) (λ p. None) (sym procs) (put-here (handle_of copied) (record_of copied) (λ r. no_record))) in
          subst (λ (p : Name). IsGotAt (store_of files own) files history (handle_of rec) p (record_of rec) (record_of new) result) parent_so
          (subst (λ (r : model.Record). IsGotAt (store_of files own) files history (handle_of rec) parent r (record_of new) result) kept
          (subst (λ n. IsGotAt (store_of files own) files history n parent (record_of copied) (record_of new) result) handle here))

      -- what was got and made
      pub fetched : (changes : List Change) → IsInverse core.start core.history.commits number changes
          → IsPoints (points_at mounts) → handle_of new ≡ handle_of copied → places_of new ≡ places_of copied
          → places_of copied ≡ places_of rec → proc_of new ≡ proc_of copied
          → (got : Got) → result ≡ Ok got → (made : KeyMap) → made ≡ changed_by (over change_of changes) got.keys
          → (fetching : Fetching) → fetching.parent ≡ parent → fetching.rec ≡ new → fetching.got ≡ got.keys
          → fetching.made ≡ made → IsFetched undo rec fetching
      fetched changes inverted points new_handle new_places places new_procs got is made made_is fetching the_parent the_rec the_got the_made =
          let gives : Gives (store_of files own) history (handle_of rec) (parent_of undo) (record_of rec) (record_of new) got =
          subst (IsGotAt (store_of files own) files history (handle_of rec) (parent_of undo) (record_of rec) (record_of new)) is got_here in
          let back : IsInverse store.start history number changes = inverse_is changes inverted in
          record {
            points = subst (λ (ms : List Mount). IsPoints (points_at ms)) mounts_are points;
            got = record { there = back.there; good = gives.good };
            parent_is = the_parent ∙ parent_so;
            rec_is = ap record_of the_rec ∙ gives.kept;
            got_is = the_got ∙ gives.keys;
            made_is = the_made ∙ made_is ∙ (λ i. changed_by (back.is i) (gives.keys i));
            handle = ap handle_of the_rec ∙ new_handle ∙ handle;
            places = ap places_of the_rec ∙ new_places ∙ places;
            procs = ap proc_of the_rec ∙ new_procs ∙ procs;
          }

      -- a get that is refused
      pub ungot : (changes : List Change) → IsInverse core.start core.history.commits number changes → (why : GetFault)
          → result ≡ Err why → IsBarred undo (of_get why)
      ungot changes inverted why is =
          by why (subst (IsGotAt (store_of files own) files history (handle_of rec) (parent_of undo) (record_of rec) (record_of new)) is got_here)
        where
          there : IsThere history number
          there = (inverse_is changes inverted).there

          by : (why : GetFault)
              → IsGotAt (store_of files own) files history (handle_of rec) (parent_of undo) (record_of rec) (record_of new) (Err why)
              → IsBarred undo (of_get why)
          by get_fault.Memory refuses = tt
          by (get_fault.BadFile mount line) (inl memory, same) = absurd cc
          by (get_fault.BadFile mount line) (inr bad, same) =
              record { there = there; mount = bad.0; bad = bad.2; cause = bad.1 }
          by (get_fault.TooLong mount bytes) (inl memory, same) = absurd cc
          by (get_fault.TooLong mount bytes) (inr bad, same) =
              record { there = there; mount = bad.0; bad = bad.2; cause = bad.1 }
          by (get_fault.TooHeavy mount weight) (inl memory, same) = absurd cc
          by (get_fault.TooHeavy mount weight) (inr bad, same) =
              record { there = there; mount = bad.0; bad = bad.2; cause = bad.1 }

  -- ---- the set

  -- it may be committed
  pub may_set : (set : Prepared) (parent : Name) (keys : KeyMap)
      → IsMade formats store (handle_of rec) (record_of rec) parent keys set
      → MayCommit formats g code refused files core entries log rec set
  may_set set parent keys made =
      record {
        shared = may.shared;
        opening = may.opening;
        keeps = may.keeps;
        places = may.places;
        prepared = record { parent = parent; keys = keys; made = made };
      }

  -- the record that got the parent is one of a handle in its turn
  pub may_fetched : (fetching : Fetching) → IsFetched undo rec fetching
      → MayUndo formats g code refused files core entries log fetching.rec
  may_fetched fetching is = record {
    shared = may.shared;
    opening = may.opening;
    keeps =
        numbered store history (handle_of rec) (handle_of fetching.rec) (record_of fetching.rec) (sym is.handle)
        (record_got store files history (parent_of undo) (handle_of rec) (handle_of rec) (record_of rec) (record_of fetching.rec) may.keeps
        (Ok (record { front = length history; keys = event.got store present (handle_of rec) (parent_of undo) }))
        (record { good = is.got.good; front = refl; keys = refl; kept = is.rec_is }));
    places = subst (λ n. length files ≤ n) (sym is.places) may.places;
    procs = subst AreProc (sym is.procs) may.procs;
  }

  -- nothing that was told before a set touches anything
  pub barred : (why : UndoFault) → IsBarred undo why → (keys : KeyMap)
      → IsUndoneBy formats undo keys (record_of rec) keys (Err why)
  barred (undo_fault.NoCommit told front) is keys = (is, refl, refl)
  barred (undo_fault.Overtaken name by front) is keys = (is, refl, refl)
  barred (undo_fault.Get why) is keys = (is, refl, refl)
  barred (undo_fault.Set why) is keys = absurd is
  barred undo_fault.Memory is keys = (is, refl, refl)

  pub barred_told : (why : UndoFault) → IsBarred undo why → [] ≡ told_by_undo (set_made undo) (Err why)
  barred_told (undo_fault.NoCommit told front) is = refl
  barred_told (undo_fault.Overtaken name by front) is = refl
  barred_told (undo_fault.Get why) is = refl
  barred_told (undo_fault.Set why) is = absurd is
  barred_told undo_fault.Memory is = refl

  module _ (fetching : Fetching) (is : IsFetched undo rec fetching) where
    pub can : CanUndo formats store history (parent_of undo) (keys_got undo) number
    can =
        can_undo formats store (λ r. proc_of rec) history (handle_of rec) number is.points may.procs legal is.got.there

    -- the set that was prepared is that of the undoing
    pub the_set : prepared (points_of store) (handle_of fetching.rec) (record_of fetching.rec) fetching.parent fetching.made
        ≡ set_made undo
    the_set = λ i. prepared (points_of store) (is.handle i) (is.rec_is i) (is.parent_is i) (is.made_is i)

    pub can_prepare : (why : PrepareFault) → wants_memory (set_fault.Prepare why) ≡ false
        → IsRefusedSet formats store (set_made undo) why → CanRefuse (set_fault.Prepare why)
    can_prepare =
        prepare_can formats store (set_made undo) (λ m. never-unfetched formats store history (handle_of rec) (parent_of undo) (record_of rec) (keys_got undo) number can m)

    pub can_commit : (why : CommitFault) → wants_memory (set_fault.Commit why) ≡ false
        → IsJudged formats store (tells_refusal (Err why)) history present (set_made undo) (Err why)
        → CanRefuse (set_fault.Commit why)
    can_commit (commit_fault.Conflict mount by front) known judged =
        never-blocked formats store history (handle_of rec) (parent_of undo) (record_of rec) (keys_got undo) number can judged.0 by judged.3
    can_commit (commit_fault.FileTooLarge mount bytes front) known judged = tt
    can_commit (commit_fault.Invalid violation front) known judged = tt
    can_commit (commit_fault.DatabaseFull weight front) known judged = tt
    can_commit (commit_fault.HistoryFull weight front) known judged = tt
    can_commit (commit_fault.DiskFault front) known judged = tt
    can_commit commit_fault.Memory known judged = absurd cc
