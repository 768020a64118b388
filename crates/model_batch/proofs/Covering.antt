-- The fronts of a session cover all commits of its own that it was told of. So what is in the way of a set is the
-- commit of another.
use Rattle.std.proofs.Common.{◌≡◌, ◌⊎◌, inl, inr, ℕ, ◌+◌, ◌-◌, nat_lt, ◌<◌, ◌≤◌, Bool, true, false, List, [], ◌∷◌, ◌++◌, length, slice_get, Some, Result, Ok, Err, refl, sym, ap, subst, ◌∙◌, arith, length-append, ltb-true, ltb-false}
use Rattle.std.specs.List.{AllByRecursion}
use Rattle.std.proofs.lemmas.Option.{slice_get_within}
use mathlib.Core.List.{IsPrefix}
use Rattle.kdb_handle.specs.Fronts.{Cover, IsAnothers, front_at}
use Rattle.kdb_handle.specs.Opened.{store_at}
use Rattle.kdb_handle.specs.Sets.{tells_refusal}
use Rattle.kdb_handle.specs.Undoing.{IsUndoneBy, Undo, parent_of, rec_got, set_made}
use Rattle.kdb_handle.specs.declared.replies.Reply.{Reply}
use Rattle.kdb_handle.specs.declared.replies.Reply.TheVariants as reply
use Rattle.kdb_handle.specs.declared.setting.SetFault.TheVariants as set_fault
use Rattle.kdb_handle.specs.declared.undoing.UndoFault.{UndoFault}
use Rattle.kdb_handle.specs.declared.undoing.UndoFault.TheVariants as undo_fault
use Rattle.kdb_handle.proofs.BlockLemmas.{another, blocked_at}
use Rattle.kdb_handle.proofs.CoverLemmas.{cover-keeping, cover-own}
use Rattle.model_batch.specs.Replies.{conflicts_told, numbers_told, set_reply, undo_reply}
use Rattle.model_batch.specs.Sessions.{Session}
use Rattle.model_batch.specs.Sets.{Lacks, MeansSet, StandsNext, kept_then, record_then, set_by, told_then}
use Rattle.model_batch.specs.Undos.{UndoStands, Undoes, undo_then, undo_told}
use Rattle.model_batch.proofs.OwnLemmas.{anothers-longer, place-longer, place-shorter}
use Rattle.model_history.specs.History.{Commit, is_among, replay, touches}
use Rattle.model_maps.specs.KeyMap.{KeyMap}
use Rattle.model_names.specs.Name.{Name}
use Rattle.model_store.specs.Cores.{storing}
use Rattle.model_store.specs.Records.{Record}
use Rattle.model_store.specs.Sets.{Prepared, front_in, wants}
use Rattle.model_store.specs.Store.{Formats, Store, counts_keys, points_of}
use Rattle.model_store.specs.Verdicts.{blocking, commit_of}
use Rattle.model_store.proofs.VerdictLemmas.{is_blocked}
use Rattle.model_store.proofs.Members.{from_all}
use Rattle.seat_lock.proofs.Prefixes.{prefix-trans}
use Rattle.mounted_files.specs.declared.files.MountedFile.{MountedFile}
use Rattle.set_split.specs.Involved.{involved_in}
use Rattle.store_core.specs.Answers.{IsJudged}
use Rattle.store_core.specs.declared.committing.CommitFault.{CommitFault}
use Rattle.store_core.specs.declared.committing.CommitFault.TheVariants.{Conflict, FileTooLarge, Invalid, DatabaseFull, HistoryFull, DiskFault, Memory}
use Rattle.store_core.specs.declared.committing.Done.{Done}
use Rattle.store_core.specs.declared.committing.Done.TheVariants.{Committed, Same}
use Rattle.store_verdict.specs.declared.faults.PrepareFault.TheVariants as early_fault

module _ (number : ℕ) (history : List Commit) where
  -- no own commit stands from one place on before another
  abbrev pub NoneBetween : ℕ → ℕ → Type 0
  NoneBetween from to =
      (place : ℕ) (commit : Commit) → slice_get history place ≡ Some commit → commit.handle ≡ number → from ≤ place → to ≤ place

  -- an own commit from one place on has one of some numbers, or stands at another place or behind it
  abbrev pub AreTold : ℕ → List ℕ → ℕ → Type 0
  AreTold from numbers to =
      (place : ℕ) (commit : Commit) → slice_get history place ≡ Some commit → commit.handle ≡ number → from ≤ place → (is_among numbers (place + 1) ≡ true) ⊎ (to ≤ place)

  abbrev pub AreAnothers : List ℕ → Type 0
  AreAnothers numbers = AllByRecursion (IsAnothers number history) numbers

  -- where these numbers lie behind a place, none stands before it
  pub none-behind : (from to place : ℕ) (numbers : List ℕ) → AllByRecursion (λ n. place ≤ n - 1) numbers → place ≤ to
      → AreTold from numbers to → NoneBetween from place
  none-behind from to place numbers all le told at commit there own least = by (told at commit there own least)
    where
      by : (is_among numbers (at + 1) ≡ true) ⊎ (to ≤ at) → place ≤ at
      by (inl among) =
          let far : place ≤ (at + 1) - 1 = from_all (λ n. place ≤ n - 1) numbers (at + 1) all among in omega (arith, far)
      by (inr far) = omega (arith, le, far)

  module _ (store : Store) where
    -- the fronts of a record cover the own commits of the first so many, where the mount counts by its backend
    abbrev pub Covers : Record → ℕ → Type 0
    Covers rec told =
        (place m : ℕ) (commit : Commit) → slice_get history place ≡ Some commit → commit.handle ≡ number → touches m commit ≡ true → counts_keys store m ≡ false
        → place < told → place < front_at (front_in rec) m

    -- what is covered of the history is covered of the first so many commits, and the other way round
    pub past-cover : (past : List Commit) (rec : Record) (told : ℕ) → IsPrefix past history
        → NoneBetween told (length past) → Covers rec told → Cover store number past (front_in rec)
    past-cover past rec told p none covers place m commit there own touched whole = by (nat_lt place told) refl
      where
        by : (b : Bool) → nat_lt place told ≡ b → place < front_at (front_in rec) m
        by true is =
            covers place m commit (place-longer past history place commit p there) own touched whole (ltb-true place told is)
        by false is =
            let far : length past ≤ place = none place commit (place-longer past history place commit p there) own (ltb-false place told is) in
            absurd (omega (arith, far, slice_get_within past place commit there))

    pub covers-past : (past : List Commit) (rec : Record) (told : ℕ) → IsPrefix past history → told ≡ length past
        → Cover store number past (front_in rec) → Covers rec told
    covers-past past rec told p is cover place m commit there own touched whole lt =
        cover place m commit (place-shorter past history place commit p there (omega (arith, is, lt))) own touched whole

    -- a record that sees some mounts anew
    pub covers-kept : (past : List Commit) (mounts : List ℕ) (rec : Record) (told : ℕ) → IsPrefix past history
        → NoneBetween told (length past) → Covers rec told → Covers (kept_then store past mounts rec) (length past)
    covers-kept past mounts rec told p none covers =
        covers-past past (kept_then store past mounts rec) (length past) p refl
        (cover-keeping store number past mounts (length past) (wants (points_of store) (replay store.start past)) rec (omega arith) (past-cover past rec told p none covers))

    -- a record that stays, where more was told and none of it is own
    pub covers-later : (past : List Commit) (rec : Record) (told : ℕ) → IsPrefix past history
        → AreTold told [] (length past) → Covers rec told → Covers rec (length past)
    covers-later past rec told p none covers =
        covers-past past rec (length past) p refl (past-cover past rec told p (none-behind told (length past) (length past) [] tt (omega arith) none) covers)

    -- ---- a step

    -- the fronts cover what was told, and each commit in the way is another's
    abbrev pub Leaves : Reply → Session → Type 0
    Leaves answer new = Covers new.rec new.told × AreAnothers (conflicts_told answer)

    -- by what the reply and the session are
    pub leaves : (from : ℕ) (said answer : Reply) (made new : Session) → answer ≡ said → new ≡ made
        → (AreTold from (numbers_told said) made.told → Leaves said made) → AreTold from (numbers_told answer) new.told
        → Leaves answer new
    leaves from said answer made new reply_is new_is go told =
        subst (λ (a : Reply). Leaves a new) (sym reply_is)
        (subst (λ (s : Session). Leaves said s) (sym new_is)
        (go (subst (λ (s : Session). AreTold from (numbers_told said) s.told) new_is (subst (λ (a : Reply). AreTold from (numbers_told a) new.told) reply_is told))))

    -- a step that tells of no conflict and leaves record and number
    pub leaves-same : (said : Reply) (old new : Session) (answer : Reply) → conflicts_told said ≡ [] → answer ≡ said
        → new.rec ≡ old.rec → new.told ≡ old.told → Covers old.rec old.told → Leaves answer new
    leaves-same said old new answer none reply_is rec_is told_is covers = (
      subst (λ (r : Record). Covers r new.told) (sym rec_is) (subst (λ (n : ℕ). Covers old.rec n) (sym told_is) covers),
      subst AreAnothers (sym (ap conflicts_told reply_is ∙ none)) tt,
    )

    pub lacks-covers : (memory : Reply) (old new : Session) (answer : Reply) → conflicts_told memory ≡ []
        → Lacks memory old answer new → Covers old.rec old.told → Leaves answer new
    lacks-covers memory old new answer none h covers =
        leaves-same memory old new answer none h.reply_is (ap (λ (s : Session). s.rec) h.new_is) (ap (λ (s : Session). s.told) h.new_is) covers

    module _ (parent : Name) where
      module _ (past : List Commit) (keys : KeyMap) (old : Session) (covers : Covers old.rec old.told) where
        abbrev set : Prepared
        set = set_by store number old parent keys

        -- an answer that leaves the record
        stays : (front : ℕ) → IsPrefix past history → front ≡ length past → AreTold old.told [] front
            → Cover store number past (front_in old.rec) × Covers old.rec front
        stays front p is told =
            let cover = past-cover past old.rec old.told p (none-behind old.told front (length past) [] tt (omega (arith, is)) told) covers in
            (cover, covers-past past old.rec front p is cover)

        judged-covers : (formats : Formats) (risen : Bool) (result : Result Done CommitFault)
            → IsJudged formats store risen past (replay store.start past) set result
            → StandsNext history past set result
            → AreTold old.told (numbers_told (set_reply result)) (told_then result old.told)
            → Covers (record_then store past set result old.rec) (told_then result old.told)
            × AreAnothers (conflicts_told (set_reply result))
        judged-covers formats risen (Ok (Committed n aside)) h stands told =
            let all : List Commit = past ++ commit_of set ∷ [] in
            let p : IsPrefix past history = prefix-trans past all history (commit_of set ∷ [], refl) stands in
            let none = none-behind old.told n (length past) (n ∷ []) (omega (arith, h.0), tt) (omega (arith, h.0)) told in
            let long : length past + 1 ≡ length all = omega (arith, length-append past (commit_of set ∷ [])) in
            let wanted : ℕ → KeyMap = wants (points_of store) set.keys in
            let cover = cover-own store number past (commit_of set) wanted old.rec (past-cover past old.rec old.told p none covers) in
            (covers-past all (storing store set.touched (length past + 1) wanted old.rec) n stands (omega (arith, h.0, long)) cover, tt)
        judged-covers formats risen (Ok (Same front aside)) h stands told = ((stays front stands h.0 told).1, tt)
        judged-covers formats risen (Err (Conflict mount by front)) h stands told =
            let done = stays front stands h.2 told in
            let blocks : blocking store past set h.0 ≡ Some by = blocked_at store past set set.touched h.0 by (is_blocked h.0 by formats store past (replay store.start past) set h.3) in
            (done.1, (anothers-longer number past history by stands (another store past set old.rec (involved_in (points_of store) parent) h.0 by refl done.0 blocks), tt))
        judged-covers formats risen (Err (FileTooLarge mount bytes front)) h stands told =
            ((stays front stands h.2 told).1, tt)
        judged-covers formats risen (Err (Invalid violation front)) h stands told =
            ((stays front stands h.0 told).1, tt)
        judged-covers formats risen (Err (DatabaseFull weight front)) h stands told =
            ((stays front stands h.0 told).1, tt)
        judged-covers formats risen (Err (HistoryFull weight front)) h stands told =
            ((stays front stands h.0 told).1, tt)
        judged-covers formats risen (Err (DiskFault front)) h stands told = ((stays front stands h.1 told).1, tt)
        judged-covers formats risen (Err Memory) h stands told = (covers, tt)

      pub set-covers : (formats : Formats) (keys : KeyMap) (old new : Session) (answer : Reply)
          → MeansSet formats store number history parent keys old answer new → Covers old.rec old.told
          → AreTold old.told (numbers_told answer) new.told → Leaves answer new
      set-covers formats keys old new answer (inl h) covers told =
          leaves old.told (set_reply h.result) answer (record old { rec = record_then store h.past (set_by store number old parent keys) h.result old.rec; told = told_then h.result old.told }) new h.reply_is h.new_is
          (judged-covers h.past keys old covers formats (tells_refusal h.result) h.result h.judged h.stands) told
      set-covers formats keys old new answer (inr (inl h)) covers told =
          leaves-same (reply.SetRefused (set_fault.Prepare h.why)) old new answer refl h.reply_is (ap (λ (s : Session). s.rec) h.new_is) (ap (λ (s : Session). s.told) h.new_is) covers
      set-covers formats keys old new answer (inr (inr (inl h))) covers told =
          lacks-covers (reply.SetRefused (set_fault.Commit Memory)) old new answer refl h covers
      set-covers formats keys old new answer (inr (inr (inr (inl h)))) covers told =
          lacks-covers (reply.SetRefused (set_fault.Prepare early_fault.Memory)) old new answer refl h covers
      set-covers formats keys old new answer (inr (inr (inr (inr h)))) covers told =
          lacks-covers reply.Memory old new answer refl h covers

  -- an undoing
  module _ (formats : Formats) (files : List MountedFile) (procs : KeyMap) (undone : ℕ) (old new : Session) (answer : Reply) (h : Undoes formats files procs number history undone old answer new) (covers : Covers (store_at files) old.rec old.told) where
    abbrev undo : Undo
    undo = undo_then files procs number old.rec h.past undone

    abbrev store_of_files : Store
    store_of_files = store_at files

    abbrev made : Record → ℕ → Session
    made rec told = record old { working = h.keys; rec = rec; told = told }

    -- the get of its parent
    got-covers : (told : ℕ) → IsPrefix h.past history → NoneBetween old.told (length h.past)
        → Covers store_of_files (rec_got undo) (length h.past)
    got-covers told p none =
        covers-kept store_of_files h.past (involved_in (points_of store_of_files) (parent_of undo)) old.rec old.told p none covers

    undone-covers : (rec : Record) (result : Result Done UndoFault)
        → IsUndoneBy formats undo old.working rec h.keys result → UndoStands history h.past (set_made undo) result
        → AreTold old.told (numbers_told (undo_reply result)) (undo_told (length h.past) result)
        → Covers store_of_files rec (undo_told (length h.past) result)
        × AreAnothers (conflicts_told (undo_reply result))
    undone-covers rec (Ok (Committed n aside)) done stands told =
        let set : Prepared = set_made undo in
        let all : List Commit = h.past ++ commit_of set ∷ [] in
        let p : IsPrefix h.past history = prefix-trans h.past all history (commit_of set ∷ [], refl) stands in
        let none = none-behind old.told n (length h.past) (n ∷ []) (omega (arith, done.judged.0), tt) (omega (arith, done.judged.0)) told in
        let got : Covers store_of_files (rec_got undo) (length h.past) = got-covers n p none in
        let long : length h.past + 1 ≡ length all = omega (arith, length-append h.past (commit_of set ∷ [])) in
        let wanted : ℕ → KeyMap = wants (points_of store_of_files) set.keys in
        let before : Cover store_of_files number h.past (front_in (rec_got undo)) = past-cover store_of_files h.past (rec_got undo) (length h.past) p (λ place commit there own le. le) got in
        let cover = cover-own store_of_files number h.past (commit_of set) wanted (rec_got undo) before in
        let after : Record = storing store_of_files set.touched (length h.past + 1) wanted (rec_got undo) in
        (subst (λ (r : Record). Covers store_of_files r n) (sym done.left_is) (covers-past store_of_files all after n stands (omega (arith, done.judged.0, long)) cover), tt)
    undone-covers rec (Ok (Same front aside)) done stands told = absurd done
    undone-covers rec (Err (undo_fault.Set why)) done stands told =
        let none = none-behind old.told (length h.past) (length h.past) [] tt (omega arith) told in
        (subst (λ (r : Record). Covers store_of_files r (length h.past)) (sym done.left_is) (got-covers (length h.past) stands none), tt)
    undone-covers rec (Err (undo_fault.NoCommit n front)) done stands told =
        (subst (λ (r : Record). Covers store_of_files r (length h.past)) (sym done.1) (covers-later store_of_files h.past old.rec old.told stands told covers), tt)
    undone-covers rec (Err (undo_fault.Overtaken name by front)) done stands told =
        (subst (λ (r : Record). Covers store_of_files r (length h.past)) (sym done.1) (covers-later store_of_files h.past old.rec old.told stands told covers), tt)
    undone-covers rec (Err (undo_fault.Get why)) done stands told =
        (subst (λ (r : Record). Covers store_of_files r (length h.past)) (sym done.1) (covers-later store_of_files h.past old.rec old.told stands told covers), tt)
    undone-covers rec (Err undo_fault.Memory) done stands told =
        (subst (λ (r : Record). Covers store_of_files r (length h.past)) (sym done.1) (covers-later store_of_files h.past old.rec old.told stands told covers), tt)

    pub undo-covers : AreTold old.told (numbers_told answer) new.told → Leaves store_of_files answer new
    undo-covers told =
        leaves store_of_files old.told (undo_reply h.result) answer (made h.rec (undo_told (length h.past) h.result)) new h.reply_is h.new_is (undone-covers h.rec h.result h.done h.stands) told
