-- A handle behind its turn with an undoing.
use Rattle.std.proofs.Common.{◌≡◌, inl, ℕ, List, [], ◌++◌, length, Option, Some, Result, Ok, Err, refl, sym, ap, subst, ◌∙◌, arith}
use mathlib.Core.List.{IsPrefix}
use Rattle.std.specs.Coded.{Coded}
use Rattle.kdb_outside.specs.declared.disks.Disk.{Ghosts}
use Rattle.kdb_handle.specs.Fronts.{Cover}
use Rattle.kdb_handle.specs.Handles.{HandleValue, handle_with}
use Rattle.kdb_handle.specs.Opened.{store_at}
use Rattle.kdb_handle.specs.Shares.{IsShared}
use Rattle.kdb_handle.specs.Story.{Told, commits_of, maker_of}
use Rattle.kdb_handle.specs.Stores.{IsHandle}
use Rattle.kdb_handle.specs.UndoTurns.{MayUndo, undo_in}
use Rattle.kdb_handle.specs.Undoing.{IsUndone, IsUndoneBy, Undo, parent_of, rec_got, set_made, told_by_undo, undo_by}
use Rattle.kdb_handle.specs.declared.setting.SetFault.TheVariants as set_fault
use Rattle.kdb_handle.specs.declared.undoing.UndoFault.{UndoFault}
use Rattle.kdb_handle.specs.declared.undoing.UndoFault.TheVariants as undo_fault
use Rattle.kdb_handle.proofs.CoverLemmas.{cover-judged, cover-keeping, same-history}
use Rattle.kdb_handle.proofs.HandleLemmas.{covers_found, legal_found, may_undo, one_turn, taken, taken_is}
use Rattle.kdb_handle.proofs.StoryLemmas.{commits-append}
use Rattle.model_history.specs.History.{Commit, replay}
use Rattle.model_maps.specs.KeyMap.{KeyMap}
use Rattle.model_store.specs.Records as model
use Rattle.model_store.specs.Sets as sets
use Rattle.model_store.specs.Sets.{front_in, wants}
use Rattle.model_store.specs.Store.{Formats, points_of}
use Rattle.seat_lock.specs.Known.{Known, Place}
use Rattle.seat_lock.specs.Story.{IsOneTurn, made_by}
use Rattle.set_split.specs.Involved.{involved_in}
use Rattle.store_core.specs.declared.committing.Done.{Done}
use Rattle.store_core.specs.declared.committing.Done.TheVariants as done
use Rattle.store_core.specs.declared.cores.Core.{Core}
use Rattle.store_core.specs.declared.cores.Plan.{Plan}
use Rattle.store_verdict.specs.RecordView.{handle_of, proc_of, record_of}
use Rattle.store_verdict.specs.declared.records.Record.{Record}

-- an undoing tells what its set does, or nothing
undo-told : (number : ℕ) (set : sets.Prepared) (result : Result Done UndoFault) → set.handle ≡ number
    → IsOneTurn maker_of number (told_by_undo set result)
undo-told number set (Ok made) is = one_turn number set (Ok made) is
undo-told number set (Err (undo_fault.Set (set_fault.Commit why))) is = one_turn number set (Err why) is
undo-told number set (Err (undo_fault.Set (set_fault.Prepare why))) is = inl refl
undo-told number set (Err (undo_fault.NoCommit told front)) is = inl refl
undo-told number set (Err (undo_fault.Overtaken name by front)) is = inl refl
undo-told number set (Err (undo_fault.Get why)) is = inl refl
undo-told number set (Err undo_fault.Memory) is = inl refl

-- the fronts of its record cover what they covered, and its own commit
module _ (formats : Formats) (undo : Undo) (handle : ℕ) (covers : Cover (store_at undo.files) handle undo.history (front_in undo.rec)) (keys after : KeyMap) (left : model.Record) where
  got-covers : Cover (store_at undo.files) handle undo.history (front_in (rec_got undo))
  got-covers =
      let points = points_of (store_at undo.files) in
      cover-keeping (store_at undo.files) handle undo.history (involved_in points (parent_of undo)) (length undo.history) (wants points (replay (store_at undo.files).start undo.history)) undo.rec (omega arith) covers

  abbrev CoverAll : Result Done UndoFault → model.Record → Type 0
  CoverAll result rec =
      Cover (store_at undo.files) handle (undo.history ++ commits_of (told_by_undo (set_made undo) result)) (front_in rec)

  as-before : (result : Result Done UndoFault) → commits_of (told_by_undo (set_made undo) result) ≡ [] → left ≡ undo.rec
      → CoverAll result left
  as-before result none same =
      subst (CoverAll result) (sym same) (same-history (store_at undo.files) handle undo.history _ (front_in undo.rec) none covers)

  undo-covers : (result : Result Done UndoFault) → IsUndoneBy formats undo keys left after result → CoverAll result left
  undo-covers (Ok (done.Committed commit aside)) undone =
      subst (CoverAll (Ok (done.Committed commit aside))) (sym undone.left_is) (cover-judged (store_at undo.files) undo.history handle (set_made undo) (rec_got undo) (Ok (done.Committed commit aside)) got-covers)
  undo-covers (Ok (done.Same front aside)) undone = absurd undone
  undo-covers (Err (undo_fault.Set (set_fault.Commit why))) undone =
      subst (CoverAll (Err (undo_fault.Set (set_fault.Commit why)))) (sym undone.left_is) (cover-judged (store_at undo.files) undo.history handle (set_made undo) (rec_got undo) (Err why) got-covers)
  undo-covers (Err (undo_fault.Set (set_fault.Prepare why))) undone =
      subst (CoverAll (Err (undo_fault.Set (set_fault.Prepare why)))) (sym undone.left_is) (same-history (store_at undo.files) handle undo.history _ (front_in (rec_got undo)) refl got-covers)
  undo-covers (Err (undo_fault.NoCommit told front)) undone =
      as-before (Err (undo_fault.NoCommit told front)) refl undone.1
  undo-covers (Err (undo_fault.Overtaken name by front)) undone =
      as-before (Err (undo_fault.Overtaken name by front)) refl undone.1
  undo-covers (Err (undo_fault.Get why)) undone = as-before (Err (undo_fault.Get why)) refl undone.1
  undo-covers (Err undo_fault.Memory) undone = as-before (Err undo_fault.Memory) refl undone.1

-- ---- in terms of the seat that took the turn

module _ {F : Type 0} (lock : Place Told) (plan : Plan F) (old : HandleValue) (seat : Known Told) (rec : Record) (old_is : handle_with (Some seat) rec ≡ old) (is : IsHandle lock plan old)
    {D P : Type 0} (formats : Formats) (g : Ghosts D) (code : Coded D) (refused : P → ℕ) (core : Core D P) (entries : ℕ) (found : List Told) (seen : IsPrefix seat.seen found) (shared : IsShared formats g code refused core entries found) where
  module _ (own_number : handle_of rec ≡ seat.number) (number : ℕ) where
    pub may_take : made_by maker_of seat.number found ≡ seat.own
        → MayUndo formats g code refused plan.mounted core entries found rec
    may_take made =
        may_undo formats g code refused lock plan (taken lock plan old seat rec old_is is) core entries found (taken_is lock plan old seat rec old_is is) seen shared own_number made

    abbrev undo : Undo
    undo = undo_in plan.mounted rec found number

    pub undo_turn : (result : Result Done UndoFault) (told : List Told) → told ≡ told_by_undo (set_made undo) result
        → IsOneTurn maker_of seat.number told
    undo_turn result told is_told =
        subst (IsOneTurn maker_of seat.number) (sym is_told) (undo-told seat.number (set_made undo) result own_number)

    pub undo_covers : (keys after : KeyMap) (new : Record) (result : Result Done UndoFault) (told : List Told)
        → made_by maker_of seat.number found ≡ seat.own → told ≡ told_by_undo (set_made undo) result
        → IsUndoneBy formats undo keys (record_of new) after result
        → Cover (store_at plan.mounted) seat.number (commits_of (found ++ told)) (front_in (record_of new))
    undo_covers keys after new result told made is_told undone =
        subst (λ (cs : List Commit). Cover (store_at plan.mounted) seat.number cs (front_in (record_of new))) (sym (commits-append found told ∙ ap (λ (l : List Told). commits_of found ++ commits_of l) is_told))
        (undo-covers formats undo seat.number (covers_found lock plan old seat rec old_is is formats g code refused core entries found seen shared made) keys after (record_of new) result undone)

    -- by the number of the seat
    abbrev undo_of : ℕ → Undo
    undo_of n =
        record {
          files = plan.mounted;
          handle = n;
          procs = proc_of rec;
          rec = record_of rec;
          history = commits_of found;
          number = number;
        }

    pub undone_so : (keys after : KeyMap) (new : HandleValue) (result : Result Done UndoFault) (told : List Told)
        → made_by maker_of seat.number found ≡ seat.own → told ≡ told_by_undo (set_made undo) result
        → new.seen ≡ found ++ told → new.own ≡ seat.own ++ told
        → IsUndoneBy formats undo keys (record_of new.rec) after result
        → IsUndone formats plan.mounted old new number keys after result
    undone_so keys after new result told made is_told sees gains undone =
        let tells = is_told ∙ ap (λ (n : ℕ). told_by_undo (set_made (undo_of n)) result) own_number in
        subst (λ (o : HandleValue). IsUndone formats plan.mounted o new number keys after result) old_is (record {
          found = found;
          seen = seen;
          own = made;
          legal = legal_found formats g code refused lock plan (taken lock plan old seat rec old_is is) core entries found (taken_is lock plan old seat rec old_is is) seen shared;
          undone = subst (λ (n : ℕ). IsUndoneBy formats (undo_of n) keys (record_of new.rec) after result) own_number undone;
          sees = sees ∙ ap (λ (l : List Told). found ++ l) tells;
          gains = gains ∙ ap (λ (l : List Told). seat.own ++ l) tells;
        })
