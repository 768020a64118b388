-- An undoing: what the handle's turn found is what the step means.
use Rattle.std.proofs.Common.{◌≡◌, ◌≢◌, ◌⊎◌, inl, inr, ℕ, ◌+◌, ◌≤◌, List, [], ◌∷◌, ◌++◌, length, Option, Result, Ok, Err, refl, sym, ap, ap₂, subst, ◌∙◌, append-nil, length-append, arith}
use Rattle.std.specs.Prelude.{false}
use mathlib.Core.List.{IsPrefix}
use Rattle.batch_script.specs.declared.steps.Step.TheVariants.{Undo}
use Rattle.kdb_handle.specs.Handles.{HandleValue}
use Rattle.kdb_handle.specs.Opened.{store_at}
use Rattle.kdb_handle.specs.Sets.{tells_refusal}
use Rattle.kdb_handle.specs.Story.{Told, maker_of, commits_of, failures_in, refusals_in}
use Rattle.kdb_handle.specs.Stores.{IsHandle}
use Rattle.kdb_handle.specs.Undoing.{IsUndone, IsUndoneBy, set_made, told_by_undo, undo_by}
use Rattle.kdb_handle.specs.declared.replies.Reply.TheVariants as reply
use Rattle.kdb_handle.specs.declared.setting.SetFault.TheVariants as set_fault
use Rattle.kdb_handle.specs.declared.undoing.UndoFault.{UndoFault}
use Rattle.kdb_handle.specs.declared.undoing.UndoFault.TheVariants as undo_fault
use Rattle.kdb_handle.proofs.StoryLemmas.{commits-append, failures-append, refusals-append}
use Rattle.model_batch.specs.Replies.{failures_told, numbers_told, refusals_told, undo_reply}
use Rattle.model_batch.specs.Sessions.{Watching}
use Rattle.model_batch.specs.Steps.{Means}
use Rattle.model_batch.specs.Told.{numbers_by, numbers_from}
use Rattle.model_batch.specs.Undos.{UndoStands, undo_told}
use Rattle.model_history.specs.History.{Commit, replay}
use Rattle.model_maps.specs.KeyMap.{KeyMap}
use Rattle.model_store.specs.Records.{Record}
use Rattle.model_store.specs.Sets.{Prepared}
use Rattle.model_store.specs.Store.{Formats}
use Rattle.model_store.specs.Verdicts.{commit_of}
use Rattle.seat_lock.specs.Known.{Place}
use Rattle.seat_lock.specs.Story.{made_by}
use Rattle.seat_lock.proofs.Prefixes.{prefix-trans}
use Rattle.batch_run.specs.Stepping.{GoesOn, IsReady, held, session_of}
use Rattle.batch_run.specs.declared.workspaces.Workspace.{Workspace}
use Rattle.batch_run.proofs.CommitNumbers.{longer-commits, numbers-same, numbers_from-append}
use Rattle.batch_run.proofs.GetTurns.{session_with}
use Rattle.batch_run.proofs.Joining.{goes-keys}
use Rattle.batch_run.proofs.SetTurns.{new-numbers, stands, told-failures, told-refusals}
use Rattle.store_core.specs.declared.committing.Done.{Done}
use Rattle.store_core.specs.declared.committing.Done.TheVariants.{Committed, Same}
use Rattle.store_core.specs.declared.cores.Plan.{Plan}
use Rattle.store_verdict.specs.RecordView.{proc_of, record_of}

-- whether there was no memory for an undoing
undo-memory : (result : Result Done UndoFault) → (result ≡ Err undo_fault.Memory) ⊎ (result ≢ Err undo_fault.Memory)
undo-memory (Ok d) = inr (λ e. absurd cc)
undo-memory (Err undo_fault.Memory) = inl refl
undo-memory (Err (undo_fault.NoCommit number front)) = inr (λ e. absurd cc)
undo-memory (Err (undo_fault.Overtaken name by front)) = inr (λ e. absurd cc)
undo-memory (Err (undo_fault.Get why)) = inr (λ e. absurd cc)
undo-memory (Err (undo_fault.Set why)) = inr (λ e. absurd cc)

-- what an undoing adds to the story is what its reply tells
undo-failures : (set : Prepared) (result : Result Done UndoFault)
    → failures_in (told_by_undo set result) ≡ failures_told (undo_reply result)
undo-failures set (Ok d) = told-failures set (Ok d)
undo-failures set (Err (undo_fault.Set (set_fault.Commit why))) = told-failures set (Err why)
undo-failures set (Err (undo_fault.Set (set_fault.Prepare why))) = refl
undo-failures set (Err (undo_fault.NoCommit number front)) = refl
undo-failures set (Err (undo_fault.Overtaken name by front)) = refl
undo-failures set (Err (undo_fault.Get why)) = refl
undo-failures set (Err undo_fault.Memory) = refl

undo-refusals : (set : Prepared) (result : Result Done UndoFault)
    → refusals_in (told_by_undo set result) ≡ refusals_told (undo_reply result)
undo-refusals set (Ok d) = told-refusals set (Ok d)
undo-refusals set (Err (undo_fault.Set (set_fault.Commit why))) = told-refusals set (Err why)
undo-refusals set (Err (undo_fault.Set (set_fault.Prepare why))) = refl
undo-refusals set (Err (undo_fault.NoCommit number front)) = refl
undo-refusals set (Err (undo_fault.Overtaken name by front)) = refl
undo-refusals set (Err (undo_fault.Get why)) = refl
undo-refusals set (Err undo_fault.Memory) = refl

module _ (formats : Formats) {F : Type 0} (lock : Place Told) (plan : Plan F) (undone : ℕ) (before : Workspace) (after : KeyMap) (old new : HandleValue) (result : Result Done UndoFault)
    (h : IsUndone formats plan.mounted old new undone before.keys after result) where
  abbrev set : Prepared
  set = set_made (undo_by plan.mounted old h.found undone)

  abbrev found : List Commit
  found = commits_of h.found

  -- what it comes to by its answer
  abbrev Came : Result Done UndoFault → Type 0
  Came answer =
      IsUndoneBy formats (undo_by plan.mounted old h.found undone) before.keys (record_of new.rec) after answer

  later_is : commits_of new.seen ≡ found ++ commits_of (told_by_undo set result)
  later_is = ap commits_of h.sees ∙ commits-append h.found (told_by_undo set result)

  undo-seen : IsPrefix old.seen new.seen
  undo-seen = prefix-trans old.seen h.found new.seen h.seen (told_by_undo set result, sym h.sees)

  far : length (commits_of old.seen) ≤ length found
  far = longer-commits old.seen h.found h.seen

  -- ---- what the step means

  stands-so : (answer : Result Done UndoFault) → commits_of new.seen ≡ found ++ commits_of (told_by_undo set answer)
      → UndoStands (commits_of new.seen) found set answer
  stands-so (Ok d) is = stands found (commits_of new.seen) set (Ok d) is
  stands-so (Err why) is = (commits_of (told_by_undo set (Err why)), sym is)

  told-so : (answer : Result Done UndoFault) → Came answer
      → commits_of new.seen ≡ found ++ commits_of (told_by_undo set answer)
      → undo_told (length found) answer ≤ length (commits_of new.seen)
  told-so (Ok (Committed n aside)) came is =
      omega (arith, came.judged.0, ap length is, length-append found (commit_of set ∷ []))
  told-so (Ok (Same front aside)) came is = absurd came
  told-so (Err why) came is = omega (arith, ap length is, length-append found (commits_of (told_by_undo set (Err why))))

  -- want of memory leaves all
  unchanged : result ≡ Err undo_fault.Memory → (record_of new.rec ≡ record_of old.rec) × (after ≡ before.keys)
  unchanged memory = let came : Came (Err undo_fault.Memory) = subst Came memory h.undone in (came.1, came.2)

  undo-means : (told : ℕ) (watching : Option Watching) → told ≤ length (commits_of old.seen)
      → (result ≡ Err undo_fault.Memory) ⊎ (result ≢ Err undo_fault.Memory)
      → (last : ℕ) × (last ≤ length (commits_of new.seen))
      × Means formats plan.mounted (proc_of old.rec) old.number (commits_of new.seen) (session_of old (held before watching) told) (Undo undone) (undo_reply result) (session_of new (record { working = after; watching = watching }) last)
  undo-means told watching le (inr known) = (
    undo_told (length found) result,
    told-so result h.undone later_is,
    inl (record {
      past = found;
      no_less = omega (arith, le, far);
      result = result;
      known = known;
      rec = record_of new.rec;
      keys = after;
      done = h.undone;
      stands = stands-so result later_is;
      reply_is = refl;
      new_is = refl;
    }),
  )
  undo-means told watching le (inl memory) =
      let same = unchanged memory in (
        told,
        omega (arith, le, longer-commits old.seen new.seen undo-seen),
        inr (inl (record {
          reply_is = ap undo_reply memory;
          new_is = ap₂ (λ (keys : KeyMap) (rec : Record). session_with told (record { working = keys; watching = watching }) rec) same.1 same.0;
        })),
      )

  -- ---- what the handle made

  numbers-so : (answer : Result Done UndoFault) → Came answer
      → numbers_from old.number (1 + length found) (commits_of (told_by_undo set answer))
      ≡ numbers_told (undo_reply answer)
  numbers-so (Ok (Committed n aside)) came =
      new-numbers formats (store_at plan.mounted) false old.number found (replay (store_at plan.mounted).start found) set (Ok (Committed n aside)) refl came.judged
  numbers-so (Ok (Same front aside)) came = absurd came
  numbers-so (Err (undo_fault.Set (set_fault.Commit why))) came =
      new-numbers formats (store_at plan.mounted) (tells_refusal (Err why)) old.number found (replay (store_at plan.mounted).start found) set (Err why) refl came.refused.1
  numbers-so (Err (undo_fault.Set (set_fault.Prepare why))) came = refl
  numbers-so (Err (undo_fault.NoCommit number front)) came = refl
  numbers-so (Err (undo_fault.Overtaken name by front)) came = refl
  numbers-so (Err (undo_fault.Get why)) came = refl
  numbers-so (Err undo_fault.Memory) came = refl

  module _ (was : IsReady lock plan old before) (is : IsHandle lock plan new) (number : new.number ≡ old.number) (procs : proc_of new.rec ≡ proc_of old.rec) where
    own-numbers : numbers_by old.number (commits_of new.seen)
        ≡ numbers_by old.number (commits_of old.seen) ++ numbers_told (undo_reply result)
    own-numbers =
        ap (numbers_by old.number) later_is
        ∙ numbers_from-append old.number 1 found (commits_of (told_by_undo set result))
        ∙ ap₂ (λ (one two : List ℕ). one ++ two) (numbers-same old.number old.seen h.found h.seen (h.own ∙ was.handle_is.own)) (numbers-so result h.undone)

    undone-goes : GoesOn formats lock plan (Undo undone ∷ []) (undo_reply result ∷ []) old before new (record before { keys = after })
    undone-goes =
        goes-keys formats lock plan (Undo undone) (undo_reply result) old new before after was is number procs undo-seen
        (λ told watching le. undo-means told watching le (undo-memory result))
        own-numbers
        (omega (arith, ap failures_in h.gains, failures-append old.own (told_by_undo set result), undo-failures set result))
        (omega (arith, ap refusals_in h.gains, refusals-append old.own (told_by_undo set result), undo-refusals set result))

    pub undo-goes : (done : Done) → result ≡ Ok done
        → GoesOn formats lock plan (Undo undone ∷ []) (reply.Undone done ∷ []) old before new (record before { keys = after })
    undo-goes done e =
        subst (λ (r : Result Done UndoFault). GoesOn formats lock plan (Undo undone ∷ []) (undo_reply r ∷ []) old before new (record before { keys = after })) e undone-goes

    pub undo-refused-goes : (why : UndoFault) → result ≡ Err why
        → GoesOn formats lock plan (Undo undone ∷ []) (reply.UndoRefused why ∷ []) old before new (record before { keys = after })
    undo-refused-goes why e =
        subst (λ (r : Result Done UndoFault). GoesOn formats lock plan (Undo undone ∷ []) (undo_reply r ∷ []) old before new (record before { keys = after })) e undone-goes
