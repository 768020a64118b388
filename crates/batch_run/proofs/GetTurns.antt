-- A get: what the handle's turn found is what the step means.
use Rattle.std.proofs.Common.{◌≡◌, inl, inr, ℕ, List, [], ◌∷◌, ◌++◌, length, Option, Result, Ok, Err, refl, sym, ap, ap₂, subst, ◌∙◌, append-nil, arith}
use Rattle.std.specs.FinMap as map
use mathlib.Core.List.{IsPrefix}
use Rattle.batch_script.specs.declared.steps.Step.TheVariants.{Get}
use Rattle.kdb_handle.specs.Gets.{Gives, IsGotAt, IsRefused}
use Rattle.kdb_handle.specs.Handles.{HandleValue}
use Rattle.kdb_handle.specs.Story.{Told, commits_of, failures_in, refusals_in}
use Rattle.kdb_handle.specs.Stores.{IsHandle}
use Rattle.kdb_handle.specs.declared.replies.Reply.TheVariants as reply
use Rattle.model_batch.specs.Sessions.{Session, Watching}
use Rattle.model_batch.specs.Steps.{Means}
use Rattle.model_batch.specs.Told.{numbers_by}
use Rattle.model_history.specs.History.{Commit}
use Rattle.model_maps.specs.KeyMap.{KeyMap}
use Rattle.model_names.specs.Name.{Name}
use Rattle.model_store.specs.Records.{Record}
use Rattle.model_store.specs.Store.{Formats, store_of}
use Rattle.mounted_files.specs.declared.refusals.GetFault.{GetFault}
use Rattle.seat_lock.specs.Known.{Place}
use Rattle.seat_lock.proofs.Prefixes.{prefix-self}
use Rattle.batch_run.specs.Stepping.{GoesOn, Held, IsReady, held, session_of}
use Rattle.batch_run.specs.declared.workspaces.Workspace.{Workspace}
use Rattle.batch_run.proofs.Joining.{goes-keys}
use Rattle.batch_run.proofs.CommitNumbers.{longer-commits, numbers-since}
use Rattle.store_core.specs.declared.cores.Plan.{Plan}
use Rattle.store_core.specs.declared.getting.Got.{Got}
use Rattle.store_verdict.specs.RecordView.{proc_of, record_of}

-- a session by its parts
abbrev pub session_with : ℕ → Held → Record → Session
session_with told holds rec = record { working = holds.working; rec = rec; told = told; watching = holds.watching }

-- who made nothing has no new commits and no new entries
module _ (formats : Formats) {F : Type 0} (lock : Place Told) (plan : Plan F) (parent : Name) (old new : HandleValue) (before : Workspace) (was : IsReady lock plan old before) (is : IsHandle lock plan new)
    (number : new.number ≡ old.number) (procs : proc_of new.rec ≡ proc_of old.rec) (seen : IsPrefix old.seen new.seen) (own : new.own ≡ old.own) where
  same_own : numbers_by old.number (commits_of new.seen) ≡ numbers_by old.number (commits_of old.seen) ++ []
  same_own =
      numbers-since old new was.handle_is.own is.own (record { number = number; seen = seen; own = own })
      ∙ sym (append-nil (numbers_by old.number (commits_of old.seen)))

  got-goes : (got : Got)
      → Gives (store_of plan.mounted (λ r. proc_of old.rec)) (commits_of new.seen) old.number parent (record_of old.rec) (record_of new.rec) got
      → GoesOn formats lock plan (Get parent ∷ []) (reply.Got got.front (length (map.entries got.keys)) ∷ []) old before new (record before { keys = got.keys })
  got-goes got gives =
      let history : List Commit = commits_of new.seen in
      goes-keys formats lock plan (Get parent) (reply.Got got.front (length (map.entries got.keys))) old new before got.keys was is number procs seen
      (λ told watching le. (
        length history,
        omega arith,
        inl (record {
          past = history;
          begins = prefix-self history;
          no_less = omega (arith, le, longer-commits old.seen new.seen seen);
          good = gives.good;
          reply_is = ap₂ reply.Got gives.front (ap (λ (keys : KeyMap). length (map.entries keys)) gives.keys);
          new_is = ap₂ (λ (keys : KeyMap) (rec : Record). session_with (length history) (record { working = keys; watching = watching }) rec) gives.keys gives.kept;
        }),
      ))
      same_own
      (omega (arith, ap failures_in own)) (omega (arith, ap refusals_in own))

  ungot-goes : (why : GetFault) → IsRefused (store_of plan.mounted (λ r. proc_of old.rec)) plan.mounted parent why
      → record_of new.rec ≡ record_of old.rec
      → GoesOn formats lock plan (Get parent ∷ []) (reply.GetRefused why ∷ []) old before new before
  ungot-goes why refused kept =
      goes-keys formats lock plan (Get parent) (reply.GetRefused why) old new before before.keys was is number procs seen
      (λ told watching le. (told, omega (arith, le, longer-commits old.seen new.seen seen), means told watching refused))
      same_own
      (omega (arith, ap failures_in own)) (omega (arith, ap refusals_in own))
    where
      means : (told : ℕ) (watching : Option Watching)
          → IsRefused (store_of plan.mounted (λ r. proc_of old.rec)) plan.mounted parent why
          → Means formats plan.mounted (proc_of old.rec) old.number (commits_of new.seen) (session_of old (held before watching) told) (Get parent) (reply.GetRefused why) (session_of new (held before watching) told)
      means told watching (inl memory) =
          inr (inr (inl (record { reply_is = ap reply.GetRefused memory; new_is = ap (session_with told (held before watching)) kept })))
      means told watching (inr bad) =
          inr (inl (record { mount = bad.0; why = why; bad = bad.2; cause = bad.1; reply_is = refl; new_is = ap (session_with told (held before watching)) kept }))

  pub get-goes : (result : Result Got GetFault) (got : Got) → result ≡ Ok got
      → IsGotAt (store_of plan.mounted (λ r. proc_of old.rec)) plan.mounted (commits_of new.seen) old.number parent (record_of old.rec) (record_of new.rec) result
      → GoesOn formats lock plan (Get parent ∷ []) (reply.Got got.front (length (map.entries got.keys)) ∷ []) old before new (record before { keys = got.keys })
  get-goes result got e at =
      got-goes got (subst (λ (r : Result Got GetFault). IsGotAt (store_of plan.mounted (λ r. proc_of old.rec)) plan.mounted (commits_of new.seen) old.number parent (record_of old.rec) (record_of new.rec) r) e at)

  pub unget-goes : (result : Result Got GetFault) (why : GetFault) → result ≡ Err why
      → IsGotAt (store_of plan.mounted (λ r. proc_of old.rec)) plan.mounted (commits_of new.seen) old.number parent (record_of old.rec) (record_of new.rec) result
      → GoesOn formats lock plan (Get parent ∷ []) (reply.GetRefused why ∷ []) old before new before
  unget-goes result why e at =
      let refused = subst (λ (r : Result Got GetFault). IsGotAt (store_of plan.mounted (λ r. proc_of old.rec)) plan.mounted (commits_of new.seen) old.number parent (record_of old.rec) (record_of new.rec) r) e at in
      ungot-goes why refused.0 refused.1
