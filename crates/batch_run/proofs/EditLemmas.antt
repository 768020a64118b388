-- The steps that ask no store: the handle stays.
use Rattle.std.proofs.Common.{◌≡◌, ◌⊎◌, inl, inr, ℕ, List, [], ◌∷◌, ◌++◌, Option, Some, None, refl, sym, ap, subst, ◌∙◌, append-nil, arith}
use Rattle.batch_script.specs.declared.steps.Step.{Step}
use Rattle.batch_script.specs.declared.steps.Step.TheVariants.{Look}
use Rattle.kdb_handle.specs.Handles.{HandleValue}
use Rattle.kdb_handle.specs.Story.{Told, commits_of}
use Rattle.kdb_handle.specs.declared.replies.Reply.{Reply}
use Rattle.kdb_handle.specs.declared.replies.Reply.TheVariants as reply
use Rattle.model_batch.specs.Replies.{failures_told, look_reply, numbers_told, refusals_told}
use Rattle.model_batch.specs.Sessions.{Session, Watching}
use Rattle.model_batch.specs.Sets.{Lacks}
use Rattle.model_batch.specs.Steps.{Edits, Means}
use Rattle.model_batch.specs.Told.{numbers_by}
use Rattle.model_maps.specs.KeyMap.{KeyMap}
use Rattle.model_names.specs.Name.{Name}
use Rattle.model_specified.specs.Specified.{specified}
use Rattle.model_store.specs.Store.{Formats}
use Rattle.seat_lock.specs.Known.{Place}
use Rattle.seat_lock.proofs.Prefixes.{prefix-self}
use Rattle.batch_run.specs.Stepping.{GoesOn, IsEdit, IsLook, IsReady, held, session_of}
use Rattle.batch_run.specs.declared.workspaces.Workspace.{Workspace}
use Rattle.batch_run.proofs.Joining.{goes-keys}
use Rattle.spec_cascade.specs.Found.{found}
use Rattle.spec_cascade.specs.declared.founds.Found.{Found}
use Rattle.store_core.specs.declared.cores.Plan.{Plan}
use Rattle.store_verdict.specs.RecordView.{proc_of}

-- a reply that tells no commit, no failure and no refusal
pub record IsSilent (answer : Reply) : Type 0 where
  pub numbers : numbers_told answer ≡ []
  pub failures : failures_told answer ≡ 0
  pub refusals : refusals_told answer ≡ 0

silent_look : (found : Option Found) → IsSilent (look_reply found)
silent_look None = record { numbers = refl; failures = refl; refusals = refl }
silent_look (Some found) = record { numbers = refl; failures = refl; refusals = refl }

module _ (formats : Formats) {F : Type 0} (lock : Place Told) (plan : Plan F) (old : HandleValue) (before : Workspace) (after : KeyMap) (step : Step) (answer : Reply) where
  pub stays : IsReady lock plan old before → IsSilent answer
      → ((told : ℕ) (watching : Option Watching) → Means formats plan.mounted (proc_of old.rec) old.number (commits_of old.seen) (session_of old (held before watching) told) step answer (session_of old (record { working = after; watching = watching }) told))
      → GoesOn formats lock plan (step ∷ []) (answer ∷ []) old before old (record before { keys = after })
  stays is silent means =
      goes-keys formats lock plan step answer old old before after is is.handle_is refl refl (prefix-self old.seen) (λ told watching le. (told, le, means told watching))
      (sym (append-nil (numbers_by old.number (commits_of old.seen))) ∙ ap (λ (l : List ℕ). numbers_by old.number (commits_of old.seen) ++ l) (sym silent.numbers))
      (omega (arith, silent.failures)) (omega (arith, silent.refusals))

  -- an edit, or no memory for it
  pub edit-goes : (edited : KeyMap) → IsReady lock plan old before
      → ((told : ℕ) (watching : Option Watching)
      → Edits edited (session_of old (held before watching) told) answer (session_of old (record { working = after; watching = watching }) told)
      ⊎ Lacks reply.Memory (session_of old (held before watching) told) answer (session_of old (record { working = after; watching = watching }) told)
      → Means formats plan.mounted (proc_of old.rec) old.number (commits_of old.seen) (session_of old (held before watching) told) step answer (session_of old (record { working = after; watching = watching }) told))
      → IsEdit edited before.keys after answer
      → GoesOn formats lock plan (step ∷ []) (answer ∷ []) old before old (record before { keys = after })
  edit-goes edited is means (inl done) =
      let with_set : ℕ → Option Watching → KeyMap → Session = λ told watching keys. session_of old (record { working = keys; watching = watching }) told in
      stays is (subst IsSilent (sym done.0) (record { numbers = refl; failures = refl; refusals = refl }))
      (λ told watching. means told watching (inl (record { reply_is = done.0; new_is = ap (with_set told watching) done.1 })))
  edit-goes edited is means (inr none) =
      let with_set : ℕ → Option Watching → KeyMap → Session = λ told watching keys. session_of old (record { working = keys; watching = watching }) told in
      stays is (subst IsSilent (sym none.0) (record { numbers = refl; failures = refl; refusals = refl }))
      (λ told watching. means told watching (inr (record { reply_is = none.0; new_is = ap (with_set told watching) none.1 })))

pub look-goes : (formats : Formats) {F : Type 0} (lock : Place Told) (plan : Plan F) (old : HandleValue)
    (before : Workspace) (name : Name) (answer : Reply) → IsReady lock plan old before
    → IsLook (found (specified before.keys) name) answer
    → GoesOn formats lock plan (Look name ∷ []) (answer ∷ []) old before old before
look-goes formats lock plan old before name answer is (inl told) =
    stays formats lock plan old before before.keys (Look name) answer is (subst IsSilent (sym told) (silent_look (found (specified before.keys) name))) (λ n watching. inl (record { reply_is = told; new_is = refl }))
look-goes formats lock plan old before name answer is (inr none) =
    stays formats lock plan old before before.keys (Look name) answer is (subst IsSilent (sym none) (record { numbers = refl; failures = refl; refusals = refl })) (λ n watching. inr (record { reply_is = none; new_is = refl }))
