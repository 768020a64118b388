-- A watch and a poll: what the watch of the workspace does is what the step means, whatever the watch stands for.
use Rattle.std.proofs.Common.{◌≡◌, inl, inr, ℕ, ◌≤◌, List, [], ◌∷◌, length, Option, Some, None, refl, sym, ap, subst, ◌∙◌, append-nil, arith}
use Rattle.batch_script.specs.declared.steps.Step.TheVariants.{Poll, Watch}
use Rattle.kdb_handle.specs.Handles.{HandleValue}
use Rattle.kdb_handle.specs.Story.{Told, commits_of}
use Rattle.kdb_handle.specs.declared.replies.Reply.{Reply}
use Rattle.kdb_handle.specs.declared.replies.Reply.TheVariants as reply
use Rattle.kdb_handle.proofs.StoryLemmas.{commits-prefix}
use Rattle.model_batch.specs.Sessions.{Watching}
use Rattle.model_batch.specs.Told.{numbers_by}
use Rattle.model_history.specs.History.{Commit}
use Rattle.model_names.specs.Name.{Name}
use Rattle.model_store.specs.Records.{Record}
use Rattle.model_store.specs.Store.{Formats}
use Rattle.seat_lock.specs.Known.{Place}
use Rattle.seat_lock.proofs.Prefixes.{prefix-self}
use Rattle.batch_run.specs.Stepping.{GoesOn, IsReady, held, session_of}
use Rattle.batch_run.specs.Watching.{HasLooked, IsAsked, IsWatch, Listens, StandsFor}
use Rattle.batch_run.specs.declared.workspaces.Workspace.{Workspace}
use Rattle.batch_run.proofs.CommitNumbers.{longer-commits}
use Rattle.batch_run.proofs.EditLemmas.{IsSilent, stays}
use Rattle.batch_run.proofs.GetTurns.{session_with}
use Rattle.batch_run.proofs.Joining.{Takes, goes-one}
use Rattle.batch_run.proofs.SetTurns.{silent-makes}
use Rattle.batch_run.proofs.WatchLemmas.{fresh-again, looked-more, looked-news, looked-on, looked-polled}
use Rattle.store_core.specs.declared.cores.Plan.{Plan}
use Rattle.store_verdict.specs.RecordView.{proc_of, record_of}
use Rattle.watch_feed.specs.Watches.{WatchValue, watching as fresh_watch}

silent_memory : (answer : Reply) → answer ≡ reply.Memory → IsSilent answer
silent_memory answer is = subst IsSilent (sym is) (record { numbers = refl; failures = refl; refusals = refl })

-- ---- a watch

module _ (formats : Formats) {F : Type 0} (lock : Place Told) (plan : Plan F) (old : HandleValue) (before : Workspace) (parent : Name) (room : ℕ) (was : IsReady lock plan old before) where
  begun-goes : GoesOn formats lock plan (Watch parent room ∷ []) (reply.Watching (length (commits_of old.seen)) ∷ []) old before old (record before { watch = Some (fresh_watch parent room (length (commits_of old.seen))) })
  begun-goes =
      let history : List Commit = commits_of old.seen in
      let watched : Watching = record { parent = parent; room = room; from = length history } in
      goes-one formats lock plan (Watch parent room) (reply.Watching (length history)) old old before (record before { watch = Some (fresh_watch parent room (length history)) })
      (record { handle_is = was.handle_is; watch = omega arith }) refl refl (prefix-self old.seen)
      (λ told watching le stands. record {
        told = length history;
        within = omega arith;
        watching = Some watched;
        watches = record { past = history; begins = prefix-self history; from = omega arith; watch_is = fresh-again history parent room };
        means = inl (record { past = history; begins = prefix-self history; no_less = le; reply_is = refl; new_is = refl });
      })
      (sym (append-nil (numbers_by old.number history))) (omega arith) (omega arith)

  pub watch-goes : (after : Workspace) (answer : Reply)
      → IsWatch parent room (length (commits_of old.seen)) before after answer
      → GoesOn formats lock plan (Watch parent room ∷ []) (answer ∷ []) old before old after
  watch-goes after answer (inl begun) =
      subst (λ (a : Reply). GoesOn formats lock plan (Watch parent room ∷ []) (a ∷ []) old before old after) (sym begun.0)
      (subst (λ (w : Workspace). GoesOn formats lock plan (Watch parent room ∷ []) (reply.Watching (length (commits_of old.seen)) ∷ []) old before old w) (sym begun.1) begun-goes)
  watch-goes after answer (inr none) =
      subst (λ (w : Workspace). GoesOn formats lock plan (Watch parent room ∷ []) (answer ∷ []) old before old w) (sym none.1)
      (stays formats lock plan old before before.keys (Watch parent room) answer was (silent_memory answer none.0) (λ told watching. inr (record { reply_is = none.0; new_is = refl })))

-- ---- a poll where nothing is watched

module _ (formats : Formats) {F : Type 0} (lock : Place Told) (plan : Plan F) (old : HandleValue) (before : Workspace) where
  unwatched-takes : before.watch ≡ None → (told : ℕ) (watching : Option Watching) → told ≤ length (commits_of old.seen)
      → StandsFor (commits_of old.seen) None watching
      → Takes formats lock plan old.number (proc_of old.rec) (session_of old (held before watching) told) Poll reply.NoWatch old before
  unwatched-takes none told (Some watched) le stands = absurd stands
  unwatched-takes none told None le stands = record {
    told = told;
    within = le;
    watching = None;
    watches = subst (λ (w : Option WatchValue). StandsFor (commits_of old.seen) w None) (sym none) tt;
    means = inl (record { none = refl; reply_is = refl; new_is = refl });
  }

  pub unwatched-goes : IsReady lock plan old before → before.watch ≡ None
      → GoesOn formats lock plan (Poll ∷ []) (reply.NoWatch ∷ []) old before old before
  unwatched-goes was none =
      goes-one formats lock plan Poll reply.NoWatch old old before before was refl refl (prefix-self old.seen)
      (λ told watching le stands. unwatched-takes none told watching le (subst (λ (w : Option WatchValue). StandsFor (commits_of old.seen) w watching) none stands))
      (sym (append-nil (numbers_by old.number (commits_of old.seen)))) (omega arith) (omega arith)

-- ---- a poll of a watch

module _ (present : List Commit) (watch after : WatchValue) (answer : Reply) where
  asked-within : IsAsked present watch after answer → watch.front ≤ length present → after.front ≤ length present
  asked-within (inl (inl told)) le = omega (arith, ap (λ (w : WatchValue). w.front) told.1)
  asked-within (inl (inr none)) le = omega (arith, ap (λ (w : WatchValue). w.front) none.1)
  asked-within (inr none) le = omega (arith, le, ap (λ (w : WatchValue). w.front) none.1)

  asked-silent : IsAsked present watch after answer → IsSilent answer
  asked-silent (inl (inl told)) =
      subst IsSilent (sym told.0) (record { numbers = refl; failures = refl; refusals = refl })
  asked-silent (inl (inr none)) = silent_memory answer none.0
  asked-silent (inr none) = silent_memory answer none.0

module _ (formats : Formats) {F : Type 0} (lock : Place Told) (plan : Plan F) (old new : HandleValue) (before : Workspace) (watch after : WatchValue) (answer : Reply)
    (listens : Listens lock plan old new) where
  abbrev there : Workspace
  there = record before { watch = Some after }

  -- without memory the session stays
  stayed : (told : ℕ) (watched : Watching) → told ≤ length (commits_of old.seen) → answer ≡ reply.Memory
      → HasLooked (commits_of new.seen) after watched
      → Takes formats lock plan old.number (proc_of old.rec) (session_of old (held before (Some watched)) told) Poll answer new there
  stayed told watched le memory looked = record {
    told = told;
    within = omega (arith, le, longer-commits old.seen new.seen listens.seen);
    watching = Some watched;
    watches = looked;
    means = inr (inr (record { reply_is = memory; new_is = ap (λ (r : Record). session_with told (held before (Some watched)) r) (ap record_of listens.rec) }));
  }

  asked-takes : IsAsked (commits_of new.seen) watch after answer → (told : ℕ) (watching : Option Watching)
      → told ≤ length (commits_of old.seen) → StandsFor (commits_of old.seen) (Some watch) watching
      → Takes formats lock plan old.number (proc_of old.rec) (session_of old (held before watching) told) Poll answer new there
  asked-takes asked told None le stands = absurd stands
  asked-takes (inl (inl hears)) told (Some watched) le stands =
      let present : List Commit = commits_of new.seen in
      let more = commits-prefix old.seen new.seen listens.seen in
      let next : Watching = record watched { from = length present } in
      record {
        told = length present;
        within = omega arith;
        watching = Some next;
        watches = subst (λ (w : WatchValue). HasLooked present w next) (sym hears.1) (looked-polled (commits_of old.seen) present watch watched more stands);
        means = inr (inl (record {
          watched = watched;
          is_watched = refl;
          past = present;
          begins = prefix-self present;
          no_less = omega (arith, le, longer-commits old.seen new.seen listens.seen);
          reply_is = hears.0 ∙ ap reply.News (looked-news (commits_of old.seen) present watch watched more stands);
          new_is = ap (λ (r : Record). session_with (length present) (held before (Some next)) r) (ap record_of listens.rec);
        }));
      }
  asked-takes (inl (inr none)) told (Some watched) le stands =
      let more = commits-prefix old.seen new.seen listens.seen in
      stayed told watched le none.0 (subst (λ (w : WatchValue). HasLooked (commits_of new.seen) w watched) (sym none.1) (looked-on (commits_of old.seen) (commits_of new.seen) watch watched more stands))
  asked-takes (inr none) told (Some watched) le stands =
      let more = commits-prefix old.seen new.seen listens.seen in
      stayed told watched le none.0 (subst (λ (w : WatchValue). HasLooked (commits_of new.seen) w watched) (sym none.1) (looked-more (commits_of old.seen) (commits_of new.seen) watch watched more stands))

  pub poll-goes : IsReady lock plan old before → before.watch ≡ Some watch → watch.front ≤ length (commits_of old.seen)
      → IsAsked (commits_of new.seen) watch after answer
      → GoesOn formats lock plan (Poll ∷ []) (answer ∷ []) old before new there
  poll-goes was is le asked =
      let makes = silent-makes old new answer was.handle_is.own listens.handle.own (record { number = listens.number; seen = listens.seen; own = listens.own }) (asked-silent (commits_of new.seen) watch after answer asked) in
      goes-one formats lock plan Poll answer old new before there
      (record { handle_is = listens.handle; watch = asked-within (commits_of new.seen) watch after answer asked (omega (arith, le, longer-commits old.seen new.seen listens.seen)) })
      listens.number (ap proc_of listens.rec) listens.seen
      (λ told watching le stands. asked-takes asked told watching le (subst (λ (w : Option WatchValue). StandsFor (commits_of old.seen) w watching) is stands))
      makes.numbers makes.failures makes.refusals
