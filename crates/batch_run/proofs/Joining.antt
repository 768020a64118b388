-- Steps one behind the other.
use Rattle.std.proofs.Common.{◌≡◌, ℕ, ◌+◌, ◌≤◌, List, [], ◌∷◌, ◌++◌, length, take, slice_get, Option, Some, refl, sym, ap, subst, ◌∙◌, append-nil, arith}
use Rattle.std.specs.List.{flat_map}
use Rattle.std.proofs.lemmas.List.Concat.{flat_map-append}
use Rattle.std.proofs.lemmas.List.Sums.{sum_by-append}
use mathlib.Core.List.{IsPrefix}
use Rattle.batch_script.specs.declared.steps.Step.{Step}
use Rattle.general_words.proofs.Lists.{appended, take-next}
use Rattle.kdb_handle.specs.Handles.{HandleValue}
use Rattle.kdb_handle.specs.Story.{Told, commits_of, failures_in, refusals_in}
use Rattle.kdb_handle.specs.Stores.{IsHandle}
use Rattle.kdb_handle.specs.declared.replies.Reply.{Reply}
use Rattle.kdb_handle.proofs.StoryLemmas.{commits-prefix}
use Rattle.model_batch.specs.Replies.{failures_told, numbers_told, refusals_told}
use Rattle.model_batch.specs.Sessions.{Session, Watching}
use Rattle.model_batch.specs.Steps.{Means}
use Rattle.model_batch.specs.Told.{Tells, numbers_by}
use Rattle.model_batch.proofs.Telling.{tells-append, tells-more}
use Rattle.model_maps.specs.KeyMap.{KeyMap}
use Rattle.model_store.specs.Records.{Record}
use Rattle.model_store.specs.Store.{Formats}
use Rattle.seat_lock.specs.Known.{Place}
use Rattle.seat_lock.proofs.Prefixes.{prefix-self, prefix-trans}
use Rattle.batch_run.specs.Stepping.{GoesOn, IsReady, Leads, held, session_of}
use Rattle.batch_run.specs.Watching.{StandsFor}
use Rattle.batch_run.specs.declared.workspaces.Workspace.{Workspace}
use Rattle.batch_run.proofs.WatchLemmas.{stands-more, within-more}
use Rattle.batch_run.proofs.CommitNumbers.{longer-commits, numbers-since}
use Rattle.store_core.specs.declared.cores.Plan.{Plan}
use Rattle.store_verdict.specs.RecordView.{proc_of, record_of}

module _ (formats : Formats) {F : Type 0} (lock : Place Told) (plan : Plan F) where
  -- no step
  pub goes-nowhere : (old : HandleValue) (before : Workspace) → IsReady lock plan old before
      → GoesOn formats lock plan [] [] old before old before
  goes-nowhere old before is = record {
    ready = is;
    number = refl;
    procs = refl;
    seen = prefix-self old.seen;
    tells = λ told watching le stands. record { told = told; within = le; watching = watching; watches = stands; tells = refl };
    own = sym (append-nil (numbers_by old.number (commits_of old.seen)));
    failures = omega arith;
    refusals = omega arith;
  }

  -- what one step means from a session on, which has a handle and a workspace behind it
  pub record Takes (number : ℕ) (procs : KeyMap) (start : Session) (step : Step) (answer : Reply) (handle : HandleValue) (workspace : Workspace) : Type 0 where
    pub told : ℕ
    pub within : told ≤ length (commits_of handle.seen)
    pub watching : Option Watching
    pub watches : StandsFor (commits_of handle.seen) workspace.watch watching
    pub means : Means formats plan.mounted procs number (commits_of handle.seen) start step answer (session_of handle (held workspace watching) told)

  -- one step
  pub goes-one : (step : Step) (answer : Reply) (old new : HandleValue) (before after : Workspace)
      → IsReady lock plan new after → new.number ≡ old.number → proc_of new.rec ≡ proc_of old.rec
      → IsPrefix old.seen new.seen
      → ((told : ℕ) (watching : Option Watching) → told ≤ length (commits_of old.seen) → StandsFor (commits_of old.seen) before.watch watching
      → Takes old.number (proc_of old.rec) (session_of old (held before watching) told) step answer new after)
      → numbers_by old.number (commits_of new.seen) ≡ numbers_by old.number (commits_of old.seen) ++ numbers_told answer
      → failures_in new.own ≡ failures_in old.own + failures_told answer
      → refusals_in new.own ≡ refusals_in old.own + refusals_told answer
      → GoesOn formats lock plan (step ∷ []) (answer ∷ []) old before new after
  goes-one step answer old new before after is number procs seen takes own failures refusals = record {
    ready = is;
    number = number;
    procs = procs;
    seen = seen;
    tells = λ told watching le stands.
        let one = takes told watching le stands in
        record { told = one.told; within = one.within; watching = one.watching; watches = one.watches; tells = (session_of new (held after one.watching) one.told, one.means, refl) };
    own = own ∙ ap (λ (l : List ℕ). numbers_by old.number (commits_of old.seen) ++ l) (sym (append-nil (numbers_told answer)));
    failures = omega (arith, failures);
    refusals = omega (arith, refusals);
  }

  -- one that leaves the watch
  pub goes-keys : (step : Step) (answer : Reply) (old new : HandleValue) (before : Workspace) (after : KeyMap)
      → IsReady lock plan old before → IsHandle lock plan new → new.number ≡ old.number
      → proc_of new.rec ≡ proc_of old.rec
      → IsPrefix old.seen new.seen
      → ((told : ℕ) (watching : Option Watching) → told ≤ length (commits_of old.seen)
      → (last : ℕ) × (last ≤ length (commits_of new.seen))
      × Means formats plan.mounted (proc_of old.rec) old.number (commits_of new.seen) (session_of old (held before watching) told) step answer (session_of new (record { working = after; watching = watching }) last))
      → numbers_by old.number (commits_of new.seen) ≡ numbers_by old.number (commits_of old.seen) ++ numbers_told answer
      → failures_in new.own ≡ failures_in old.own + failures_told answer
      → refusals_in new.own ≡ refusals_in old.own + refusals_told answer
      → GoesOn formats lock plan (step ∷ []) (answer ∷ []) old before new (record before { keys = after })
  goes-keys step answer old new before after was is number procs seen means own failures refusals =
      goes-one step answer old new before (record before { keys = after }) (record { handle_is = is; watch = within-more old.seen new.seen before.watch seen was.watch }) number procs seen
      (λ told watching le stands.
      let one = means told watching le in
      record { told = one.0; within = one.1; watching = watching; watches = stands-more (commits_of old.seen) (commits_of new.seen) before.watch watching (commits-prefix old.seen new.seen seen) stands; means = one.2 })
      own failures refusals

  -- some steps behind others
  pub goes-far : (steps later : List Step) (answers others : List Reply) (old mid new : HandleValue)
      (before between after : Workspace)
      → GoesOn formats lock plan steps answers old before mid between
      → GoesOn formats lock plan later others mid between new after
      → GoesOn formats lock plan (steps ++ later) (answers ++ others) old before new after
  goes-far steps later answers others old mid new before between after one two = record {
    ready = two.ready;
    number = two.number ∙ one.number;
    procs = two.procs ∙ one.procs;
    seen = prefix-trans old.seen mid.seen new.seen one.seen two.seen;
    tells = both;
    own =
        appended (numbers_by old.number (commits_of old.seen)) (numbers_by old.number (commits_of mid.seen)) (numbers_by old.number (commits_of new.seen)) (flat_map numbers_told answers) (flat_map numbers_told others) one.own rest
        ∙ ap (λ (l : List ℕ). numbers_by old.number (commits_of old.seen) ++ l) (sym (flat_map-append numbers_told answers others));
    failures = omega (arith, one.failures, two.failures, sum_by-append failures_told answers others);
    refusals = omega (arith, one.refusals, two.refusals, sum_by-append refusals_told answers others);
  }
    where
      rest : numbers_by old.number (commits_of new.seen)
          ≡ numbers_by old.number (commits_of mid.seen) ++ flat_map numbers_told others
      rest =
          subst (λ (n : ℕ). numbers_by n (commits_of new.seen) ≡ numbers_by n (commits_of mid.seen) ++ flat_map numbers_told others) one.number two.own

      both : (told : ℕ) (watching : Option Watching) → told ≤ length (commits_of old.seen)
          → StandsFor (commits_of old.seen) before.watch watching
          → Leads formats plan.mounted (proc_of old.rec) old.number (session_of old (held before watching) told) (steps ++ later) (answers ++ others) new after
      both told watching le stands =
          let first = one.tells told watching le stands in
          let second = two.tells first.told first.watching first.within first.watches in
          let start : Session = session_of old (held before watching) told in
          let middle : Session = session_of mid (held between first.watching) first.told in
          let last : Session = session_of new (held after second.watching) second.told in
          let begun = tells-more formats plan.mounted (proc_of old.rec) old.number (commits_of mid.seen) (commits_of new.seen) start middle steps answers (commits-prefix mid.seen new.seen two.seen) first.tells in
          let ended = subst (λ (n : ℕ). Tells formats plan.mounted (proc_of old.rec) n (commits_of new.seen) middle later others last) one.number
          (subst (λ (p : KeyMap). Tells formats plan.mounted p mid.number (commits_of new.seen) middle later others last) one.procs second.tells) in
          record {
            told = second.told;
            within = second.within;
            watching = second.watching;
            watches = second.watches;
            tells = tells-append formats plan.mounted (proc_of old.rec) old.number (commits_of new.seen) start middle last steps later answers others begun ended;
          }

  -- one more step of a list
  pub goes-more : (steps : List Step) (i : ℕ) (step : Step) (answers : List Reply) (answer : Reply)
      (old mid new : HandleValue) (before between after : Workspace) → Some step ≡ slice_get steps i
      → GoesOn formats lock plan (take i steps) answers old before mid between
      → GoesOn formats lock plan (step ∷ []) (answer ∷ []) mid between new after
      → GoesOn formats lock plan (take (i + 1) steps) (answers ++ answer ∷ []) old before new after
  goes-more steps i step answers answer old mid new before between after there one two =
      subst (λ (l : List Step). GoesOn formats lock plan l (answers ++ answer ∷ []) old before new after) (sym (take-next steps i step there))
      (goes-far (take i steps) (step ∷ []) answers (answer ∷ []) old mid new before between after one two)

  -- some steps, and then the handle has met others: it has seen more, and made nothing more
  pub goes-met : (steps : List Step) (answers : List Reply) (old mid new : HandleValue) (before after : Workspace)
      → IsHandle lock plan new → new.number ≡ mid.number → IsPrefix mid.seen new.seen
      → new.own ≡ mid.own → new.rec ≡ mid.rec → GoesOn formats lock plan steps answers old before mid after
      → GoesOn formats lock plan steps answers old before new after
  goes-met steps answers old mid new before after is number seen own rec one = record {
    ready = record { handle_is = is; watch = within-more mid.seen new.seen after.watch seen one.ready.watch };
    number = number ∙ one.number;
    procs = ap proc_of rec ∙ one.procs;
    seen = prefix-trans old.seen mid.seen new.seen one.seen seen;
    tells = met;
    own = subst (λ (n : ℕ). numbers_by n (commits_of new.seen) ≡ numbers_by n (commits_of mid.seen)) one.number same ∙ one.own;
    failures = ap failures_in own ∙ one.failures;
    refusals = ap refusals_in own ∙ one.refusals;
  }
    where
      same : numbers_by mid.number (commits_of new.seen) ≡ numbers_by mid.number (commits_of mid.seen)
      same = numbers-since mid new one.ready.handle_is.own is.own (record { number = number; seen = seen; own = own })

      met : (told : ℕ) (watching : Option Watching) → told ≤ length (commits_of old.seen)
          → StandsFor (commits_of old.seen) before.watch watching
          → Leads formats plan.mounted (proc_of old.rec) old.number (session_of old (held before watching) told) steps answers new after
      met told watching le stands =
          let so_far = one.tells told watching le stands in
          let start : Session = session_of old (held before watching) told in
          let begun = tells-more formats plan.mounted (proc_of old.rec) old.number (commits_of mid.seen) (commits_of new.seen) start (session_of mid (held after so_far.watching) so_far.told) steps answers (commits-prefix mid.seen new.seen seen) so_far.tells in
          let with_record : Record → Type 0 = λ r. Tells formats plan.mounted (proc_of old.rec) old.number (commits_of new.seen) start steps answers (record { working = after.keys; rec = r; told = so_far.told; watching = so_far.watching }) in
          record {
            told = so_far.told;
            within = omega (arith, so_far.within, longer-commits mid.seen new.seen seen);
            watching = so_far.watching;
            watches = stands-more (commits_of mid.seen) (commits_of new.seen) after.watch so_far.watching (commits-prefix mid.seen new.seen seen) so_far.watches;
            tells = subst with_record (ap record_of (sym rec)) begun;
          }
