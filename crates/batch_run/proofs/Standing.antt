-- How the sessions of a batch come from one phase to the next, and what all of it says of the history in the end.
use Rattle.std.proofs.Common.{◌≡◌, ◌⊎◌, inl, inr, ℕ, zero, suc, ◌+◌, ◌<◌, ◌≤◌, List, [], ◌∷◌, ◌++◌, length, get_or, take, map, slice_get, Option, Some, None, All, flat_map, sum_by, refl, sym, ap, subst, ◌∙◌, append-nil, arith}
use Rattle.std.proofs.lemmas.List.{get_or-map, length_push, take-append-le, take_at}
use Rattle.std.proofs.lemmas.List.Concat.{flat_map-append}
use Rattle.std.proofs.lemmas.List.Elements.{All-from_recursion}
use Rattle.std.proofs.lemmas.List.Sums.{sum_by-append}
use Rattle.std.proofs.lemmas.Option.{slice_get_within}
use Rattle.std.specs.List.{AllByRecursion}
use mathlib.Core.List.{IsPrefix}
use Rattle.general_words.proofs.Places.{last_or_before, there_is}
use Rattle.batch_script.specs.declared.steps.Step.{Step}
use Rattle.batch_run.specs.Closes.{Closes, IsFresh}
use Rattle.batch_run.specs.Going.{IsThrough, count_seen}
use Rattle.batch_run.specs.Stands.{HasTaken, IsFull, LeadsThrough, Stand}
use Rattle.batch_run.specs.Workers.{IsResting, IsSeated, handle_in}
use Rattle.batch_run.specs.declared.workers.Worker.{Worker}
use Rattle.batch_run.proofs.Counting.{covered}
use Rattle.batch_run.proofs.ShownLemmas.{in_row-at}
use Rattle.batch_run.proofs.WatchLemmas.{stands-within}
use Rattle.kdb_handle.specs.Handles.{HandleValue}
use Rattle.kdb_handle.specs.Story.{Told, commits_of, failures_in, refusals_in}
use Rattle.kdb_handle.specs.declared.replies.Reply.{Reply}
use Rattle.kdb_handle.proofs.StoryLemmas.{commits-prefix}
use Rattle.model_batch.specs.Fair.{IsFair, in_row, of_session, commits_told, count_told}
use Rattle.model_batch.specs.Replies.{failures_told, numbers_told, refusals_told}
use Rattle.model_batch.specs.Sessions.{Session, Watching, first_session}
use Rattle.model_batch.specs.Told.{IsAtLeast, Tells, numbers_by}
use Rattle.model_batch.proofs.Knowing.{phases-more, phases-next}
use Rattle.model_batch.proofs.Telling.{all-less, tells-later}
use Rattle.model_history.specs.History.{Commit, commits_by}
use Rattle.model_maps.specs.KeyMap.{KeyMap}
use Rattle.model_store.specs.Store.{Formats}
use Rattle.mounted_files.specs.declared.files.MountedFile.{MountedFile}
use Rattle.seat_lock.specs.Known.{Place}
use Rattle.batch_run.specs.Stepping.{GoesOn, Leads, held, session_of}
use Rattle.batch_run.specs.Watching.{StandsFor}
use Rattle.store_core.specs.declared.cores.Plan.{Plan}
use Rattle.store_verdict.specs.RecordView.{proc_of, record_of}
use Rattle.watch_feed.specs.Watches.{WatchValue}

-- ---- rows

-- what a session has in one row more
session-snoc : {A : Type 0} (i : ℕ) (rows : List (List (List A))) (row : List (List A))
    → of_session i (rows ++ row ∷ []) ≡ of_session i rows ++ in_row i row
session-snoc {A} i rows row =
    flat_map-append (in_row i) rows (row ∷ []) ∙ ap (λ (l : List A). of_session i rows ++ l) (append-nil (in_row i row))

count-none : (n : ℕ) → count_told n [] ≡ 0
count-none zero = refl
count-none (suc n) = ap (λ k. k + 0) (count-none n)

-- ---- replies

-- lower floors are kept too
lower : (low high : ℕ) (replies : List Reply) → low ≤ high → AllByRecursion (IsAtLeast high) replies
    → All (IsAtLeast low) replies
lower low high replies le all = All-from_recursion (IsAtLeast low) replies (all-less low high replies le all)

-- as many replies as steps
tells-length : (formats : Formats) (files : List MountedFile) (procs : KeyMap) (number : ℕ) (history : List Commit)
    (old new : Session) (steps : List Step) (replies : List Reply)
    → Tells formats files procs number history old steps replies new
    → length replies ≡ length steps
tells-length formats files procs number history old new [] [] h = refl
tells-length formats files procs number history old new [] (reply ∷ replies) h = absurd h
tells-length formats files procs number history old new (step ∷ steps) [] h = absurd h
tells-length formats files procs number history old new (step ∷ steps) (reply ∷ replies) h =
    ap suc (tells-length formats files procs number history h.0 new steps replies h.2)

module _ (formats : Formats) {F : Type 0} (lock : Place Told) (plan : Plan F) where
  -- ---- one session

  -- one that has a handle that was just opened
  pub taken-first : (procs : KeyMap) (sessions i : ℕ) (worker : Worker)
      → IsFresh lock plan (i + 1) procs worker.session.handle → IsSeated worker
      → HasTaken formats lock plan procs sessions i [] [] worker
  taken-first procs sessions i worker fresh seated =
      let none : commits_of worker.session.handle.seen ≡ [] = ap commits_of (fresh.seen ∙ fresh.handle_is.started.start) in
      let count : (record_of worker.session.handle.rec).committed ≡ 0 =
      fresh.handle_is.keeps.count ∙ ap (λ (l : List Commit). length (commits_by worker.session.handle.number l)) none in record {
        handle = fresh.handle_is;
        number_is = fresh.number_is;
        procs_are = fresh.procs_are;
        leads = record {
          told = 0;
          within = omega arith;
          watching = None;
          watches = subst (λ (watch : Option WatchValue). StandsFor (commits_of worker.session.handle.seen) watch None) (sym seated.watch) tt;
          tells = λ i. record { working = seated.keys i; rec = record { fetched = λ m. fresh.rec m i; committed = count i }; told = 0; watching = None };
        };
        own = ap (numbers_by (i + 1)) none;
        failures = ap failures_in fresh.own;
        refusals = ap refusals_in fresh.own;
        idle = seated.told;
      }

  -- how a session went on, by its number and its keys in `proc`
  goes-as : (procs : KeyMap) (number : ℕ) (steps : List Step) (replies : List Reply) (old new : Worker) (told : ℕ)
      (watching : Option Watching)
      → GoesOn formats lock plan steps replies old.session.handle old.session.workspace new.session.handle new.session.workspace
      → old.session.handle.number ≡ number → proc_of old.session.handle.rec ≡ procs
      → told ≤ length (commits_of old.session.handle.seen)
      → StandsFor (commits_of old.session.handle.seen) old.session.workspace.watch watching
      → Leads formats plan.mounted procs number (session_of old.session.handle (held old.session.workspace watching) told) steps replies new.session.handle new.session.workspace
  goes-as procs number steps replies old new told watching goes number_is procs_are le stands =
      let Says : KeyMap → ℕ → Type 0 = λ p n. Leads formats plan.mounted p n (session_of old.session.handle (held old.session.workspace watching) told) steps replies new.session.handle new.session.workspace in
      subst (λ (p : KeyMap). Says p number) procs_are (subst (λ (n : ℕ). Says (proc_of old.session.handle.rec) n) number_is (goes.tells told watching le stands))

  -- One that goes through one phase more. When it begins the session knows of all commits that its handle has seen
  taken-next : (procs : KeyMap) (sessions i : ℕ) (steps : List (List (List Step))) (replies : List (List (List Reply)))
      (made : List (List Step)) (row : List (List Reply)) (old new : Worker)
      → HasTaken formats lock plan procs sessions i steps replies old
      → count_told sessions replies ≤ length (commits_of old.session.handle.seen)
      → GoesOn formats lock plan (in_row i made) (in_row i row) old.session.handle old.session.workspace new.session.handle new.session.workspace
      → new.told.items ≡ [] → HasTaken formats lock plan procs sessions i (steps ++ made ∷ []) (replies ++ row ∷ []) new
  taken-next procs sessions i steps replies made row old new was knows goes idle =
      let number : ℕ = i + 1 in
      let told : List Reply = in_row i row in
      let history = commits_of new.session.handle.seen in
      let seen : ℕ = length (commits_of old.session.handle.seen) in
      let led = was.leads in
      let on = goes-as procs number (in_row i made) told old new seen led.watching goes was.number_is was.procs_are (omega arith) led.watches in
      let middle : Session = session_of old.session.handle (held old.session.workspace led.watching) led.told in
      let last : Session = session_of new.session.handle (held new.session.workspace on.watching) on.told in
      let before = phases-more formats plan.mounted procs number (commits_of old.session.handle.seen) history sessions i first_session middle [] steps replies
      (commits-prefix old.session.handle.seen new.session.handle.seen goes.seen) led.tells in
      let own : numbers_by number history ≡ numbers_by number (commits_of old.session.handle.seen) ++ flat_map numbers_told told =
      subst (λ (n : ℕ). numbers_by n history ≡ numbers_by n (commits_of old.session.handle.seen) ++ flat_map numbers_told told) was.number_is goes.own in
      let more : of_session i (replies ++ row ∷ []) ≡ of_session i replies ++ told = session-snoc i replies row in
      record {
        handle = goes.ready.handle_is;
        number_is = goes.number ∙ was.number_is;
        procs_are = goes.procs ∙ was.procs_are;
        leads = record {
          told = on.told;
          within = on.within;
          watching = on.watching;
          watches = on.watches;
          tells =
              phases-next formats plan.mounted procs number history sessions i first_session middle last [] steps replies made row before
              (record { told = seen; no_less = led.within; knows = knows; mid = last; tells = on.tells; rest = refl });
        };
        own = own ∙ ap (λ (l : List ℕ). l ++ flat_map numbers_told told) was.own ∙ sym (ap (flat_map numbers_told) more ∙ flat_map-append numbers_told (of_session i replies) told);
        failures = goes.failures ∙ ap (λ k. k + sum_by failures_told told) was.failures ∙ sym (ap (sum_by failures_told) more ∙ sum_by-append failures_told (of_session i replies) told);
        refusals = goes.refusals ∙ ap (λ k. k + sum_by refusals_told told) was.refusals ∙ sym (ap (sum_by refusals_told) more ∙ sum_by-append refusals_told (of_session i replies) told);
        idle = idle;
      }

  module _ (steps : List Step) (replies : List Reply) (old new : Worker) (watching : Option Watching) (stands : StandsFor (commits_of old.session.handle.seen) old.session.workspace.watch watching)
      (goes : GoesOn formats lock plan steps replies old.session.handle old.session.workspace new.session.handle new.session.workspace) where
    -- each front of a phase is at least what the handle had seen before
    goes-fronts : AllByRecursion (IsAtLeast (length (commits_of old.session.handle.seen))) replies
    goes-fronts =
        let seen = length (commits_of old.session.handle.seen) in
        let on = goes.tells seen watching (omega arith) stands in
        (tells-later formats plan.mounted (proc_of old.session.handle.rec) old.session.handle.number (commits_of new.session.handle.seen) (session_of old.session.handle (held old.session.workspace watching) seen)
        (session_of new.session.handle (held new.session.workspace on.watching) on.told) steps replies on.tells).1

    goes-length : length replies ≡ length steps
    goes-length =
        let on = goes.tells 0 watching (omega arith) stands in
        tells-length formats plan.mounted (proc_of old.session.handle.rec) old.session.handle.number (commits_of new.session.handle.seen) (session_of old.session.handle (held old.session.workspace watching) 0)
        (session_of new.session.handle (held new.session.workspace on.watching) on.told) steps replies on.tells

  -- one that has no replies in its present phase can take steps
  pub rests : (procs : KeyMap) (sessions i : ℕ) (steps : List (List (List Step))) (replies : List (List (List Reply)))
      (worker : Worker) → HasTaken formats lock plan procs sessions i steps replies worker → IsResting lock plan worker
  rests procs sessions i steps replies worker taken = record {
    ready = record { handle_is = taken.handle; watch = stands-within worker.session.handle.seen worker.session.workspace.watch taken.leads.watching taken.leads.watches };
    none = taken.idle;
  }

  -- ---- all sessions

  pub stand-first : (procs : ℕ → KeyMap) (workers : List Worker)
      → ((i : ℕ) (d : Worker) → i < length workers → HasTaken formats lock plan (procs (i + 1)) (length workers) i [] [] (get_or workers i d))
      → Stand formats lock plan procs [] [] workers
  stand-first procs workers each = record {
    long = refl;
    full = λ p made row at there. absurd cc;
    each = each;
    covers = λ i d lt. let none = count-none (length workers) in omega arith;
    phases = λ p row at. absurd cc;
  }

  module _ (procs : ℕ → KeyMap) (steps : List (List (List Step))) (replies : List (List (List Reply))) (row : List (List Step)) (told : List (List Reply)) (old new : List Worker) where
    next-each : Stand formats lock plan procs steps replies old → IsThrough formats lock plan row told old new
        → (i : ℕ) (d : Worker) → i < length new
        → HasTaken formats lock plan (procs (i + 1)) (length new) i (steps ++ row ∷ []) (replies ++ told ∷ []) (get_or new i d)
    next-each stand through i d lt =
        let lt' : i < length old = omega (arith, through.many) in
        subst (λ (n : ℕ). HasTaken formats lock plan (procs (i + 1)) n i (steps ++ row ∷ []) (replies ++ told ∷ []) (get_or new i d)) (sym through.many)
        (taken-next (procs (i + 1)) (length old) i steps replies row told (get_or old i d) (get_or new i d) (stand.each i d lt') (stand.covers i d lt') (through.goes i d lt') (through.idle i d lt'))

    next-covers : Stand formats lock plan procs steps replies old → IsThrough formats lock plan row told old new
        → (i : ℕ) (d : Worker) → i < length new
        → count_told (length new) (replies ++ told ∷ []) ≤ length (commits_of (get_or new i d).session.handle.seen)
    next-covers stand through i d lt =
        covered (length new) (replies ++ told ∷ []) (commits_of (get_or new i d).session.handle.seen) (λ j lt_j.
        let made = next-each stand through j d lt_j in
        let met = through.met i j d (omega (arith, through.many)) (omega (arith, through.many)) in
        let same : count_seen (get_or new j d).session.handle.number (get_or new j d).session.handle ≡ length (commits_told j (replies ++ told ∷ [])) =
        ap (λ (n : ℕ). count_seen n (get_or new j d).session.handle) made.number_is ∙ ap length made.own in
        let there : count_seen (get_or new j d).session.handle.number (get_or new i d).session.handle ≡ count_seen (j + 1) (get_or new i d).session.handle = ap (λ (n : ℕ). count_seen n (get_or new i d).session.handle) made.number_is in
        omega arith)

    last-phase : Stand formats lock plan procs steps replies old → IsThrough formats lock plan row told old new
        → All (All (IsAtLeast (count_told (length old) replies))) told
    last-phase stand through k e lt =
        subst (All (IsAtLeast (count_told (length old) replies))) (in_row-at told k e lt) each
      where
        lt' : k < length old
        lt' = omega (arith, through.told)

        some : (d : Worker) × (slice_get old k ≡ Some d)
        some = there_is old k lt'

        led : LeadsThrough formats plan.mounted (procs (k + 1)) (length old) k steps replies (get_or old k some.0).session.handle (get_or old k some.0).session.workspace
        led = (stand.each k some.0 lt').leads

        each : All (IsAtLeast (count_told (length old) replies)) (in_row k told)
        each =
            lower (count_told (length old) replies) (length (commits_of (get_or old k some.0).session.handle.seen)) (in_row k told) (stand.covers k some.0 lt')
            (goes-fronts (in_row k row) (in_row k told) (get_or old k some.0) (get_or new k some.0) led.watching led.watches (through.goes k some.0 lt'))

    next-phases : Stand formats lock plan procs steps replies old → IsThrough formats lock plan row told old new
        → (p : ℕ) (there : List (List Reply)) → slice_get (replies ++ told ∷ []) p ≡ Some there
        → All (All (IsAtLeast (count_told (length new) (take p (replies ++ told ∷ []))))) there
    next-phases stand through p there is = by (last_or_before replies told there p is)
      where
        Floor : ℕ → List (List (List Reply)) → List (List Reply) → Type 0
        Floor n rows r = All (All (IsAtLeast (count_told n rows))) r

        by : (slice_get replies p ≡ Some there) ⊎ ((p ≡ length replies) × (told ≡ there))
            → Floor (length new) (take p (replies ++ told ∷ [])) there
        by (inl here) =
            subst (λ (n : ℕ). Floor n (take p (replies ++ told ∷ [])) there) (sym through.many)
            (subst (λ (rows : List (List (List Reply))). Floor (length old) rows there) (sym (take-append-le p replies (told ∷ []) (omega (arith, slice_get_within replies p there here)))) (stand.phases p there here))
        by (inr last) =
            subst (λ (n : ℕ). Floor n (take p (replies ++ told ∷ [])) there) (sym through.many)
            (subst (λ (rows : List (List (List Reply))). Floor (length old) rows there) (sym (take_at replies (told ∷ []) p (sym last.0)))
            (subst (Floor (length old) replies) last.1 (last-phase stand through)))

    last-full : Stand formats lock plan procs steps replies old → IsThrough formats lock plan row told old new
        → IsFull (length new) row told
    last-full stand through = record {
      wide = through.told ∙ sym through.many;
      even = λ i lt.
          let lt' : i < length old = omega (arith, through.many) in
          let some = there_is old i lt' in
          let led = (stand.each i some.0 lt').leads in
          goes-length (in_row i row) (in_row i told) (get_or old i some.0) (get_or new i some.0) led.watching led.watches (through.goes i some.0 lt');
    }

    next-full : Stand formats lock plan procs steps replies old → IsThrough formats lock plan row told old new
        → (p : ℕ) (made : List (List Step)) (there : List (List Reply)) → slice_get (steps ++ row ∷ []) p ≡ Some made
        → slice_get (replies ++ told ∷ []) p ≡ Some there → IsFull (length new) made there
    next-full stand through p made there at is =
        by (last_or_before steps row made p at) (last_or_before replies told there p is)
      where
        by : (slice_get steps p ≡ Some made) ⊎ ((p ≡ length steps) × (row ≡ made))
            → (slice_get replies p ≡ Some there) ⊎ ((p ≡ length replies) × (told ≡ there))
            → IsFull (length new) made there
        by (inl here) (inl answered) =
            subst (λ (n : ℕ). IsFull n made there) (sym through.many) (stand.full p made there here answered)
        by (inl here) (inr last) = absurd (omega (arith, slice_get_within steps p made here, stand.long, last.0))
        by (inr last) (inl answered) =
            absurd (omega (arith, slice_get_within replies p there answered, stand.long, last.0))
        by (inr last) (inr end) =
            subst (λ (s : List (List Step)). IsFull (length new) s there) last.1 (subst (IsFull (length new) row) end.1 (last-full stand through))

    pub stand-next : Stand formats lock plan procs steps replies old → IsThrough formats lock plan row told old new
        → Stand formats lock plan procs (steps ++ row ∷ []) (replies ++ told ∷ []) new
    stand-next stand through = record {
      long = length_push replies told ∙ ap (λ k. k + 1) stand.long ∙ sym (length_push steps row);
      full = next-full stand through;
      each = next-each stand through;
      covers = next-covers stand through;
      phases = next-phases stand through;
    }

  -- ---- the end

  pub fair-rows : (procs : ℕ → KeyMap) (steps : List (List (List Step))) (replies : List (List (List Reply)))
      (workers : List Worker) (history : List Commit) → Stand formats lock plan procs steps replies workers
      → Closes (length workers) history (map handle_in workers)
      → IsFair formats plan.mounted (length workers) procs history steps replies
  fair-rows procs steps replies workers history stand closes = record {
    tells = λ i lt.
        let some = there_is workers i lt in
        let led = (stand.each i some.0 lt).leads in
        let last : Session = session_of (get_or workers i some.0).session.handle (held (get_or workers i some.0).session.workspace led.watching) led.told in (
          last,
          phases-more formats plan.mounted (procs (i + 1)) (i + 1) (commits_of (get_or workers i some.0).session.handle.seen) history (length workers) i first_session
              last [] steps replies (begins i some.0 lt) led.tells,
        );
    own = λ i lt.
        let some = there_is workers i lt in
        let made = stand.each i some.0 lt in
        closes.own i some.0.session.handle lt ∙ ap (λ (h : HandleValue). numbers_by (i + 1) (commits_of h.seen)) (get_or-map handle_in workers i some.0 some.0.session.handle lt) ∙ made.own;
    only = closes.only;
    phases = stand.phases;
  }
    where
      begins : (i : ℕ) (d : Worker) → i < length workers
          → IsPrefix (commits_of (get_or workers i d).session.handle.seen) history
      begins i d lt =
          subst (λ (h : HandleValue). IsPrefix (commits_of h.seen) history) (get_or-map handle_in workers i d d.session.handle lt) (closes.seen i d.session.handle lt)
