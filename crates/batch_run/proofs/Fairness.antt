-- What the rooms of all sessions show in the end is fair.
use Rattle.std.proofs.Common.{◌≡◌, ℕ, ◌+◌, ◌<◌, List, [], All, length, get_or, map, slice_get, Some, sum_by, sym, ap, subst, ◌∙◌, arith}
use Rattle.std.proofs.lemmas.List.{get_or-map, get_or_default, length-map, same_lists}
use Rattle.general_words.proofs.Places.{there_is}
use Rattle.batch_run.specs.Closes.{AreBack, AreFresh, Closes, IsFresh, TellOwn}
use Rattle.batch_run.specs.Shown.{IsOrdered, shown_rows}
use Rattle.batch_run.specs.Stands.{HasTaken, IsFull, Stand, rows_of}
use Rattle.batch_run.specs.Workers.{IsSeated, handle_in, number_in}
use Rattle.batch_run.specs.declared.workers.Worker.{Worker}
use Rattle.batch_run.proofs.ShownLemmas.{named-there, rows-answer, rows-back, sessions-rise}
use Rattle.batch_run.proofs.Standing.{fair-rows, taken-first}
use Rattle.batch_script.specs.declared.steps.Script.{Script}
use Rattle.batch_script.specs.declared.steps.Step.{Step}
use Rattle.kdb_handle.specs.Handles.{HandleValue}
use Rattle.kdb_handle.specs.Stores.{IsHandle}
use Rattle.kdb_handle.specs.Story.{Told, failures_in, refusals_in}
use Rattle.kdb_handle.specs.declared.replies.Reply.{Reply}
use Rattle.kdb_handle.specs.declared.replies.Transcripts.{Transcripts}
use Rattle.model_batch.specs.Fair.{IsFair, of_session}
use Rattle.model_batch.specs.Replies.{failures_told, refusals_told}
use Rattle.model_batch.specs.Scripts.{AreTranscripts, IsFairScript, procs_of, reply_rows, rows_by, sessions_of, step_rows}
use Rattle.model_history.specs.History.{Commit}
use Rattle.model_maps.specs.KeyMap.{KeyMap}
use Rattle.model_store.specs.Store.{Formats}
use Rattle.seat_lock.specs.Known.{Place}
use Rattle.store_core.specs.declared.cores.Plan.{Plan}

-- the sessions have the numbers of their places, and are as many as their handles
pub named-all : (handles : List HandleValue) (workers : List Worker) (numbers : List ℕ)
    → map handle_in workers ≡ handles → length handles ≡ length numbers
    → ((i : ℕ) (d : Worker) → i < length workers → number_in (get_or workers i d) ≡ get_or numbers i 0)
    → map number_in workers ≡ numbers
named-all handles workers numbers are many named =
    let long : length workers ≡ length numbers = omega (arith, ap length are, length-map workers handle_in) in
    same_lists (map number_in workers) numbers (length-map workers number_in ∙ long) (λ k d lt.
    let within : k < length workers = omega (arith, length-map workers number_in) in
    let some = there_is workers k within in
    get_or-map number_in workers k some.0 d within ∙ named k some.0 within ∙ get_or_default numbers k 0 d (omega arith))

module _ (formats : Formats) {F : Type 0} (lock : Place Told) (plan : Plan F) where
  -- sessions that just got their handles have taken no step
  pub fresh-each : (procs : ℕ → KeyMap) (handles : List HandleValue) (workers : List Worker)
      → map handle_in workers ≡ handles → AreFresh lock plan procs handles → All IsSeated workers
      → (i : ℕ) (d : Worker) → i < length workers
      → HasTaken formats lock plan (procs (i + 1)) (length workers) i [] [] (get_or workers i d)
  fresh-each procs handles workers are fresh seated i d lt =
      let within : i < length handles = omega (arith, ap length are, length-map workers handle_in) in
      let there : get_or handles i d.session.handle ≡ (get_or workers i d).session.handle = ap (λ (hs : List HandleValue). get_or hs i d.session.handle) (sym are) ∙ get_or-map handle_in workers i d d.session.handle lt in
      taken-first formats lock plan (procs (i + 1)) (length workers) i (get_or workers i d) (subst (IsFresh lock plan (i + 1) (procs (i + 1))) there (fresh i d.session.handle within)) (seated i d lt)

  module _ (script : Script) (rows : List (List (List Reply))) (workers : List Worker) (transcripts : Transcripts) where
    abbrev Stands : Type 0
    Stands = Stand formats lock plan (procs_of script) (rows_of (sessions_of script) script.phases) rows workers

    full : Stands → length workers ≡ length (sessions_of script)
        → (p : ℕ) (made : List (List Step)) (row : List (List Reply))
        → slice_get (rows_of (sessions_of script) script.phases) p ≡ Some made → slice_get rows p ≡ Some row
        → IsFull (length (sessions_of script)) made row
    full stand many p made row at there = subst (λ (n : ℕ). IsFull n made row) many (stand.full p made row at there)

    long : Stands → length rows ≡ length script.phases
    long stand = stand.long ∙ length-map script.phases _

    -- what is shown says what stands in the rows
    pub shown-back : IsOrdered script → Stands → length workers ≡ length (sessions_of script)
        → transcripts.phases ≡ shown_rows (sessions_of script) script.phases rows → reply_rows script transcripts ≡ rows
    shown-back ordered stand many shown =
        ap (rows_by (sessions_of script) script.phases) shown
        ∙ rows-back (sessions_of script) script.phases rows (sessions-rise script) (long stand) (full stand many)

    pub fair-script : IsOrdered script → Stands → length workers ≡ length (sessions_of script)
        → transcripts.phases ≡ shown_rows (sessions_of script) script.phases rows
        → (history : List Commit) → Closes (length workers) history (map handle_in workers)
        → IsFairScript formats plan.mounted history script transcripts
    fair-script ordered stand many shown history closes =
        let Fair : ℕ → List (List (List Reply)) → Type 0 = λ n r. IsFair formats plan.mounted n (procs_of script) history (step_rows script) r in
        let fair = fair-rows formats lock plan (procs_of script) (rows_of (sessions_of script) script.phases) rows workers history stand closes in record {
          each = subst (AreTranscripts script.phases) (sym shown)
              (rows-answer (sessions_of script) script.phases rows (sessions-rise script) (long stand) (λ p d lt. (ordered p d lt).rising) (named-there script ordered) (full stand many));
          fair = subst (λ (n : ℕ). Fair n (reply_rows script transcripts)) many (subst (Fair (length workers)) (sym (shown-back ordered stand many shown)) fair);
        }

    -- and what each handle made is what its session's replies tell
    pub counts : IsOrdered script → Stands → length workers ≡ length (sessions_of script)
        → transcripts.phases ≡ shown_rows (sessions_of script) script.phases rows
        → TellOwn script (map handle_in workers) transcripts
    counts ordered stand many shown i d lt =
        let within : i < length workers = omega (arith, length-map workers handle_in) in
        let some = there_is workers i within in
        let made = stand.each i some.0 within in
        let handle : get_or (map handle_in workers) i d ≡ (get_or workers i some.0).session.handle = get_or-map handle_in workers i some.0 d within in
        let same = sym (shown-back ordered stand many shown) in record {
          failures = ap (λ (h : HandleValue). failures_in h.own) handle ∙ made.failures ∙ ap (λ (r : List (List (List Reply))). sum_by failures_told (of_session i r)) same;
          refusals = ap (λ (h : HandleValue). refusals_in h.own) handle ∙ made.refusals ∙ ap (λ (r : List (List (List Reply))). sum_by refusals_told (of_session i r)) same;
        }

  -- the handles come back as the sessions had them
  pub back : (procs : ℕ → KeyMap) (steps : List (List (List Step))) (rows : List (List (List Reply)))
      (workers : List Worker) → Stand formats lock plan procs steps rows workers
      → AreBack lock plan (length workers) (map handle_in workers)
  back procs steps rows workers stand = record {
    many = length-map workers handle_in;
    each = λ i d lt. let some = there_is workers i (omega (arith, length-map workers handle_in)) in
        subst (IsHandle lock plan) (sym (get_or-map handle_in workers i some.0 d (omega (arith, length-map workers handle_in)))) (stand.each i some.0 (omega (arith, length-map workers handle_in))).handle;
    numbers = λ i d lt. let some = there_is workers i lt in
        ap (λ (h : HandleValue). h.number) (get_or-map handle_in workers i some.0 d lt) ∙ (stand.each i some.0 lt).number_is;
  }

  -- the end of a run: all stand where the phases of the script brought them, what is shown is shown of their rooms, and
  -- the handles are theirs
  pub record Ended (script : Script) (rows : List (List (List Reply))) (workers : List Worker) (handles : List HandleValue) (transcripts : Transcripts) : Type 0 where
    pub ordered : IsOrdered script
    pub stand : Stand formats lock plan (procs_of script) (rows_of (sessions_of script) script.phases) rows workers
    pub many : length workers ≡ length (sessions_of script)
    pub shown : transcripts.phases ≡ shown_rows (sessions_of script) script.phases rows
    pub handles_are : handles ≡ map handle_in workers

  module _ (script : Script) (rows : List (List (List Reply))) (workers : List Worker) (handles : List HandleValue) (transcripts : Transcripts) where
    pub ended-back : (count : ℕ) → count ≡ length (sessions_of script) → Ended script rows workers handles transcripts
        → AreBack lock plan count handles
    ended-back count is end =
        subst (λ (hs : List HandleValue). AreBack lock plan count hs) (sym end.handles_are)
        (subst (λ (n : ℕ). AreBack lock plan n (map handle_in workers)) (end.many ∙ sym is) (back (procs_of script) (rows_of (sessions_of script) script.phases) rows workers end.stand))

    pub ended-fair : (count : ℕ) → count ≡ length (sessions_of script) → Ended script rows workers handles transcripts
        → (history : List Commit) → Closes count history handles
        → IsFairScript formats plan.mounted history script transcripts
    ended-fair count is end history closes =
        fair-script script rows workers transcripts end.ordered end.stand end.many end.shown history
        (subst (λ (hs : List HandleValue). Closes (length workers) history hs) end.handles_are (subst (λ (n : ℕ). Closes n history handles) (is ∙ sym end.many) closes))

    pub ended-counts : Ended script rows workers handles transcripts → TellOwn script handles transcripts
    ended-counts end =
        subst (λ (hs : List HandleValue). TellOwn script hs transcripts) (sym end.handles_are) (counts script rows workers transcripts end.ordered end.stand end.many end.shown)
