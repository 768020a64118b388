-- The close of a store says what the sessions of a script did on it.
use Rattle.std.proofs.Common.{◌≡◌, ◌⊎◌, inl, inr, ℕ, zero, suc, ◌+◌, ◌<◌, ◌≤◌, Bool, false, cond, List, [], ◌∷◌, length, get_or, Option, Some, None, IfSome, sum_by, refl, sym, ap, subst, ◌∙◌, arith, ne_eqb}
use Rattle.std.proofs.lemmas.Bool.{cases_lt}
use Rattle.std.specs.Coded.{Coded}
use Rattle.general_words.proofs.Places.{there_is}
use Rattle.batch_run.specs.Closes.{AreBack, AreFresh, Closes, TellOwn}
use Rattle.batch_script.specs.declared.steps.Script.{Script}
use Rattle.batch_run.specs.Played.{IsPlayed}
use Rattle.batch_run.proofs.Making.{failures-all, nobody_made, refusals-all}
use Rattle.batch_run.proofs.Totals.{AreNarrow, reply-rows_narrow, rows-total, total, total-same}
use Rattle.journal_steps.specs.Moments.{LeavesOnly}
use Rattle.intent_journal.specs.Opened.{IsFresh}
use Rattle.intent_journal.specs.Outcomes.{HasOnly}
use Rattle.journal_steps.specs.Outcomes.{IsEither, SameFiles}
use Rattle.intent_journal.specs.States.{IsCalm}
use Rattle.kdb_handle.specs.Closing.{IsClosed}
use Rattle.kdb_handle.specs.Datums.{coded_journal}
use Rattle.kdb_handle.specs.Handles.{HandleValue}
use Rattle.kdb_handle.specs.Opened.{opening_in, opening_of, store_at}
use Rattle.kdb_handle.specs.Rising.{HasRisenBy}
use Rattle.kdb_handle.specs.Story.{Told, Opening, Opened, commits_of, failures_in, maker_of, refusals_in}
use Rattle.kdb_handle.specs.Views.{first_story}
use Rattle.kdb_handle.specs.declared.replies.Reply.{Reply}
use Rattle.kdb_handle.specs.declared.replies.Transcripts.{Transcripts}
use Rattle.kdb_handle.proofs.StoryLemmas.{commits-prefix}
use Rattle.kdb_outside.specs.Crashes.{EveryImage}
use Rattle.kdb_outside.specs.Faults.{HasRisen}
use Rattle.kdb_outside.specs.Frames.{GoesOn}
use Rattle.kdb_outside.specs.declared.disks.Disk.{Ghosts}
use Rattle.model_batch.specs.Fair.{count_failed, count_refused, of_session}
use Rattle.model_batch.specs.Replies.{failures_told, refusals_told}
use Rattle.model_batch.specs.Scripts.{IsFairScript, procs_of, reply_rows, sessions_of}
use Rattle.model_crashes.specs.Runs.{IsReached, Run, files_of}
use Rattle.model_history.specs.History.{Commit}
use Rattle.model_store.specs.Records.{no_record}
use Rattle.model_store.specs.Store.{Formats}
use Rattle.model_store.specs.Worlds.{first_world}
use Rattle.mounted_files.specs.declared.files.MountedFile.{MountedFile}
use Rattle.seat_lock.specs.Known.{Place}
use Rattle.seat_lock.specs.Story.{made_by}
use Rattle.batch_run.proofs.CommitNumbers.{numbers-none, numbers-same}
use Rattle.store_core.specs.Cores.{StandsIn}
use Rattle.store_core.specs.declared.closing.Closed.{Closed}
use Rattle.store_core.specs.declared.cores.Core.{Core}
use Rattle.store_core.specs.declared.cores.Plan.{Plan}
use Rattle.store_phases.specs.Stores.{IsStore}

-- ---- the sessions before the close

-- The sessions of a script told what the history of their store says, whatever it comes to, and so much as their
-- handles made; or there was no memory for it, and no handle made anything
pub record AreDone (formats : Formats) {F : Type 0} (lock : Place Told) (plan : Plan F) (script : Script) (handles : List HandleValue) (transcripts : Option Transcripts) : Type 0 where
  pub back : AreBack lock plan (length handles) handles
  pub many : IfSome transcripts (λ told. length handles ≡ length (sessions_of script))
  pub fair : (history : List Commit) → Closes (length handles) history handles
      → IfSome transcripts (IsFairScript formats plan.mounted history script)
  pub counts : IfSome transcripts (TellOwn script handles)
  pub none : transcripts ≡ None → (i : ℕ) (d : HandleValue) → i < length handles → (get_or handles i d).own ≡ []

-- what holds of transcripts, if there are some
if-any : {P : Transcripts → Type 0} (transcripts : Option Transcripts) → ((told : Transcripts) → P told)
    → IfSome transcripts P
if-any None each = tt
if-any (Some told) each = each told

-- what holds of them by two facts
if-both : {P Q R : Transcripts → Type 0} (transcripts : Option Transcripts) → IfSome transcripts P
    → IfSome transcripts Q → ((told : Transcripts) → P told → Q told → R told) → IfSome transcripts R
if-both None p q both = tt
if-both (Some told) p q both = both told p q

module _ (formats : Formats) {F : Type 0} (lock : Place Told) (plan : Plan F) (script : Script) where
  fresh-back : (handles : List HandleValue) → AreFresh lock plan (procs_of script) handles
      → AreBack lock plan (length handles) handles
  fresh-back handles fresh =
      record { many = refl; each = λ i d lt. (fresh i d lt).handle_is; numbers = λ i d lt. (fresh i d lt).number_is }

  -- handles that were just opened made nothing
  pub fresh-done : (handles : List HandleValue) → AreFresh lock plan (procs_of script) handles
      → AreDone formats lock plan script handles None
  fresh-done handles fresh =
      record {
        back = fresh-back handles fresh;
        many = tt;
        fair = λ history closes. tt;
        counts = tt;
        none = λ is i d lt. (fresh i d lt).own;
      }

  pub run-done : (given handles : List HandleValue) (transcripts : Option Transcripts)
      → AreFresh lock plan (procs_of script) given → length given ≡ length (sessions_of script)
      → AreBack lock plan (length given) handles
      → ((history : List Commit) → Closes (length given) history handles → IfSome transcripts (IsFairScript formats plan.mounted history script))
      → IfSome transcripts (TellOwn script handles)
      → (transcripts ≡ None → handles ≡ given) → AreDone formats lock plan script handles transcripts
  run-done given handles transcripts fresh many back fair counts kept = record {
    back = subst (λ (n : ℕ). AreBack lock plan n handles) (sym back.many) back;
    many = if-any transcripts (λ told. back.many ∙ many);
    fair = λ history closes. fair history (subst (λ (n : ℕ). Closes n history handles) back.many closes);
    counts = counts;
    none = λ is. subst (λ (hs : List HandleValue). (i : ℕ) (d : HandleValue) → i < length hs → (get_or hs i d).own ≡ []) (sym (kept is)) (λ i d lt. (fresh i d lt).own);
  }

-- ---- the story

module _ (formats : Formats) {D P : Type 0} (g : Ghosts D) (refused : P → ℕ) {F : Type 0} (lock : Place Told) (plan : Plan F) (core : Core D P) (opening : Opening) (handles : List HandleValue) (closed : Closed D P)
    (is_closed : IsClosed formats g refused plan.mounted core.journal opening (length handles) handles closed) (back : AreBack lock plan (length handles) handles) where
  abbrev story : List Told
  story = is_closed.rest

  -- what the handle of a place made is what the story has of its number
  made-at : (i : ℕ) (d : HandleValue) → i < length handles
      → made_by maker_of (i + 1) (Opened opening ∷ story) ≡ (get_or handles i d).own
  made-at i d lt =
      ap (λ (n : ℕ). made_by maker_of n (Opened opening ∷ story)) (sym (back.numbers i d lt)) ∙ is_closed.own i d lt

  -- nobody made the opening
  made-behind : (number : ℕ)
      → made_by maker_of (number + 1) (Opened opening ∷ story) ≡ made_by maker_of (number + 1) story
  made-behind number =
      ap (λ (b : Bool). cond b (Opened opening ∷ made_by maker_of (number + 1) story) (made_by maker_of (number + 1) story)) (ne_eqb 0 (number + 1) (λ e. omega (arith, e)))

  made-there : (i : ℕ) (d : HandleValue) → i < length handles
      → made_by maker_of (i + 1) story ≡ (get_or handles i d).own
  made-there i d lt = sym (made-behind i) ∙ made-at i d lt

  -- so its history ends what each handle has seen
  pub closes : Closes (length handles) (commits_of story) handles
  closes = record {
    seen = λ i d lt. commits-prefix (get_or handles i d).seen (Opened opening ∷ story) (is_closed.seen i d lt);
    own = λ i d lt.
        let handle = get_or handles i d in
        let own : handle.own ≡ made_by maker_of (i + 1) handle.seen = (back.each i d lt).own ∙ ap (λ (n : ℕ). made_by maker_of n handle.seen) (back.numbers i d lt) in
        numbers-same (i + 1) handle.seen (Opened opening ∷ story) (is_closed.seen i d lt) (made-at i d lt ∙ own);
    only = λ number out. numbers-none number 1 story (is_closed.only number out);
  }

  -- where no handle made anything the story is empty
  pub story-none : ((i : ℕ) (d : HandleValue) → i < length handles → (get_or handles i d).own ≡ []) → story ≡ []
  story-none none = nobody_made story by
    where
      there : (i : ℕ) → (i < length handles) ⊎ (length handles ≤ i) → made_by maker_of (suc i) story ≡ []
      there i (inl lt) =
          let some = there_is handles i lt in
          let next : i + 1 ≡ suc i = omega arith in
          subst (λ (n : ℕ). made_by maker_of n story ≡ []) next (made-there i some.0 lt ∙ none i some.0 lt)
      there i (inr le) = is_closed.only (suc i) (inr (omega arith))

      by : (number : ℕ) → made_by maker_of number story ≡ []
      by zero = is_closed.only 0 (inl refl)
      by (suc i) = there i (cases_lt i (length handles))

  module _ (script : Script) (told : Transcripts) (many : length handles ≡ length (sessions_of script)) (counts : TellOwn script handles told) where
    -- what is counted of all handles is what is counted of all replies
    told-all : (made : List Told → ℕ) (w : Reply → ℕ)
        → made story ≡ total (λ i. made (made_by maker_of (i + 1) story)) (length handles)
        → ((i : ℕ) (d : HandleValue) → i < length handles → made (get_or handles i d).own ≡ sum_by w (of_session i (reply_rows script told)))
        → made story ≡ sum_by (λ row. sum_by (λ answers. sum_by w answers) row) (reply_rows script told)
    told-all made w all each =
        let rows = reply_rows script told in
        all
        ∙ total-same (λ i. made (made_by maker_of (i + 1) story)) (λ i. sum_by w (of_session i rows)) (length handles)
        (λ i lt. let some = there_is handles i lt in ap made (made-there i some.0 lt) ∙ each i some.0 lt)
        ∙ sym (rows-total w (length handles) rows (subst (λ (n : ℕ). AreNarrow n rows) (sym many) (reply-rows_narrow (sessions_of script) script.phases told.phases)))

    failures-are : failures_in story ≡ count_failed (reply_rows script told)
    failures-are =
        told-all failures_in failures_told (failures-all (length handles) story is_closed.only) (λ i d lt. (counts i d lt).failures)

    refusals-are : refusals_in story ≡ count_refused (reply_rows script told)
    refusals-are =
        told-all refusals_in refusals_told (refusals-all (length handles) story is_closed.only) (λ i d lt. (counts i d lt).refusals)

-- ---- the close

module _ (formats : Formats) {D P : Type 0} (g : Ghosts D) (code : Coded D) (refused : P → ℕ) {F : Type 0} (lock : Place Told) (plan : Plan F) (core : Core D P) (start : lock.start ≡ first_story code refused plan core) where
  opening_is : opening_in lock.start ≡ opening_of code plan.mounted core.journal (refused core.patterns) core.wrote
  opening_is = ap opening_in start

  -- the journal of the opening is that of the core
  pub journal_is : (opening_in lock.start).journal ≡ (coded_journal code).code core.journal
  journal_is = ap (λ (o : Opening). o.journal) opening_is

  pub played : (script : Script) (handles : List HandleValue) (transcripts : Option Transcripts) (closed : Closed D P)
      → AreDone formats lock plan script handles transcripts
      → IsClosed formats g refused plan.mounted core.journal (opening_in lock.start) (length handles) handles closed
      → IsPlayed formats g refused plan.mounted script core (record { closed = closed; transcripts = transcripts })
  played script handles transcripts closed done is_closed =
      let story : List Told = is_closed.rest in record {
        story = story;
        history = is_closed.history;
        legal = is_closed.legal;
        fair = done.fair (commits_of story) (closes formats g refused lock plan core (opening_in lock.start) handles closed is_closed done.back);
        failures = if-both transcripts done.many done.counts (λ told many counts. failures-are formats g refused lock plan core (opening_in lock.start) handles closed is_closed done.back script told many counts);
        refusals = if-both transcripts done.many done.counts (λ told many counts. refusals-are formats g refused lock plan core (opening_in lock.start) handles closed is_closed done.back script told many counts);
        none = λ is. story-none formats g refused lock plan core (opening_in lock.start) handles closed is_closed done.back (done.none is);
        failed = is_closed.faults;
        refused_by = subst (λ (o : Opening). HasRisenBy (refusals_in story) o.refusals (refused closed.patterns)) opening_is is_closed.refusals;
        goes = is_closed.goes;
        left_alone = λ begins unwritten fresh. is_closed.left_alone begins (ap (λ (o : Opening). o.wrote) opening_is ∙ unwritten) fresh;
        disk = is_closed.disk;
      }

-- a store that was never shared has the empty story
pub unplayed : (formats : Formats) {D P : Type 0} (g : Ghosts D) (refused : P → ℕ) (files : List MountedFile)
    (script : Script) (core : Core D P) (closed : Closed D P)
    → StandsIn formats (store_at files) core (λ r. no_record) (λ p. None) first_world
    → closed.history ≡ core.history → closed.patterns ≡ core.patterns
    → (core.wrote ≡ false → IsFresh core.journal → closed.disk ≡ core.journal.disk)
    → ((start : D) (run : Run) → IsStore g start core.journal run → ¬ HasRisen (g.faults core.journal.disk) (g.faults closed.disk) → SameFiles (g.seen closed.disk) (files_of run))
    → ((start : D) (run : Run) → IsStore g start core.journal run → ¬ HasRisen run.faults (g.faults closed.disk) → IsCalm (g.seen closed.disk) (g.may_leave closed.disk) (files_of run) run.doubt)
    → ((start : D) (run : Run) → IsStore g start core.journal run → LeavesOnly g start closed.disk (IsReached run.files run.commits run.begun))
    → ((start : D) (run : Run) → IsStore g start core.journal run → EveryImage (g.may_leave closed.disk) (HasOnly (IsEither (files_of run) run.doubt)))
    → GoesOn g core.journal.disk closed.disk
    → IsPlayed formats g refused files script core (record { closed = closed; transcripts = None })
unplayed formats g refused files script core closed stands history patterns left_alone shown calm always now goes = record {
  story = [];
  history = ap (λ h. h.commits) history ∙ stands.stands.history;
  legal = stands.stands.legal;
  fair = tt;
  failures = tt;
  refusals = tt;
  none = λ is. refl;
  failed = inl (omega (arith, goes.later));
  refused_by = inl (omega (arith, ap refused patterns));
  goes = goes;
  left_alone = λ begins unwritten fresh. left_alone unwritten fresh;
  disk = λ start first names is_store. record {
    last = first;
    by_story = refl;
    any_moment = always start first is_store;
    now = now start first is_store;
    shown = shown start first is_store;
    calm = calm start first is_store;
  };
}
