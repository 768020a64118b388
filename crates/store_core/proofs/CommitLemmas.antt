-- A core goes on standing for what the definitions say.
use Rattle.std.proofs.Common.{◌≡◌, ℕ, List, [], ◌∷◌, ◌++◌, Option, Some, None, inl, refl, sym, ap, ap₂, ◌∙◌}
use Rattle.kdb_outside.specs.declared.disks.Disk.{Ghosts}
use Rattle.journal_codec.specs.declared.files.FileText.{FileText}
use Rattle.intent_journal.specs.Journal.{JournalValue}
use Rattle.journal_steps.specs.Moments.{LeavesOnly}
use Rattle.model_crashes.proofs.Moments.{only_now}
use Rattle.model_crashes.specs.Runs.{Run, IsAmid, files_of, after_commit}
use Rattle.model_files.specs.Texts.{entry_of, entries_from, entries_of}
use Rattle.model_history.specs.Changes.{changed_by}
use Rattle.model_history.specs.History as past
use Rattle.model_history.specs.History.{replay}
use Rattle.model_maps.specs.KeyMap.{KeyMap}
use Rattle.model_store.specs.Cores as cores
use Rattle.model_store.specs.Cores.{CommitMade, Made}
use Rattle.model_store.specs.Events.{Answer, Commit, Memory, Bad, Got, Refused, Ready, Judged, Failed}
use Rattle.model_store.specs.Records.{Record}
use Rattle.model_store.specs.Sets.{Prepared}
use Rattle.model_store.specs.Store.{Store, Formats}
use Rattle.model_store.specs.Verdicts.{Late, Same, Conflict, TooLarge, Invalid, DatabaseFull, HistoryFull, Commits}
use Rattle.model_store.specs.Worlds.{World, Meant}
use Rattle.model_store.proofs.Owning.{follows}
use Rattle.store_core.specs.Committing.{BeginsSet, RunsOn, IsCommitted}
use Rattle.store_core.specs.Cores.{StandsFor, core_with}
use Rattle.store_core.specs.declared.cores.Core.{Core}
use Rattle.store_core.proofs.Beginnings.{names-stay}
use Rattle.store_phases.specs.Stores.{IsStore}
use Rattle.store_phases.proofs.Resting.{resting_only}

module _ (formats : Formats) (store : Store) where
  -- the entries of a history with one more commit
  entries-next : (start : KeyMap) (history : List past.Commit) (commit : past.Commit)
      → entries_from formats store start (history ++ commit ∷ [])
      ≡ entries_from formats store start history ++ entry_of formats store (replay start history) commit ∷ []
  entries-next start [] commit = refl
  entries-next start (first ∷ history) commit =
      ap (λ es. entry_of formats store start first ∷ es) (entries-next (changed_by first.changes start) history commit)

  module _ {D P : Type 0} (g : Ghosts D) (opened : D) (before after : Core D P) (records next : ℕ → Record) (sets : ℕ → Option Prepared) (world : World) (run later : Run) (r p : ℕ) (st : StandsFor formats g store opened before records sets world run) where
    abbrev old : cores.Core
    old = core_with before records sets

    abbrev new : cores.Core
    new = core_with after next sets

    -- nothing joined the history, and nothing the run
    entries-stay : new ≡ old → later.commits ≡ run.commits
        → later.commits ≡ entries_of formats store after.history.commits
    entries-stay same none = none ∙ st.entries ∙ ap (λ (c : cores.Core). entries_of formats store c.history) (sym same)

    present : replay store.start before.history.commits ≡ before.keys
    present = ap (replay store.start) st.here.stands.history ∙ sym st.here.stands.keys

    -- a commit joined the history, and its texts the run
    entries-joined : (commit : past.Commit) → after.history.commits ≡ before.history.commits ++ commit ∷ []
        → later ≡ after_commit run (entry_of formats store before.keys commit)
        → later.commits ≡ entries_of formats store after.history.commits
    entries-joined commit joined on =
        ap (λ (x : Run). x.commits) on
        ∙ ap₂ (λ (es : List (List FileText)) (keys : KeyMap). es ++ entry_of formats store keys commit ∷ []) st.entries (sym present)
        ∙ sym (entries-next store.start before.history.commits commit)
        ∙ ap (entries_of formats store) (sym joined)

    entries-judged : (front : ℕ) (late : Late) → CommitMade formats store old r p front late new
        → RunsOn formats store before.keys run (sets p) (Judged front late) later
        → later.commits ≡ entries_of formats store after.history.commits
    entries-judged front (Same aside) made on = entries-stay made.next_is (ap (λ (x : Run). x.commits) on)
    entries-judged front (Conflict mount by) made on = entries-stay made.next_is (ap (λ (x : Run). x.commits) on)
    entries-judged front (TooLarge mount bytes) made on = entries-stay made.next_is (ap (λ (x : Run). x.commits) on)
    entries-judged front (Invalid violation risen) made on = entries-stay made.next_is (ap (λ (x : Run). x.commits) on)
    entries-judged front (DatabaseFull weight) made on = entries-stay made.next_is (ap (λ (x : Run). x.commits) on)
    entries-judged front (HistoryFull weight) made on = entries-stay made.next_is (ap (λ (x : Run). x.commits) on)
    entries-judged front (Commits commit aside) made on =
        entries-joined commit (ap (λ (c : cores.Core). c.history) made.next_is) on

    commits-begun : (set : Option Prepared) → BeginsSet formats store before.keys run set later
        → later.commits ≡ run.commits
    commits-begun None begun = absurd begun
    commits-begun (Some set) begun = ap (λ (x : Run). x.commits) begun.2

    entries-are : (answer : Answer) → Made formats store old (Commit r p) answer new
        → RunsOn formats store before.keys run (sets p) answer later
        → later.commits ≡ entries_of formats store after.history.commits
    entries-are Memory made on = entries-stay made (ap (λ (x : Run). x.commits) on)
    entries-are (Bad m) made on = absurd made
    entries-are (Got front keys) made on = absurd made
    entries-are (Refused why) made on = absurd made
    entries-are Ready made on = absurd made
    entries-are (Judged front late) made on = entries-judged front late made on
    entries-are (Failed front) made on = entries-stay made.next_is (commits-begun (sets p) on)

    pub stands_committed : (answer : Answer)
        → IsCommitted formats g store opened before after records next sets run later r p answer
        → (then_world : World) × Meant formats store world (Commit r p) answer then_world
        × StandsFor formats g store opened after next sets then_world later
    stands_committed answer committed =
        let goes = follows formats store world old (Commit r p) answer new st.here.stands committed.made in
        (goes.after, goes.meant, record { here = record { files = st.here.files; start = committed.start ∙ st.here.start; stands = goes.stands }; on_disk = committed.on_disk; names = names-stay formats store before.keys run later (sets p) answer committed.runs_on ∙ st.names; entries = entries-are answer committed.made committed.runs_on })

-- ---- without a call

-- before the disk is touched a crash leaves what it would have left
pub nothing_stored : {D : Type 0} (g : Ghosts D) (opened : D) (journal : JournalValue D) (run : Run)
    (entry : List FileText) → IsStore g opened journal run
    → LeavesOnly g journal.disk journal.disk (IsAmid (files_of run) run.doubt entry)
nothing_stored g opened journal run entry store =
    only_now g journal.disk (IsAmid (files_of run) run.doubt entry) store.rests.tells (λ image is. inl (resting_only g journal run.names (files_of run) run.doubt store.rests image is))
