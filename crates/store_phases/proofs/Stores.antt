-- How a run goes on: over a commit, a flush, a read, a closing.
use Rattle.std.proofs.Common.{◌≡◌, ℕ, ◌≤◌, List, [], ◌∷◌, ◌++◌, length, Bool, true, false, inl, inr, refl, Option, None, Result, Ok, Err, OnOk, OnErr, sym, ap, subst, ◌∙◌, arith}
use Rattle.kdb_outside.specs.declared.disks.Disk.{Ghosts}
use Rattle.kdb_outside.specs.declared.faults.Failed.{Failed}
use Rattle.kdb_outside.specs.Faults.{HasRisen}
use Rattle.kdb_outside.specs.Frames.{GoesOn, OnlyReads}
use Rattle.kdb_outside.specs.Images.{Image, IsImage}
use Rattle.kdb_outside.proofs.Rises.{risen_since, risen_still}
use Rattle.journal_codec.specs.declared.files.FileText.{FileText}
use Rattle.journal_steps.specs.JournalBytes.{IsOwnFile}
use Rattle.journal_steps.specs.Moments.{LeavesOnly}
use Rattle.journal_steps.specs.Outcomes.{with_entry, with_entries, IsEither}
use Rattle.intent_journal.specs.Journal.{JournalValue}
use Rattle.intent_journal.specs.Outcomes.{HasOnly}
use Rattle.intent_journal.specs.Passing.{IsSame}
use Rattle.intent_journal.specs.States.{IsCalm, RestsAs}
use Rattle.intent_journal.proofs.ListCalm.{listed_calm, bare_calm}
use Rattle.intent_journal.proofs.OpenSteps.{calm_kept}
use Rattle.model_crashes.specs.Runs.{Run, files_of, IsBegun, IsReached, IsAmid, IsOneOf, new_run, after_begun, after_commit}
use Rattle.model_crashes.proofs.Moments.{only_both, only_read, only_now}
use Rattle.model_crashes.proofs.Reached.{files_of-commit, IsBegun-more, IsBegun-before, begun_last, reached_more, reached_next, reached_begun, reached_now, reached_amid}
use Rattle.store_phases.specs.Resting.{IsResting}
use Rattle.store_phases.specs.Stores.{IsStore}
use Rattle.store_phases.proofs.Resting.{cases_of, not_both, resting_files, resting_only, rests_read}

-- a run begins
pub IsStore-new : {D : Type 0} (g : Ghosts D) (journal : JournalValue D) (names : List (List ℕ)) (files : Image)
    (faults : ℕ) (doubt : Option (List FileText)) → faults ≤ g.faults journal.disk
    → IsResting g journal names files doubt → IsCalm (g.seen journal.disk) (g.may_leave journal.disk) files doubt
    → IsStore g journal.disk journal (new_run names files faults doubt)
IsStore-new g journal names files faults doubt risen rests calm = record {
  later = omega arith;
  risen = risen;
  rests = rests;
  doubt_begun = IsBegun-before doubt;
  calm = λ _ _. calm;
  always = only_now g journal.disk (IsReached files [] (new_run names files faults doubt).begun) rests.tells
      (λ image is. reached_now files [] (new_run names files faults doubt).begun doubt image (IsBegun-before doubt) (resting_only g journal names files doubt rests image is));
}

-- what was left amid a commit is reached by the run behind it
amid_committed : {D : Type 0} (g : Ghosts D) (opened old new : D) (run : Run) (entry : List FileText)
    → g.moment opened ≤ g.moment old → IsBegun run.begun (length run.commits) run.doubt
    → LeavesOnly g opened old (IsReached run.files run.commits run.begun)
    → LeavesOnly g old new (IsAmid (files_of run) run.doubt entry)
    → LeavesOnly g opened new (IsReached run.files (run.commits ++ entry ∷ []) (run.begun ++ (length run.commits, entry) ∷ []))
amid_committed g opened old new run entry later was always amid =
    let more = run.begun ++ (length run.commits, entry) ∷ [] in
    only_both g opened old new (IsReached run.files run.commits run.begun) (IsAmid (files_of run) run.doubt entry) (IsReached run.files (run.commits ++ entry ∷ []) more)
    (λ image reached. reached_more run.files run.commits (entry ∷ []) run.begun ((length run.commits, entry) ∷ []) image reached)
    (λ image has. reached_next run.files run.commits (entry ∷ []) more image (reached_amid run.files run.commits run.begun run.doubt entry image was has))
    later always amid

amid_begun : {D : Type 0} (g : Ghosts D) (opened old new : D) (run : Run) (entry : List FileText)
    → g.moment opened ≤ g.moment old → IsBegun run.begun (length run.commits) run.doubt
    → LeavesOnly g opened old (IsReached run.files run.commits run.begun)
    → LeavesOnly g old new (IsAmid (files_of run) run.doubt entry)
    → LeavesOnly g opened new (IsReached run.files run.commits (run.begun ++ (length run.commits, entry) ∷ []))
amid_begun g opened old new run entry later was always amid =
    let more = run.begun ++ (length run.commits, entry) ∷ [] in
    only_both g opened old new (IsReached run.files run.commits run.begun) (IsAmid (files_of run) run.doubt entry) (IsReached run.files run.commits more)
    (λ image reached. reached_begun run.files run.commits run.begun ((length run.commits, entry) ∷ []) image reached)
    (λ image has. reached_amid run.files run.commits run.begun run.doubt entry image was has)
    later always amid

-- an acknowledged commit
pub IsStore-committed : {D : Type 0} (g : Ghosts D) (opened : D) (old new : JournalValue D) (run : Run)
    (entry : List FileText) → IsStore g opened old run → GoesOn g old.disk new.disk
    → IsResting g new run.names (with_entry (files_of run) entry) None → new.in_doubt ≡ false
    → LeavesOnly g old.disk new.disk (IsAmid (files_of run) run.doubt entry)
    → IsStore g opened new (after_commit run entry)
IsStore-committed g opened old new run entry store goes rests sure amid = record {
  later = let first = store.later in let second = goes.moment in omega arith;
  risen = let first = store.risen in let second = goes.later in omega arith;
  rests = subst (λ (files : Image). IsResting g new run.names files None) (sym (files_of-commit run entry)) rests;
  doubt_begun = tt;
  calm = λ in_doubt still. absurd (not_both new.in_doubt sure in_doubt);
  always = amid_committed g opened old.disk new.disk run entry store.later store.doubt_begun store.always amid;
}

begun_one_of : (run : Run) (entry : List FileText) (later : Option (List FileText)) → IsOneOf later run.doubt entry
    → IsBegun run.begun (length run.commits) run.doubt
    → IsBegun (run.begun ++ (length run.commits, entry) ∷ []) (length run.commits) later
begun_one_of run entry later (inl none) was =
    subst (IsBegun (run.begun ++ (length run.commits, entry) ∷ []) (length run.commits)) (sym none) tt
begun_one_of run entry later (inr (inl former)) was =
    subst (IsBegun (run.begun ++ (length run.commits, entry) ∷ []) (length run.commits)) (sym former) (IsBegun-more run.begun ((length run.commits, entry) ∷ []) (length run.commits) run.doubt was)
begun_one_of run entry later (inr (inr this)) was =
    subst (IsBegun (run.begun ++ (length run.commits, entry) ∷ []) (length run.commits)) (sym this) (begun_last run.begun (length run.commits) entry)

-- a commit that failed
pub IsStore-begun : {D : Type 0} (g : Ghosts D) (opened : D) (old new : JournalValue D) (run : Run)
    (entry : List FileText) (later : Option (List FileText)) → IsStore g opened old run
    → GoesOn g old.disk new.disk → IsOneOf later run.doubt entry → IsResting g new run.names (files_of run) later
    → HasRisen (g.faults old.disk) (g.faults new.disk)
    → LeavesOnly g old.disk new.disk (IsAmid (files_of run) run.doubt entry)
    → IsStore g opened new (after_begun run entry later)
IsStore-begun g opened old new run entry later store goes one_of rests risen amid =
    let has_risen = risen_since run.faults (g.faults old.disk) (g.faults new.disk) store.risen risen in
    record {
      later = let first = store.later in let second = goes.moment in omega arith;
      risen = let first = store.risen in let second = goes.later in omega arith;
      rests = rests;
      doubt_begun = begun_one_of run entry later one_of store.doubt_begun;
      calm = λ in_doubt still. absurd (still has_risen);
      always = amid_begun g opened old.disk new.disk run entry store.later store.doubt_begun store.always amid;
    }

pub committed : {D : Type 0} (g : Ghosts D) (opened : D) (old new : JournalValue D) (run : Run) (entry : List FileText)
    (r : Result Unit Failed) → IsStore g opened old run → GoesOn g old.disk new.disk
    → OnOk r (IsResting g new run.names (with_entry (files_of run) entry) None) → OnOk r (new.in_doubt ≡ false)
    → LeavesOnly g old.disk new.disk (IsAmid (files_of run) run.doubt entry)
    → OnOk r (IsStore g opened new (after_commit run entry))
committed g opened old new run entry (Ok x) store goes rests sure amid =
    IsStore-committed g opened old new run entry store goes rests sure amid
committed g opened old new run entry (Err e) store goes rests sure amid = tt

pub failed : {D : Type 0} (g : Ghosts D) (opened : D) (old new : JournalValue D) (run : Run) (entry : List FileText)
    (r : Result Unit Failed) → IsStore g opened old run → GoesOn g old.disk new.disk
    → OnErr r ((later : Option (List FileText)) × IsOneOf later run.doubt entry × IsResting g new run.names (files_of run) later)
    → OnErr r (HasRisen (g.faults old.disk) (g.faults new.disk))
    → LeavesOnly g old.disk new.disk (IsAmid (files_of run) run.doubt entry)
    → OnErr r ((later : Option (List FileText)) × IsOneOf later run.doubt entry × IsStore g opened new (after_begun run entry later))
failed g opened old new run entry (Ok x) store goes one_of risen amid = tt
failed g opened old new run entry (Err e) store goes one_of risen amid =
    (one_of.0, one_of.1, IsStore-begun g opened old new run entry one_of.0 store goes one_of.1 one_of.2 risen amid)

-- what is left while the files of the run take their contents is reached
pub rests_reached : {D : Type 0} (g : Ghosts D) (opened old new : D) (run : Run) → g.moment opened ≤ g.moment old
    → IsBegun run.begun (length run.commits) run.doubt
    → LeavesOnly g opened old (IsReached run.files run.commits run.begun)
    → LeavesOnly g old new (HasOnly (IsEither (files_of run) run.doubt))
    → LeavesOnly g opened new (IsReached run.files run.commits run.begun)
rests_reached g opened old new run later was always closing =
    only_both g opened old new (IsReached run.files run.commits run.begun) (HasOnly (IsEither (files_of run) run.doubt)) (IsReached run.files run.commits run.begun)
    (λ image reached. reached) (λ image has. reached_now run.files run.commits run.begun run.doubt image was has) later always closing

-- a flush keeps the run: a gate is in doubt behind it only where it failed
pub IsStore-flushed : {D : Type 0} (g : Ghosts D) (opened : D) (old new : JournalValue D) (run : Run)
    → IsStore g opened old run → GoesOn g old.disk new.disk → IsResting g new run.names (files_of run) run.doubt
    → (new.in_doubt ≡ true → HasRisen (g.faults old.disk) (g.faults new.disk))
    → LeavesOnly g old.disk new.disk (HasOnly (IsEither (files_of run) run.doubt)) → IsStore g opened new run
IsStore-flushed g opened old new run store goes rests risen moments = record {
  later = let first = store.later in let second = goes.moment in omega arith;
  risen = let first = store.risen in let second = goes.later in omega arith;
  rests = rests;
  doubt_begun = store.doubt_begun;
  calm = λ in_doubt still. absurd (still (risen_since run.faults (g.faults old.disk) (g.faults new.disk) store.risen (risen in_doubt)));
  always = rests_reached g opened old.disk new.disk run store.later store.doubt_begun store.always moments;
}

pub flushed_sure : (P : Type 0) (b : Bool) → b ≡ false → b ≡ true → P
flushed_sure P b sure in_doubt = absurd (not_both b sure in_doubt)

-- a read
pub same_but_disk : {D : Type 0} (old new : JournalValue D) → new ≡ record old { disk = new.disk }
    → IsSame old new × (new.in_doubt ≡ old.in_doubt)
same_but_disk {D = D} old new same = (
  record { headed = ap (λ (j : JournalValue D). j.headed) same; start = ap (λ (j : JournalValue D). j.start) same; list = ap (λ (j : JournalValue D). j.list) same },
  ap (λ (j : JournalValue D). j.in_doubt) same,
)

pub IsStore-read : {D : Type 0} (g : Ghosts D) (opened : D) (old new : JournalValue D) (run : Run)
    → OnlyReads g old.disk new.disk → IsSame old new → new.in_doubt ≡ old.in_doubt
    → IsStore g opened old run → IsStore g opened new run
IsStore-read g opened old new run reads same in_doubt store =
    let tells = store.rests.tells in
    record {
      later = let first = store.later in let second = reads.moment in omega arith;
      risen = let first = store.risen in let second = reads.later in omega arith;
      rests = rests_read g old new run.names (files_of run) run.doubt reads same in_doubt store.rests;
      doubt_begun = store.doubt_begun;
      calm = λ doubted still.
          calm_kept (g.seen old.disk) (g.seen new.disk) (g.may_leave old.disk) (g.may_leave new.disk) (files_of run) run.doubt (reads.same tells) (reads.images tells)
          (store.calm (sym in_doubt ∙ doubted) (λ risen. still (risen_still run.faults (g.faults old.disk) (g.faults new.disk) store.risen reads.later risen)));
      always = rests_reached g opened old.disk new.disk run store.later store.doubt_begun store.always
          (only_read g old.disk new.disk (HasOnly (IsEither (files_of run) run.doubt)) tells reads (resting_only g old run.names (files_of run) run.doubt store.rests));
    }

-- where no entry waits, a read gives the files of the run
pub read_of_run : {D : Type 0} (g : Ghosts D) (opened : D) (journal : JournalValue D) (run : Run) (file : List ℕ)
    → IsStore g opened journal run → journal.list ≡ [] → ¬ IsOwnFile file
    → g.seen journal.disk file ≡ files_of run file
read_of_run g opened journal run file store none own =
    resting_files g journal run.names (files_of run) run.doubt store.rests none file own refl (g.seen journal.disk file) (g.read_is_image journal.disk store.rests.tells file)

-- a disk without a gate in doubt is calm
calm_as : (headed : Bool) (seen : Image) (leaves : List ℕ → List ℕ → Type 0) (names : List (List ℕ))
    (before files : Image) (list : List (List FileText)) (rest doubt : Option (List FileText))
    → RestsAs headed false leaves names before list rest → IsImage leaves seen
    → IsEither files doubt (with_entries before list) → IsCalm seen leaves files doubt
calm_as true seen leaves names before files list rest doubt state is either =
    listed_calm seen leaves names before files list doubt state is either
calm_as false seen leaves names before files list rest doubt state is either =
    bare_calm seen leaves before files doubt state.1 is (subst (λ (es : List (List FileText)). IsEither files doubt (with_entries before es)) state.0 either)

-- with whatever files and doubt have its files
pub resting_calm : {D : Type 0} (g : Ghosts D) (journal : JournalValue D) (names : List (List ℕ))
    (settled files : Image) (rest doubt : Option (List FileText)) → IsResting g journal names settled rest
    → journal.in_doubt ≡ false → IsEither files doubt settled
    → IsCalm (g.seen journal.disk) (g.may_leave journal.disk) files doubt
resting_calm g journal names settled files rest doubt rests sure either =
    calm_as journal.headed (g.seen journal.disk) (g.may_leave journal.disk) names rests.before files journal.list rest doubt
    (subst (λ (b : Bool). RestsAs journal.headed b (g.may_leave journal.disk) names rests.before journal.list rest) sure rests.rests)
    (g.read_is_image journal.disk rests.tells) (subst (IsEither files doubt) rests.with_list either)

-- where no fault came, the disk is calm
pub calm_of_run : {D : Type 0} (g : Ghosts D) (opened : D) (journal : JournalValue D) (run : Run)
    → IsStore g opened journal run → ¬ HasRisen run.faults (g.faults journal.disk)
    → IsCalm (g.seen journal.disk) (g.may_leave journal.disk) (files_of run) run.doubt
calm_of_run g opened journal run store still = elim (cases_of journal.in_doubt) [
  | inl sure ↦ resting_calm g journal run.names (files_of run) (files_of run) run.doubt run.doubt store.rests sure (inl (λ file own. refl))
  | inr in_doubt ↦ store.calm in_doubt still
]

-- a run stands since now too
pub IsStore-from_now : {D : Type 0} (g : Ghosts D) (opened : D) (journal : JournalValue D) (run : Run)
    → IsStore g opened journal run → IsStore g journal.disk journal run
IsStore-from_now g opened journal run store = record {
  later = omega arith;
  risen = store.risen;
  rests = store.rests;
  doubt_begun = store.doubt_begun;
  calm = store.calm;
  always = only_now g journal.disk (IsReached run.files run.commits run.begun) store.rests.tells
      (λ image is. reached_now run.files run.commits run.begun run.doubt image store.doubt_begun (resting_only g journal run.names (files_of run) run.doubt store.rests image is));
}
