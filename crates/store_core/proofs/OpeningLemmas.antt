-- What the files of a store mean at its opening, and what the reading of them leaves.
use Rattle.std.proofs.Common.{◌≡◌, ◌⊎◌, ℕ, true, false, true≢false, List, [], map as over, Option, Some, None, Result, Ok, Err, IfOk, IfErr, MatchResult, codes, nat_eq, inl, inr, refl, sym, ap, ap₂, subst, ◌∙◌}
use Rattle.std.specs.List.{starts_with}
use Rattle.std.specs.Option.{option_map}
use Rattle.std.proofs.lemmas.Option.{slice_get-map}
use Rattle.kdb_outside.specs.declared.disks.Disk.{Ghosts}
use Rattle.kdb_outside.specs.Crashes.{EveryImage}
use Rattle.kdb_outside.specs.Faults.{HasRisen}
use Rattle.kdb_outside.specs.Frames.{GoesOn, OnlyReads}
use Rattle.kdb_outside.specs.Images.{Image}
use Rattle.kdb_outside.proofs.Frames.{OnlyReads-then}
use Rattle.kdb_outside.proofs.Rises.{risen_still}
use Rattle.journal_codec.specs.declared.files.FileText.{FileText}
use Rattle.journal_steps.specs.declared.faults.JournalFault.{JournalFault}
use Rattle.journal_steps.specs.declared.faults.JournalFault.TheVariants as journal_fault
use Rattle.journal_steps.specs.JournalBytes.{IsOwnFile}
use Rattle.intent_journal.specs.Journal.{JournalValue}
use Rattle.intent_journal.specs.Opened.{opened_files, place_of, told_by, version_in, IsFresh}
use Rattle.journal_steps.specs.Moments.{LeavesOnly}
use Rattle.journal_steps.specs.Outcomes.{SameFiles}
use Rattle.intent_journal.specs.Openings.{StaysFound}
use Rattle.intent_journal.specs.States.{IsCalm}
use Rattle.intent_journal.proofs.OpenSteps.{calm_kept}
use Rattle.model_crashes.specs.Runs.{Run, new_run}
use Rattle.model_crashes.proofs.Moments.{only_both, only_read}
use Rattle.model_files.specs.Files.{HaveFiles, table_files}
use Rattle.model_files.specs.Texts.{entries_of}
use Rattle.model_maps.specs.KeyMap.{KeyMap}
use Rattle.model_history.specs.History.{Commit}
use Rattle.model_store.specs.Promise.{Stands}
use Rattle.model_store.specs.Records.{no_record}
use Rattle.model_store.specs.Sound.{IsSound}
use Rattle.model_store.specs.Store.{Store, Formats, store_of}
use Rattle.model_store.specs.Worlds.{first_world}
use Rattle.model_store.proofs.Owning.{first_stands}
use Rattle.mount_table.specs.Table.{own_mount, table_of}
use Rattle.mount_table.specs.declared.mounts.Mount.{Mount}
use Rattle.mount_table.proofs.OwnFileLemmas.{own_files, named_files, free_files, few_mounts}
use Rattle.mounted_files.specs.Files.{Reading, Badness, IsState, points_of}
use Rattle.mounted_files.specs.Opening.{MakesTable, IsOpened}
use Rattle.mounted_files.specs.declared.files.MountedFile.{MountedFile}
use Rattle.store_phases.specs.Opens.{HasBegun}
use Rattle.store_phases.specs.Stores.{IsStore}
use Rattle.store_phases.proofs.Stores.{IsStore-read, IsStore-from_now}
use Rattle.store_core.specs.Cores.{StandsFor, StandsIn}
use Rattle.store_core.specs.Faults.{RefusesBroken, RefusesStore, RefusesUnknown, of_journal}
use Rattle.store_core.specs.Frames.{OnlyReadsFiles}
use Rattle.store_core.specs.Opened.{IsLeft, StillFound, StillRead, may_be_of_journal}
use Rattle.store_core.specs.Opens.{BeginsStore}
use Rattle.store_core.specs.declared.cores.Core.{Core}
use Rattle.store_core.specs.declared.faults.OpenFault.{OpenFault}
use Rattle.store_core.specs.declared.faults.OpenFault.TheVariants.{BadJournal, UnknownVersion}
use Rattle.store_core.specs.declared.faults.OpenRefused.{OpenRefused}
use Rattle.store_core.specs.declared.opening.Opened.{Opened}

-- ---- the files of a table

pub have_files : (keys : KeyMap) (mounts : List Mount) → table_of keys ≡ Ok mounts → HaveFiles mounts
have_files keys mounts ok =
    record {
      own = own_files keys mounts ok;
      named = named_files keys mounts ok;
      free = free_files keys mounts ok;
      few = few_mounts keys mounts ok;
    }

-- a file whose name doesn't begin as those of the journals is none of them
not_own : (file : List ℕ) → starts_with nat_eq file (codes "journal") ≡ false → ¬ IsOwnFile file
not_own file free (inl own) = true≢false (sym (ap (λ f. starts_with nat_eq f (codes "journal")) own) ∙ free)
not_own file free (inr own) = true≢false (sym (ap (λ f. starts_with nat_eq f (codes "journal")) own) ∙ free)

-- the file of the table's own keys is no journal
own_free : ¬ IsOwnFile own_mount.file
own_free = not_own own_mount.file refl

module _ (Reads : Reading) (IsBad : Badness) (bytes_of others : Image) (same : SameFiles bytes_of others) where
  pub opened_alike : (files : List MountedFile) → IsOpened Reads IsBad bytes_of files
      → IsOpened Reads IsBad others files
  opened_alike files opened = record {
    unweighed = opened.unweighed;
    table = subst (λ (bytes : List ℕ). MakesTable Reads bytes (Ok (over (λ (file : MountedFile). file.mount) opened.unweighed))) (same own_mount.file own_free) opened.table;
    states = λ i file there.
        subst (λ (bytes : List ℕ). IsState Reads IsBad (points_of opened.unweighed) i file.mount bytes file.state)
        (same file.mount.file (not_own file.mount.file (free_files opened.table.keys (over (λ (file : MountedFile). file.mount) opened.unweighed) opened.table.is i file.mount
        (slice_get-map (λ (file : MountedFile). file.mount) opened.unweighed i ∙ ap (option_map (λ (file : MountedFile). file.mount)) there)))) (opened.states i file there);
    is = opened.is;
  }

  pub refused_alike : (fault : OpenFault) → RefusesStore Reads IsBad (bytes_of own_mount.file) fault
      → RefusesStore Reads IsBad (others own_mount.file) fault
  refused_alike fault = subst (λ (bytes : List ℕ). RefusesStore Reads IsBad bytes fault) (same own_mount.file own_free)

  pub told_alike : {D F P : Type 0} (result : Result (Opened D F P) (OpenRefused D P))
      → MatchResult result (λ o. IsOpened Reads IsBad bytes_of o.plan.mounted) (λ r. RefusesStore Reads IsBad (bytes_of own_mount.file) r.fault)
      → IfOk result (λ o. IsOpened Reads IsBad others o.plan.mounted)
      × IfErr result (λ r. RefusesStore Reads IsBad (others own_mount.file) r.fault)
  told_alike (Ok o) told = (opened_alike o.plan.mounted told, tt)
  told_alike (Err r) told = (tt, refused_alike r.fault told)

-- ---- what the reading leaves

-- what held of each crash before the reading holds behind it
pub still_only : {D : Type 0} (g : Ghosts D) (old mid new : D) (P : Image → Type 0) → g.tells old ≡ true
    → GoesOn g old mid → LeavesOnly g old mid P → OnlyReads g mid new → LeavesOnly g old new P
still_only g old mid new P tells goes only reads =
    let still = goes.tells ∙ tells in
    only_both g old mid new P P P (λ image has. has) (λ image has. has) goes.moment only
    (only_read g mid new P still reads (λ image is. only.each image (g.counts_now mid (g.moment old) image still goes.moment is)))

pub store_read : {D : Type 0} (g : Ghosts D) (opened : D) (old new : JournalValue D) (run : Run)
    → OnlyReadsFiles g old new → IsStore g opened old run → IsStore g new.disk new run
store_read g opened old new run reads store =
    IsStore-from_now g opened new run (IsStore-read g opened old new run reads.reads reads.same reads.in_doubt store)

-- what each crash left before the reading, it leaves behind it
pub rests_read : {D : Type 0} (g : Ghosts D) (old new : D) (P : Image → Type 0) → g.tells old ≡ true
    → OnlyReads g old new → EveryImage (g.may_leave old) P → EveryImage (g.may_leave new) P
rests_read g old new P tells reads every image is =
    every image (λ file. (reads.images tells file).no_more (image file) (is file))

-- without a fault the disk is as calm behind the reading as before
pub calm_read : {D : Type 0} (g : Ghosts D) (disk mid new : D) (files : Image) (doubt : Option (List FileText))
    → g.tells disk ≡ true → GoesOn g disk mid → OnlyReads g mid new
    → (¬ HasRisen (g.faults disk) (g.faults mid) → IsCalm (g.seen mid) (g.may_leave mid) files doubt)
    → ¬ HasRisen (g.faults disk) (g.faults new) → IsCalm (g.seen new) (g.may_leave new) files doubt
calm_read g disk mid new files doubt tells goes reads calm still =
    let told = goes.tells ∙ tells in
    calm_kept (g.seen mid) (g.seen new) (g.may_leave mid) (g.may_leave new) files doubt (reads.same told) (reads.images told)
    (calm (λ risen. still (risen_still (g.faults disk) (g.faults mid) (g.faults new) goes.later reads.later risen)))

-- the journal stays as its opening left it
pub still_fresh : {D F P : Type 0} (g : Ghosts D) (journal : JournalValue D)
    (result : Result (Opened D F P) (OpenRefused D P)) → IsFresh journal
    → IfOk result (λ o. OnlyReadsFiles g journal o.core.journal) → IfOk result (λ o. IsFresh o.core.journal)
still_fresh g journal (Ok o) fresh reads =
    (reads.same.headed ∙ fresh.0, reads.same.list ∙ fresh.1, reads.in_doubt ∙ fresh.2)
still_fresh g journal (Err r) fresh reads = tt

-- ---- what the opening of the journal is refused for

pub of_journal-bad : (fault : JournalFault) (at : ℕ) → of_journal fault ≡ BadJournal at
    → fault ≡ journal_fault.BadJournal at
of_journal-bad journal_fault.DiskFault at is = absurd cc
of_journal-bad (journal_fault.BadJournal n) at is = cc
of_journal-bad (journal_fault.UnknownVersion version) at is = absurd cc
of_journal-bad journal_fault.Memory at is = absurd cc

pub of_journal-unknown : (fault : JournalFault) (version : ℕ) → of_journal fault ≡ UnknownVersion version
    → fault ≡ journal_fault.UnknownVersion version
of_journal-unknown journal_fault.DiskFault version is = absurd cc
of_journal-unknown (journal_fault.BadJournal at) version is = absurd cc
of_journal-unknown (journal_fault.UnknownVersion found) version is = cc
of_journal-unknown journal_fault.Memory version is = absurd cc

-- the faults of a journal refuse a store whatever its files are
pub journal_refuses : (Reads : Reading) (IsBad : Badness) (bytes : List ℕ) (fault : JournalFault)
    → RefusesStore Reads IsBad bytes (of_journal fault)
journal_refuses Reads IsBad bytes journal_fault.DiskFault = tt
journal_refuses Reads IsBad bytes (journal_fault.BadJournal at) = tt
journal_refuses Reads IsBad bytes (journal_fault.UnknownVersion version) = tt
journal_refuses Reads IsBad bytes journal_fault.Memory = tt

-- a journal that is refused for its bytes by this place alone
pub journal_broken : (place : ℕ) (fault : JournalFault) → ((at : ℕ) → fault ≡ journal_fault.BadJournal at → at ≡ place)
    → ((version : ℕ) → fault ≡ journal_fault.UnknownVersion version → ⊥) → RefusesBroken place (of_journal fault)
journal_broken place journal_fault.DiskFault here known = tt
journal_broken place (journal_fault.BadJournal at) here known = here at refl
journal_broken place (journal_fault.UnknownVersion version) here known = known version refl
journal_broken place journal_fault.Memory here known = tt

-- or by this version
pub journal_unknown : (version : ℕ) (fault : JournalFault)
    → ((found : ℕ) → fault ≡ journal_fault.UnknownVersion found → found ≡ version)
    → ((at : ℕ) → fault ≡ journal_fault.BadJournal at → ⊥) → RefusesUnknown version (of_journal fault)
journal_unknown version journal_fault.DiskFault is whole = tt
journal_unknown version (journal_fault.BadJournal at) is whole = whole at refl
journal_unknown version (journal_fault.UnknownVersion found) is whole = is found refl
journal_unknown version journal_fault.Memory is whole = tt

-- what is opened isn't refused
pub ok_is_no_err : {X Y : Type 0} {x : X} {y : Y} → ◌≡◌ {A = Result X Y} (Ok x) (Err y) → ⊥
ok_is_no_err is = absurd cc

-- what is found in the journals tells a place or a version, and not both
pub not_both_told : (found : Result (List (List FileText)) JournalFault) (at version : ℕ)
    → told_by place_of found ≡ Some at → told_by version_in found ≡ Some version → ⊥
not_both_told (Ok entries) at version place known = absurd cc
not_both_told (Err journal_fault.DiskFault) at version place known = absurd cc
not_both_told (Err (journal_fault.BadJournal n)) at version place known = absurd cc
not_both_told (Err (journal_fault.UnknownVersion v)) at version place known = absurd cc
not_both_told (Err journal_fault.Memory) at version place known = absurd cc

-- ---- the first core

-- the first core of a sound store stands for the first world, whatever the disk tells
pub first_core_in : (formats : Formats) {D P : Type 0} (store : Store) (core : Core D P) → HaveFiles store.mounts
    → IsSound formats store → core.history.commits ≡ [] → core.start ≡ store.start → core.keys ≡ store.start
    → StandsIn formats store core (λ r. no_record) (λ p. None) first_world
first_core_in formats store core files sound none start keys = record {
  files = files;
  start = start;
  stands = subst (λ c. Stands formats store first_world c) (sym (ap₂ (λ (h : List Commit) (k : KeyMap). record { history = h; keys = k; records = λ r. no_record; sets = λ p. None }) none keys)) (first_stands formats store sound);
}

-- and that of an opening, with its journal, for a run without a commit
pub stands_opened : (formats : Formats) {D F P : Type 0} (g : Ghosts D) (journal : JournalValue D) (files : Image)
    (faults : ℕ) (doubt : Option (List FileText)) (result : Result (Opened D F P) (OpenRefused D P))
    → ((names : List (List ℕ)) → IsStore g journal.disk journal (new_run names files faults doubt))
    → IfOk result (λ o. (procs : ℕ → KeyMap) → StandsIn formats (store_of o.plan.mounted procs) o.core (λ r. no_record) (λ p. None) first_world)
    → IfOk result (λ o. o.core.history.commits ≡ []) → IfOk result (λ o. OnlyReadsFiles g journal o.core.journal)
    → IfOk result (λ o. (procs : ℕ → KeyMap) → StandsFor formats g (store_of o.plan.mounted procs) o.core.journal.disk o.core (λ r. no_record) (λ p. None) first_world
    (new_run (table_files (store_of o.plan.mounted procs)) files faults doubt))
stands_opened formats g journal files faults doubt (Ok o) store world none reads = λ procs. record {
  here = world procs;
  on_disk =
      let names = table_files (store_of o.plan.mounted procs) in
      store_read g journal.disk journal o.core.journal (new_run names files faults doubt) reads (store names);
  names = refl;
  entries = sym (ap (entries_of formats (store_of o.plan.mounted procs)) none);
}
stands_opened formats g journal files faults doubt (Err r) store world none reads = tt

-- which begins the run of the opening, with what that left in doubt
pub begins_opened : (formats : Formats) {D F P : Type 0} (g : Ghosts D) (disk : D) (journal : JournalValue D)
    (result : Result (Opened D F P) (OpenRefused D P)) (begun : HasBegun g disk journal)
    → IfOk result (λ o. (procs : ℕ → KeyMap) → StandsFor formats g (store_of o.plan.mounted procs) o.core.journal.disk o.core (λ r. no_record) (λ p. None) first_world
    (new_run (table_files (store_of o.plan.mounted procs)) (opened_files (g.seen disk)) (g.faults disk) begun.later))
    → IfOk result (λ o. BeginsStore formats g disk o)
begins_opened formats g disk journal (Ok o) begun stands =
    record { later = begun.later; may_be = begun.may_be; stands = stands }
begins_opened formats g disk journal (Err r) begun stands = tt

-- what is left of a disk whose journals were refused
pub is_left : {D : Type 0} (g : Ghosts D) (disk end : D) → OnlyReads g disk end ⊎ StaysFound g disk end
    → IsLeft g disk end
is_left g disk end (inl reads) = StillRead reads
is_left g disk end (inr found) = StillFound found

-- and still left so where it is then read
pub left_read : {D : Type 0} (g : Ghosts D) (disk mid end : D) → g.tells mid ≡ true → OnlyReads g mid end
    → IsLeft g disk mid → IsLeft g disk end
left_read g disk mid end tells reads (StillRead before) = StillRead (OnlyReads-then g disk mid end before reads)
left_read g disk mid end tells reads (StillFound stays) =
    let same = sym (reads.same tells) in
    StillFound (record {
      found = subst (λ (seen : Image). SameFiles (opened_files seen) (opened_files (g.seen disk))) same stays.found;
      shown = subst (λ (seen : Image). SameFiles seen (g.seen disk) ⊎ SameFiles seen (opened_files (g.seen disk))) same stays.shown;
    })

pub whatever : {O R : Type 0} (result : Result O R) (P : Type 0) → P → IfOk result (λ o. P)
whatever (Ok o) P is = is
whatever (Err r) P is = tt

-- where the journal isn't opened, the files weren't read
pub unread_files : (fault : JournalFault) → may_be_of_journal (Some (of_journal fault)) ≡ false → ⊥
unread_files journal_fault.DiskFault read = absurd cc
unread_files (journal_fault.BadJournal at) read = absurd cc
unread_files (journal_fault.UnknownVersion version) read = absurd cc
unread_files journal_fault.Memory read = absurd cc
