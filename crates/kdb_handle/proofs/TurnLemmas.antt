-- What a turn with a set leaves, by what the core's commit promises and by what the turn tells of its answer.
use Rattle.std.proofs.Common.{◌≡◌, ℕ, ◌+◌, ◌++◌, Bool, List, length, Result, sym, subst}
use Rattle.std.specs.Coded.{Coded}
use Rattle.kdb_outside.specs.declared.disks.Disk.{Ghosts}
use Rattle.kdb_handle.specs.Opened.{store_at}
use Rattle.kdb_handle.specs.Shares.{IsShared, told_now}
use Rattle.kdb_handle.specs.Story.{Told, commits_of}
use Rattle.kdb_handle.specs.Turns.{Commits, told_by}
use Rattle.kdb_handle.specs.declared.shared.Shared.{Shared}
use Rattle.kdb_handle.proofs.RecordLemmas.{numbered}
use Rattle.kdb_handle.proofs.SharedLemmas.{next_shared, next_kept, next_record}
use Rattle.model_maps.specs.KeyMap.{no_keys}
use Rattle.model_store.specs.Rules.{has_risen}
use Rattle.model_store.specs.Store.{Formats}
use Rattle.mounted_files.specs.declared.files.MountedFile.{MountedFile}
use Rattle.store_core.specs.Commits.{CommitsSet}
use Rattle.store_core.specs.declared.committing.CommitFault.{CommitFault}
use Rattle.store_core.specs.declared.committing.Done.{Done}
use Rattle.store_core.specs.declared.cores.Core.{Core}
use Rattle.store_verdict.specs.PreparedView.{prepared_of}
use Rattle.store_verdict.specs.RecordView.{handle_of, record_of}
use Rattle.store_verdict.specs.declared.prepared.Prepared.{Prepared}
use Rattle.store_verdict.specs.declared.records.Record.{Record}

pub turn_commits : (formats : Formats) {D F P : Type 0} (g : Ghosts D) (code : Coded D) (refused : P → ℕ)
    (files : List MountedFile) (old new : Shared D F P) (after : Core D P) (rec left : Record) (set : Prepared)
    (result : Result Done CommitFault)
    → CommitsSet formats g refused files old.core after rec left set result → new.core ≡ after
    → told_now new.fresh ≡ told_by (prepared_of set) result
    → new.entries ≡ old.entries + length (told_by (prepared_of set) result)
    → Commits formats g code refused files old new rec left set result
turn_commits formats {D} {F} {P} g code refused files old new after rec left set result call core_is told_is counted =
    let risen : Bool = has_risen (refused old.core.patterns) (refused after.patterns) in
    let told : List Told = told_now new.fresh in record {
      shared = λ log may.
          subst (λ (core : Core D P). IsShared formats g code refused core new.entries (log ++ told)) (sym core_is)
          (next_shared formats g code refused files old.core old.entries log rec set may after left risen result told new.entries told_is counted
          call.made call.committed call.goes call.cause call.later call.refused call.unwritten call.start);
      keeps = λ log may.
          numbered (store_at files) (commits_of (log ++ told)) (handle_of rec) (handle_of left) (record_of left) (sym call.handle)
          (next_kept formats g code refused files old.core old.entries log rec set may after left risen result told told_is call.made);
      told = told_is;
      judged = (risen, call.judged (λ r. no_keys));
      kept = λ log may. next_record formats g code refused files old.core old.entries log rec set may after left risen result call.made;
      handle = call.handle;
      places = call.places;
      proc = call.proc;
    }
