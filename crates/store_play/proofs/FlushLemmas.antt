-- A flush leaves what is kept as it was, so that a step stands as well behind it.
use Rattle.std.proofs.Common.{◌≡◌, ℕ, Bool, List, Option, Result, refl, sym, ap, ap₂, subst, ◌∙◌}
use Rattle.kdb_outside.specs.declared.disks.Disk.{Ghosts}
use Rattle.kdb_outside.specs.declared.faults.Failed.{Failed}
use Rattle.kdb_outside.proofs.Frames.{GoesOn-then, OnlyReads-goes_on, OnlyReads-none}
use Rattle.commit_log.specs.Log.{Log}
use Rattle.model_maps.specs.KeyMap.{KeyMap}
use Rattle.model_store.specs.Cores as cores
use Rattle.model_store.specs.Promise.{Stands}
use Rattle.model_store.specs.Store.{Formats, store_of}
use Rattle.mounted_files.specs.declared.files.MountedFile.{MountedFile}
use Rattle.model_files.specs.Texts.{entries_of}
use Rattle.store_core.specs.Cores.{core_with}
use Rattle.store_core.specs.Flushes.{FlushesStore}
use Rattle.store_core.specs.declared.cores.Core.{Core}
use Rattle.store_play.specs.Flushed.{HasFlushed}
use Rattle.store_play.specs.Handles.{records_of, held_in}
use Rattle.store_play.specs.Plays.{Stepped, Does}
use Rattle.store_play.specs.Stages.{Stage, stage_of}
use Rattle.store_play.specs.declared.events.Answer.{Answer}
use Rattle.store_play.specs.declared.events.Event.{Event}
use Rattle.store_verdict.specs.declared.prepared.Prepared.{Prepared}
use Rattle.store_verdict.specs.declared.records.Record.{Record}

pub flushed_none : {D P : Type 0} (g : Ghosts D) (core : Core D P) → HasFlushed g core core
flushed_none g core = record {
  history = refl;
  start = refl;
  keys = refl;
  patterns = refl;
  on_disk = λ opened run is. is;
  goes = OnlyReads-goes_on g core.journal.disk core.journal.disk (OnlyReads-none g core.journal.disk);
}

pub flushed_then : {D P : Type 0} (g : Ghosts D) (old mid new : Core D P) → HasFlushed g old mid → HasFlushed g mid new
    → HasFlushed g old new
flushed_then g old mid new one two = record {
  history = two.history ∙ one.history;
  start = two.start ∙ one.start;
  keys = two.keys ∙ one.keys;
  patterns = two.patterns ∙ one.patterns;
  on_disk = λ opened run is. two.on_disk opened run (one.on_disk opened run is);
  goes = GoesOn-then g old.journal.disk mid.journal.disk new.journal.disk one.goes two.goes;
}

-- a step stands behind flushes, too
pub stepped_flushed : (formats : Formats) {D P : Type 0} (g : Ghosts D) (files : List MountedFile) (procs : ℕ → KeyMap)
    (opened : D) (first : Stage) (event : Event) (told : Answer) (mid new : Core D P) (records : List Record)
    (places : List (Option Prepared))
    → HasFlushed g mid new → Stepped formats g files procs opened first event told mid records places
    → Stepped formats g files procs opened first event told new records places
stepped_flushed formats g files procs opened first event told mid new records places flushed is =
    let core_is : core_with mid (records_of records) is.known ≡ core_with new (records_of records) is.known =
    ap₂ (λ (log : Log) (keys : KeyMap). record { history = log.commits; keys = keys; records = records_of records; sets = is.known }) (sym flushed.history) (sym flushed.keys) in
    record {
      known = is.known;
      world = is.world;
      run = is.run;
      does = subst (λ (core : cores.Core). Does formats (store_of files procs) files first event told (record { core = core; run = is.run; held = held_in places; handles = (stage_of mid records places is.known is.run).handles; places = (stage_of mid records places is.known is.run).places })) core_is is.does;
      holds = record {
        stands = record {
          here = record {
            files = is.holds.stands.here.files;
            start = flushed.start ∙ is.holds.stands.here.start;
            stands = subst (λ (core : cores.Core). Stands formats (store_of files procs) is.world core) core_is is.holds.stands.here.stands;
          };
          on_disk = flushed.on_disk opened is.run is.holds.stands.on_disk;
          names = is.holds.stands.names;
          entries = is.holds.stands.entries ∙ ap (λ (log : Log). entries_of formats (store_of files procs) log.commits) (sym flushed.history);
        };
        handles = is.holds.handles;
        held = is.holds.held;
      };
    }
