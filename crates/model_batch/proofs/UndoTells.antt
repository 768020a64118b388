-- An undoing among the steps of a session: while the history goes on, and of the commits that the session knows of.
use Rattle.std.proofs.Common.{◌≡◌, ℕ, ◌+◌, ◌-◌, ◌≤◌, List, [], ◌∷◌, ◌++◌, length, Result, Ok, Err, refl, sym, ap, subst, arith}
use Rattle.std.specs.List.{AllByRecursion}
use mathlib.Core.List.{IsPrefix}
use Rattle.kdb_handle.specs.Opened.{store_at}
use Rattle.kdb_handle.specs.Sets.{tells_refusal}
use Rattle.kdb_handle.specs.Undoing.{IsUndoneBy, Undo, set_made}
use Rattle.kdb_handle.specs.declared.replies.Reply.{Reply}
use Rattle.kdb_handle.specs.declared.setting.SetFault.TheVariants as set_fault
use Rattle.kdb_handle.specs.declared.undoing.UndoFault.{UndoFault}
use Rattle.kdb_handle.specs.declared.undoing.UndoFault.TheVariants as undo_fault
use Rattle.model_batch.specs.Replies.{numbers_told, undo_reply}
use Rattle.model_batch.specs.Sessions.{Session}
use Rattle.model_batch.specs.Told.{IsAtLeast}
use Rattle.model_batch.specs.Undos.{UndoStands, Undoes, undo_then, undo_told}
use Rattle.model_batch.proofs.JudgedLemmas.{judged-front, stands-more}
use Rattle.model_history.specs.History.{Commit, replay}
use Rattle.model_maps.specs.KeyMap.{KeyMap}
use Rattle.model_store.specs.Records.{Record}
use Rattle.model_store.specs.Sets.{Prepared}
use Rattle.model_store.specs.Store.{Formats}
use Rattle.mounted_files.specs.declared.files.MountedFile.{MountedFile}
use Rattle.seat_lock.proofs.Prefixes.{prefix-trans}
use Rattle.store_core.specs.declared.committing.Done.{Done}
use Rattle.store_core.specs.declared.committing.Done.TheVariants.{Committed, Same}

stands-far : (history longer past : List Commit) (set : Prepared) (result : Result Done UndoFault)
    → IsPrefix history longer → UndoStands history past set result → UndoStands longer past set result
stands-far history longer past set (Ok done) p stands = stands-more history longer past set (Ok done) p stands
stands-far history longer past set (Err why) p stands = prefix-trans past history longer stands p

module _ (formats : Formats) (files : List MountedFile) (procs : KeyMap) (number : ℕ) (undone : ℕ) (old new : Session) (answer : Reply) where
  pub undoes-more : (history longer : List Commit) → IsPrefix history longer
      → Undoes formats files procs number history undone old answer new
      → Undoes formats files procs number longer undone old answer new
  undoes-more history longer p h = record {
    past = h.past;
    no_less = h.no_less;
    result = h.result;
    known = h.known;
    rec = h.rec;
    keys = h.keys;
    done = h.done;
    stands = stands-far history longer h.past (set_made (undo_then files procs number old.rec h.past undone)) h.result p h.stands;
    reply_is = h.reply_is;
    new_is = h.new_is;
  }

  module _ (history : List Commit) (h : Undoes formats files procs number history undone old answer new) where
    abbrev front : ℕ
    front = length h.past

    abbrev undo : Undo
    undo = undo_then files procs number old.rec h.past undone

    told-is : new.told ≡ undo_told front h.result
    told-is = ap (λ (s : Session). s.told) h.new_is

    -- what it tells, and the session knows then, is no less than the commits by which it was judged
    result-later : (result : Result Done UndoFault) → IsUndoneBy formats undo old.working h.rec h.keys result
        → (old.told ≤ undo_told front result) × IsAtLeast old.told (undo_reply result)
    result-later (Ok (Committed n aside)) done =
        (omega (arith, h.no_less, done.judged.0), (omega (arith, h.no_less, done.judged.0), tt))
    result-later (Ok (Same f aside)) done = absurd done
    result-later (Err (undo_fault.NoCommit n f)) done = (h.no_less, (omega (arith, h.no_less, done.0.2), tt))
    result-later (Err (undo_fault.Overtaken name by f)) done = (h.no_less, (omega (arith, h.no_less, done.0.1), tt))
    result-later (Err (undo_fault.Get why)) done = (h.no_less, tt)
    result-later (Err (undo_fault.Set (set_fault.Prepare why))) done = (h.no_less, tt)
    result-later (Err (undo_fault.Set (set_fault.Commit why))) done = (
      h.no_less,
      (judged-front formats (store_at files) (tells_refusal (Err why)) h.past (replay (store_at files).start h.past) (set_made undo) old.told (Err why) h.no_less done.refused.1).1,
    )
    result-later (Err undo_fault.Memory) done = (h.no_less, tt)

    pub undoes-later : (old.told ≤ new.told) × IsAtLeast old.told answer
    undoes-later =
        let later = result-later h.result h.done in
        (omega (arith, later.0, told-is), subst (IsAtLeast old.told) (sym h.reply_is) later.1)

    -- the number of its commit is told then
    result-numbers : (result : Result Done UndoFault)
        → AllByRecursion (λ n. n ≤ undo_told front result) (numbers_told (undo_reply result))
    result-numbers (Ok (Committed n aside)) = (omega arith, tt)
    result-numbers (Ok (Same f aside)) = tt
    result-numbers (Err why) = tt

    pub undoes-numbers : AllByRecursion (λ n. n ≤ new.told) (numbers_told answer)
    undoes-numbers =
        subst (λ (a : Reply). AllByRecursion (λ n. n ≤ new.told) (numbers_told a)) (sym h.reply_is)
        (subst (λ (t : ℕ). AllByRecursion (λ n. n ≤ t) (numbers_told (undo_reply h.result))) (sym told-is) (result-numbers h.result))
