-- What a batch prints of the replies of its steps, and the status that it ends with. (This project's own.)
use Rattle.std.specs.Prelude.{ℕ, Bool, true, false, if◌then◌else◌, List, [], ◌∷◌, ◌++◌, map as over, codes}
use Rattle.std.specs.Fmt.{decimal}
use Rattle.std.specs.List.{flat_map, list_any}
use Rattle.kdb_handle.specs.declared.merging.MergeEnd.{MergeEnd}
use Rattle.kdb_handle.specs.declared.merging.MergeEnd.TheVariants as merge_end
use Rattle.kdb_handle.specs.declared.merging.Tried.{Tried}
use Rattle.kdb_handle.specs.declared.replies.Reply.{Reply}
use Rattle.kdb_handle.specs.declared.replies.Reply.TheVariants.{Got, GetRefused, Quiet, LookFound, LookNone, SetDone, SetRefused, Merged, MergeRefused, Watching, News, NoWatch, Undone, UndoRefused, Memory}
use Rattle.kdb_handle.specs.declared.setting.SetFault.{SetFault}
use Rattle.kdb_handle.specs.declared.setting.SetFault.TheVariants.{Prepare, Commit}
use Rattle.kdb_handle.specs.declared.undoing.UndoFault.{UndoFault}
use Rattle.kdb_handle.specs.declared.undoing.UndoFault.TheVariants as undoing
use Rattle.model_names.specs.Name.{Name}
use Rattle.model_quoting.specs.Quoted.{quoted, shown}
use Rattle.mount_table.specs.declared.faults.TableFault.{TableFault}
use Rattle.mount_table.specs.declared.faults.TableFault.TheVariants as table
use Rattle.mounted_files.specs.declared.refusals.GetFault.{GetFault}
use Rattle.mounted_files.specs.declared.refusals.GetFault.TheVariants as getting
use Rattle.store_core.specs.declared.committing.CommitFault.{CommitFault}
use Rattle.store_core.specs.declared.committing.CommitFault.TheVariants as committing
use Rattle.store_core.specs.declared.committing.Done.{Done}
use Rattle.store_core.specs.declared.committing.Done.TheVariants.{Committed, Same}
use Rattle.store_lines.specs.Lines as store
use Rattle.store_verdict.specs.declared.faults.PrepareFault.{PrepareFault}
use Rattle.store_verdict.specs.declared.faults.PrepareFault.TheVariants as preparing
use Rattle.watch_feed.specs.declared.news.Changed.{Changed}
use Rattle.watch_feed.specs.declared.news.News as feed

-- a want of memory, alone or inside a refusal
abbrev pub memory : List ℕ
memory = codes "memory"

-- a refusal that the store has a line for
abbrev pub refused : List ℕ → List ℕ
refused text = codes "refused " ++ text

-- the same, with how many commits were found
abbrev pub refused_at : List ℕ → ℕ → List ℕ
refused_at text front = codes "refused " ++ (text ++ (codes " front " ++ decimal front))

-- a get that was refused
abbrev pub line_of_get : GetFault → List ℕ
line_of_get (getting.BadFile mount number) = refused (store.bad_file mount number)
line_of_get (getting.TooLong mount bytes) = refused (store.too_long mount bytes)
line_of_get (getting.TooHeavy mount weight) = refused (store.too_heavy mount weight)
line_of_get getting.Memory = memory

-- keys that make no mount table
abbrev pub line_of_table : TableFault → List ℕ
line_of_table table.Memory = memory
line_of_table fault = refused (store.bad_table fault)

-- a set that was not prepared
abbrev pub line_of_prepare : PrepareFault → List ℕ
line_of_prepare (preparing.NotFetched mount) = refused (store.not_fetched mount)
line_of_prepare (preparing.ValueTooLong key bytes) = refused (store.value_too_long key bytes)
line_of_prepare (preparing.NotStorable mount key) = refused (store.not_storable mount key)
line_of_prepare (preparing.FileTooLarge mount bytes) = refused (store.file_too_large mount bytes)
line_of_prepare (preparing.BadTable fault) = line_of_table fault
line_of_prepare preparing.Memory = memory

-- a set that was not committed
abbrev pub line_of_commit : CommitFault → List ℕ
line_of_commit (committing.Conflict mount by front) =
    codes "conflict " ++ (shown mount ++ (codes " by " ++ (decimal by ++ (codes " front " ++ decimal front))))
line_of_commit (committing.FileTooLarge mount bytes front) = refused_at (store.file_too_large mount bytes) front
line_of_commit (committing.Invalid violation front) = refused_at (store.invalid violation) front
line_of_commit (committing.DatabaseFull weight front) = refused_at (store.database_full weight) front
line_of_commit (committing.HistoryFull weight front) = refused_at (store.history_full weight) front
line_of_commit (committing.DiskFault front) = refused_at store.disk_fault front
line_of_commit committing.Memory = memory

-- a set that was not stored
abbrev pub line_of_set : SetFault → List ℕ
line_of_set (Prepare fault) = line_of_prepare fault
line_of_set (Commit fault) = line_of_commit fault

-- a set that was stored, or touched no mount; and how many keys were left aside
abbrev pub line_of_done : Done → List ℕ
line_of_done (Committed number aside) = codes "commit " ++ (decimal number ++ (codes " aside " ++ decimal aside))
line_of_done (Same front aside) = codes "same " ++ (decimal front ++ (codes " aside " ++ decimal aside))

-- a try of a merge that met a conflict, and how many commits the get behind it found
abbrev pub line_of_try : Tried → List ℕ
line_of_try item =
    codes "tried " ++ (shown item.mount ++ (codes " by " ++ (decimal item.by ++ (codes " front " ++ (decimal item.front ++ (codes " again " ++ decimal item.again))))))

-- the keys that both sides had changed, and not alike
abbrev pub line_of_conflicts : List Name → List ℕ
line_of_conflicts names = codes "merge-conflict" ++ flat_map (λ name. 32 ∷ shown name) names

-- why a merge was not stored: a set's refusal, or one of its own
abbrev pub line_of_end : MergeEnd → List ℕ
line_of_end (merge_end.MergeConflicts names) = line_of_conflicts names
line_of_end (merge_end.TriesSpent mount by front) =
    codes "spent " ++ (shown mount ++ (codes " by " ++ (decimal by ++ (codes " front " ++ decimal front))))
line_of_end (merge_end.Set fault) = line_of_set fault
line_of_end merge_end.Memory = memory

-- a commit that is not there to be taken back, and one of whose names a later commit changed too
abbrev pub line_of_missing : ℕ → ℕ → List ℕ
line_of_missing number front =
    codes "refused C01320 no-commit " ++ (decimal number ++ (codes " front " ++ decimal front))

abbrev pub line_of_overtaken : Name → ℕ → ℕ → List ℕ
line_of_overtaken name by front =
    codes "refused C02000 overtaken " ++ (shown name ++ (codes " by " ++ (decimal by ++ (codes " front " ++ decimal front))))

-- why a commit was not taken back: a get's refusal, or a set's, or one of its own
abbrev pub line_of_undo : UndoFault → List ℕ
line_of_undo (undoing.NoCommit number front) = line_of_missing number front
line_of_undo (undoing.Overtaken name by front) = line_of_overtaken name by front
line_of_undo (undoing.Get fault) = line_of_get fault
line_of_undo (undoing.Set fault) = line_of_set fault
line_of_undo undoing.Memory = memory

-- a change that a watch tells: the number of its commit, and whether the key went or has a new entry
abbrev pub sign_of : Bool → List ℕ
sign_of removed = if removed then codes "-" else codes "+"

abbrev pub line_of_changed : Changed → List ℕ
line_of_changed item = codes "~ " ++ (decimal item.number ++ (32 ∷ (sign_of item.removed ++ (32 ∷ shown item.name))))

-- what a watch tells: how many commits it has looked at and how many changes it left out; and the others
abbrev pub line_of_news : feed.News → List ℕ
line_of_news news = codes "news " ++ (decimal news.front ++ (codes " missed " ++ decimal news.missed))

abbrev pub lines_of_news : feed.News → List (List ℕ)
lines_of_news news = line_of_news news ∷ over line_of_changed news.changes

-- the lines of a reply: none of an edit of the working set, else one; before that of a merge those of its tries, and
-- behind that of a poll those of the changes
abbrev pub lines_of_reply : Reply → List (List ℕ)
lines_of_reply (Got front count) = (codes "got " ++ (decimal front ++ (32 ∷ decimal count))) ∷ []
lines_of_reply (GetRefused fault) = line_of_get fault ∷ []
lines_of_reply Quiet = []
lines_of_reply (LookFound name value) = (codes "found " ++ (shown name ++ (32 ∷ quoted value))) ∷ []
lines_of_reply LookNone = codes "none" ∷ []
lines_of_reply (SetDone done) = line_of_done done ∷ []
lines_of_reply (SetRefused fault) = line_of_set fault ∷ []
lines_of_reply (Merged merging) = over line_of_try merging.tried ++ line_of_done merging.done ∷ []
lines_of_reply (MergeRefused fault) = over line_of_try fault.tried ++ line_of_end fault.end ∷ []
lines_of_reply (Watching front) = (codes "watch " ++ decimal front) ∷ []
lines_of_reply (News news) = lines_of_news news
lines_of_reply NoWatch = codes "no-watch" ∷ []
lines_of_reply (Undone done) = line_of_done done ∷ []
lines_of_reply (UndoRefused fault) = line_of_undo fault ∷ []
lines_of_reply Memory = memory ∷ []

-- a get, or a set, or what else ends as one of them does, was refused for want of memory
abbrev pub get_wants_memory : GetFault → Bool
get_wants_memory getting.Memory = true
get_wants_memory fault = false

abbrev pub set_wants_memory : SetFault → Bool
set_wants_memory (Prepare preparing.Memory) = true
set_wants_memory (Prepare (preparing.BadTable table.Memory)) = true
set_wants_memory (Commit committing.Memory) = true
set_wants_memory fault = false

abbrev pub end_wants_memory : MergeEnd → Bool
end_wants_memory (merge_end.Set fault) = set_wants_memory fault
end_wants_memory merge_end.Memory = true
end_wants_memory end = false

abbrev pub undo_wants_memory : UndoFault → Bool
undo_wants_memory (undoing.Get fault) = get_wants_memory fault
undo_wants_memory (undoing.Set fault) = set_wants_memory fault
undo_wants_memory undoing.Memory = true
undo_wants_memory fault = false

-- a reply is a want of memory, alone or inside a refusal
abbrev pub is_memory : Reply → Bool
is_memory Memory = true
is_memory (GetRefused fault) = get_wants_memory fault
is_memory (SetRefused fault) = set_wants_memory fault
is_memory (MergeRefused fault) = end_wants_memory fault.end
is_memory (UndoRefused fault) = undo_wants_memory fault
is_memory reply = false

-- a set, or the last of a merge, or that of an undo, failed for the disk
abbrev pub set_meets_fault : SetFault → Bool
set_meets_fault (Commit (committing.DiskFault front)) = true
set_meets_fault fault = false

abbrev pub end_meets_fault : MergeEnd → Bool
end_meets_fault (merge_end.Set fault) = set_meets_fault fault
end_meets_fault end = false

abbrev pub undo_meets_fault : UndoFault → Bool
undo_meets_fault (undoing.Set fault) = set_meets_fault fault
undo_meets_fault fault = false

-- a reply is a fault of the disk
abbrev pub is_disk_fault : Reply → Bool
is_disk_fault (SetRefused fault) = set_meets_fault fault
is_disk_fault (MergeRefused fault) = end_meets_fault fault.end
is_disk_fault (UndoRefused fault) = undo_meets_fault fault
is_disk_fault reply = false

-- some reply of a batch is such
abbrev pub some_reply : (Reply → Bool) → List (List (List Reply)) → Bool
some_reply test replies = list_any (list_any (list_any test)) replies

-- how a batch ends: 70 where a step wanted memory, else 74 where the disk failed in one, else 0
abbrev pub status_of : List (List (List Reply)) → ℕ
status_of replies = if some_reply is_memory replies then 70 else (if some_reply is_disk_fault replies then 74 else 0)
