-- What the replies of a session tell. A later kind of reply is one more case. (This project's own.)
use Rattle.std.specs.Prelude.{ℕ, ◌-◌, if◌then◌else◌, List, [], ◌∷◌, ◌++◌, map as over, Option, Some, None, Result, Ok, Err}
use Rattle.std.specs.List.{flat_map}
use Rattle.kdb_handle.specs.Sets.{tells_refusal}
use Rattle.kdb_handle.specs.declared.merging.MergeEnd.{MergeEnd}
use Rattle.kdb_handle.specs.declared.merging.MergeEnd.TheVariants as merge_end
use Rattle.kdb_handle.specs.declared.merging.Tried.{Tried}
use Rattle.kdb_handle.specs.declared.replies.Reply.{Reply}
use Rattle.kdb_handle.specs.declared.replies.Reply.TheVariants.{Got, LookFound, LookNone, SetDone, SetRefused, Merged, MergeRefused, Watching, News, Undone, UndoRefused}
use Rattle.kdb_handle.specs.declared.setting.SetFault.{SetFault}
use Rattle.kdb_handle.specs.declared.setting.SetFault.TheVariants.{Commit}
use Rattle.kdb_handle.specs.declared.undoing.UndoFault.{UndoFault}
use Rattle.kdb_handle.specs.declared.undoing.UndoFault.TheVariants as undo_fault
use Rattle.spec_cascade.specs.declared.founds.Found.{Found}
use Rattle.store_core.specs.declared.committing.CommitFault.{CommitFault}
use Rattle.store_core.specs.declared.committing.CommitFault.TheVariants.{Conflict, FileTooLarge, Invalid, DatabaseFull, HistoryFull, DiskFault}
use Rattle.store_core.specs.declared.committing.Done.{Done}
use Rattle.store_core.specs.declared.committing.Done.TheVariants.{Committed, Same}

-- the reply to a set that was judged
abbrev pub set_reply : Result Done CommitFault → Reply
set_reply (Ok done) = SetDone done
set_reply (Err why) = SetRefused (Commit why)

-- the reply to a set, prepared or not
abbrev pub stored_reply : Result Done SetFault → Reply
stored_reply (Ok done) = SetDone done
stored_reply (Err why) = SetRefused why

-- the reply to a merged set
abbrev pub merge_reply : List Tried → Result Done MergeEnd → Reply
merge_reply tried (Ok done) = Merged (record { tried = tried; done = done })
merge_reply tried (Err end) = MergeRefused (record { tried = tried; end = end })

-- the reply to an undoing
abbrev pub undo_reply : Result Done UndoFault → Reply
undo_reply (Ok done) = Undone done
undo_reply (Err why) = UndoRefused why

-- the reply to a look
abbrev pub look_reply : Option Found → Reply
look_reply None = LookNone
look_reply (Some found) = LookFound found.name found.value

-- the number of the commit that a set became, if it became one
abbrev pub numbers_of : Done → List ℕ
numbers_of (Committed number aside) = number ∷ []
numbers_of (Same front aside) = []

-- the numbers of the commits that a reply tells
abbrev pub numbers_told : Reply → List ℕ
numbers_told (SetDone done) = numbers_of done
numbers_told (Merged merging) = numbers_of merging.done
numbers_told (Undone done) = numbers_of done
numbers_told other = []

-- how many commits stood before what was judged, where an answer tells it
abbrev pub fronts_of_done : Done → List ℕ
fronts_of_done (Committed number aside) = (number - 1) ∷ []
fronts_of_done (Same front aside) = front ∷ []

abbrev pub fronts_of_fault : SetFault → List ℕ
fronts_of_fault (Commit (Conflict mount by front)) = front ∷ []
fronts_of_fault (Commit (FileTooLarge mount bytes front)) = front ∷ []
fronts_of_fault (Commit (Invalid violation front)) = front ∷ []
fronts_of_fault (Commit (DatabaseFull weight front)) = front ∷ []
fronts_of_fault (Commit (HistoryFull weight front)) = front ∷ []
fronts_of_fault (Commit (DiskFault front)) = front ∷ []
fronts_of_fault other = []

-- how many a try found, and how many the get behind it
abbrev pub fronts_of_try : Tried → List ℕ
fronts_of_try item = item.front ∷ item.again ∷ []

abbrev pub fronts_of_end : MergeEnd → List ℕ
fronts_of_end (merge_end.TriesSpent mount by front) = front ∷ []
fronts_of_end (merge_end.Set why) = fronts_of_fault why
fronts_of_end other = []

abbrev pub fronts_of_undo : UndoFault → List ℕ
fronts_of_undo (undo_fault.NoCommit number front) = front ∷ []
fronts_of_undo (undo_fault.Overtaken name by front) = front ∷ []
fronts_of_undo (undo_fault.Set why) = fronts_of_fault why
fronts_of_undo other = []

-- the fronts that a reply tells: how many commits a get, a watch or a poll found, and how many stood before what was
-- judged
abbrev pub fronts_told : Reply → List ℕ
fronts_told (Got front count) = front ∷ []
fronts_told (SetDone done) = fronts_of_done done
fronts_told (SetRefused why) = fronts_of_fault why
fronts_told (Merged merging) = flat_map fronts_of_try merging.tried ++ fronts_of_done merging.done
fronts_told (MergeRefused fault) = flat_map fronts_of_try fault.tried ++ fronts_of_end fault.end
fronts_told (Watching front) = front ∷ []
fronts_told (News news) = news.front ∷ []
fronts_told (Undone done) = fronts_of_done done
fronts_told (UndoRefused why) = fronts_of_undo why
fronts_told other = []

-- the number of the commit in the way of a set, where a refusal tells it
abbrev pub conflicts_of_fault : SetFault → List ℕ
conflicts_of_fault (Commit (Conflict mount by front)) = by ∷ []
conflicts_of_fault other = []

abbrev pub conflicts_of_end : MergeEnd → List ℕ
conflicts_of_end (merge_end.TriesSpent mount by front) = by ∷ []
conflicts_of_end (merge_end.Set why) = conflicts_of_fault why
conflicts_of_end other = []

-- the numbers of the commits that a reply tells as in the way of its sets. That of an undoing meets no conflict
abbrev pub conflicts_told : Reply → List ℕ
conflicts_told (SetRefused why) = conflicts_of_fault why
conflicts_told (Merged merging) = over (λ item. item.by) merging.tried
conflicts_told (MergeRefused fault) = over (λ item. item.by) fault.tried ++ conflicts_of_end fault.end
conflicts_told other = []

-- how many sets that failed for the disk it tells
abbrev pub failures_of : SetFault → ℕ
failures_of (Commit (DiskFault front)) = 1
failures_of other = 0

abbrev pub failures_of_end : MergeEnd → ℕ
failures_of_end (merge_end.Set why) = failures_of why
failures_of_end other = 0

abbrev pub failures_of_undo : UndoFault → ℕ
failures_of_undo (undo_fault.Set why) = failures_of why
failures_of_undo other = 0

abbrev pub failures_told : Reply → ℕ
failures_told (SetRefused why) = failures_of why
failures_told (MergeRefused fault) = failures_of_end fault.end
failures_told (UndoRefused why) = failures_of_undo why
failures_told other = 0

-- how many patterns that the matcher refused it tells
abbrev pub refusals_of : SetFault → ℕ
refusals_of (Commit why) = if tells_refusal (Err why) then 1 else 0
refusals_of other = 0

abbrev pub refusals_of_end : MergeEnd → ℕ
refusals_of_end (merge_end.Set why) = refusals_of why
refusals_of_end other = 0

abbrev pub refusals_of_undo : UndoFault → ℕ
refusals_of_undo (undo_fault.Set why) = refusals_of why
refusals_of_undo other = 0

abbrev pub refusals_told : Reply → ℕ
refusals_told (SetRefused why) = refusals_of why
refusals_told (MergeRefused fault) = refusals_of_end fault.end
refusals_told (UndoRefused why) = refusals_of_undo why
refusals_told other = 0
