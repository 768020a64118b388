-- What can be read from the text that a batch prints. (This project's own.)
use Rattle.std.specs.Prelude.{◌≡◌, ℕ, ◌≤◌, ◌<◌, ◌^◌, Bool, true, false, not, if◌then◌else◌, List, [], ◌∷◌, length, map as over, filter, slice_get, Some, ◌⊎◌}
use Rattle.std.specs.List.{AllByRecursion}
use Rattle.batch_script.specs.declared.steps.Phase.{Phase}
use Rattle.batch_script.specs.declared.steps.Script.{Script}
use Rattle.batch_script.specs.declared.steps.Step.{Step}
use Rattle.batch_script.specs.declared.steps.Step.TheVariants.{Put, MetaStep, Del, Cut, Merge, Undo}
use Rattle.batch_script.specs.declared.steps.Steps.{Steps}
use Rattle.kdb_handle.specs.declared.merging.MergeEnd.{MergeEnd}
use Rattle.kdb_handle.specs.declared.merging.MergeEnd.TheVariants as merge_end
use Rattle.kdb_handle.specs.declared.merging.Tried.{Tried}
use Rattle.kdb_handle.specs.declared.replies.Reply.{Reply}
use Rattle.kdb_handle.specs.declared.replies.Reply.TheVariants.{Got, GetRefused, Quiet, LookFound, LookNone, SetDone, SetRefused, Merged, MergeRefused, Watching, News, NoWatch, Undone, UndoRefused, Memory}
use Rattle.kdb_handle.specs.declared.setting.SetFault.{SetFault}
use Rattle.kdb_handle.specs.declared.setting.SetFault.TheVariants.{Prepare, Commit}
use Rattle.kdb_handle.specs.declared.undoing.UndoFault.{UndoFault}
use Rattle.kdb_handle.specs.declared.undoing.UndoFault.TheVariants as undoing
use Rattle.kdb_print.specs.Replies.{is_memory}
use Rattle.model_history.specs.History as history
use Rattle.model_names.specs.WellFormed.{IsName}
use Rattle.model_specified.specs.declared.violations.Violation.{Violation}
use Rattle.mount_table.specs.declared.faults.TableFault.{TableFault}
use Rattle.mount_table.specs.declared.faults.TableFault.TheVariants as table
use Rattle.mount_table.specs.declared.mounts.Mount.{Mount}
use Rattle.mounted_files.specs.declared.refusals.GetFault.{GetFault}
use Rattle.mounted_files.specs.declared.refusals.GetFault.TheVariants as getting
use Rattle.store_core.specs.declared.committing.CommitFault.{CommitFault}
use Rattle.store_core.specs.declared.committing.CommitFault.TheVariants as committing
use Rattle.store_core.specs.declared.committing.Done.{Done}
use Rattle.store_core.specs.declared.committing.Done.TheVariants.{Committed, Same}
use Rattle.store_verdict.specs.declared.faults.PrepareFault.{PrepareFault}
use Rattle.store_verdict.specs.declared.faults.PrepareFault.TheVariants as preparing
use Rattle.watch_feed.specs.declared.news.Changed.{Changed}

-- a number as the code has it
abbrev pub IsNumber : ℕ → Type 0
IsNumber n = n < 2 ^ 64

-- the numbers of faults and replies are such, and their names are well formed
abbrev pub IsViolation : Violation → Type 0
IsViolation violation = IsName violation.key × IsNumber violation.rule

abbrev pub IsGetFault : GetFault → Type 0
IsGetFault (getting.BadFile mount number) = IsName mount × IsNumber number
IsGetFault (getting.TooLong mount bytes) = IsName mount × IsNumber bytes
IsGetFault (getting.TooHeavy mount weight) = IsName mount × IsNumber weight
IsGetFault getting.Memory = Unit {0}

abbrev pub IsTableFault : TableFault → Type 0
IsTableFault (table.BadMountpoint entry) = Unit {0}
IsTableFault (table.NoPath entry) = Unit {0}
IsTableFault (table.BadPath entry) = Unit {0}
IsTableFault (table.UnknownPlugin entry) = Unit {0}
IsTableFault (table.FileTwice entry) = Unit {0}
IsTableFault (table.BadConflicts entry) = Unit {0}
IsTableFault (table.TooMany count) = IsNumber count
IsTableFault (table.AlreadyMounted entry) = Unit {0}
IsTableFault (table.NotMounted entry) = Unit {0}
IsTableFault table.Memory = Unit {0}

abbrev pub IsPrepareFault : PrepareFault → Type 0
IsPrepareFault (preparing.NotFetched mount) = IsName mount
IsPrepareFault (preparing.ValueTooLong key bytes) = IsName key × IsNumber bytes
IsPrepareFault (preparing.NotStorable mount key) = IsName mount × IsName key
IsPrepareFault (preparing.FileTooLarge mount bytes) = IsName mount × IsNumber bytes
IsPrepareFault (preparing.BadTable fault) = IsTableFault fault
IsPrepareFault preparing.Memory = Unit {0}

abbrev pub IsCommitFault : CommitFault → Type 0
IsCommitFault (committing.Conflict mount by front) = IsName mount × IsNumber by × IsNumber front
IsCommitFault (committing.FileTooLarge mount bytes front) = IsName mount × IsNumber bytes × IsNumber front
IsCommitFault (committing.Invalid violation front) = IsViolation violation × IsNumber front
IsCommitFault (committing.DatabaseFull weight front) = IsNumber weight × IsNumber front
IsCommitFault (committing.HistoryFull weight front) = IsNumber weight × IsNumber front
IsCommitFault (committing.DiskFault front) = IsNumber front
IsCommitFault committing.Memory = Unit {0}

abbrev pub IsSetFault : SetFault → Type 0
IsSetFault (Prepare fault) = IsPrepareFault fault
IsSetFault (Commit fault) = IsCommitFault fault

abbrev pub IsTry : Tried → Type 0
IsTry item = IsName item.mount × IsNumber item.by × IsNumber item.front × IsNumber item.again

abbrev pub IsEnd : MergeEnd → Type 0
IsEnd (merge_end.MergeConflicts names) = AllByRecursion IsName names
IsEnd (merge_end.TriesSpent mount by front) = IsName mount × IsNumber by × IsNumber front
IsEnd (merge_end.Set fault) = IsSetFault fault
IsEnd merge_end.Memory = Unit {0}

abbrev pub IsDone : Done → Type 0
IsDone (Committed number aside) = IsNumber number × IsNumber aside
IsDone (Same front aside) = IsNumber front × IsNumber aside

abbrev pub IsChanged : Changed → Type 0
IsChanged item = IsName item.name × IsNumber item.number

abbrev pub IsUndoFault : UndoFault → Type 0
IsUndoFault (undoing.NoCommit number front) = IsNumber number × IsNumber front
IsUndoFault (undoing.Overtaken name by front) = IsName name × IsNumber by × IsNumber front
IsUndoFault (undoing.Get fault) = IsGetFault fault
IsUndoFault (undoing.Set fault) = IsSetFault fault
IsUndoFault undoing.Memory = Unit {0}

abbrev pub IsReply : Reply → Type 0
IsReply (Got front count) = IsNumber front × IsNumber count
IsReply (GetRefused fault) = IsGetFault fault
IsReply Quiet = Unit {0}
IsReply (LookFound name value) = IsName name
IsReply LookNone = Unit {0}
IsReply (SetDone done) = IsDone done
IsReply (SetRefused fault) = IsSetFault fault
IsReply (Merged merging) = AllByRecursion IsTry merging.tried × IsDone merging.done
IsReply (MergeRefused fault) = AllByRecursion IsTry fault.tried × IsEnd fault.end
IsReply (Watching front) = IsNumber front
IsReply (News news) = IsNumber news.front × IsNumber news.missed × AllByRecursion IsChanged news.changes
IsReply NoWatch = Unit {0}
IsReply (Undone done) = IsDone done
IsReply (UndoRefused fault) = IsUndoFault fault
IsReply Memory = Unit {0}

abbrev pub is_quiet : Reply → Bool
is_quiet Quiet = true
is_quiet reply = false

-- the tries that a reply tells before its last line: those of a merge
abbrev pub tries_of : Reply → List Tried
tries_of (Merged merging) = merging.tried
tries_of (MergeRefused fault) = fault.tried
tries_of reply = []

-- a reply as its last line tells it: a merge's and an undo's commit as a set's, and their refusals as a set's, or a
-- get's, where it has them too
abbrev pub last_of_end : MergeEnd → Reply
last_of_end (merge_end.Set fault) = SetRefused fault
last_of_end merge_end.Memory = Memory
last_of_end end = MergeRefused (record { tried = []; end = end })

abbrev pub last_of_undo : UndoFault → Reply
last_of_undo (undoing.Get fault) = GetRefused fault
last_of_undo (undoing.Set fault) = SetRefused fault
last_of_undo undoing.Memory = Memory
last_of_undo fault = UndoRefused fault

abbrev pub last_of : Reply → Reply
last_of (Merged merging) = SetDone merging.done
last_of (MergeRefused fault) = last_of_end fault.end
last_of (Undone done) = SetDone done
last_of (UndoRefused fault) = last_of_undo fault
last_of reply = reply

-- what a last line tells: a want of memory stands alone wherever it stood
abbrev pub told_last : Reply → Reply
told_last reply = if is_memory reply then Memory else last_of reply

-- what the lines of a reply tell: its tries, and its last line, with the changes behind it where it is that of a poll
abbrev pub told_of : Reply → List Tried × Reply
told_of reply = (tries_of reply, told_last reply)

-- what the lines of a session tell, of each reply but for those of edits. The last line of a merge or an undo can be
-- that of a set: the steps tell which of them it is, but not where an edit may have wanted memory, since then it isn't
-- known which line is whose
abbrev pub told : List Reply → List (List Tried × Reply)
told replies = over told_of (filter (λ reply. not (is_quiet reply)) replies)

-- no two of these are the same
abbrev pub AreDistinct : {A : Type 0} → List A → Type 0
AreDistinct {A} xs = (i j : ℕ) (x : A) → slice_get xs i ≡ Some x → slice_get xs j ≡ Some x → i ≡ j

-- mounts with different mountpoints, and different numbers of sessions
pub record AreNamed (mounts : List Mount) (sessions : List ℕ) : Type 0 where
  pub points : AreDistinct (over (λ mount. mount.at) mounts)
  pub names : AllByRecursion (λ mount. IsName mount.at) mounts
  pub apart : AreDistinct sessions
  pub numbers : AllByRecursion IsNumber sessions

-- a commit by the handle of one of the sessions, which touches some of the mounts
pub record IsCommitOf (mounts : List Mount) (sessions : List ℕ) (commit : history.Commit) : Type 0 where
  pub some : 1 ≤ commit.handle
  pub by : commit.handle ≤ length sessions
  pub touched : AllByRecursion (λ mount. mount < length mounts) commit.touched
  pub names : AllByRecursion (λ change. IsName change.0) commit.changes

-- a step edits the working set
abbrev pub edits : Step → Bool
edits (Put name value) = true
edits (MetaStep name meta value) = true
edits (Del name) = true
edits (Cut name) = true
edits step = false

-- a step is a merge, and a reply is one's
abbrev pub merges : Step → Bool
merges (Merge parent strategy tries) = true
merges step = false

abbrev pub is_merge : Reply → Bool
is_merge (Merged merging) = true
is_merge (MergeRefused fault) = true
is_merge reply = false

-- a step takes a commit back, and a reply is such a step's
abbrev pub undoes : Step → Bool
undoes (Undo number) = true
undoes step = false

abbrev pub is_undo : Reply → Bool
is_undo (Undone done) = true
is_undo (UndoRefused fault) = true
is_undo reply = false

-- a reply that a step can give: edits alone are quiet, merges and undos alone answer as theirs do, and each step may
-- want memory
pub record IsReplyTo (step : Step) (reply : Reply) : Type 0 where
  pub fits : IsReply reply
  pub quiet : (is_quiet reply ≡ edits step) ⊎ (reply ≡ Memory)
  pub merge : (is_merge reply ≡ merges step) ⊎ (reply ≡ Memory)
  pub undo : (is_undo reply ≡ undoes step) ⊎ (reply ≡ Memory)

-- one such reply for each step
abbrev pub AreOfSteps : List Step → List Reply → Type 0
AreOfSteps [] [] = Unit {0}
AreOfSteps [] (reply ∷ replies) = ⊥
AreOfSteps (step ∷ steps) [] = ⊥
AreOfSteps (step ∷ steps) (reply ∷ replies) = IsReplyTo step reply × AreOfSteps steps replies

-- such a list for each session of a phase
abbrev pub AreOfSessions : List Steps → List (List Reply) → Type 0
AreOfSessions [] [] = Unit {0}
AreOfSessions [] (replies ∷ rest) = ⊥
AreOfSessions (steps ∷ others) [] = ⊥
AreOfSessions (steps ∷ others) (replies ∷ rest) = AreOfSteps steps.steps replies × AreOfSessions others rest

-- such lists for each phase
abbrev pub AreOfPhases : List Phase → List (List (List Reply)) → Type 0
AreOfPhases [] [] = Unit {0}
AreOfPhases [] (replies ∷ rest) = ⊥
AreOfPhases (phase ∷ phases) [] = ⊥
AreOfPhases (phase ∷ phases) (replies ∷ rest) = AreOfSessions phase.sessions replies × AreOfPhases phases rest

-- the replies and the history of a batch of this script, by sessions that have these numbers, over these mounts
pub record IsBatch (mounts : List Mount) (sessions : List ℕ) (script : Script) (replies : List (List (List Reply))) (commits : List history.Commit) : Type 0 where
  pub shape : AreOfPhases script.phases replies
  pub made : AllByRecursion (IsCommitOf mounts sessions) commits

-- what is known of a reply by its lines and its step: its tries, and itself, but for the place of a want of memory
abbrev pub said_of : Reply → List Tried × Reply
said_of reply = (tries_of reply, if is_memory reply then Memory else reply)

-- no edit of the working set wanted memory
abbrev pub EditAll : List Step → List Reply → Type 0
EditAll [] replies = Unit {0}
EditAll (step ∷ steps) [] = Unit {0}
EditAll (step ∷ steps) (reply ∷ replies) = (edits step ≡ true → reply ≡ Quiet) × EditAll steps replies

-- the steps of a session in a phase, and its replies to them
pub record StandAt (script : Script) (replies : List (List (List Reply))) (p i : ℕ) (steps : List Step) (mine : List Reply) : Type 0 where
  pub phase : Phase
  pub phase_is : slice_get script.phases p ≡ Some phase
  pub session : Steps
  pub session_is : slice_get phase.sessions i ≡ Some session
  pub steps_are : steps ≡ session.steps
  pub row : List (List Reply)
  pub row_is : slice_get replies p ≡ Some row
  pub mine_is : slice_get row i ≡ Some mine
