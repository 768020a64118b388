-- The words of the line of each reply.
use Rattle.std.specs.Prelude.{◌≡◌, ℕ, Bool, true, false, ◌&&◌, ◌||◌, if◌then◌else◌, List, [], ◌∷◌, ◌++◌, map as over, codes}
use Rattle.std.proofs.Common.{refl, ap, append_assoc}
use Rattle.std.specs.Fmt.{decimal}
use Rattle.std.specs.List.{AllByRecursion}
use Rattle.general_words.specs.Texts.{is_text}
use Rattle.kdb_handle.specs.declared.merging.MergeEnd.{MergeEnd}
use Rattle.kdb_handle.specs.declared.merging.MergeEnd.TheVariants as merge_end
use Rattle.kdb_handle.specs.declared.merging.Tried.{Tried}
use Rattle.kdb_handle.specs.declared.replies.Reply.{Reply}
use Rattle.kdb_handle.specs.declared.replies.Reply.TheVariants.{Got, GetRefused, Quiet, LookFound, LookNone, SetDone, SetRefused, Merged, MergeRefused, Watching, News, NoWatch, Undone, UndoRefused, Memory}
use Rattle.kdb_handle.specs.declared.setting.SetFault.{SetFault}
use Rattle.kdb_handle.specs.declared.setting.SetFault.TheVariants.{Prepare, Commit}
use Rattle.kdb_handle.specs.declared.undoing.UndoFault.{UndoFault}
use Rattle.kdb_handle.specs.declared.undoing.UndoFault.TheVariants as undoing
use Rattle.kdb_print.proofs.Words.{AllSpell, HasWords, Line, Spells, name-IsWord, names-HasWords, names-spell, number-IsWord, word_at, words-append}
use Rattle.kdb_print.specs.Replies.{line_of_changed, line_of_commit, line_of_done, line_of_end, line_of_get, line_of_prepare, line_of_set, line_of_table, line_of_try, line_of_undo, lines_of_reply, sign_of}
use Rattle.kdb_print.specs.Reading.{is_quiet, tries_of}
use Rattle.model_quoting.proofs.CutLemmas.{IsWord, Plain, quoted-IsWord}
use Rattle.model_quoting.specs.Quoted.{quoted, shown}
use Rattle.mount_table.specs.declared.faults.TableFault.{TableFault}
use Rattle.mount_table.specs.declared.faults.TableFault.TheVariants as table
use Rattle.mounted_files.specs.declared.refusals.GetFault.{GetFault}
use Rattle.mounted_files.specs.declared.refusals.GetFault.TheVariants as getting
use Rattle.store_core.specs.declared.committing.CommitFault.{CommitFault}
use Rattle.store_core.specs.declared.committing.CommitFault.TheVariants as committing
use Rattle.store_core.specs.declared.committing.Done.{Done}
use Rattle.store_core.specs.declared.committing.Done.TheVariants.{Committed, Same}
use Rattle.store_verdict.specs.declared.faults.PrepareFault.{PrepareFault}
use Rattle.store_verdict.specs.declared.faults.PrepareFault.TheVariants as preparing
use Rattle.watch_feed.specs.declared.news.Changed.{Changed}

-- a refusal that an undo alone has, by its third word
abbrev is_of_undo : List ℕ → Bool
is_of_undo word = is_text word (codes "no-commit") || is_text word (codes "overtaken")

-- what kind of line begins with a word: the answers of a get, a look and a set, refusals, those of a merge alone, those
-- of a watch and a poll, the refusals of an undo alone, the lines that begin a session, a phase or the history, the
-- tries of a merge, and the changes that a poll tells; 0 is any other
abbrev pub kind_of : Line → ℕ
kind_of (first, words) =
    if is_text first (codes "got") then 1 else
    (if is_text first (codes "found") then 2 else
    (if is_text first (codes "none") then 3 else
    (if is_text first (codes "commit") || is_text first (codes "same") then 4 else
    (if is_text first (codes "refused") && is_of_undo (word_at 2 (first, words)) then 10 else
    (if is_text first (codes "refused") || (is_text first (codes "memory") || is_text first (codes "conflict")) then 5 else
    (if is_text first (codes "merge-conflict") || is_text first (codes "spent") then 6 else
    (if is_text first (codes "watch") then 7 else
    (if is_text first (codes "news") then 8 else
    (if is_text first (codes "no-watch") then 9 else
    (if is_text first (codes "session") || (is_text first (codes "phase") || is_text first (codes "history")) then 11 else
    (if is_text first (codes "tried") then 12 else
    (if is_text first (codes "~") then 13 else 0))))))))))))

-- which refusal of a mount table a line tells, by its fourth word
abbrev pub table_tag_of : List ℕ → ℕ
table_tag_of word =
    if is_text word (codes "bad-mountpoint") then 20 else
    (if is_text word (codes "no-path") then 21 else
    (if is_text word (codes "bad-path") then 22 else
    (if is_text word (codes "unknown-plugin") then 23 else
    (if is_text word (codes "file-twice") then 24 else
    (if is_text word (codes "too-many") then 25 else
    (if is_text word (codes "already-mounted") then 26 else
    (if is_text word (codes "not-mounted") then 27 else
    (if is_text word (codes "bad-conflicts") then 28 else
    0))))))))

-- which refusal a line tells, by its third word; a file that is too large is told by a commit with the front, and by a
-- prepare without
abbrev pub refusal_tag_of : Line → ℕ
refusal_tag_of line =
    if is_text (word_at 2 line) (codes "bad-file") then 5 else
    (if is_text (word_at 2 line) (codes "too-long") then 6 else
    (if is_text (word_at 2 line) (codes "too-heavy") then 7 else
    (if is_text (word_at 2 line) (codes "not-fetched") then 8 else
    (if is_text (word_at 2 line) (codes "value-too-long") then 9 else
    (if is_text (word_at 2 line) (codes "not-storable") then 10 else
    (if is_text (word_at 2 line) (codes "file-too-large") then (if is_text (word_at 5 line) (codes "front") then 19 else 11) else
    (if is_text (word_at 2 line) (codes "invalid") then 12 else
    (if is_text (word_at 2 line) (codes "database-full") then 13 else
    (if is_text (word_at 2 line) (codes "history-full") then 14 else
    (if is_text (word_at 2 line) (codes "disk-fault") then 15 else
    (if is_text (word_at 2 line) (codes "no-commit") then 17 else
    (if is_text (word_at 2 line) (codes "overtaken") then 18 else
    table_tag_of (word_at 3 line)))))))))))))

-- which refusal or set a line tells, 0 for a want of memory
abbrev pub tag_of : Line → ℕ
tag_of line =
    if is_text (word_at 0 line) (codes "memory") then 0 else
    (if is_text (word_at 0 line) (codes "conflict") then 1 else
    (if is_text (word_at 0 line) (codes "commit") then 2 else
    (if is_text (word_at 0 line) (codes "same") then 3 else
    (if is_text (word_at 0 line) (codes "merge-conflict") then 4 else
    (if is_text (word_at 0 line) (codes "spent") then 16 else refusal_tag_of line)))))

abbrev pub words_of_get : GetFault → Line
words_of_get (getting.BadFile mount number) =
    (codes "refused", codes "C03100" ∷ codes "bad-file" ∷ shown mount ∷ decimal number ∷ [])
words_of_get (getting.TooLong mount bytes) =
    (codes "refused", codes "C01100" ∷ codes "too-long" ∷ shown mount ∷ decimal bytes ∷ [])
words_of_get (getting.TooHeavy mount weight) =
    (codes "refused", codes "C01100" ∷ codes "too-heavy" ∷ shown mount ∷ decimal weight ∷ [])
words_of_get getting.Memory = (codes "memory", [])

abbrev pub words_of_table : TableFault → Line
words_of_table (table.BadMountpoint entry) =
    (codes "refused", codes "C03200" ∷ codes "bad-table" ∷ codes "bad-mountpoint" ∷ quoted entry ∷ [])
words_of_table (table.NoPath entry) =
    (codes "refused", codes "C03200" ∷ codes "bad-table" ∷ codes "no-path" ∷ quoted entry ∷ [])
words_of_table (table.BadPath entry) =
    (codes "refused", codes "C03200" ∷ codes "bad-table" ∷ codes "bad-path" ∷ quoted entry ∷ [])
words_of_table (table.UnknownPlugin entry) =
    (codes "refused", codes "C03200" ∷ codes "bad-table" ∷ codes "unknown-plugin" ∷ quoted entry ∷ [])
words_of_table (table.FileTwice entry) =
    (codes "refused", codes "C03200" ∷ codes "bad-table" ∷ codes "file-twice" ∷ quoted entry ∷ [])
words_of_table (table.BadConflicts entry) =
    (codes "refused", codes "C03200" ∷ codes "bad-table" ∷ codes "bad-conflicts" ∷ quoted entry ∷ [])
words_of_table (table.TooMany count) =
    (codes "refused", codes "C03200" ∷ codes "bad-table" ∷ codes "too-many" ∷ decimal count ∷ [])
words_of_table (table.AlreadyMounted entry) =
    (codes "refused", codes "C03200" ∷ codes "bad-table" ∷ codes "already-mounted" ∷ quoted entry ∷ [])
words_of_table (table.NotMounted entry) =
    (codes "refused", codes "C03200" ∷ codes "bad-table" ∷ codes "not-mounted" ∷ quoted entry ∷ [])
words_of_table table.Memory = (codes "memory", [])

abbrev pub words_of_prepare : PrepareFault → Line
words_of_prepare (preparing.NotFetched mount) =
    (codes "refused", codes "C01320" ∷ codes "not-fetched" ∷ shown mount ∷ [])
words_of_prepare (preparing.ValueTooLong key bytes) =
    (codes "refused", codes "C01100" ∷ codes "value-too-long" ∷ shown key ∷ decimal bytes ∷ [])
words_of_prepare (preparing.NotStorable mount key) =
    (codes "refused", codes "C03200" ∷ codes "not-storable" ∷ shown mount ∷ shown key ∷ [])
words_of_prepare (preparing.FileTooLarge mount bytes) =
    (codes "refused", codes "C01100" ∷ codes "file-too-large" ∷ shown mount ∷ decimal bytes ∷ [])
words_of_prepare (preparing.BadTable fault) = words_of_table fault
words_of_prepare preparing.Memory = (codes "memory", [])

abbrev pub words_of_commit : CommitFault → Line
words_of_commit (committing.Conflict mount by front) =
    (codes "conflict", shown mount ∷ codes "by" ∷ decimal by ∷ codes "front" ∷ decimal front ∷ [])
words_of_commit (committing.FileTooLarge mount bytes front) =
    (codes "refused", codes "C01100" ∷ codes "file-too-large" ∷ shown mount ∷ decimal bytes ∷ codes "front" ∷ decimal front ∷ [])
words_of_commit (committing.Invalid violation front) =
    (codes "refused", codes "C03200" ∷ codes "invalid" ∷ shown violation.key ∷ codes "rule" ∷ decimal violation.rule ∷ codes "given" ∷ quoted violation.given ∷ codes "front" ∷ decimal front ∷ [])
words_of_commit (committing.DatabaseFull weight front) =
    (codes "refused", codes "C01100" ∷ codes "database-full" ∷ decimal weight ∷ codes "front" ∷ decimal front ∷ [])
words_of_commit (committing.HistoryFull weight front) =
    (codes "refused", codes "C01100" ∷ codes "history-full" ∷ decimal weight ∷ codes "front" ∷ decimal front ∷ [])
words_of_commit (committing.DiskFault front) =
    (codes "refused", codes "C01100" ∷ codes "disk-fault" ∷ codes "front" ∷ decimal front ∷ [])
words_of_commit committing.Memory = (codes "memory", [])

abbrev pub words_of_set : SetFault → Line
words_of_set (Prepare fault) = words_of_prepare fault
words_of_set (Commit fault) = words_of_commit fault

abbrev pub words_of_end : MergeEnd → Line
words_of_end (merge_end.MergeConflicts names) = (codes "merge-conflict", over shown names)
words_of_end (merge_end.TriesSpent mount by front) =
    (codes "spent", shown mount ∷ codes "by" ∷ decimal by ∷ codes "front" ∷ decimal front ∷ [])
words_of_end (merge_end.Set fault) = words_of_set fault
words_of_end merge_end.Memory = (codes "memory", [])

abbrev pub words_of_undo : UndoFault → Line
words_of_undo (undoing.NoCommit number front) =
    (codes "refused", codes "C01320" ∷ codes "no-commit" ∷ decimal number ∷ codes "front" ∷ decimal front ∷ [])
words_of_undo (undoing.Overtaken name by front) =
    (codes "refused", codes "C02000" ∷ codes "overtaken" ∷ shown name ∷ codes "by" ∷ decimal by ∷ codes "front" ∷ decimal front ∷ [])
words_of_undo (undoing.Get fault) = words_of_get fault
words_of_undo (undoing.Set fault) = words_of_set fault
words_of_undo undoing.Memory = (codes "memory", [])

abbrev pub words_of_done : Done → Line
words_of_done (Committed number aside) = (codes "commit", decimal number ∷ codes "aside" ∷ decimal aside ∷ [])
words_of_done (Same front aside) = (codes "same", decimal front ∷ codes "aside" ∷ decimal aside ∷ [])

abbrev pub words_of_try : Tried → Line
words_of_try item =
    (codes "tried", shown item.mount ∷ codes "by" ∷ decimal item.by ∷ codes "front" ∷ decimal item.front ∷ codes "again" ∷ decimal item.again ∷ [])

abbrev pub words_of_changed : Changed → Line
words_of_changed item = (codes "~", decimal item.number ∷ sign_of item.removed ∷ shown item.name ∷ [])

-- the last line of a reply, before that of the changes that a poll tells. One to an edit has none; it is given one that
-- no other reply has
abbrev pub words_of : Reply → Line
words_of (Got front count) = (codes "got", decimal front ∷ decimal count ∷ [])
words_of (GetRefused fault) = words_of_get fault
words_of Quiet = ([], [])
words_of (LookFound name value) = (codes "found", shown name ∷ quoted value ∷ [])
words_of LookNone = (codes "none", [])
words_of (SetDone done) = words_of_done done
words_of (SetRefused fault) = words_of_set fault
words_of (Merged merging) = words_of_done merging.done
words_of (MergeRefused fault) = words_of_end fault.end
words_of (Watching front) = (codes "watch", decimal front ∷ [])
words_of (News news) = (codes "news", decimal news.front ∷ codes "missed" ∷ decimal news.missed ∷ [])
words_of NoWatch = (codes "no-watch", [])
words_of (Undone done) = words_of_done done
words_of (UndoRefused fault) = words_of_undo fault
words_of Memory = (codes "memory", [])

-- the changes that a reply tells behind its last line: those of a poll
abbrev pub changes_of : Reply → List Changed
changes_of (News news) = news.changes
changes_of reply = []

-- all lines of a reply that has some
abbrev pub words_of_lines : Reply → List Line
words_of_lines reply = over words_of_try (tries_of reply) ++ words_of reply ∷ over words_of_changed (changes_of reply)

get-kind : (fault : GetFault) → kind_of (words_of_get fault) ≡ 5
get-kind (getting.BadFile mount number) = refl
get-kind (getting.TooLong mount bytes) = refl
get-kind (getting.TooHeavy mount weight) = refl
get-kind getting.Memory = refl

table-kind : (fault : TableFault) → kind_of (words_of_table fault) ≡ 5
table-kind (table.BadMountpoint entry) = refl
table-kind (table.NoPath entry) = refl
table-kind (table.BadPath entry) = refl
table-kind (table.UnknownPlugin entry) = refl
table-kind (table.FileTwice entry) = refl
table-kind (table.BadConflicts entry) = refl
table-kind (table.TooMany count) = refl
table-kind (table.AlreadyMounted entry) = refl
table-kind (table.NotMounted entry) = refl
table-kind table.Memory = refl

prepare-kind : (fault : PrepareFault) → kind_of (words_of_prepare fault) ≡ 5
prepare-kind (preparing.NotFetched mount) = refl
prepare-kind (preparing.ValueTooLong key bytes) = refl
prepare-kind (preparing.NotStorable mount key) = refl
prepare-kind (preparing.FileTooLarge mount bytes) = refl
prepare-kind (preparing.BadTable fault) = table-kind fault
prepare-kind preparing.Memory = refl

commit-kind : (fault : CommitFault) → kind_of (words_of_commit fault) ≡ 5
commit-kind (committing.Conflict mount by front) = refl
commit-kind (committing.FileTooLarge mount bytes front) = refl
commit-kind (committing.Invalid violation front) = refl
commit-kind (committing.DatabaseFull weight front) = refl
commit-kind (committing.HistoryFull weight front) = refl
commit-kind (committing.DiskFault front) = refl
commit-kind committing.Memory = refl

done-kind : (fault : Done) → kind_of (words_of_done fault) ≡ 4
done-kind (Committed number aside) = refl
done-kind (Same front aside) = refl

set-kind : (fault : SetFault) → kind_of (words_of_set fault) ≡ 5
set-kind (Prepare fault) = prepare-kind fault
set-kind (Commit fault) = commit-kind fault

abbrev pub end_kind : MergeEnd → ℕ
end_kind (merge_end.MergeConflicts names) = 6
end_kind (merge_end.TriesSpent mount by front) = 6
end_kind (merge_end.Set fault) = 5
end_kind merge_end.Memory = 5

end-kind : (end : MergeEnd) → kind_of (words_of_end end) ≡ end_kind end
end-kind (merge_end.MergeConflicts names) = refl
end-kind (merge_end.TriesSpent mount by front) = refl
end-kind (merge_end.Set fault) = set-kind fault
end-kind merge_end.Memory = refl

abbrev pub undo_kind : UndoFault → ℕ
undo_kind (undoing.NoCommit number front) = 10
undo_kind (undoing.Overtaken name by front) = 10
undo_kind fault = 5

undo-kind : (fault : UndoFault) → kind_of (words_of_undo fault) ≡ undo_kind fault
undo-kind (undoing.NoCommit number front) = refl
undo-kind (undoing.Overtaken name by front) = refl
undo-kind (undoing.Get fault) = get-kind fault
undo-kind (undoing.Set fault) = set-kind fault
undo-kind undoing.Memory = refl

-- the kind of the last line of a reply
abbrev pub kind : Reply → ℕ
kind (Got front count) = 1
kind (LookFound name value) = 2
kind LookNone = 3
kind (SetDone done) = 4
kind (GetRefused fault) = 5
kind (SetRefused fault) = 5
kind (Merged merging) = 4
kind (MergeRefused fault) = end_kind fault.end
kind (Watching front) = 7
kind (News news) = 8
kind NoWatch = 9
kind (Undone done) = 4
kind (UndoRefused fault) = undo_kind fault
kind Memory = 5
kind Quiet = 0

pub reply-kind : (reply : Reply) → kind_of (words_of reply) ≡ kind reply
reply-kind (Got front count) = refl
reply-kind (GetRefused fault) = get-kind fault
reply-kind Quiet = refl
reply-kind (LookFound name value) = refl
reply-kind LookNone = refl
reply-kind (SetDone done) = done-kind done
reply-kind (SetRefused fault) = set-kind fault
reply-kind (Merged merging) = done-kind merging.done
reply-kind (MergeRefused fault) = end-kind fault.end
reply-kind (Watching front) = refl
reply-kind (News news) = refl
reply-kind NoWatch = refl
reply-kind (Undone done) = done-kind done
reply-kind (UndoRefused fault) = undo-kind fault
reply-kind Memory = refl

get-spells : (fault : GetFault) → Spells (words_of_get fault) (line_of_get fault)
get-spells (getting.BadFile mount number) rest = simp append_assoc
get-spells (getting.TooLong mount bytes) rest = simp append_assoc
get-spells (getting.TooHeavy mount weight) rest = simp append_assoc
get-spells getting.Memory rest = refl

table-spells : (fault : TableFault) → Spells (words_of_table fault) (line_of_table fault)
table-spells (table.BadMountpoint entry) rest = simp append_assoc
table-spells (table.NoPath entry) rest = simp append_assoc
table-spells (table.BadPath entry) rest = simp append_assoc
table-spells (table.UnknownPlugin entry) rest = simp append_assoc
table-spells (table.FileTwice entry) rest = simp append_assoc
table-spells (table.BadConflicts entry) rest = simp append_assoc
table-spells (table.TooMany count) rest = simp append_assoc
table-spells (table.AlreadyMounted entry) rest = simp append_assoc
table-spells (table.NotMounted entry) rest = simp append_assoc
table-spells table.Memory rest = refl

prepare-spells : (fault : PrepareFault) → Spells (words_of_prepare fault) (line_of_prepare fault)
prepare-spells (preparing.NotFetched mount) rest = simp append_assoc
prepare-spells (preparing.ValueTooLong key bytes) rest = simp append_assoc
prepare-spells (preparing.NotStorable mount key) rest = simp append_assoc
prepare-spells (preparing.FileTooLarge mount bytes) rest = simp append_assoc
prepare-spells (preparing.BadTable fault) rest = table-spells fault rest
prepare-spells preparing.Memory rest = refl

commit-spells : (fault : CommitFault) → Spells (words_of_commit fault) (line_of_commit fault)
commit-spells (committing.Conflict mount by front) rest = simp append_assoc
commit-spells (committing.FileTooLarge mount bytes front) rest = simp append_assoc
commit-spells (committing.Invalid violation front) rest = simp append_assoc
commit-spells (committing.DatabaseFull weight front) rest = simp append_assoc
commit-spells (committing.HistoryFull weight front) rest = simp append_assoc
commit-spells (committing.DiskFault front) rest = simp append_assoc
commit-spells committing.Memory rest = refl

done-spells : (fault : Done) → Spells (words_of_done fault) (line_of_done fault)
done-spells (Committed number aside) rest = simp append_assoc
done-spells (Same front aside) rest = simp append_assoc

set-spells : (fault : SetFault) → Spells (words_of_set fault) (line_of_set fault)
set-spells (Prepare fault) rest = prepare-spells fault rest
set-spells (Commit fault) rest = commit-spells fault rest

end-spells : (end : MergeEnd) → Spells (words_of_end end) (line_of_end end)
end-spells (merge_end.MergeConflicts names) rest = ap (λ text. codes "merge-conflict" ++ text) (names-spell names rest)
end-spells (merge_end.TriesSpent mount by front) rest = simp append_assoc
end-spells (merge_end.Set fault) rest = set-spells fault rest
end-spells merge_end.Memory rest = refl

undo-spells : (fault : UndoFault) → Spells (words_of_undo fault) (line_of_undo fault)
undo-spells (undoing.NoCommit number front) rest = simp append_assoc
undo-spells (undoing.Overtaken name by front) rest = simp append_assoc
undo-spells (undoing.Get fault) rest = get-spells fault rest
undo-spells (undoing.Set fault) rest = set-spells fault rest
undo-spells undoing.Memory rest = refl

-- the lines of a merge: its tries, and its last
merge-spells : (tried : List Tried) (last : Line) (line : List ℕ) → Spells last line
    → AllSpell (over words_of_try tried ++ last ∷ []) (over line_of_try tried ++ line ∷ [])
merge-spells [] last line spells = (spells, tt)
merge-spells (item ∷ tried) last line spells = (λ rest. simp append_assoc, merge-spells tried last line spells)

changed-spells : (changes : List Changed) → AllSpell (over words_of_changed changes) (over line_of_changed changes)
changed-spells [] = tt
changed-spells (item ∷ changes) = (λ rest. simp append_assoc, changed-spells changes)

pub reply-spells : (reply : Reply) → is_quiet reply ≡ false → AllSpell (words_of_lines reply) (lines_of_reply reply)
reply-spells (Got front count) loud = (λ rest. simp append_assoc, tt)
reply-spells (GetRefused fault) loud = (get-spells fault, tt)
reply-spells Quiet loud = absurd cc
reply-spells (LookFound name value) loud = (λ rest. simp append_assoc, tt)
reply-spells LookNone loud = (λ rest. refl, tt)
reply-spells (SetDone done) loud = (done-spells done, tt)
reply-spells (SetRefused fault) loud = (set-spells fault, tt)
reply-spells (Merged merging) loud =
    merge-spells merging.tried (words_of_done merging.done) (line_of_done merging.done) (done-spells merging.done)
reply-spells (MergeRefused fault) loud =
    merge-spells fault.tried (words_of_end fault.end) (line_of_end fault.end) (end-spells fault.end)
reply-spells (Watching front) loud = (λ rest. simp append_assoc, tt)
reply-spells (News news) loud = (λ rest. simp append_assoc, changed-spells news.changes)
reply-spells NoWatch loud = (λ rest. refl, tt)
reply-spells (Undone done) loud = (done-spells done, tt)
reply-spells (UndoRefused fault) loud = (undo-spells fault, tt)
reply-spells Memory loud = (λ rest. refl, tt)

get-HasWords : (fault : GetFault) → HasWords (words_of_get fault)
get-HasWords (getting.BadFile mount number) =
    (Plain refl, (Plain refl, (Plain refl, (name-IsWord mount, (number-IsWord number, tt)))))
get-HasWords (getting.TooLong mount bytes) =
    (Plain refl, (Plain refl, (Plain refl, (name-IsWord mount, (number-IsWord bytes, tt)))))
get-HasWords (getting.TooHeavy mount weight) =
    (Plain refl, (Plain refl, (Plain refl, (name-IsWord mount, (number-IsWord weight, tt)))))
get-HasWords getting.Memory = (Plain refl, tt)

table-HasWords : (fault : TableFault) → HasWords (words_of_table fault)
table-HasWords (table.BadMountpoint entry) =
    (Plain refl, (Plain refl, (Plain refl, (Plain refl, (quoted-IsWord entry, tt)))))
table-HasWords (table.NoPath entry) = (Plain refl, (Plain refl, (Plain refl, (Plain refl, (quoted-IsWord entry, tt)))))
table-HasWords (table.BadPath entry) = (Plain refl, (Plain refl, (Plain refl, (Plain refl, (quoted-IsWord entry, tt)))))
table-HasWords (table.UnknownPlugin entry) =
    (Plain refl, (Plain refl, (Plain refl, (Plain refl, (quoted-IsWord entry, tt)))))
table-HasWords (table.FileTwice entry) =
    (Plain refl, (Plain refl, (Plain refl, (Plain refl, (quoted-IsWord entry, tt)))))
table-HasWords (table.BadConflicts entry) =
    (Plain refl, (Plain refl, (Plain refl, (Plain refl, (quoted-IsWord entry, tt)))))
table-HasWords (table.TooMany count) = (Plain refl, (Plain refl, (Plain refl, (Plain refl, (number-IsWord count, tt)))))
table-HasWords (table.AlreadyMounted entry) =
    (Plain refl, (Plain refl, (Plain refl, (Plain refl, (quoted-IsWord entry, tt)))))
table-HasWords (table.NotMounted entry) =
    (Plain refl, (Plain refl, (Plain refl, (Plain refl, (quoted-IsWord entry, tt)))))
table-HasWords table.Memory = (Plain refl, tt)

prepare-HasWords : (fault : PrepareFault) → HasWords (words_of_prepare fault)
prepare-HasWords (preparing.NotFetched mount) = (Plain refl, (Plain refl, (Plain refl, (name-IsWord mount, tt))))
prepare-HasWords (preparing.ValueTooLong key bytes) =
    (Plain refl, (Plain refl, (Plain refl, (name-IsWord key, (number-IsWord bytes, tt)))))
prepare-HasWords (preparing.NotStorable mount key) =
    (Plain refl, (Plain refl, (Plain refl, (name-IsWord mount, (name-IsWord key, tt)))))
prepare-HasWords (preparing.FileTooLarge mount bytes) =
    (Plain refl, (Plain refl, (Plain refl, (name-IsWord mount, (number-IsWord bytes, tt)))))
prepare-HasWords (preparing.BadTable fault) = table-HasWords fault
prepare-HasWords preparing.Memory = (Plain refl, tt)

commit-HasWords : (fault : CommitFault) → HasWords (words_of_commit fault)
commit-HasWords (committing.Conflict mount by front) =
    (Plain refl, (name-IsWord mount, (Plain refl, (number-IsWord by, (Plain refl, (number-IsWord front, tt))))))
commit-HasWords (committing.FileTooLarge mount bytes front) =
    (Plain refl, (Plain refl, (Plain refl, (name-IsWord mount, (number-IsWord bytes, (Plain refl, (number-IsWord front, tt)))))))
commit-HasWords (committing.Invalid violation front) =
    (Plain refl, (Plain refl, (Plain refl, (name-IsWord (violation.key), (Plain refl, (number-IsWord (violation.rule), (Plain refl, (quoted-IsWord (violation.given), (Plain refl, (number-IsWord front, tt))))))))))
commit-HasWords (committing.DatabaseFull weight front) =
    (Plain refl, (Plain refl, (Plain refl, (number-IsWord weight, (Plain refl, (number-IsWord front, tt))))))
commit-HasWords (committing.HistoryFull weight front) =
    (Plain refl, (Plain refl, (Plain refl, (number-IsWord weight, (Plain refl, (number-IsWord front, tt))))))
commit-HasWords (committing.DiskFault front) =
    (Plain refl, (Plain refl, (Plain refl, (Plain refl, (number-IsWord front, tt)))))
commit-HasWords committing.Memory = (Plain refl, tt)

done-HasWords : (fault : Done) → HasWords (words_of_done fault)
done-HasWords (Committed number aside) = (Plain refl, (number-IsWord number, (Plain refl, (number-IsWord aside, tt))))
done-HasWords (Same front aside) = (Plain refl, (number-IsWord front, (Plain refl, (number-IsWord aside, tt))))

set-HasWords : (fault : SetFault) → HasWords (words_of_set fault)
set-HasWords (Prepare fault) = prepare-HasWords fault
set-HasWords (Commit fault) = commit-HasWords fault

end-HasWords : (end : MergeEnd) → HasWords (words_of_end end)
end-HasWords (merge_end.MergeConflicts names) = (Plain refl, names-HasWords names)
end-HasWords (merge_end.TriesSpent mount by front) =
    (Plain refl, (name-IsWord mount, (Plain refl, (number-IsWord by, (Plain refl, (number-IsWord front, tt))))))
end-HasWords (merge_end.Set fault) = set-HasWords fault
end-HasWords merge_end.Memory = (Plain refl, tt)

undo-HasWords : (fault : UndoFault) → HasWords (words_of_undo fault)
undo-HasWords (undoing.NoCommit number front) =
    (Plain refl, (Plain refl, (Plain refl, (number-IsWord number, (Plain refl, (number-IsWord front, tt))))))
undo-HasWords (undoing.Overtaken name by front) =
    (Plain refl, (Plain refl, (Plain refl, (name-IsWord name, (Plain refl, (number-IsWord by, (Plain refl, (number-IsWord front, tt))))))))
undo-HasWords (undoing.Get fault) = get-HasWords fault
undo-HasWords (undoing.Set fault) = set-HasWords fault
undo-HasWords undoing.Memory = (Plain refl, tt)

tries-HasWords : (tried : List Tried) → AllByRecursion HasWords (over words_of_try tried)
tries-HasWords [] = tt
tries-HasWords (item ∷ tried) =
    ((Plain refl, (name-IsWord item.mount, (Plain refl, (number-IsWord item.by, (Plain refl, (number-IsWord item.front, (Plain refl, (number-IsWord item.again, tt)))))))), tries-HasWords tried)

last-HasWords : (reply : Reply) → HasWords (words_of reply)
last-HasWords (Got front count) = (Plain refl, (number-IsWord front, (number-IsWord count, tt)))
last-HasWords (GetRefused fault) = get-HasWords fault
last-HasWords Quiet = (Plain refl, tt)
last-HasWords (LookFound name value) = (Plain refl, (name-IsWord name, (quoted-IsWord value, tt)))
last-HasWords LookNone = (Plain refl, tt)
last-HasWords (SetDone done) = done-HasWords done
last-HasWords (SetRefused fault) = set-HasWords fault
last-HasWords (Merged merging) = done-HasWords merging.done
last-HasWords (MergeRefused fault) = end-HasWords fault.end
last-HasWords (Watching front) = (Plain refl, (number-IsWord front, tt))
last-HasWords (News news) = (Plain refl, (number-IsWord news.front, (Plain refl, (number-IsWord news.missed, tt))))
last-HasWords NoWatch = (Plain refl, tt)
last-HasWords (Undone done) = done-HasWords done
last-HasWords (UndoRefused fault) = undo-HasWords fault
last-HasWords Memory = (Plain refl, tt)

sign-IsWord : (removed : Bool) → IsWord (sign_of removed)
sign-IsWord true = Plain refl
sign-IsWord false = Plain refl

changed-HasWords : (changes : List Changed) → AllByRecursion HasWords (over words_of_changed changes)
changed-HasWords [] = tt
changed-HasWords (item ∷ changes) =
    ((Plain refl, (number-IsWord item.number, (sign-IsWord item.removed, (name-IsWord item.name, tt)))), changed-HasWords changes)

pub reply-HasWords : (reply : Reply) → AllByRecursion HasWords (words_of_lines reply)
reply-HasWords reply =
    words-append (over words_of_try (tries_of reply)) (words_of reply ∷ over words_of_changed (changes_of reply)) (tries-HasWords (tries_of reply)) (last-HasWords reply, changed-HasWords (changes_of reply))
