-- Replies whose last lines have the same words are told alike, and tries and changes with the same words are the same.
use Rattle.std.specs.Prelude.{◌≡◌, T, ℕ, nat_eq, nat_le, Bool, true, false, ◌||◌, if◌then◌else◌, [], slice_index_or}
use Rattle.std.proofs.Common.{refl, sym, ap, ◌∙◌, subst}
use Rattle.std.proofs.lemmas.Fmt.{decimal_injective}
use Rattle.kdb_handle.specs.declared.merging.MergeEnd.{MergeEnd}
use Rattle.kdb_handle.specs.declared.merging.MergeEnd.TheVariants as merge_end
use Rattle.kdb_handle.specs.declared.merging.Tried.{Tried}
use Rattle.kdb_handle.specs.declared.replies.Reply.{Reply}
use Rattle.kdb_handle.specs.declared.replies.Reply.TheVariants.{Got, GetRefused, Quiet, LookFound, LookNone, SetDone, SetRefused, Merged, MergeRefused, Watching, News, NoWatch, Undone, UndoRefused, Memory}
use Rattle.kdb_handle.specs.declared.setting.SetFault.TheVariants.{Prepare, Commit}
use Rattle.kdb_handle.specs.declared.undoing.UndoFault.{UndoFault}
use Rattle.kdb_handle.specs.declared.undoing.UndoFault.TheVariants as undoing
use Rattle.kdb_print.proofs.ReplyWords.{changes_of, kind, kind_of, reply-kind, tag_of, undo_kind, words_of, words_of_changed, words_of_commit, words_of_done, words_of_end, words_of_get, words_of_prepare, words_of_table, words_of_try}
use Rattle.kdb_print.proofs.Words.{names-once, numbers_test, word_at}
use Rattle.kdb_print.specs.Replies.{end_wants_memory, sign_of}
use Rattle.kdb_print.specs.Reading.{IsChanged, IsCommitFault, IsDone, IsEnd, IsGetFault, IsPrepareFault, IsReply, IsTableFault, IsTry, is_merge, last_of_end, last_of_undo, told_last}
use Rattle.model_quoting.proofs.AlikeLemmas.{quoted-once, shown-once}
use Rattle.mount_table.specs.declared.faults.TableFault.{TableFault}
use Rattle.mount_table.specs.declared.faults.TableFault.TheVariants as table
use Rattle.mounted_files.specs.declared.refusals.GetFault.{GetFault}
use Rattle.mounted_files.specs.declared.refusals.GetFault.TheVariants as getting
use Rattle.store_core.specs.declared.committing.CommitFault.{CommitFault}
use Rattle.store_core.specs.declared.committing.CommitFault.TheVariants as committing
use Rattle.store_core.specs.declared.committing.Done.{Done}
use Rattle.store_core.specs.declared.committing.Done.TheVariants.{Committed, Same}
use Rattle.store_verdict.specs.declared.faults.PrepareFault.{PrepareFault}
use Rattle.store_verdict.specs.declared.faults.PrepareFault.TheVariants as preparing
use Rattle.watch_feed.specs.declared.news.Changed.{Changed}

get-same : (a b : GetFault) → IsGetFault a → IsGetFault b → words_of_get a ≡ words_of_get b
    → tag_of (words_of_get a) ≡ tag_of (words_of_get b) → a ≡ b
get-same (getting.BadFile mount number) (getting.BadFile mount' number') h k e _ =
    let same_mount = shown-once mount mount' h.0 k.0 (ap (word_at 3) e) in
    let same_number = decimal_injective number number' h.1 k.1 (ap (word_at 4) e) in
    λ i. getting.BadFile (same_mount i) (same_number i)
get-same (getting.TooLong mount bytes) (getting.TooLong mount' bytes') h k e _ =
    let same_mount = shown-once mount mount' h.0 k.0 (ap (word_at 3) e) in
    let same_bytes = decimal_injective bytes bytes' h.1 k.1 (ap (word_at 4) e) in
    λ i. getting.TooLong (same_mount i) (same_bytes i)
get-same (getting.TooHeavy mount weight) (getting.TooHeavy mount' weight') h k e _ =
    let same_mount = shown-once mount mount' h.0 k.0 (ap (word_at 3) e) in
    let same_weight = decimal_injective weight weight' h.1 k.1 (ap (word_at 4) e) in
    λ i. getting.TooHeavy (same_mount i) (same_weight i)
get-same getting.Memory getting.Memory h k e _ = refl
get-same a b _ _ _ same = absurd (numbers_test (tag_of (words_of_get a)) (tag_of (words_of_get b)) same)

get-once : (a b : GetFault) → IsGetFault a → IsGetFault b → words_of_get a ≡ words_of_get b → a ≡ b
get-once a b h k e = get-same a b h k e (ap tag_of e)

table-same : (a b : TableFault) → IsTableFault a → IsTableFault b → words_of_table a ≡ words_of_table b
    → tag_of (words_of_table a) ≡ tag_of (words_of_table b) → a ≡ b
table-same (table.BadMountpoint entry) (table.BadMountpoint entry') h k e _ =
    let same_entry = quoted-once entry entry' (ap (word_at 4) e) in
    λ i. table.BadMountpoint (same_entry i)
table-same (table.NoPath entry) (table.NoPath entry') h k e _ =
    let same_entry = quoted-once entry entry' (ap (word_at 4) e) in
    λ i. table.NoPath (same_entry i)
table-same (table.BadPath entry) (table.BadPath entry') h k e _ =
    let same_entry = quoted-once entry entry' (ap (word_at 4) e) in
    λ i. table.BadPath (same_entry i)
table-same (table.UnknownPlugin entry) (table.UnknownPlugin entry') h k e _ =
    let same_entry = quoted-once entry entry' (ap (word_at 4) e) in
    λ i. table.UnknownPlugin (same_entry i)
table-same (table.FileTwice entry) (table.FileTwice entry') h k e _ =
    let same_entry = quoted-once entry entry' (ap (word_at 4) e) in
    λ i. table.FileTwice (same_entry i)
table-same (table.BadConflicts entry) (table.BadConflicts entry') h k e _ =
    let same_entry = quoted-once entry entry' (ap (word_at 4) e) in
    λ i. table.BadConflicts (same_entry i)
table-same (table.TooMany count) (table.TooMany count') h k e _ =
    let same_count = decimal_injective count count' h k (ap (word_at 4) e) in
    λ i. table.TooMany (same_count i)
table-same (table.AlreadyMounted entry) (table.AlreadyMounted entry') h k e _ =
    let same_entry = quoted-once entry entry' (ap (word_at 4) e) in
    λ i. table.AlreadyMounted (same_entry i)
table-same (table.NotMounted entry) (table.NotMounted entry') h k e _ =
    let same_entry = quoted-once entry entry' (ap (word_at 4) e) in
    λ i. table.NotMounted (same_entry i)
table-same table.Memory table.Memory h k e _ = refl
table-same a b _ _ _ same = absurd (numbers_test (tag_of (words_of_table a)) (tag_of (words_of_table b)) same)

table-once : (a b : TableFault) → IsTableFault a → IsTableFault b → words_of_table a ≡ words_of_table b → a ≡ b
table-once a b h k e = table-same a b h k e (ap tag_of e)

commit-same : (a b : CommitFault) → IsCommitFault a → IsCommitFault b → words_of_commit a ≡ words_of_commit b
    → tag_of (words_of_commit a) ≡ tag_of (words_of_commit b) → a ≡ b
commit-same (committing.Conflict mount by front) (committing.Conflict mount' by' front') h k e _ =
    let same_mount = shown-once mount mount' h.0 k.0 (ap (word_at 1) e) in
    let same_by = decimal_injective by by' h.1 k.1 (ap (word_at 3) e) in
    let same_front = decimal_injective front front' h.2 k.2 (ap (word_at 5) e) in
    λ i. committing.Conflict (same_mount i) (same_by i) (same_front i)
commit-same (committing.FileTooLarge mount bytes front) (committing.FileTooLarge mount' bytes' front') h k e _ =
    let same_mount = shown-once mount mount' h.0 k.0 (ap (word_at 3) e) in
    let same_bytes = decimal_injective bytes bytes' h.1 k.1 (ap (word_at 4) e) in
    let same_front = decimal_injective front front' h.2 k.2 (ap (word_at 6) e) in
    λ i. committing.FileTooLarge (same_mount i) (same_bytes i) (same_front i)
commit-same (committing.Invalid violation front) (committing.Invalid violation' front') h k e _ =
    let same_key = shown-once violation.key violation'.key h.0.0 k.0.0 (ap (word_at 3) e) in
    let same_rule = decimal_injective violation.rule violation'.rule h.0.1 k.0.1 (ap (word_at 5) e) in
    let same_given = quoted-once violation.given violation'.given (ap (word_at 7) e) in
    let same_front = decimal_injective front front' h.1 k.1 (ap (word_at 9) e) in
    λ i. committing.Invalid (record { key = same_key i; rule = same_rule i; given = same_given i }) (same_front i)
commit-same (committing.DatabaseFull weight front) (committing.DatabaseFull weight' front') h k e _ =
    let same_weight = decimal_injective weight weight' h.0 k.0 (ap (word_at 3) e) in
    let same_front = decimal_injective front front' h.1 k.1 (ap (word_at 5) e) in
    λ i. committing.DatabaseFull (same_weight i) (same_front i)
commit-same (committing.HistoryFull weight front) (committing.HistoryFull weight' front') h k e _ =
    let same_weight = decimal_injective weight weight' h.0 k.0 (ap (word_at 3) e) in
    let same_front = decimal_injective front front' h.1 k.1 (ap (word_at 5) e) in
    λ i. committing.HistoryFull (same_weight i) (same_front i)
commit-same (committing.DiskFault front) (committing.DiskFault front') h k e _ =
    let same_front = decimal_injective front front' h k (ap (word_at 4) e) in
    λ i. committing.DiskFault (same_front i)
commit-same committing.Memory committing.Memory h k e _ = refl
commit-same a b _ _ _ same = absurd (numbers_test (tag_of (words_of_commit a)) (tag_of (words_of_commit b)) same)

commit-once : (a b : CommitFault) → IsCommitFault a → IsCommitFault b → words_of_commit a ≡ words_of_commit b → a ≡ b
commit-once a b h k e = commit-same a b h k e (ap tag_of e)

done-same : (a b : Done) → IsDone a → IsDone b → words_of_done a ≡ words_of_done b
    → tag_of (words_of_done a) ≡ tag_of (words_of_done b) → a ≡ b
done-same (Committed number aside) (Committed number' aside') h k e _ =
    let same_number = decimal_injective number number' h.0 k.0 (ap (word_at 1) e) in
    let same_aside = decimal_injective aside aside' h.1 k.1 (ap (word_at 3) e) in
    λ i. Committed (same_number i) (same_aside i)
done-same (Same front aside) (Same front' aside') h k e _ =
    let same_front = decimal_injective front front' h.0 k.0 (ap (word_at 1) e) in
    let same_aside = decimal_injective aside aside' h.1 k.1 (ap (word_at 3) e) in
    λ i. Same (same_front i) (same_aside i)
done-same a b _ _ _ same = absurd (numbers_test (tag_of (words_of_done a)) (tag_of (words_of_done b)) same)

done-once : (a b : Done) → IsDone a → IsDone b → words_of_done a ≡ words_of_done b → a ≡ b
done-once a b h k e = done-same a b h k e (ap tag_of e)

-- the tags of mount tables are beyond those of other refusals
table_large : (fault : TableFault)
    → T (nat_eq 0 (tag_of (words_of_table fault)) || nat_le 20 (tag_of (words_of_table fault)))
table_large (table.BadMountpoint entry) = tt
table_large (table.NoPath entry) = tt
table_large (table.BadPath entry) = tt
table_large (table.UnknownPlugin entry) = tt
table_large (table.FileTwice entry) = tt
table_large (table.BadConflicts entry) = tt
table_large (table.TooMany count) = tt
table_large (table.AlreadyMounted entry) = tt
table_large (table.NotMounted entry) = tt
table_large table.Memory = tt

table_test : (fault : TableFault) (n : ℕ) → tag_of (words_of_table fault) ≡ n → T (nat_eq 0 n || nat_le 20 n)
table_test fault n same = subst (λ m. T (nat_eq 0 m || nat_le 20 m)) same (table_large fault)

table_or_memory : (fault : TableFault) → tag_of (words_of_table fault) ≡ 0
    → told_last (SetRefused (Prepare (preparing.BadTable fault))) ≡ Memory
table_or_memory table.Memory _ = refl
table_or_memory fault same = absurd (numbers_test (tag_of (words_of_table fault)) 0 same)

prepare-same : (a b : PrepareFault) → IsPrepareFault a → IsPrepareFault b → words_of_prepare a ≡ words_of_prepare b
    → tag_of (words_of_prepare a) ≡ tag_of (words_of_prepare b)
    → told_last (SetRefused (Prepare a)) ≡ told_last (SetRefused (Prepare b))
prepare-same (preparing.NotFetched mount) (preparing.NotFetched mount') h k e _ =
    let same_mount = shown-once mount mount' h k (ap (word_at 3) e) in
    λ i. SetRefused (Prepare (preparing.NotFetched (same_mount i)))
prepare-same (preparing.ValueTooLong key bytes) (preparing.ValueTooLong key' bytes') h k e _ =
    let same_key = shown-once key key' h.0 k.0 (ap (word_at 3) e) in
    let same_bytes = decimal_injective bytes bytes' h.1 k.1 (ap (word_at 4) e) in
    λ i. SetRefused (Prepare (preparing.ValueTooLong (same_key i) (same_bytes i)))
prepare-same (preparing.NotStorable mount key) (preparing.NotStorable mount' key') h k e _ =
    let same_mount = shown-once mount mount' h.0 k.0 (ap (word_at 3) e) in
    let same_key = shown-once key key' h.1 k.1 (ap (word_at 4) e) in
    λ i. SetRefused (Prepare (preparing.NotStorable (same_mount i) (same_key i)))
prepare-same (preparing.FileTooLarge mount bytes) (preparing.FileTooLarge mount' bytes') h k e _ =
    let same_mount = shown-once mount mount' h.0 k.0 (ap (word_at 3) e) in
    let same_bytes = decimal_injective bytes bytes' h.1 k.1 (ap (word_at 4) e) in
    λ i. SetRefused (Prepare (preparing.FileTooLarge (same_mount i) (same_bytes i)))
prepare-same (preparing.BadTable fault) (preparing.BadTable fault') h k e _ =
    ap (λ f. told_last (SetRefused (Prepare (preparing.BadTable f)))) (table-once fault fault' h k e)
prepare-same (preparing.BadTable fault) preparing.Memory _ _ _ same = table_or_memory fault same
prepare-same (preparing.BadTable fault) b _ _ _ same = absurd (table_test fault (tag_of (words_of_prepare b)) same)
prepare-same preparing.Memory (preparing.BadTable fault) _ _ _ same = sym (table_or_memory fault (sym same))
prepare-same a (preparing.BadTable fault) _ _ _ same =
    absurd (table_test fault (tag_of (words_of_prepare a)) (sym same))
prepare-same preparing.Memory preparing.Memory h k e _ = refl
prepare-same a b _ _ _ same = absurd (numbers_test (tag_of (words_of_prepare a)) (tag_of (words_of_prepare b)) same)

prepare-once : (a b : PrepareFault) → IsPrepareFault a → IsPrepareFault b → words_of_prepare a ≡ words_of_prepare b
    → told_last (SetRefused (Prepare a)) ≡ told_last (SetRefused (Prepare b))
prepare-once a b h k e = prepare-same a b h k e (ap tag_of e)

-- refusals of different kinds are told alike only for want of memory
get_or_prepare : (a : GetFault) (b : PrepareFault) → tag_of (words_of_get a) ≡ tag_of (words_of_prepare b)
    → told_last (GetRefused a) ≡ told_last (SetRefused (Prepare b))
get_or_prepare getting.Memory preparing.Memory _ = refl
get_or_prepare getting.Memory (preparing.BadTable fault) same = sym (table_or_memory fault (sym same))
get_or_prepare a (preparing.BadTable fault) same = absurd (table_test fault (tag_of (words_of_get a)) (sym same))
get_or_prepare a b same = absurd (numbers_test (tag_of (words_of_get a)) (tag_of (words_of_prepare b)) same)

get_or_commit : (a : GetFault) (b : CommitFault) → tag_of (words_of_get a) ≡ tag_of (words_of_commit b)
    → told_last (GetRefused a) ≡ told_last (SetRefused (Commit b))
get_or_commit getting.Memory committing.Memory _ = refl
get_or_commit a committing.Memory same = absurd (numbers_test (tag_of (words_of_get a)) 0 same)
get_or_commit a b same = absurd (numbers_test (tag_of (words_of_get a)) (tag_of (words_of_commit b)) same)

prepare_or_commit : (a : PrepareFault) (b : CommitFault) → tag_of (words_of_prepare a) ≡ tag_of (words_of_commit b)
    → told_last (SetRefused (Prepare a)) ≡ told_last (SetRefused (Commit b))
prepare_or_commit preparing.Memory committing.Memory _ = refl
prepare_or_commit (preparing.BadTable fault) committing.Memory same = table_or_memory fault same
prepare_or_commit a committing.Memory same = absurd (numbers_test (tag_of (words_of_prepare a)) 0 same)
prepare_or_commit (preparing.BadTable fault) b same = absurd (table_test fault (tag_of (words_of_commit b)) same)
prepare_or_commit a b same = absurd (numbers_test (tag_of (words_of_prepare a)) (tag_of (words_of_commit b)) same)

get_or_memory : (a : GetFault) → tag_of (words_of_get a) ≡ 0 → told_last (GetRefused a) ≡ Memory
get_or_memory getting.Memory _ = refl
get_or_memory a same = absurd (numbers_test (tag_of (words_of_get a)) 0 same)

prepare_or_memory : (a : PrepareFault) → tag_of (words_of_prepare a) ≡ 0 → told_last (SetRefused (Prepare a)) ≡ Memory
prepare_or_memory preparing.Memory _ = refl
prepare_or_memory (preparing.BadTable fault) same = table_or_memory fault same
prepare_or_memory a same = absurd (numbers_test (tag_of (words_of_prepare a)) 0 same)

commit_or_memory : (a : CommitFault) → tag_of (words_of_commit a) ≡ 0 → told_last (SetRefused (Commit a)) ≡ Memory
commit_or_memory committing.Memory _ = refl
commit_or_memory a same = absurd (numbers_test (tag_of (words_of_commit a)) 0 same)

-- ---- replies to other steps than merges

-- what an undo answers, as the get or the set that its line tells where it tells one
abbrev bare : Reply → Reply
bare (Undone done) = SetDone done
bare (UndoRefused fault) = last_of_undo fault
bare reply = reply

-- a reply that is none to a merge, and is so already
abbrev is_bare : Reply → Bool
is_bare (Merged merging) = false
is_bare (MergeRefused fault) = false
is_bare (Undone done) = false
is_bare (UndoRefused (undoing.Get fault)) = false
is_bare (UndoRefused (undoing.Set fault)) = false
is_bare (UndoRefused undoing.Memory) = false
is_bare reply = true

bare-is_bare : (reply : Reply) → is_merge reply ≡ false → is_bare (bare reply) ≡ true
bare-is_bare (Merged merging) plain = absurd cc
bare-is_bare (MergeRefused fault) plain = absurd cc
bare-is_bare (UndoRefused (undoing.NoCommit number front)) plain = refl
bare-is_bare (UndoRefused (undoing.Overtaken name by front)) plain = refl
bare-is_bare (UndoRefused (undoing.Get fault)) plain = refl
bare-is_bare (UndoRefused (undoing.Set fault)) plain = refl
bare-is_bare (UndoRefused undoing.Memory) plain = refl
bare-is_bare reply plain = refl

bare-is : (reply : Reply) → IsReply reply → IsReply (bare reply)
bare-is (UndoRefused (undoing.NoCommit number front)) is = is
bare-is (UndoRefused (undoing.Overtaken name by front)) is = is
bare-is (UndoRefused (undoing.Get fault)) is = is
bare-is (UndoRefused (undoing.Set fault)) is = is
bare-is (UndoRefused undoing.Memory) is = is
bare-is reply is = is

bare-words : (reply : Reply) → words_of (bare reply) ≡ words_of reply
bare-words (UndoRefused (undoing.NoCommit number front)) = refl
bare-words (UndoRefused (undoing.Overtaken name by front)) = refl
bare-words (UndoRefused (undoing.Get fault)) = refl
bare-words (UndoRefused (undoing.Set fault)) = refl
bare-words (UndoRefused undoing.Memory) = refl
bare-words reply = refl

bare-changes : (reply : Reply) → changes_of (bare reply) ≡ changes_of reply
bare-changes (UndoRefused (undoing.NoCommit number front)) = refl
bare-changes (UndoRefused (undoing.Overtaken name by front)) = refl
bare-changes (UndoRefused (undoing.Get fault)) = refl
bare-changes (UndoRefused (undoing.Set fault)) = refl
bare-changes (UndoRefused undoing.Memory) = refl
bare-changes reply = refl

bare-told : (reply : Reply) → told_last (bare reply) ≡ told_last reply
bare-told (UndoRefused (undoing.NoCommit number front)) = refl
bare-told (UndoRefused (undoing.Overtaken name by front)) = refl
bare-told (UndoRefused (undoing.Get fault)) = refl
bare-told (UndoRefused (undoing.Set fault)) = refl
bare-told (UndoRefused undoing.Memory) = refl
bare-told reply = refl

of_kind : (a b : Reply) → is_bare a ≡ true → is_bare b ≡ true → IsReply a → IsReply b → words_of a ≡ words_of b
    → changes_of a ≡ changes_of b → kind a ≡ kind b → told_last a ≡ told_last b
of_kind (Got front count) (Got front' count') plain plain' h k e _ _ =
    let same_front = decimal_injective front front' h.0 k.0 (ap (word_at 1) e) in
    let same_count = decimal_injective count count' h.1 k.1 (ap (word_at 2) e) in
    λ i. Got (same_front i) (same_count i)
of_kind (LookFound name value) (LookFound name' value') plain plain' h k e _ _ =
    let same_name = shown-once name name' h k (ap (word_at 1) e) in
    let same_value = quoted-once value value' (ap (word_at 2) e) in
    λ i. LookFound (same_name i) (same_value i)
of_kind (GetRefused fault) (GetRefused fault') plain plain' h k e _ _ =
    ap (λ f. told_last (GetRefused f)) (get-once fault fault' h k e)
of_kind (GetRefused fault) (SetRefused (Prepare other)) plain plain' h k e _ _ =
    get_or_prepare fault other (ap tag_of e)
of_kind (GetRefused fault) (SetRefused (Commit other)) plain plain' h k e _ _ = get_or_commit fault other (ap tag_of e)
of_kind (GetRefused fault) Memory plain plain' h k e _ _ = get_or_memory fault (ap tag_of e)
of_kind (SetRefused (Prepare fault)) (GetRefused other) plain plain' h k e _ _ =
    sym (get_or_prepare other fault (ap tag_of (sym e)))
of_kind (SetRefused (Prepare fault)) (SetRefused (Prepare fault')) plain plain' h k e _ _ =
    prepare-once fault fault' h k e
of_kind (SetRefused (Prepare fault)) (SetRefused (Commit other)) plain plain' h k e _ _ =
    prepare_or_commit fault other (ap tag_of e)
of_kind (SetRefused (Prepare fault)) Memory plain plain' h k e _ _ = prepare_or_memory fault (ap tag_of e)
of_kind (SetRefused (Commit fault)) (GetRefused other) plain plain' h k e _ _ =
    sym (get_or_commit other fault (ap tag_of (sym e)))
of_kind (SetRefused (Commit fault)) (SetRefused (Prepare other)) plain plain' h k e _ _ =
    sym (prepare_or_commit other fault (ap tag_of (sym e)))
of_kind (SetRefused (Commit fault)) (SetRefused (Commit fault')) plain plain' h k e _ _ =
    ap (λ f. told_last (SetRefused (Commit f))) (commit-once fault fault' h k e)
of_kind (SetRefused (Commit fault)) Memory plain plain' h k e _ _ = commit_or_memory fault (ap tag_of e)
of_kind (SetDone done) (SetDone done') plain plain' h k e _ _ =
    ap (λ d. told_last (SetDone d)) (done-once done done' h k e)
of_kind Memory (GetRefused fault) plain plain' h k e _ _ = sym (get_or_memory fault (ap tag_of (sym e)))
of_kind Memory (SetRefused (Prepare fault)) plain plain' h k e _ _ = sym (prepare_or_memory fault (ap tag_of (sym e)))
of_kind Memory (SetRefused (Commit fault)) plain plain' h k e _ _ = sym (commit_or_memory fault (ap tag_of (sym e)))
of_kind Quiet Quiet plain plain' h k e _ _ = refl
of_kind LookNone LookNone plain plain' h k e _ _ = refl
of_kind Memory Memory plain plain' h k e _ _ = refl
of_kind NoWatch NoWatch plain plain' h k e _ _ = refl
of_kind (Watching front) (Watching front') plain plain' h k e _ _ =
    ap (λ f. Watching f) (decimal_injective front front' h k (ap (word_at 1) e))
of_kind (News news) (News other) plain plain' h k e changes _ =
    let same_front = decimal_injective news.front other.front h.0 k.0 (ap (word_at 1) e) in
    let same_missed = decimal_injective news.missed other.missed h.1 k.1 (ap (word_at 3) e) in
    λ i. News (record { front = same_front i; missed = same_missed i; changes = changes i })
of_kind (UndoRefused (undoing.NoCommit number front)) (UndoRefused (undoing.NoCommit number' front')) plain plain' h k e _ _ =
    let same_number = decimal_injective number number' h.0 k.0 (ap (word_at 3) e) in
    let same_front = decimal_injective front front' h.1 k.1 (ap (word_at 5) e) in
    λ i. UndoRefused (undoing.NoCommit (same_number i) (same_front i))
of_kind (UndoRefused (undoing.Overtaken name by front)) (UndoRefused (undoing.Overtaken name' by' front')) plain plain' h k e _ _ =
    let same_name = shown-once name name' h.0 k.0 (ap (word_at 3) e) in
    let same_by = decimal_injective by by' h.1 k.1 (ap (word_at 5) e) in
    let same_front = decimal_injective front front' h.2 k.2 (ap (word_at 7) e) in
    λ i. UndoRefused (undoing.Overtaken (same_name i) (same_by i) (same_front i))
of_kind (UndoRefused (undoing.NoCommit number front)) (UndoRefused (undoing.Overtaken name by front')) plain plain' h k e _ _ =
    absurd (numbers_test 17 18 (ap tag_of e))
of_kind (UndoRefused (undoing.Overtaken name by front)) (UndoRefused (undoing.NoCommit number front')) plain plain' h k e _ _ =
    absurd (numbers_test 18 17 (ap tag_of e))
of_kind (UndoRefused (undoing.Get fault)) b plain plain' h k e _ _ = absurd cc
of_kind (UndoRefused (undoing.Set fault)) b plain plain' h k e _ _ = absurd cc
of_kind (UndoRefused undoing.Memory) b plain plain' h k e _ _ = absurd cc
of_kind a (UndoRefused (undoing.Get fault)) plain plain' h k e _ _ = absurd cc
of_kind a (UndoRefused (undoing.Set fault)) plain plain' h k e _ _ = absurd cc
of_kind a (UndoRefused undoing.Memory) plain plain' h k e _ _ = absurd cc
of_kind (Undone done) b plain plain' h k e _ _ = absurd cc
of_kind a (Undone done) plain plain' h k e _ _ = absurd cc
of_kind (Merged merging) b plain plain' h k e _ _ = absurd cc
of_kind (MergeRefused fault) b plain plain' h k e _ _ = absurd cc
of_kind a (Merged merging) plain plain' h k e _ _ = absurd cc
of_kind a (MergeRefused fault) plain plain' h k e _ _ = absurd cc
of_kind a b _ _ _ _ _ _ same = absurd (numbers_test (kind a) (kind b) same)

plain-once : (a b : Reply) → is_merge a ≡ false → is_merge b ≡ false → IsReply a → IsReply b → words_of a ≡ words_of b
    → changes_of a ≡ changes_of b → told_last a ≡ told_last b
plain-once a b plain plain' h k e changes =
    let words : words_of (bare a) ≡ words_of (bare b) = bare-words a ∙ (e ∙ sym (bare-words b)) in
    let kinds : kind (bare a) ≡ kind (bare b) = sym (reply-kind (bare a)) ∙ (ap kind_of words ∙ reply-kind (bare b)) in
    let one = of_kind (bare a) (bare b) (bare-is_bare a plain) (bare-is_bare b plain') (bare-is a h) (bare-is b k) words (bare-changes a ∙ (changes ∙ sym (bare-changes b))) kinds in
    sym (bare-told a) ∙ (one ∙ bare-told b)

-- ---- merges

-- what the last line of a merge that was not stored tells
abbrev told_end : MergeEnd → Reply
told_end end = if end_wants_memory end then Memory else last_of_end end

undo_apart : (fault : UndoFault) → 6 ≡ undo_kind fault → ⊥
undo_apart (undoing.NoCommit number front) same = absurd (numbers_test 6 10 same)
undo_apart (undoing.Overtaken name by front) same = absurd (numbers_test 6 10 same)
undo_apart fault same = absurd (numbers_test 6 5 same)

-- a line of a merge alone is none of another reply
no_merge : (b : Reply) → is_merge b ≡ false → 6 ≡ kind b → ⊥
no_merge (Merged merging) none same = absurd cc
no_merge (MergeRefused fault) none same = absurd cc
no_merge (UndoRefused fault) none same = undo_apart fault same
no_merge b none same = absurd (numbers_test 6 (kind b) same)

end-once : (end : MergeEnd) (b : Reply) → is_merge b ≡ false → IsEnd end → IsReply b → words_of_end end ≡ words_of b
    → [] ≡ changes_of b → told_end end ≡ told_last b
end-once (merge_end.MergeConflicts names) b none h k e bare = absurd (no_merge b none (ap kind_of e ∙ reply-kind b))
end-once (merge_end.TriesSpent mount by front) b none h k e bare =
    absurd (no_merge b none (ap kind_of e ∙ reply-kind b))
end-once (merge_end.Set fault) b none h k e bare = plain-once (SetRefused fault) b refl none h k e bare
end-once merge_end.Memory b none h k e bare = plain-once Memory b refl none h k e bare

ends-same : (a b : MergeEnd) → IsEnd a → IsEnd b → words_of_end a ≡ words_of_end b
    → tag_of (words_of_end a) ≡ tag_of (words_of_end b) → told_end a ≡ told_end b
ends-same (merge_end.Set fault) b h k e _ = sym (end-once b (SetRefused fault) refl k h (sym e) refl)
ends-same merge_end.Memory b h k e _ = sym (end-once b Memory refl k h (sym e) refl)
ends-same a (merge_end.Set fault) h k e _ = end-once a (SetRefused fault) refl h k e refl
ends-same a merge_end.Memory h k e _ = end-once a Memory refl h k e refl
ends-same (merge_end.MergeConflicts names) (merge_end.MergeConflicts names') h k e _ =
    ap (λ all. told_end (merge_end.MergeConflicts all)) (names-once names names' h k (ap (λ line. line.1) e))
ends-same (merge_end.TriesSpent mount by front) (merge_end.TriesSpent mount' by' front') h k e _ =
    let same_mount = shown-once mount mount' h.0 k.0 (ap (word_at 1) e) in
    let same_by = decimal_injective by by' h.1 k.1 (ap (word_at 3) e) in
    let same_front = decimal_injective front front' h.2 k.2 (ap (word_at 5) e) in
    λ i. told_end (merge_end.TriesSpent (same_mount i) (same_by i) (same_front i))
ends-same a b _ _ _ same = absurd (numbers_test (tag_of (words_of_end a)) (tag_of (words_of_end b)) same)

ends-once : (a b : MergeEnd) → IsEnd a → IsEnd b → words_of_end a ≡ words_of_end b → told_end a ≡ told_end b
ends-once a b h k e = ends-same a b h k e (ap tag_of e)

pub reply-once : (a b : Reply) → IsReply a → IsReply b → words_of a ≡ words_of b → changes_of a ≡ changes_of b
    → told_last a ≡ told_last b
reply-once (Merged one) (Merged other) h k e _ =
    plain-once (SetDone one.done) (SetDone other.done) refl refl h.1 k.1 e refl
reply-once (Merged one) (MergeRefused fault) h k e _ =
    sym (end-once fault.end (SetDone one.done) refl k.1 h.1 (sym e) refl)
reply-once (Merged one) b h k e bare = plain-once (SetDone one.done) b refl refl h.1 k e bare
reply-once (MergeRefused fault) (Merged other) h k e _ = end-once fault.end (SetDone other.done) refl h.1 k.1 e refl
reply-once (MergeRefused fault) (MergeRefused other) h k e _ = ends-once fault.end other.end h.1 k.1 e
reply-once (MergeRefused fault) b h k e bare = end-once fault.end b refl h.1 k e bare
reply-once a (Merged other) h k e bare = plain-once a (SetDone other.done) refl refl h k.1 e bare
reply-once a (MergeRefused fault) h k e bare = sym (end-once fault.end a refl k.1 h (sym e) (sym bare))
reply-once a b h k e changes = plain-once a b refl refl h k e changes

pub try-once : (a b : Tried) → IsTry a → IsTry b → words_of_try a ≡ words_of_try b → a ≡ b
try-once a b h k e =
    let same_mount = shown-once a.mount b.mount h.0 k.0 (ap (word_at 1) e) in
    let same_by = decimal_injective a.by b.by h.1 k.1 (ap (word_at 3) e) in
    let same_front = decimal_injective a.front b.front h.2 k.2 (ap (word_at 5) e) in
    let same_again = decimal_injective a.again b.again h.3 k.3 (ap (word_at 7) e) in
    λ i. record { mount = same_mount i; by = same_by i; front = same_front i; again = same_again i }

sign-once : (p q : Bool) → sign_of p ≡ sign_of q → p ≡ q
sign-once true true e = refl
sign-once true false e = absurd (numbers_test 45 43 (ap (λ word. slice_index_or word 0 0) e))
sign-once false true e = absurd (numbers_test 43 45 (ap (λ word. slice_index_or word 0 0) e))
sign-once false false e = refl

pub changed-once : (a b : Changed) → IsChanged a → IsChanged b → words_of_changed a ≡ words_of_changed b → a ≡ b
changed-once a b h k e =
    let same_number = decimal_injective a.number b.number h.1 k.1 (ap (word_at 1) e) in
    let same_sign = sign-once a.removed b.removed (ap (word_at 2) e) in
    let same_name = shown-once a.name b.name h.0 k.0 (ap (word_at 3) e) in
    λ i. record { number = same_number i; name = same_name i; removed = same_sign i }
