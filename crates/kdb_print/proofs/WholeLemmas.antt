-- Where no step wanted memory, what is told of the replies is all of them.
use Rattle.std.specs.Prelude.{◌≡◌, Bool, true, false, not, ◌||◌, if◌then◌else◌, List, [], ◌∷◌, map as over}
use Rattle.std.proofs.Common.{refl, sym, ap, ap₂, ◌∙◌, inl, inr}
use Rattle.std.specs.List.{list_any}
use Rattle.std.proofs.lemmas.Bool.{cases_Bool, cond-false, cond-true}
use Rattle.general_words.proofs.Lists.{head_is, tail_is}
use Rattle.batch_script.specs.declared.steps.Phase.{Phase}
use Rattle.batch_script.specs.declared.steps.Step.{Step}
use Rattle.batch_script.specs.declared.steps.Steps.{Steps}
use Rattle.kdb_handle.specs.declared.merging.MergeEnd.{MergeEnd}
use Rattle.kdb_handle.specs.declared.merging.MergeEnd.TheVariants as merge_end
use Rattle.kdb_handle.specs.declared.merging.Tried.{Tried}
use Rattle.kdb_handle.specs.declared.replies.Reply.{Reply}
use Rattle.kdb_handle.specs.declared.replies.Reply.TheVariants.{GetRefused, Quiet, SetDone, SetRefused, Merged, MergeRefused, Undone, UndoRefused, Memory}
use Rattle.kdb_handle.specs.declared.undoing.UndoFault.{UndoFault}
use Rattle.kdb_handle.specs.declared.undoing.UndoFault.TheVariants as undoing
use Rattle.kdb_print.proofs.BatchWords.{loud}
use Rattle.kdb_print.specs.Replies.{end_wants_memory, is_memory, some_reply, undo_wants_memory}
use Rattle.kdb_print.specs.Reading.{AreOfPhases, AreOfSessions, AreOfSteps, IsReplyTo, edits, is_merge, is_quiet, is_undo, last_of, last_of_end, last_of_undo, merges, told, told_of, tries_of, undoes}
use Rattle.store_core.specs.declared.committing.Done.{Done}

-- a want of memory, among what is told
abbrev pub wants_memory : List Tried × Reply → Bool
wants_memory said = is_memory said.1

memory-end : (end : MergeEnd) → is_memory (last_of_end end) ≡ end_wants_memory end
memory-end (merge_end.MergeConflicts names) = refl
memory-end (merge_end.TriesSpent mount by front) = refl
memory-end (merge_end.Set fault) = refl
memory-end merge_end.Memory = refl

memory-undo : (fault : UndoFault) → is_memory (last_of_undo fault) ≡ undo_wants_memory fault
memory-undo (undoing.NoCommit number front) = refl
memory-undo (undoing.Overtaken name by front) = refl
memory-undo (undoing.Get fault) = refl
memory-undo (undoing.Set fault) = refl
memory-undo undoing.Memory = refl

memory-last : (reply : Reply) → is_memory (last_of reply) ≡ is_memory reply
memory-last (MergeRefused fault) = memory-end fault.end
memory-last (UndoRefused fault) = memory-undo fault
memory-last reply = refl

pub memory-told_of : (reply : Reply) → wants_memory (told_of reply) ≡ is_memory reply
memory-told_of reply =
    elim (cases_Bool (is_memory reply)) [
      | inl yes_memory ↦ ap is_memory (cond-true (is_memory reply) Memory (last_of reply) yes_memory) ∙ sym yes_memory
      | inr no_memory ↦ ap is_memory (cond-false (is_memory reply) Memory (last_of reply) no_memory) ∙ memory-last reply
    ]

memory-told : (replies : List Reply) → list_any wants_memory (told replies) ≡ list_any is_memory replies
memory-told [] = refl
memory-told (Quiet ∷ replies) = memory-told replies
memory-told (reply ∷ replies) = ap₂ (λ a b. a || b) (memory-told_of reply) (memory-told replies)

memory-sessions : (sessions : List (List Reply))
    → list_any (list_any wants_memory) (over told sessions) ≡ list_any (list_any is_memory) sessions
memory-sessions [] = refl
memory-sessions (replies ∷ sessions) = ap₂ (λ a b. a || b) (memory-told replies) (memory-sessions sessions)

abbrev some_wants : List (List (List (List Tried × Reply))) → Bool
some_wants said = list_any (list_any (list_any wants_memory)) said

memory-phases : (phases : List (List (List Reply))) → some_wants (over (over told) phases) ≡ some_reply is_memory phases
memory-phases [] = refl
memory-phases (sessions ∷ phases) = ap₂ (λ a b. a || b) (memory-sessions sessions) (memory-phases phases)

neither : (a b : Bool) → (a || b) ≡ false → (a ≡ false) × (b ≡ false)
neither true b e = absurd cc
neither false b e = (refl, e)

pub quiet_is : (reply : Reply) → is_quiet reply ≡ true → reply ≡ Quiet
quiet_is Quiet e = refl
quiet_is reply e = absurd cc

quiet_where : (step : Step) (reply : Reply) → IsReplyTo step reply → is_memory reply ≡ false
    → is_quiet reply ≡ edits step
quiet_where step reply of none =
    elim of.quiet [
      | inl same ↦ same
      | inr is ↦ let wants : is_memory reply ≡ true = ap is_memory is in absurd cc
    ]

pub merge_where : (step : Step) (reply : Reply) → IsReplyTo step reply → is_memory reply ≡ false
    → is_merge reply ≡ merges step
merge_where step reply of none =
    elim of.merge [
      | inl same ↦ same
      | inr is ↦ let wants : is_memory reply ≡ true = ap is_memory is in absurd cc
    ]

pub undo_where : (step : Step) (reply : Reply) → IsReplyTo step reply → is_memory reply ≡ false
    → is_undo reply ≡ undoes step
undo_where step reply of none =
    elim of.undo [
      | inl same ↦ same
      | inr is ↦ let wants : is_memory reply ≡ true = ap is_memory is in absurd cc
    ]

-- the last lines of merges tell their ends, those of undos their refusals, and those of other replies the replies
abbrev end_in : Reply → MergeEnd
end_in (MergeRefused fault) = fault.end
end_in (SetRefused fault) = merge_end.Set fault
end_in reply = merge_end.Memory

end_back : (end : MergeEnd) → end_in (last_of_end end) ≡ end
end_back (merge_end.MergeConflicts names) = refl
end_back (merge_end.TriesSpent mount by front) = refl
end_back (merge_end.Set fault) = refl
end_back merge_end.Memory = refl

not_done : (done : Done) (end : MergeEnd) → SetDone done ≡ last_of_end end → ⊥
not_done done (merge_end.MergeConflicts names) e = cc
not_done done (merge_end.TriesSpent mount by front) e = cc
not_done done (merge_end.Set fault) e = cc
not_done done merge_end.Memory e = cc

merge-same : (a b : Reply) → is_merge a ≡ true → is_merge b ≡ true → tries_of a ≡ tries_of b → last_of a ≡ last_of b
    → a ≡ b
merge-same (Merged one) (Merged other) is too tried last =
    let same : SetDone one.done ≡ SetDone other.done = last in let done : one.done ≡ other.done = cc in λ i. Merged (record { tried = tried i; done = done i })
merge-same (Merged one) (MergeRefused fault) is too tried last = absurd (not_done one.done fault.end last)
merge-same (MergeRefused fault) (Merged other) is too tried last = absurd (not_done other.done fault.end (sym last))
merge-same (MergeRefused fault) (MergeRefused other) is too tried last =
    let end : fault.end ≡ other.end = sym (end_back fault.end) ∙ (ap end_in last ∙ end_back other.end) in λ i. MergeRefused (record { tried = tried i; end = end i })
merge-same a b is too tried last = absurd cc

abbrev refusal_in : Reply → UndoFault
refusal_in (GetRefused fault) = undoing.Get fault
refusal_in (SetRefused fault) = undoing.Set fault
refusal_in (UndoRefused fault) = fault
refusal_in reply = undoing.Memory

refusal_back : (fault : UndoFault) → refusal_in (last_of_undo fault) ≡ fault
refusal_back (undoing.NoCommit number front) = refl
refusal_back (undoing.Overtaken name by front) = refl
refusal_back (undoing.Get fault) = refl
refusal_back (undoing.Set fault) = refl
refusal_back undoing.Memory = refl

not_undone : (done : Done) (fault : UndoFault) → SetDone done ≡ last_of_undo fault → ⊥
not_undone done (undoing.NoCommit number front) e = cc
not_undone done (undoing.Overtaken name by front) e = cc
not_undone done (undoing.Get fault) e = cc
not_undone done (undoing.Set fault) e = cc
not_undone done undoing.Memory e = cc

undo-same : (a b : Reply) → is_undo a ≡ true → is_undo b ≡ true → last_of a ≡ last_of b → a ≡ b
undo-same (Undone one) (Undone other) is too last =
    let same : SetDone one ≡ SetDone other = last in let done : one ≡ other = cc in λ i. Undone (done i)
undo-same (Undone one) (UndoRefused fault) is too last = absurd (not_undone one fault last)
undo-same (UndoRefused fault) (Undone other) is too last = absurd (not_undone other fault (sym last))
undo-same (UndoRefused fault) (UndoRefused other) is too last =
    let same : fault ≡ other = sym (refusal_back fault) ∙ (ap refusal_in last ∙ refusal_back other) in λ i. UndoRefused (same i)
undo-same a b is too last = absurd cc

plain-last : (reply : Reply) → is_merge reply ≡ false → is_undo reply ≡ false → last_of reply ≡ reply
plain-last (Merged merging) none no_undo = absurd cc
plain-last (MergeRefused fault) none no_undo = absurd cc
plain-last (Undone done) none no_undo = absurd cc
plain-last (UndoRefused fault) none no_undo = absurd cc
plain-last reply none no_undo = refl

other-same : (a b : Reply) (undo : Bool) → is_merge a ≡ false → is_merge b ≡ false → is_undo a ≡ undo → is_undo b ≡ undo
    → last_of a ≡ last_of b → a ≡ b
other-same a b true plain too is also last = undo-same a b is also last
other-same a b false plain too is also last = sym (plain-last a plain is) ∙ (last ∙ plain-last b too also)

-- two replies to a step that tell the same tries and have the same last line are the same
pub reply-same : (step : Step) (a b : Reply) → IsReplyTo step a → IsReplyTo step b → is_memory a ≡ false
    → is_memory b ≡ false → tries_of a ≡ tries_of b → last_of a ≡ last_of b → a ≡ b
reply-same step a b one other none no_memory tried last =
    by (merges step) (merge_where step a one none) (merge_where step b other no_memory)
  where
    by : (merge : Bool) → is_merge a ≡ merge → is_merge b ≡ merge → a ≡ b
    by true is too = merge-same a b is too tried last
    by false is too =
        other-same a b (undoes step) is too (undo_where step a one none) (undo_where step b other no_memory) last

pub told-quiet : (reply : Reply) (replies : List Reply) → is_quiet reply ≡ true → told (reply ∷ replies) ≡ told replies
told-quiet reply replies quiet = ap (λ r. told (r ∷ replies)) (quiet_is reply quiet)

pub told-line : (reply : Reply) (replies : List Reply) → is_quiet reply ≡ false
    → told (reply ∷ replies) ≡ told_of reply ∷ told replies
told-line reply replies quiet = ap (λ b. over told_of (if not b then reply ∷ loud replies else loud replies)) quiet

told-loud : (reply : Reply) (replies : List Reply) → is_quiet reply ≡ false → is_memory reply ≡ false
    → told (reply ∷ replies) ≡ (tries_of reply, last_of reply) ∷ told replies
told-loud reply replies quiet none =
    told-line reply replies quiet ∙ ap (λ b. (tries_of reply, if b then Memory else last_of reply) ∷ told replies) none

steps-whole : (steps : List Step) (xs ys : List Reply) → AreOfSteps steps xs → AreOfSteps steps ys
    → list_any is_memory xs ≡ false → list_any is_memory ys ≡ false → told xs ≡ told ys → xs ≡ ys
steps-whole [] [] [] hs ks p q e = refl
steps-whole [] [] (y ∷ ys) hs ks p q e = absurd ks
steps-whole [] (x ∷ xs) ys hs ks p q e = absurd hs
steps-whole (step ∷ steps) [] ys hs ks p q e = absurd hs
steps-whole (step ∷ steps) (x ∷ xs) [] hs ks p q e = absurd ks
steps-whole (step ∷ steps) (x ∷ xs) (y ∷ ys) hs ks p q e =
    let no_x = neither (is_memory x) (list_any is_memory xs) p in
    let no_y = neither (is_memory y) (list_any is_memory ys) q in
    let quiet_x = quiet_where step x hs.0 no_x.0 in
    let quiet_y = quiet_where step y ks.0 no_y.0 in
    elim (cases_Bool (edits step)) [
      | inl edit ↦
          let rest = steps-whole steps xs ys hs.1 ks.1 no_x.1 no_y.1 (sym (told-quiet x xs (quiet_x ∙ edit)) ∙ (e ∙ told-quiet y ys (quiet_y ∙ edit))) in
          ap₂ (λ r rs. r ∷ rs) (quiet_is x (quiet_x ∙ edit) ∙ sym (quiet_is y (quiet_y ∙ edit))) rest
      | inr other ↦
          let there : (tries_of x, last_of x) ∷ told xs ≡ (tries_of y, last_of y) ∷ told ys = sym (told-loud x xs (quiet_x ∙ other) no_x.0) ∙ (e ∙ told-loud y ys (quiet_y ∙ other) no_y.0) in
          let one = head_is (tries_of x, last_of x) (tries_of y, last_of y) (told xs) (told ys) there in
          let rest = steps-whole steps xs ys hs.1 ks.1 no_x.1 no_y.1 (tail_is (tries_of x, last_of x) (tries_of y, last_of y) (told xs) (told ys) there) in
          let first = reply-same step x y hs.0 ks.0 no_x.0 no_y.0 (ap (λ said. said.0) one) (ap (λ said. said.1) one) in
          ap₂ (λ r rs. r ∷ rs) first rest
    ]

sessions-whole : (sessions : List Steps) (xs ys : List (List Reply)) → AreOfSessions sessions xs
    → AreOfSessions sessions ys → list_any (list_any is_memory) xs ≡ false → list_any (list_any is_memory) ys ≡ false
    → over told xs ≡ over told ys → xs ≡ ys
sessions-whole [] [] [] hs ks p q e = refl
sessions-whole [] [] (y ∷ ys) hs ks p q e = absurd ks
sessions-whole [] (x ∷ xs) ys hs ks p q e = absurd hs
sessions-whole (steps ∷ others) [] ys hs ks p q e = absurd hs
sessions-whole (steps ∷ others) (x ∷ xs) [] hs ks p q e = absurd ks
sessions-whole (steps ∷ others) (x ∷ xs) (y ∷ ys) hs ks p q e =
    let no_x = neither (list_any is_memory x) (list_any (list_any is_memory) xs) p in
    let no_y = neither (list_any is_memory y) (list_any (list_any is_memory) ys) q in
    ap₂ (λ r rs. r ∷ rs) (steps-whole steps.steps x y hs.0 ks.0 no_x.0 no_y.0 cc) (sessions-whole others xs ys hs.1 ks.1 no_x.1 no_y.1 cc)

phases-whole : (phases : List Phase) (xs ys : List (List (List Reply))) → AreOfPhases phases xs → AreOfPhases phases ys
    → some_reply is_memory xs ≡ false → some_reply is_memory ys ≡ false → over (over told) xs ≡ over (over told) ys
    → xs ≡ ys
phases-whole [] [] [] hs ks p q e = refl
phases-whole [] [] (y ∷ ys) hs ks p q e = absurd ks
phases-whole [] (x ∷ xs) ys hs ks p q e = absurd hs
phases-whole (phase ∷ phases) [] ys hs ks p q e = absurd hs
phases-whole (phase ∷ phases) (x ∷ xs) [] hs ks p q e = absurd ks
phases-whole (phase ∷ phases) (x ∷ xs) (y ∷ ys) hs ks p q e =
    let no_x = neither (list_any (list_any is_memory) x) (some_reply is_memory xs) p in
    let no_y = neither (list_any (list_any is_memory) y) (some_reply is_memory ys) q in
    ap₂ (λ r rs. r ∷ rs) (sessions-whole phase.sessions x y hs.0 ks.0 no_x.0 no_y.0 cc) (phases-whole phases xs ys hs.1 ks.1 no_x.1 no_y.1 cc)

pub whole-once : (phases : List Phase) (a b : List (List (List Reply))) → AreOfPhases phases a → AreOfPhases phases b
    → some_reply is_memory a ≡ false → over (over told) a ≡ over (over told) b → a ≡ b
whole-once phases a b hs ks none e =
    phases-whole phases a b hs ks none (sym (memory-phases b) ∙ (ap some_wants (sym e) ∙ (memory-phases a ∙ none))) e
