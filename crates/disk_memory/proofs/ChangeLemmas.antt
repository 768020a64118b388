-- What a change of a disk in memory does to its images and its moments. This project's own.
use Rattle.std.proofs.Common.{◌≡◌, ℕ, ◌+◌, ◌<◌, ◌≤◌, List, [], ◌∷◌, ◌++◌, length, take, Result, Ok, Err, IfOk, OnOk, OnErr, ◌⊎◌, inl, inr, refl, sym, ap, ◌∙◌, subst, arith, length-append}
use Rattle.std.proofs.lemmas.List.{take-append-le, take_all}
use Rattle.std.proofs.lemmas.Bool.{le-leb, cond-true}
use Rattle.disk_memory.proofs.Named.{every_file}
use Rattle.std.proofs.lemmas.Bool.Decides.{leb_tells}
use Rattle.kdb_outside.specs.declared.faults.Failed.{Failed}
use Rattle.kdb_outside.specs.Files.{written, ChangesTo, KeepsOthers}
use Rattle.kdb_outside.specs.Images.{Image, IsImage, Only, IsTornWrite, IsTornCut, KeepsOtherImages, Touches, Elapses}
use Rattle.kdb_outside.proofs.TornLemmas.{IsTornWrite-none, IsTornCut-none}
use Rattle.disk_memory.specs.declared.changes.Change.{Change}
use Rattle.disk_memory.specs.declared.changes.Step.{Step}
use Rattle.disk_memory.specs.declared.changes.Step.TheVariants.{Wrote, Cut, Synced}
use Rattle.disk_memory.specs.Steps.{steps_of, after, after_all, Leaves, LeavesAfter}
use Rattle.disk_memory.specs.DiskState.{File, DiskState, bytes_of, Agrees, after_change, after_failure, seen_of, left_of, moment_of, at_moment, left_since_of}
use Rattle.disk_memory.proofs.StepLemmas.{after_all-push, LeavesAfter-last, steps_of-push, steps_of-push_other}

-- a value is one value
one_value : {A E : Type 0} (r : Result A E) (x y : A) → r ≡ Ok x → r ≡ Ok y → x ≡ y
one_value r x y first second = cc

-- an error is no value
no_value : {A E : Type 0} (r : Result A E) (e : E) (y : A) → r ≡ Err e → r ≡ Ok y → ⊥
no_value r e y first second = cc

-- a call of a known step that went through made it
made_by_call : {E : Type 0} (file : List ℕ) (step : Step) (given : Result Step E) (old new : DiskState)
    → IfOk given (λ s. s ≡ step)
    → (made : Step) × (given ≡ Ok made) × (new ≡ after_change (record { file = file; step = made }) old)
    → new ≡ after_change (record { file = file; step = step }) old
made_by_call file step (Ok s) old new is call =
    let same : s ≡ call.0 = one_value (Ok s) s call.0 refl call.1 in
    call.2 ∙ ap (λ made. after_change (record { file = file; step = made }) old) (sym same ∙ is)
made_by_call file step (Err e) old new is call = absurd (no_value (Err e) e call.0 refl call.1)

-- what holds behind the step holds behind a call that went through
pub ok_by_call : {E : Type 0} (P : DiskState → Type 0) (old new : DiskState) (file : List ℕ) (step : Step)
    (given : Result Step E) (result : Result (Unit {0}) Failed) → IfOk given (λ s. s ≡ step)
    → OnOk result ((made : Step) × (given ≡ Ok made) × (new ≡ after_change (record { file = file; step = made }) old))
    → P (after_change (record { file = file; step = step }) old)
    → OnOk result (P new)
ok_by_call P old new file step given (Ok x) is ok made = subst P (sym (made_by_call file step given old new is ok)) made
ok_by_call P old new file step given (Err e) is ok made = tt

-- what holds behind the step and behind a failure holds behind the call
pub by_call : {E : Type 0} (P : DiskState → Type 0) (old new : DiskState) (file : List ℕ) (step : Step)
    (given : Result Step E) (result : Result (Unit {0}) Failed) → IfOk given (λ s. s ≡ step)
    → OnOk result ((made : Step) × (given ≡ Ok made) × (new ≡ after_change (record { file = file; step = made }) old))
    → OnErr result (new ≡ after_failure old)
    → P (after_change (record { file = file; step = step }) old) → P (after_failure old) → P new
by_call P old new file step given (Ok x) is ok failed made none =
    subst P (sym (made_by_call file step given old new is ok)) made
by_call P old new file step given (Err e) is ok failed made none = subst P (sym failed) none

-- what a read gives of the file that changed
pub seen_of-change : (change : Change) (old : DiskState)
    → seen_of (after_change change old) change.file ≡ after (seen_of old change.file) change.step
seen_of-change change old =
    let first = bytes_of old.initial change.file in
    ap (after_all first) (steps_of-push old.past change)
    ∙ after_all-push first (steps_of change.file old.past) change.step

-- what a read gives of every other file
pub seen_of-other : (change : Change) (old : DiskState)
    → KeepsOthers change.file (seen_of old) (seen_of (after_change change old))
seen_of-other change old =
    λ other differ. ap (after_all (bytes_of old.initial other)) (steps_of-push_other old.past change other differ)

-- what a crash leaves of the file that changed came by the change
pub left_of-change : (change : Change) (old : DiskState) (now : List ℕ)
    → left_of (after_change change old) change.file now
    → (former : List ℕ) × left_of old change.file former × Leaves change.step (seen_of old change.file) former now
left_of-change change old now left =
    let first = bytes_of old.initial change.file in
    LeavesAfter-last first first (steps_of change.file old.past) change.step now (subst (λ steps. LeavesAfter first first steps now) (steps_of-push old.past change) left)

-- what a crash leaves of every other file
pub left_of-other : (change : Change) (old : DiskState)
    → KeepsOtherImages change.file (left_of old) (left_of (after_change change old))
left_of-other change old = λ other differ.
    let first = bytes_of old.initial other in
    let same = steps_of-push_other old.past change other differ in
    record {
      no_more = λ c left. subst (λ steps. LeavesAfter first first steps c) same left;
      no_fewer = λ c left. subst (λ steps. LeavesAfter first first steps c) (sym same) left;
    }

-- behind a sync a crash leaves what a read gives
pub Only-synced : (file : List ℕ) (old : DiskState)
    → Only (seen_of old file) (left_of (after_change (record { file = file; step = Synced }) old) file)
Only-synced file old = λ c left. (left_of-change (record { file = file; step = Synced }) old c left).2

-- the disk as it was at a moment up to now
earlier : (change : Change) (old : DiskState) (moment : ℕ) → moment ≤ moment_of old
    → left_of (at_moment moment (after_change change old)) ≡ left_of (at_moment moment old)
earlier change old moment so_far =
    ap (λ past. left_of (record old { past = past })) (take-append-le moment old.past (change ∷ []) so_far)

-- one more moment
moment_of-change : (change : Change) (old : DiskState) → moment_of (after_change change old) ≡ moment_of old + 1
moment_of-change change old = omega (arith, length-append old.past (change ∷ []))

-- the present moment behind a change
present : (change : Change) (old : DiskState) (moment : ℕ) → moment ≡ moment_of old + 1
    → left_of (at_moment moment (after_change change old)) ≡ left_of (after_change change old)
present change old moment is =
    ap (λ past. left_of (record old { past = past })) (take_all moment (old.past ++ change ∷ []) (omega (arith, moment_of-change change old)))

-- two numbers in order
pub le_or_lt : (a b : ℕ) → (a ≤ b) ⊎ (b < a)
le_or_lt a b = elim (leb_tells a b) [ inl is ↦ inl is.1 | inr is ↦ inr is.1 ]

-- a crash since then came before the change, or comes behind it
Elapses-change_or : (change : Change) (old : DiskState) (since : ℕ) (image : Image) → since ≤ moment_of old
    → left_since_of (after_change change old) since image
    → left_since_of old since image ⊎ IsImage (left_of (after_change change old)) image
Elapses-change_or change old since image so_far left =
    elim (le_or_lt left.0 (moment_of old)) [
      | inl was ↦ inl (left.0, left.1, was, subst (λ leaves. IsImage leaves image) (earlier change old left.0 was) left.3)
      | inr is ↦ inr (subst (λ leaves. IsImage leaves image) (present change old left.0 (omega (arith, left.2, moment_of-change change old))) left.3)
    ]

-- a crash that came before the change came still
Elapses-change_keeps : (change : Change) (old : DiskState) (since : ℕ) (image : Image) → since ≤ moment_of old
    → left_since_of old since image → left_since_of (after_change change old) since image
Elapses-change_keeps change old since image so_far left =
    (left.0, left.1, omega (arith, left.2, moment_of-change change old), subst (λ leaves. IsImage leaves image) (sym (earlier change old left.0 left.2)) left.3)

-- the moment behind the change is the only new one
pub Elapses-change : (change : Change) (old : DiskState)
    → Elapses (moment_of old) (left_since_of old) (left_since_of (after_change change old)) (left_of (after_change change old))
Elapses-change change old =
    record { nothing_else = Elapses-change_or change old; keeps = Elapses-change_keeps change old }

-- no time goes by where nothing changes
pub Elapses-none : (old : DiskState) → Elapses (moment_of old) (left_since_of old) (left_since_of old) (left_of old)
Elapses-none old =
    record { nothing_else = λ since image so_far left. inl left; keeps = λ since image so_far left. left }

-- where nothing changes a crash leaves what it left before
pub KeepsOtherImages-none : (file : List ℕ) (old : DiskState) → KeepsOtherImages file (left_of old) (left_of old)
KeepsOtherImages-none file old = λ other differ. record { no_more = λ c left. left; no_fewer = λ c left. left }

-- a write tears the file
pub Touches-write : (file : List ℕ) (at : ℕ) (bytes : List ℕ) (old : DiskState)
    → Touches file (IsTornWrite at bytes) (left_of old) (left_of (after_change (record { file = file; step = Wrote at bytes }) old))
Touches-write file at bytes old =
    record {
      this = left_of-change (record { file = file; step = Wrote at bytes }) old;
      others = left_of-other (record { file = file; step = Wrote at bytes }) old;
    }

-- a cut tears the file
pub Touches-cut : (file : List ℕ) (new_length : ℕ) (old : DiskState)
    → Touches file (IsTornCut new_length) (left_of old) (left_of (after_change (record { file = file; step = Cut new_length }) old))
Touches-cut file new_length old =
    record {
      this = left_of-change (record { file = file; step = Cut new_length }) old;
      others = left_of-other (record { file = file; step = Cut new_length }) old;
    }

-- a failed write leaves what was there
pub Touches-no_write : (file : List ℕ) (at : ℕ) (bytes : List ℕ) (old : DiskState)
    → Touches file (IsTornWrite at bytes) (left_of old) (left_of old)
Touches-no_write file at bytes old =
    record { this = λ c left. (c, left, IsTornWrite-none c at bytes); others = KeepsOtherImages-none file old }

-- a failed cut leaves what was there
pub Touches-no_cut : (file : List ℕ) (new_length : ℕ) (old : DiskState)
    → Touches file (IsTornCut new_length) (left_of old) (left_of old)
Touches-no_cut file new_length old =
    record { this = λ c left. (c, left, IsTornCut-none new_length c); others = KeepsOtherImages-none file old }

-- reads see the write
pub ChangesTo-write : (file : List ℕ) (at : ℕ) (bytes : List ℕ) (old : DiskState) → at ≤ length (seen_of old file)
    → ChangesTo file (written (seen_of old file) at bytes) (seen_of old) (seen_of (after_change (record { file = file; step = Wrote at bytes }) old))
ChangesTo-write file at bytes old within =
    record {
      this = seen_of-change (record { file = file; step = Wrote at bytes }) old ∙ cond-true _ _ _ (le-leb at (length (seen_of old file)) within);
      others = seen_of-other (record { file = file; step = Wrote at bytes }) old;
    }

-- reads see the cut
pub ChangesTo-cut : (file : List ℕ) (new_length : ℕ) (old : DiskState)
    → ChangesTo file (take new_length (seen_of old file)) (seen_of old) (seen_of (after_change (record { file = file; step = Cut new_length }) old))
ChangesTo-cut file new_length old =
    record {
      this = seen_of-change (record { file = file; step = Cut new_length }) old;
      others = seen_of-other (record { file = file; step = Cut new_length }) old;
    }

-- a sync changes nothing that reads see
seen_of-synced_each : (file : List ℕ) (old : DiskState) (other : List ℕ)
    → seen_of (after_change (record { file = file; step = Synced }) old) other ≡ seen_of old other
seen_of-synced_each file old =
    every_file (λ other. seen_of (after_change (record { file = file; step = Synced }) old) other ≡ seen_of old other) file (seen_of-change (record { file = file; step = Synced }) old) (seen_of-other (record { file = file; step = Synced }) old)

-- so reads are the same
pub seen_of-synced : (file : List ℕ) (old : DiskState)
    → seen_of (after_change (record { file = file; step = Synced }) old) ≡ seen_of old
seen_of-synced file old = λ i other. seen_of-synced_each file old other i

-- the files follow the record
pub Agrees-push : (initial : List File) (past : List Change) (change : Change) (before now : List File)
    → Agrees initial past before
    → ChangesTo change.file (after (bytes_of before change.file) change.step) (bytes_of before) (bytes_of now)
    → Agrees initial (past ++ change ∷ []) now
Agrees-push initial past change before now agrees changes =
    every_file (λ file. bytes_of now file ≡ after_all (bytes_of initial file) (steps_of file (past ++ change ∷ []))) change.file
    (changes.this ∙ ap (λ seen. after seen change.step) (agrees change.file)
    ∙ sym (ap (after_all (bytes_of initial change.file)) (steps_of-push past change) ∙ after_all-push (bytes_of initial change.file) (steps_of change.file past) change.step))
    (λ other differ. changes.others other differ ∙ agrees other ∙ sym (ap (after_all (bytes_of initial other)) (steps_of-push_other past change other differ)))
