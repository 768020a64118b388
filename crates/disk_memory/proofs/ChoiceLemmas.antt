-- What the number of a crash chooses counts among what a crash may leave. This project's own.
use Rattle.std.proofs.Common.{◌≡◌, inl, inr, ℕ, zero, suc, ◌+◌, ◌-◌, ◌%◌, ◌<◌, ◌≤◌, Bool, true, false, cond, List, [], ◌∷◌, ◌++◌, length, take, drop, replicate, None, Some, slice_get, slice_index_or, get_or, nat_le, bytes_eq, refl, sym, ap, ◌∙◌, arith, length-take, length-append, append-nil}
use Rattle.std.proofs.lemmas.List.{take_at, take_more, take-take, drop-drop, length-replicate, nil_from_length}
use Rattle.std.proofs.lemmas.Bool.{cond-true, leb-true, le-leb}
use Rattle.std.proofs.lemmas.Bool.Decides.{nat_tests}
use Rattle.kdb_outside.specs.Files.{written}
use Rattle.kdb_outside.specs.Images.{IsTornWrite, IsTornCut}
use Rattle.kdb_outside.proofs.SteadyBytes.{slice_get-take, slice_get-drop, same_behind}
use Rattle.kdb_outside.proofs.TornLemmas.{slice_get-written, IsTornWrite-whole, IsTornWrite-none, IsTornCut-whole, IsTornCut-none}
use Rattle.disk_memory.specs.declared.changes.Change.{Change}
use Rattle.disk_memory.specs.declared.changes.Step.{Step}
use Rattle.disk_memory.specs.declared.changes.Step.TheVariants.{Wrote, Cut, Synced}
use Rattle.disk_memory.specs.declared.torn.Choice.{Choice}
use Rattle.disk_memory.specs.declared.torn.Way.{Way}
use Rattle.disk_memory.specs.declared.torn.Way.TheVariants.{Out, Whole, Torn}
use Rattle.disk_memory.specs.Choices.{drawn, way, torn_byte, torn_bytes, kept_of_write, kept_of_cut, torn_write, torn_cut, write_by_way, left_of_write, cut_by_way, left_of_step, left_along}
use Rattle.disk_memory.specs.Steps.{steps_of, after, after_all, Leaves, LeavesAfter, sure_after, synced}
use Rattle.disk_memory.proofs.ChangeLemmas.{le_or_lt}

-- no byte is not some byte
none_is_not_some : (y : ℕ) → None ≡ Some y → ⊥
none_is_not_some y e = cc

-- a byte that was written over with itself
torn_byte-same : (number former byte : ℕ) → Some former ≡ Some byte → torn_byte number former byte ≡ former
torn_byte-same number former byte same = grind (arith, nat_tests)

-- as many bytes are torn as were written
pub length-torn_bytes : (choice : Choice) (place : ℕ) (former bytes : List ℕ)
    → length (torn_bytes choice place former bytes) ≡ length bytes
length-torn_bytes choice place former [] = refl
length-torn_bytes choice place former (byte ∷ bytes) =
    ap suc (length-torn_bytes choice (place + 1) (drop 1 former) bytes)

-- torn bytes that were written over with themselves
torn_bytes-same : (choice : Choice) (place : ℕ) (former bytes : List ℕ) (i : ℕ) → i < length bytes
    → slice_get former i ≡ slice_get bytes i
    → slice_get (torn_bytes choice place former bytes) i ≡ slice_get former i
torn_bytes-same choice place former [] i within same = absurd (omega arith)
torn_bytes-same choice place [] (byte ∷ bytes) zero within same = absurd (none_is_not_some byte same)
torn_bytes-same choice place (x ∷ former) (byte ∷ bytes) zero within same =
    ap Some (torn_byte-same (drawn choice place) x byte same)
torn_bytes-same choice place [] (byte ∷ bytes) (suc i) within same =
    torn_bytes-same choice (place + 1) [] bytes i (omega arith) same
torn_bytes-same choice place (x ∷ former) (byte ∷ bytes) (suc i) within same =
    torn_bytes-same choice (place + 1) former bytes i (omega arith) same

-- two numbers in order
-- a write of fewer bytes, which are any but where they were written over with themselves
IsTornWrite-piece : (at : ℕ) (bytes piece former : List ℕ) → at ≤ length former → length piece ≤ length bytes
    → ((i : ℕ) → i < length piece → slice_get former (at + i) ≡ slice_get bytes i → slice_get piece i ≡ slice_get former (at + i))
    → IsTornWrite at bytes former (written former at piece)
IsTornWrite-piece at bytes piece former within fewer kept =
    let whole = IsTornWrite-whole former at piece within in
    let more = length bytes - length piece in
    let reach : at + length bytes ≡ at + length piece + more = omega arith in
    record {
      front = whole.front;
      back =
          ap (λ n. drop n (written former at piece)) reach
          ∙ sym (drop-drop more (at + length piece) (written former at piece)) ∙ ap (drop more) whole.back
          ∙ drop-drop more (at + length piece) former ∙ sym (ap (λ n. drop n former) reach);
      no_shorter = whole.no_shorter;
      no_longer = omega (arith, whole.no_longer);
      same = λ i inside was. elim (le_or_lt (length piece) i) [
        | inl behind ↦ same_behind (written former at piece) former (at + length piece) (at + i) whole.back (omega arith)
        | inr there ↦ slice_get-written former at piece i within there ∙ kept i there was
      ];
    }

-- a torn write
IsTornWrite-torn : (choice : Choice) (at : ℕ) (bytes former : List ℕ) → at ≤ length former
    → IsTornWrite at bytes former (torn_write choice at bytes former)
IsTornWrite-torn choice at bytes former within =
    let kept = kept_of_write choice at (length bytes) (length former) in
    let count = length-torn_bytes choice at (drop at former) (take kept bytes) in
    IsTornWrite-piece at bytes (torn_bytes choice at (drop at former) (take kept bytes)) former within (omega (arith, count, length-take kept bytes))
    (λ i inside was.
    let fewer : i < length (take kept bytes) = omega (arith, count) in
    let there = slice_get-drop former at i (at + i) refl in
    let here = slice_get-take bytes kept i (omega (arith, length-take kept bytes)) in
    torn_bytes-same choice at (drop at former) (take kept bytes) i fewer (there ∙ was ∙ sym here) ∙ there)

-- a cut that leaves some of the bytes past its length
IsTornCut-end : (new_length : ℕ) (end former : List ℕ) → length end ≤ length former - new_length
    → IsTornCut new_length former (take new_length former ++ end)
IsTornCut-end new_length end former few =
    let there = length-take new_length former in
    let both = length-append (take new_length former) end in
    record {
      front = elim (le_or_lt new_length (length former)) [
        | inl within ↦ take_at (take new_length former) end new_length (omega (arith, there))
        | inr past ↦
            let none = nil_from_length end (omega arith) in
            ap (λ e. take new_length (take new_length former ++ e)) none
            ∙ ap (take new_length) (append-nil (take new_length former))
            ∙ take-take new_length new_length former (omega arith)
      ];
      no_shorter = omega (arith, there, both);
      no_longer = omega (arith, there, both);
    }

-- a number below a bound
below : (n most : ℕ) → n % (most + 1) ≤ most
below n most = omega arith

-- a torn cut
IsTornCut-torn : (choice : Choice) (new_length : ℕ) (former : List ℕ)
    → IsTornCut new_length former (torn_cut choice new_length former)
IsTornCut-torn choice new_length former =
    let kept = kept_of_cut choice new_length (length former) in
    let zeros = replicate kept 0 in
    IsTornCut-end new_length (torn_bytes choice new_length (drop new_length former) zeros) former
    (omega (arith, length-torn_bytes choice new_length (drop new_length former) zeros, length-replicate {A = ℕ} kept 0, below (drawn choice new_length) (length former - new_length)))

write_by_way-torn : (w : Way) (choice : Choice) (at : ℕ) (bytes former : List ℕ) → at ≤ length former
    → IsTornWrite at bytes former (write_by_way w choice at bytes former)
write_by_way-torn Out choice at bytes former within = IsTornWrite-none former at bytes
write_by_way-torn Whole choice at bytes former within = IsTornWrite-whole former at bytes within
write_by_way-torn Torn choice at bytes former within = IsTornWrite-torn choice at bytes former within

left_of_write-torn : (choice : Choice) (at : ℕ) (bytes former : List ℕ) (b : Bool) → (b ≡ true → at ≤ length former)
    → IsTornWrite at bytes former (cond b (write_by_way (way choice) choice at bytes former) former)
left_of_write-torn choice at bytes former true within =
    write_by_way-torn (way choice) choice at bytes former (within refl)
left_of_write-torn choice at bytes former false within = IsTornWrite-none former at bytes

cut_by_way-torn : (w : Way) (choice : Choice) (new_length : ℕ) (former : List ℕ)
    → IsTornCut new_length former (cut_by_way w choice new_length former)
cut_by_way-torn Out choice new_length former = IsTornCut-none new_length former
cut_by_way-torn Whole choice new_length former = IsTornCut-whole new_length former
cut_by_way-torn Torn choice new_length former = IsTornCut-torn choice new_length former

-- what is chosen of a step may be left behind it
left_of_step-leaves : (choice : Choice) (step : Step) (seen former : List ℕ)
    → Leaves step seen former (left_of_step choice step seen former)
left_of_step-leaves choice (Wrote at bytes) seen former =
    left_of_write-torn choice at bytes former (nat_le at (length former)) (leb-true at (length former))
left_of_step-leaves choice (Cut new_length) seen former = cut_by_way-torn (way choice) choice new_length former
left_of_step-leaves choice Synced seen former = refl

one_way : (b : Bool) (bytes : List ℕ) → cond b bytes bytes ≡ bytes
one_way true bytes = refl
one_way false bytes = refl

-- 0 chooses what is sure behind a step
left_of_step-sure : (count : ℕ) (step : Step) (seen former : List ℕ)
    → left_of_step (record { number = 0; step = count }) step seen former ≡ sure_after step seen former
left_of_step-sure count (Wrote at bytes) seen former = one_way (nat_le at (length former)) former
left_of_step-sure count (Cut new_length) seen former = refl
left_of_step-sure count Synced seen former = refl

-- 1 chooses what a read gives behind a step
left_of_step-whole : (count : ℕ) (step : Step) (seen : List ℕ)
    → left_of_step (record { number = 1; step = count }) step seen seen ≡ after seen step
left_of_step-whole count (Wrote at bytes) seen = refl
left_of_step-whole count (Cut new_length) seen = refl
left_of_step-whole count Synced seen = refl

-- a fact that holds either way
either_way : (P : Bool → Type 0) → P true → P false → (b : Bool) → P b
either_way P there else_there true = there
either_way P there else_there false = else_there

-- what is chosen behind all changes may be left behind the steps of the file
pub left_along-leaves : (number : ℕ) (file : List ℕ) (count : ℕ) (seen former : List ℕ) (past : List Change)
    → LeavesAfter seen former (steps_of file past) (left_along number file count seen former past)
left_along-leaves number file count seen former [] = refl
left_along-leaves number file count seen former (change ∷ rest) =
    let next = left_of_step (record { number = number; step = count }) change.step seen former in
    either_way (λ b. LeavesAfter seen former (cond b (change.step ∷ steps_of file rest) (steps_of file rest))
    (cond b (left_along number file (count + 1) (after seen change.step) next rest) (left_along number file (count + 1) seen former rest)))
    (next, left_of_step-leaves (record { number = number; step = count }) change.step seen former, left_along-leaves number file (count + 1) (after seen change.step) next rest)
    (left_along-leaves number file (count + 1) seen former rest) (bytes_eq change.file file)

-- 0 chooses what was synced
pub left_along-sure : (file : List ℕ) (count : ℕ) (seen sure : List ℕ) (past : List Change)
    → left_along 0 file count seen sure past ≡ synced seen sure (steps_of file past)
left_along-sure file count seen sure [] = refl
left_along-sure file count seen sure (change ∷ rest) =
    let next = left_of_step (record { number = 0; step = count }) change.step seen sure in
    either_way (λ b. cond b (left_along 0 file (count + 1) (after seen change.step) next rest) (left_along 0 file (count + 1) seen sure rest)
    ≡ synced seen sure (cond b (change.step ∷ steps_of file rest) (steps_of file rest)))
    (ap (λ left. left_along 0 file (count + 1) (after seen change.step) left rest) (left_of_step-sure count change.step seen sure)
    ∙ left_along-sure file (count + 1) (after seen change.step) (sure_after change.step seen sure) rest)
    (left_along-sure file (count + 1) seen sure rest) (bytes_eq change.file file)

-- 1 chooses what a read gives
pub left_along-whole : (file : List ℕ) (count : ℕ) (seen : List ℕ) (past : List Change)
    → left_along 1 file count seen seen past ≡ after_all seen (steps_of file past)
left_along-whole file count seen [] = refl
left_along-whole file count seen (change ∷ rest) =
    let next = left_of_step (record { number = 1; step = count }) change.step seen seen in
    either_way (λ b. cond b (left_along 1 file (count + 1) (after seen change.step) next rest) (left_along 1 file (count + 1) seen seen rest)
    ≡ after_all seen (cond b (change.step ∷ steps_of file rest) (steps_of file rest)))
    (ap (λ left. left_along 1 file (count + 1) (after seen change.step) left rest) (left_of_step-whole count change.step seen)
    ∙ left_along-whole file (count + 1) (after seen change.step) rest)
    (left_along-whole file (count + 1) seen rest) (bytes_eq change.file file)

-- the crash goes on over the change that comes next
pub left_along-push : (number : ℕ) (file : List ℕ) (count next : ℕ) (seen left : List ℕ) (past : List Change)
    (change : Change) → next ≡ count + length past
    → left_along number file count seen left (past ++ change ∷ [])
    ≡ cond (bytes_eq change.file file)
    (left_of_step (record { number = number; step = next }) change.step (after_all seen (steps_of file past)) (left_along number file count seen left past))
    (left_along number file count seen left past)
left_along-push number file count next seen left [] change is =
    ap (λ n. cond (bytes_eq change.file file) (left_of_step (record { number = number; step = n }) change.step seen left) left) (omega arith)
left_along-push number file count next seen left (first ∷ past) change is =
    let behind = left_of_step (record { number = number; step = count }) first.step seen left in
    either_way (λ b. cond b (left_along number file (count + 1) (after seen first.step) behind (past ++ change ∷ [])) (left_along number file (count + 1) seen left (past ++ change ∷ []))
    ≡ cond (bytes_eq change.file file)
    (left_of_step (record { number = number; step = next }) change.step (after_all seen (cond b (first.step ∷ steps_of file past) (steps_of file past)))
    (cond b (left_along number file (count + 1) (after seen first.step) behind past) (left_along number file (count + 1) seen left past)))
    (cond b (left_along number file (count + 1) (after seen first.step) behind past) (left_along number file (count + 1) seen left past)))
    (left_along-push number file (count + 1) next (after seen first.step) behind past change (omega arith))
    (left_along-push number file (count + 1) next seen left past change (omega arith)) (bytes_eq first.file file)

-- the byte at a place behind the first
later_byte : (bytes : List ℕ) (i : ℕ) → slice_index_or (drop 1 bytes) i 0 ≡ slice_index_or bytes (suc i) 0
later_byte [] i = refl
later_byte (byte ∷ bytes) i = refl

-- one more byte is torn
pub torn_bytes-push : (choice : Choice) (place next : ℕ) (former bytes : List ℕ) (byte : ℕ)
    → next ≡ place + length bytes
    → torn_bytes choice place former (bytes ++ byte ∷ [])
    ≡ torn_bytes choice place former bytes ++ torn_byte (drawn choice next) (slice_index_or former (length bytes) 0) byte ∷ []
torn_bytes-push choice place next former [] byte is =
    ap (λ n. torn_byte (drawn choice n) (slice_index_or former 0 0) byte ∷ []) (omega arith)
torn_bytes-push choice place next former (first ∷ bytes) byte is =
    ap (λ torn. torn_byte (drawn choice place) (slice_index_or former 0 0) first ∷ torn)
    (torn_bytes-push choice (place + 1) next (drop 1 former) bytes byte (omega arith)
    ∙ ap (λ x. torn_bytes choice (place + 1) (drop 1 former) bytes ++ torn_byte (drawn choice next) x byte ∷ []) (later_byte former (length bytes)))

-- the bytes so far, and one more
pub torn_bytes-more : (choice : Choice) (place : ℕ) (former bytes so_far next : List ℕ) (i value : ℕ) → i < length bytes
    → next ≡ so_far ++ value ∷ [] → so_far ≡ torn_bytes choice place former (take i bytes)
    → value ≡ torn_byte (drawn choice (place + i)) (slice_index_or former i 0) (get_or bytes i 0)
    → next ≡ torn_bytes choice place former (take (i + 1) bytes)
torn_bytes-more choice place former bytes so_far next i value within pushed torn is =
    let count : length (take i bytes) ≡ i = omega (arith, length-take i bytes) in
    let byte = get_or bytes i 0 in
    pushed ∙ ap (λ l. l ++ value ∷ []) torn
    ∙ ap (λ v. torn_bytes choice place former (take i bytes) ++ v ∷ []) (is ∙ ap (λ k. torn_byte (drawn choice (place + i)) (slice_index_or former k 0) byte) (sym count))
    ∙ sym (torn_bytes-push choice place (place + i) former (take i bytes) byte (omega (arith, count)))
    ∙ ap (torn_bytes choice place former) (sym (take_more bytes i 0 within))

-- what is left of a write that begins within the content
pub left_of_write-within : (choice : Choice) (at : ℕ) (bytes content : List ℕ) (w : Way) → at ≤ length content
    → w ≡ way choice → write_by_way w choice at bytes content ≡ left_of_write choice at bytes content
left_of_write-within choice at bytes content w within is =
    ap (λ x. write_by_way x choice at bytes content) is ∙ sym (cond-true _ _ _ (le-leb at (length content) within))
