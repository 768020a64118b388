-- What the closed lock and the closed core give together.
use Rattle.std.proofs.Common.{◌≡◌, ◌≢◌, ◌⊎◌, inl, inr, ℕ, zero, suc, ◌+◌, ◌-◌, ◌<◌, ◌≤◌, Bool, true, false, cond, nat_lt, All, List, [], ◌∷◌, ◌++◌, length, drop, slice_get, Some, refl, sym, ap, subst, ◌∙◌, ne_eqb, ltb-true, ltb-false, arith, length-append}
use Rattle.std.proofs.lemmas.List.Elements.{All-nil, All-cons, All-head, All-tail, All-append}
use mathlib.Core.List.{IsPrefix}
use Rattle.std.specs.Coded.{Coded}
use Rattle.general_words.proofs.Lists.{some_is}
use Rattle.kdb_outside.specs.Crashes.{EveryImage}
use Rattle.kdb_outside.specs.Faults.{HasRisen}
use Rattle.kdb_outside.specs.Frames.{GoesOn}
use Rattle.kdb_outside.specs.declared.disks.Disk.{Ghosts}
use Rattle.kdb_outside.proofs.Rises.{risen_since}
use Rattle.kdb_outside.proofs.Frames.{GoesOn-then}
use Rattle.intent_journal.specs.Journal.{JournalValue}
use Rattle.journal_steps.specs.Moments.{LeavesOnly}
use Rattle.intent_journal.specs.Opened.{IsFresh}
use Rattle.intent_journal.specs.Outcomes.{HasOnly}
use Rattle.journal_steps.specs.Outcomes.{SameFiles, IsEither}
use Rattle.intent_journal.specs.States.{IsCalm}
use Rattle.kdb_handle.specs.Closing.{IsClosed}
use Rattle.kdb_handle.specs.Datums.{coded_journal}
use Rattle.kdb_handle.specs.Handles.{HandleValue}
use Rattle.kdb_handle.specs.Opened.{opening_in, store_at}
use Rattle.kdb_handle.specs.Rising.{HasRisenBy}
use Rattle.kdb_handle.specs.Runs.{RunsBy}
use Rattle.kdb_handle.specs.Shares.{IsShared}
use Rattle.kdb_handle.specs.Story.{Told, Opening, Opened, maker_of, commits_of, failures_in, refusals_in}
use Rattle.kdb_handle.specs.Stores.{IsHandle, IsStarted, seat_of, seats_back}
use Rattle.kdb_handle.proofs.RunLemmas.{comes-to, risen-still}
use Rattle.kdb_handle.proofs.SeatLemmas.{AreUnused}
use Rattle.model_crashes.specs.Runs.{Run, files_of, IsReached}
use Rattle.model_files.specs.Files.{table_files}
use Rattle.model_store.specs.Legal.{IsLegal}
use Rattle.model_store.specs.Store.{Formats}
use Rattle.mounted_files.specs.Visible.{visible_keys}
use Rattle.mounted_files.specs.declared.files.MountedFile.{MountedFile}
use Rattle.seat_lock.specs.Known.{Known, Place, knowledge}
use Rattle.seat_lock.specs.Story.{made_by}
use Rattle.seat_lock.proofs.Dealing.{all-left}
use Rattle.store_core.specs.declared.closing.Closed.{Closed}
use Rattle.store_core.specs.declared.cores.Core.{Core}
use Rattle.store_core.specs.declared.cores.Plan.{Plan}
use Rattle.store_phases.specs.Stores.{IsStore}

-- ---- of all seats

module _ {A : Type 0} (P : A → Type 0) where
  all-behind : (xs ys : List A) → All P (xs ++ ys) → All P ys
  all-behind [] ys all = all
  all-behind (x ∷ xs) ys all = all-behind xs ys (All-tail P x (xs ++ ys) all)

  all-at : (xs ys : List A) (k : ℕ) (x : A) → All P (xs ++ ys) → slice_get xs k ≡ Some x → P x
  all-at [] ys k x all is = absurd cc
  all-at (y ∷ xs) ys zero x all is = subst P (some_is y x is) (All-head P y (xs ++ ys) all)
  all-at (y ∷ xs) ys (suc k) x all is = all-at xs ys k x (All-tail P y (xs ++ ys) all) is

all-of-back : (P : Known Told → Type 0) (handles : List HandleValue) → All P (seats_back handles)
    → All (λ handle. P (seat_of handle)) handles
all-of-back P [] all = All-nil (λ handle. P (seat_of handle))
all-of-back P (handle ∷ handles) all =
    All-cons (λ h. P (seat_of h)) handle handles (All-head P (seat_of handle) [] (all-behind P (seats_back handles) (seat_of handle ∷ []) all)) (all-of-back P handles (all-left P (seats_back handles) (seat_of handle ∷ []) all))

pub length-back : (handles : List HandleValue) → length (seats_back handles) ≡ length handles
length-back [] = refl
length-back (handle ∷ handles) =
    let rest = length-back handles in omega (arith, length-append (seats_back handles) (seat_of handle ∷ []))

-- where a seat is left to be moved, there is room for it
pub room_left : (free seats : List (Known Told)) (all left moved new : List HandleValue) (handle : HandleValue)
    (len room first_room : ℕ) → len ≡ length seats → seats ≡ free ++ seats_back moved → all ≡ left ++ moved
    → left ≡ new ++ handle ∷ []
    → length all + length free ≤ first_room → room ≡ first_room → len < room
room_left free seats all left moved new handle len room first_room len_is seats_are all_are left_are enough same =
    let a = ap (λ (l : List (Known Told)). length l) seats_are in
    let b = length-append free (seats_back moved) in
    let c = ap (λ (l : List HandleValue). length l) all_are in
    let d = length-append left moved in
    let e = ap (λ (l : List HandleValue). length l) left_are in
    let f = length-append new (handle ∷ []) in
    let h = length-back moved in
    omega arith

all-each : (P : Known Told → Type 0) (seats : List (Known Told))
    → ((k : ℕ) → k < length seats → (seat : Known Told) × (slice_get seats k ≡ Some seat) × P seat) → All P seats
all-each P [] each = All-nil P
all-each P (seat ∷ seats) each =
    let first = each 0 (omega arith) in
    All-cons P seat seats (subst P (sym (some_is seat first.0 first.1)) first.2) (all-each P seats (λ k lt. each (suc k) (omega arith)))

-- all seats are the lock's
pub all_places : {F : Type 0} (lock : Place Told) (plan : Plan F) (free : List (Known Told))
    (handles : List HandleValue) → AreUnused lock free → All (IsHandle lock plan) handles
    → All (λ seat. seat.place ≡ lock.place) (free ++ seats_back handles)
all_places lock plan free handles unused are =
    All-append (λ (seat : Known Told). seat.place ≡ lock.place) free (seats_back handles)
    (all-each (λ (seat : Known Told). seat.place ≡ lock.place) free
    (λ k lt. let at = unused.each k lt in (knowledge lock.place (lock.seats - length free + k + 1) at.0 [], at.1, refl))) (back handles are)
  where
    back : (hs : List HandleValue) → All (IsHandle lock plan) hs → All (λ seat. seat.place ≡ lock.place) (seats_back hs)
    back [] all = All-nil (λ (seat : Known Told). seat.place ≡ lock.place)
    back (h ∷ hs) all =
        All-append (λ (seat : Known Told). seat.place ≡ lock.place) (seats_back hs) (seat_of h ∷ []) (back hs (All-tail (IsHandle lock plan) h hs all))
        (All-cons (λ (seat : Known Told). seat.place ≡ lock.place) (seat_of h) [] (All-head (IsHandle lock plan) h hs all).place (All-nil (λ (seat : Known Told). seat.place ≡ lock.place)))

pub all_counted : (lock : Place Told) (free seats : List (Known Told)) (handles : List HandleValue)
    → seats ≡ free ++ seats_back handles → length handles + length free ≡ lock.seats → length seats ≡ lock.seats
all_counted lock free seats handles are all =
    let a = ap (λ (l : List (Known Told)). length l) are in let b = length-append free (seats_back handles) in let c = length-back handles in omega arith

-- ---- the story's first entry

-- nobody's entries are the opening alone, so the story begins with the lock's
first_is : (opening other : Opening) (rest : List Told) → made_by maker_of 0 (Opened opening ∷ rest) ≡ Opened other ∷ []
    → opening ≡ other
first_is opening other rest is = ap opening_in is

nobody_else : (opening other : Opening) (rest : List Told)
    → made_by maker_of 0 (Opened opening ∷ rest) ≡ Opened other ∷ [] → made_by maker_of 0 rest ≡ []
nobody_else opening other rest is = ap (drop 1) is

others_made : (number : ℕ) (opening : Opening) (rest : List Told) → number ≢ 0
    → made_by maker_of number (Opened opening ∷ rest) ≡ made_by maker_of number rest
others_made number opening rest ne =
    ap (λ (b : Bool). cond b (Opened opening ∷ made_by maker_of number rest) (made_by maker_of number rest)) (ne_eqb 0 number (λ e. ne (sym e)))

module _ {D P : Type 0} (formats : Formats) (g : Ghosts D) (code : Coded D) (refused : P → ℕ) {F : Type 0} (lock : Place Told) (plan : Plan F) (started : IsStarted lock plan) (free : List (Known Told))
    (unused : AreUnused lock free) (handles : List HandleValue) (core : Core D P) (entries : ℕ) where
  abbrev all_seats : List (Known Told)
  all_seats = free ++ seats_back handles

  module _ (log : List Told) (shared : IsShared formats g code refused core entries log) (own : All (λ seat. made_by maker_of seat.number log ≡ seat.own) all_seats) (first : made_by maker_of 0 log ≡ lock.start)
      (others : (number : ℕ) → lock.seats < number → made_by maker_of number log ≡ []) where
    begun : made_by maker_of 0 (Opened shared.opening ∷ shared.rest) ≡ Opened (opening_in lock.start) ∷ []
    begun = sym (ap (made_by maker_of 0) shared.log_is) ∙ first ∙ started.start

    pub opening_is : shared.opening ≡ opening_in lock.start
    opening_is = first_is shared.opening (opening_in lock.start) shared.rest begun

    pub whole : log ≡ Opened (opening_in lock.start) ∷ shared.rest
    whole = shared.log_is ∙ ap (λ (o : Opening). Opened o ∷ shared.rest) opening_is

    pub files_are : shared.opening.files ≡ plan.mounted
    files_are = ap (λ (o : Opening). o.files) opening_is ∙ started.files

    -- a number that no handle has made nothing
    free_made : (given number : ℕ) → given + length free ≡ lock.seats → given < number → number ≤ lock.seats
        → made_by maker_of number log ≡ []
    free_made given number all more some =
        let at = unused.each (number - given - 1) (omega arith) in
        let same : lock.seats - length free + (number - given - 1) + 1 ≡ number = omega arith in
        all-at (λ (seat : Known Told). made_by maker_of seat.number log ≡ seat.own) free (seats_back handles) (number - given - 1) (knowledge lock.place number at.0 []) own
        (at.1 ∙ ap (λ n. Some (knowledge lock.place n at.0 [])) same)

    pub only_handles : (number : ℕ) → length handles + length free ≡ lock.seats
        → (number ≡ 0) ⊎ (length handles < number) → made_by maker_of number shared.rest ≡ []
    only_handles number all (inl none) =
        subst (λ n. made_by maker_of n shared.rest ≡ []) (sym none) (nobody_else shared.opening (opening_in lock.start) shared.rest begun)
    only_handles number all (inr more) =
        sym (others_made number shared.opening shared.rest (λ e. omega (arith, e)))
        ∙ sym (ap (made_by maker_of number) shared.log_is) ∙ by (nat_lt lock.seats number) refl
      where
        by : (b : Bool) → nat_lt lock.seats number ≡ b → made_by maker_of number log ≡ []
        by true lt = others number (ltb-true lock.seats number lt)
        by false le = free_made (length handles) number all more (ltb-false lock.seats number le)

    module _ (seen : All (λ seat. IsPrefix seat.seen log) all_seats) (closed : Closed D P) (journal : JournalValue D) (journal_is : (opening_in lock.start).journal ≡ (coded_journal code).code journal) where
      seen_by : All (λ handle. IsPrefix handle.seen (Opened (opening_in lock.start) ∷ shared.rest)) handles
      seen_by =
          subst (λ (l : List Told). All (λ (handle : HandleValue). IsPrefix handle.seen l) handles) whole
          (all-of-back (λ (seat : Known Told). IsPrefix seat.seen log) handles (all-behind (λ (seat : Known Told). IsPrefix seat.seen log) free (seats_back handles) seen))

      own_by : All (λ handle. made_by maker_of handle.number (Opened (opening_in lock.start) ∷ shared.rest) ≡ handle.own) handles
      own_by =
          subst (λ (l : List Told). All (λ (handle : HandleValue). made_by maker_of handle.number l ≡ handle.own) handles) whole
          (all-of-back (λ (seat : Known Told). made_by maker_of seat.number log ≡ seat.own) handles (all-behind (λ (seat : Known Told). made_by maker_of seat.number log ≡ seat.own) free (seats_back handles) own))

      same_journal : shared.journal ≡ journal
      same_journal =
          (coded_journal code).inj shared.journal journal (sym shared.journal_is ∙ ap (λ (o : Opening). o.journal) opening_is ∙ journal_is)

      pub closed_so : length handles + length free ≡ lock.seats → closed.history ≡ core.history
          → closed.patterns ≡ core.patterns
          → (core.wrote ≡ false → IsFresh core.journal → closed.disk ≡ core.journal.disk)
          → ((start : D) (run : Run) → IsStore g start core.journal run → ¬ HasRisen (g.faults core.journal.disk) (g.faults closed.disk) → SameFiles (g.seen closed.disk) (files_of run))
          → ((start : D) (run : Run) → IsStore g start core.journal run → ¬ HasRisen run.faults (g.faults closed.disk) → IsCalm (g.seen closed.disk) (g.may_leave closed.disk) (files_of run) run.doubt)
          → ((start : D) (run : Run) → IsStore g start core.journal run → LeavesOnly g start closed.disk (IsReached run.files run.commits run.begun))
          → ((start : D) (run : Run) → IsStore g start core.journal run → EveryImage (g.may_leave closed.disk) (HasOnly (IsEither (files_of run) run.doubt)))
          → GoesOn g core.journal.disk closed.disk
          → IsClosed formats g refused plan.mounted journal (opening_in lock.start) (length handles) handles closed
      closed_so all history patterns left_alone shown calm always now goes = record {
        rest = shared.rest;
        seen = seen_by;
        own = own_by;
        only = λ number. only_handles number all;
        history = ap (λ h. h.commits) history ∙ shared.history;
        legal = subst (λ (fs : List MountedFile). IsLegal formats (store_at fs) (commits_of shared.rest)) files_are shared.legal;
        goes = subst (λ (j : JournalValue D). GoesOn g j.disk closed.disk) same_journal (GoesOn-then g shared.journal.disk core.journal.disk closed.disk shared.goes goes);
        faults =
            subst (λ (j : JournalValue D). HasRisenBy (failures_in shared.rest) (g.faults j.disk) (g.faults closed.disk)) same_journal
            (risen-still (failures_in shared.rest) (g.faults shared.journal.disk) (g.faults core.journal.disk) (g.faults closed.disk) shared.faults goes.later);
        refusals =
            subst (λ (o : Opening). HasRisenBy (refusals_in shared.rest) o.refusals (refused closed.patterns)) opening_is
            (subst (λ (p : P). HasRisenBy (refusals_in shared.rest) shared.opening.refusals (refused p)) (sym patterns) shared.refusals);
        left_alone = λ none unwritten fresh.
            let idle = shared.idle none (ap (λ (j : JournalValue D). j.list) same_journal ∙ fresh.1) in
            let same : core.journal ≡ journal = idle.0 ∙ same_journal in
            left_alone (idle.1 ∙ ap (λ (o : Opening). o.wrote) opening_is ∙ unwritten) (subst (λ (j : JournalValue D). IsFresh j) (sym same) fresh) ∙ ap (λ (j : JournalValue D). j.disk) same;
        disk = λ start first names stands.
            let before = shared.run start first (names ∙ ap (λ (fs : List MountedFile). table_files (store_at fs)) (sym files_are)) (subst (λ (j : JournalValue D). IsStore g start j first) (sym same_journal) stands) in
            record {
              last = before.0;
              by_story = subst (λ (fs : List MountedFile). RunsBy formats (store_at fs) (visible_keys fs) first shared.rest before.0) files_are before.1;
              any_moment = always start before.0 before.2;
              now = now start before.0 before.2;
              calm = λ none. calm start before.0 before.2
                  (λ rose. none (subst (λ n. HasRisen n (g.faults closed.disk)) (comes-to formats (store_at shared.opening.files) (visible_keys shared.opening.files) first before.0 shared.rest before.1).faults rose));
              shown = λ none. shown start before.0 before.2
                  (λ rose. none (risen_since (g.faults journal.disk) (g.faults core.journal.disk) (g.faults closed.disk) (subst (λ (j : JournalValue D). g.faults j.disk ≤ g.faults core.journal.disk) same_journal shared.goes.later) rose));
            };
      }
