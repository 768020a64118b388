-- One phase: rooms go out, steps are taken, rooms come back, and all handles meet.
use Rattle.std.proofs.Common.{◌≡◌, ℕ, ◌<◌, ◌≤◌, List, [], length, get_or, map, sym, ap, subst, ◌∙◌, arith}
use Rattle.std.proofs.lemmas.List.{get_or-map, length-map, same_lists}
use Rattle.std.specs.Global.{Vec}
use mathlib.Core.List.{IsPrefix}
use Rattle.general_words.proofs.Places.{there_is}
use Rattle.batch_run.specs.Going.{IsExchanged, IsThrough, Meets, Works, count_seen}
use Rattle.batch_run.specs.Rooms.{HaveRoom, IsRoom, told_in}
use Rattle.batch_run.specs.Workers.{IsResting, number_in}
use Rattle.batch_run.specs.declared.workers.Worker.{Worker}
use Rattle.batch_run.specs.declared.workspaces.Workspace.{Workspace}
use Rattle.batch_run.proofs.Counting.{count-prefix}
use Rattle.batch_run.proofs.ShownLemmas.{in_row-at}
use Rattle.batch_script.specs.declared.steps.Step.{Step}
use Rattle.batch_script.specs.declared.steps.Steps.{Steps}
use Rattle.kdb_handle.specs.Stores.{IsHandle}
use Rattle.kdb_handle.specs.Story.{Told, commits_of, maker_of}
use Rattle.kdb_handle.specs.declared.replies.Reply.{Reply}
use Rattle.kdb_handle.proofs.StoryLemmas.{commits-prefix}
use Rattle.model_batch.specs.Fair.{in_row}
use Rattle.model_batch.specs.Scripts.{steps_in}
use Rattle.model_store.specs.Store.{Formats}
use Rattle.seat_lock.specs.Known.{Place}
use Rattle.seat_lock.specs.Story.{made_by}
use Rattle.batch_run.specs.Stepping.{GoesOn, IsReady}
use Rattle.batch_run.proofs.Joining.{goes-met}
use Rattle.batch_run.proofs.CommitNumbers.{numbers-same}
use Rattle.store_core.specs.declared.cores.Plan.{Plan}

-- with the rooms of the phase all may take their steps
pub ready-rooms : (phase : List Steps) (old new : List Worker) (rooms left : List (Vec Reply))
    → HaveRoom (map number_in old) phase rooms
    → ((i : ℕ) (d : Worker) (e : Vec Reply) → i < length old → IsExchanged (get_or old i d) (get_or rooms i e) (get_or new i d) (get_or left i e))
    → (i : ℕ) (d : Worker) → i < length old
    → IsRoom (length (steps_in phase (get_or new i d).session.number)) (get_or new i d).told
ready-rooms phase old new rooms left room exchanged i d lt =
    let within : i < length rooms = omega (arith, room.many, length-map old number_in) in
    let some = there_is rooms i within in
    let e = some.0 in
    let is = room.each i e within in
    let one = exchanged i d e lt in
    let number : get_or (map number_in old) i 0 ≡ (get_or new i d).session.number = get_or-map number_in old i d 0 lt ∙ ap (λ s. s.number) (sym one.session) in
    subst (λ (n : ℕ). IsRoom (length (steps_in phase n)) (get_or new i d).told) number (subst (IsRoom (length (steps_in phase (get_or (map number_in old) i 0)))) (sym one.told) is)

-- and all are ready for it
pub ready-all : {F : Type 0} (lock : Place Told) (plan : Plan F) (old new : List Worker) (rooms left : List (Vec Reply))
    → length rooms ≡ length old → ((i : ℕ) (d : Worker) → i < length old → IsResting lock plan (get_or old i d))
    → ((i : ℕ) (d : Worker) (e : Vec Reply) → i < length old → IsExchanged (get_or old i d) (get_or rooms i e) (get_or new i d) (get_or left i e))
    → (i : ℕ) (d : Worker) → i < length old
    → IsReady lock plan (get_or new i d).session.handle (get_or new i d).session.workspace
ready-all lock plan old new rooms left many resting exchanged i d lt =
    let some = there_is rooms i (omega (arith, many)) in
    let one = exchanged i d some.0 lt in
    subst (λ s. IsReady lock plan s.handle s.workspace) (sym one.session) (resting i d lt).ready

module _ (formats : Formats) {F : Type 0} (lock : Place Told) (plan : Plan F) (phase : List Steps) where
  -- what a session did in the phase, from its beginning to the end
  through-one : (old given taken back : Worker) (room left shown : Vec Reply) (new : Worker)
      → IsExchanged old room given left → Works formats lock plan (steps_in phase given.session.number) given taken
      → IsExchanged taken left back shown → Meets lock plan back new
      → GoesOn formats lock plan (steps_in phase old.session.number) shown.items old.session.handle old.session.workspace new.session.handle new.session.workspace
  through-one old given taken back room left shown new out works home meets =
      let goes = works.goes in
      let begun : GoesOn formats lock plan (steps_in phase old.session.number) taken.told.items old.session.handle old.session.workspace taken.session.handle taken.session.workspace =
      subst (λ s. GoesOn formats lock plan (steps_in phase s.number) taken.told.items s.handle s.workspace taken.session.handle taken.session.workspace) out.session goes in
      let replied : GoesOn formats lock plan (steps_in phase old.session.number) shown.items old.session.handle old.session.workspace taken.session.handle taken.session.workspace =
      subst (λ (v : Vec Reply). GoesOn formats lock plan (steps_in phase old.session.number) v.items old.session.handle old.session.workspace taken.session.handle taken.session.workspace) (sym home.left_is) begun in
      let came : GoesOn formats lock plan (steps_in phase old.session.number) shown.items old.session.handle old.session.workspace back.session.handle back.session.workspace =
      subst (λ s. GoesOn formats lock plan (steps_in phase old.session.number) shown.items old.session.handle old.session.workspace s.handle s.workspace) (sym home.session) replied in
      let met : GoesOn formats lock plan (steps_in phase old.session.number) shown.items old.session.handle old.session.workspace new.session.handle back.session.workspace =
      goes-met formats lock plan (steps_in phase old.session.number) shown.items old.session.handle back.session.handle new.session.handle old.session.workspace back.session.workspace meets.handle meets.number meets.seen meets.own meets.rec came in
      subst (λ (workspace : Workspace). GoesOn formats lock plan (steps_in phase old.session.number) shown.items old.session.handle old.session.workspace new.session.handle workspace) (sym meets.workspace) met

  module _ (old given taken back new : List Worker) (rooms left shown : List (Vec Reply)) where
    -- all four parts of a phase
    pub record Parts : Type 0 where
      pub given_many : length given ≡ length old
      pub taken_many : length taken ≡ length old
      pub back_many : length back ≡ length old
      pub new_many : length new ≡ length old
      pub rooms_many : length rooms ≡ length old
      pub left_many : length left ≡ length old
      pub shown_many : length shown ≡ length old
      pub resting : (i : ℕ) (d : Worker) → i < length old → IsResting lock plan (get_or old i d)
      pub out : (i : ℕ) (d : Worker) (e : Vec Reply) → i < length old
          → IsExchanged (get_or old i d) (get_or rooms i e) (get_or given i d) (get_or left i e)
      pub works : (i : ℕ) (d : Worker) → i < length given
          → Works formats lock plan (steps_in phase (get_or given i d).session.number) (get_or given i d) (get_or taken i d)
      pub home : (i : ℕ) (d : Worker) (e : Vec Reply) → i < length taken
          → IsExchanged (get_or taken i d) (get_or left i e) (get_or back i d) (get_or shown i e)
      pub meets : (i : ℕ) (d : Worker) → i < length back → Meets lock plan (get_or back i d) (get_or new i d)
      pub all : (i j : ℕ) (d : Worker) → i < length back → j < length back
          → IsPrefix (get_or back j d).session.handle.seen (get_or new i d).session.handle.seen

    numbers_stay : Parts → (i : ℕ) (d : Worker) → i < length old
        → number_in (get_or new i d) ≡ number_in (get_or old i d)
    numbers_stay parts i d lt =
        let some = there_is rooms i (omega (arith, parts.rooms_many)) in
        let out = parts.out i d some.0 lt in
        let home = parts.home i d some.0 (omega (arith, parts.taken_many)) in
        (parts.meets i d (omega (arith, parts.back_many))).session ∙ ap (λ s. s.number) home.session
        ∙ (parts.works i d (omega (arith, parts.given_many))).number ∙ ap (λ s. s.number) out.session

    goes : Parts → (i : ℕ) (d : Worker) → i < length old
        → GoesOn formats lock plan (in_row i (map (steps_in phase) (map number_in old))) (in_row i (map told_in shown)) (get_or old i d).session.handle (get_or old i d).session.workspace (get_or new i d).session.handle
        (get_or new i d).session.workspace
    goes parts i d lt =
        let within : i < length shown = omega (arith, parts.shown_many) in
        let some = there_is shown i within in
        let e = some.0 in
        let one = through-one (get_or old i d) (get_or given i d) (get_or taken i d) (get_or back i d) (get_or rooms i e) (get_or left i e) (get_or shown i e) (get_or new i d) (parts.out i d e lt)
        (parts.works i d (omega (arith, parts.given_many))) (parts.home i d e (omega (arith, parts.taken_many))) (parts.meets i d (omega (arith, parts.back_many))) in
        let numbered = length-map old number_in in
        let stepped = length-map (map number_in old) (steps_in phase) in
        let steps : in_row i (map (steps_in phase) (map number_in old)) ≡ steps_in phase (get_or old i d).session.number =
        in_row-at (map (steps_in phase) (map number_in old)) i [] (omega arith) ∙ get_or-map (steps_in phase) (map number_in old) i 0 [] (omega arith) ∙ ap (steps_in phase) (get_or-map number_in old i d 0 lt) in
        let told : in_row i (map told_in shown) ≡ (get_or shown i e).items = in_row-at (map told_in shown) i [] (omega (arith, length-map shown told_in)) ∙ get_or-map told_in shown i e [] within in
        subst (λ (s : List Step). GoesOn formats lock plan s (in_row i (map told_in shown)) (get_or old i d).session.handle (get_or old i d).session.workspace (get_or new i d).session.handle (get_or new i d).session.workspace) (sym steps)
        (subst (λ (r : List Reply). GoesOn formats lock plan (steps_in phase (get_or old i d).session.number) r (get_or old i d).session.handle (get_or old i d).session.workspace (get_or new i d).session.handle (get_or new i d).session.workspace) (sym told) one)

    idle : Parts → (i : ℕ) (d : Worker) → i < length old → (get_or new i d).told.items ≡ []
    idle parts i d lt =
        let some = there_is rooms i (omega (arith, parts.rooms_many)) in
        let out = parts.out i d some.0 lt in
        let home = parts.home i d some.0 (omega (arith, parts.taken_many)) in
        let meets = parts.meets i d (omega (arith, parts.back_many)) in
        ap told_in (meets.told ∙ home.told ∙ out.left_is) ∙ (parts.resting i d lt).none

    -- what a meeting gives, as numbers
    met : Parts → (i j : ℕ) (d : Worker) → i < length old → j < length old
        → count_seen (get_or new j d).session.handle.number (get_or new j d).session.handle ≤ count_seen (get_or new j d).session.handle.number (get_or new i d).session.handle
    met parts i j d lt lt_j =
        let within : j < length back = omega (arith, parts.back_many) in
        let meets = parts.meets j d within in
        let was = (get_or back j d).session.handle in
        let is = (get_or new j d).session.handle in
        let number = is.number in
        let own_was : was.own ≡ made_by maker_of number was.seen = (back-handle j d within).own ∙ ap (λ (n : ℕ). made_by maker_of n was.seen) (sym meets.number) in
        let same = numbers-same number was.seen is.seen meets.seen (sym meets.handle.own ∙ meets.own ∙ own_was) in
        let seen = count-prefix number (commits_of was.seen) (commits_of (get_or new i d).session.handle.seen) (commits-prefix was.seen (get_or new i d).session.handle.seen (parts.all i j d (omega (arith, parts.back_many)) within)) in
        let equal = ap length same in
        omega arith
      where
        back-handle : (k : ℕ) (e : Worker) → k < length back → IsHandle lock plan (get_or back k e).session.handle
        back-handle k e within =
            let some = there_is shown k (omega (arith, parts.shown_many, parts.back_many)) in
            let home = parts.home k e some.0 (omega (arith, parts.taken_many, parts.back_many)) in
            subst (λ s. IsHandle lock plan s.handle) (sym home.session) (parts.works k e (omega (arith, parts.given_many, parts.back_many))).goes.ready.handle_is

    pub through : Parts
        → IsThrough formats lock plan (map (steps_in phase) (map number_in old)) (map told_in shown) old new
    through parts = record {
      many = parts.new_many;
      told = length-map shown told_in ∙ parts.shown_many;
      goes = goes parts;
      numbers = same_lists (map number_in new) (map number_in old) (length-map new number_in ∙ parts.new_many ∙ sym (length-map old number_in)) (λ k d lt.
          let lt_new : k < length new = omega (arith, length-map new number_in) in
          let lt_old : k < length old = omega (arith, parts.new_many) in
          let some = there_is old k lt_old in
          get_or-map number_in new k some.0 d lt_new ∙ numbers_stay parts k some.0 lt_old ∙ sym (get_or-map number_in old k some.0 d lt_old));
      idle = idle parts;
      met = met parts;
    }

-- the handles that took their steps are the store's when the rooms have come back
pub home-handles : (formats : Formats) {F : Type 0} (lock : Place Told) (plan : Plan F) (phase : List Steps)
    (given taken back : List Worker) (left shown : List (Vec Reply)) → length taken ≡ length given
    → length left ≡ length taken
    → ((i : ℕ) (d : Worker) → i < length given → Works formats lock plan (steps_in phase (get_or given i d).session.number) (get_or given i d) (get_or taken i d))
    → ((i : ℕ) (d : Worker) (e : Vec Reply) → i < length taken → IsExchanged (get_or taken i d) (get_or left i e) (get_or back i d) (get_or shown i e))
    → (i : ℕ) (d : Worker) → i < length taken → IsHandle lock plan (get_or back i d).session.handle
home-handles formats lock plan phase given taken back left shown many rooms works home i d lt =
    let some = there_is left i (omega (arith, rooms)) in
    let one = home i d some.0 lt in
    subst (λ s. IsHandle lock plan s.handle) (sym one.session) (works i d (omega (arith, many))).goes.ready.handle_is
