-- What a write through to the journal makes of its head and its list, and what a crash may leave meanwhile.
use Rattle.std.proofs.Common.{◌≡◌, ℕ, ◌+◌, ◌≤◌, List, [], ◌∷◌, ◌++◌, inl, inr, Bool, true, false, length, Option, Some, None, Result, Ok, Err, OnOk, OnErr, drop, refl, sym, subst, ◌∙◌, ap, arith}
use Rattle.std.specs.Result.{IsErr}
use Rattle.std.proofs.lemmas.Result.{on_ok_weaker}
use Rattle.kdb_outside.specs.declared.disks.Disk.{Ghosts}
use Rattle.kdb_outside.specs.declared.faults.Failed.{Failed}
use Rattle.kdb_outside.specs.Files.{written}
use Rattle.kdb_outside.specs.Frames.{GoesOn}
use Rattle.kdb_outside.specs.Images.{Image, IsImage, Only, KeepsImagesOf, IsTornWrite}
use Rattle.journal_codec.specs.declared.files.FileText.{FileText}
use Rattle.journal_codec.specs.Entry.{journal2_name}
use Rattle.journal_codec.specs.Header.{IsHeader, header_bytes}
use Rattle.journal_steps.specs.Moments.{AddsOnly, IsStepOf, KeepsUnnamed}
use Rattle.journal_steps.specs.Outcomes.{content_in, with_entries, IsOutcome, IsEither}
use Rattle.journal_steps.specs.Steps.{WritesThrough}
use Rattle.journal_steps.proofs.Meanwhile.{else_both, else_weaker, meanwhile}
use Rattle.journal_steps.proofs.Steps.{on_ok, on_err, only_image, IsFileStep, file_step, image_step}
use Rattle.journal_lists.specs.Heads.{front_size}
use Rattle.journal_lists.specs.Lists.{list_bytes, Fits, as_one}
use Rattle.journal_lists.specs.Rules.{listed}
use Rattle.journal_lists.proofs.Gates.{room_of}
use Rattle.intent_journal.specs.Bringing.{HasBroughtFirst, Brings}
use Rattle.intent_journal.specs.Outcomes.{HasOnly}
use Rattle.intent_journal.specs.States.{IsListed, IsInDoubt, IsBare, IsHeadInDoubt, IsUnfinished, HasBodyBehind, HasBrought}
use Rattle.intent_journal.specs.Steps.{Passes, HasOpened}
use Rattle.intent_journal.proofs.Images.{listed_doubt, doubt_only, listed_only, only_none, bare_doubt, head_only, bare_only}
use Rattle.intent_journal.proofs.Passages.{listed_kept, listed_behind, doubt_opening, doubt_closing, listed_closed, listed_emptied, listed_opened, HasHead, head_written, head_closing, bare_of_closing, head_behind, head_opening, head_opened}

module _ {D : Type 0} (g : Ghosts D) (old new : D) (r : Result Unit Failed) (tells : g.tells old ≡ true) where
  -- bytes were written into the journal: what is left came by that step, and so did each image meanwhile
  pub wrote : (Done Undone : (List ℕ → List ℕ → Type 0) → Type 0) (P : Image → Type 0) (place : ℕ) (bytes : List ℕ)
      → ((leaves : List ℕ → List ℕ → Type 0) → IsFileStep journal2_name (IsTornWrite place bytes) (g.may_leave old) leaves → Undone leaves)
      → ((leaves : List ℕ → List ℕ → Type 0) → Undone leaves → (image : Image) → IsImage leaves image → HasOnly P image)
      → ((image : Image) → IsImage (g.may_leave old) image → HasOnly P image)
      → (IsFileStep journal2_name (IsTornWrite place bytes) (g.may_leave old) (g.may_leave new) → Only (written (g.seen old journal2_name) place bytes) (g.may_leave new journal2_name) → Done (g.may_leave new))
      → WritesThrough g old new r journal2_name place bytes → Passes g old new r Done Undone P
  wrote Done Undone P place bytes undone only before done writes =
      let step = file_step journal2_name (IsTornWrite place bytes) (g.may_leave old) (g.may_leave new) writes.images in
      record {
        ok = on_ok_weaker r (done step) writes.durable;
        err = on_err (Undone (g.may_leave new)) r (undone (g.may_leave new) step);
        any_moment = meanwhile _ _ _ (HasOnly P)
            (else_weaker _ _ _ (IsStepOf journal2_name (IsTornWrite place bytes) (g.may_leave old)) (HasOnly P) writes.time (λ image was.
            only (only_image image) (undone (only_image image) (image_step journal2_name (IsTornWrite place bytes) (g.may_leave old) image was)) image (λ file. refl)))
            (λ image left. before image (g.only_now old image tells left));
      }

  -- what is read of the journal is an image of it
  seen_is : g.may_leave old journal2_name (g.seen old journal2_name)
  seen_is = g.read_is_image old tells journal2_name

  module _ (names : List (List ℕ)) (before : Image) (entries : List (List FileText)) where
    -- closing a gate in doubt
    pub settling : (doubt : Option (List FileText)) (place : ℕ) → place ≡ front_size names + length (list_bytes entries)
        → IsInDoubt (g.may_leave old) names before entries doubt
        → WritesThrough g old new r journal2_name place (0 ∷ [])
        → Passes g old new r (λ leaves. IsListed leaves names before entries) (λ leaves. IsInDoubt leaves names before entries doubt) (IsEither (with_entries before entries) doubt)
    settling doubt place placed state =
        wrote (λ leaves. IsListed leaves names before entries) (λ leaves. IsInDoubt leaves names before entries doubt) (IsEither (with_entries before entries) doubt) place (0 ∷ [])
        (λ leaves. doubt_closing (g.may_leave old) leaves names before entries doubt place placed state)
        (λ leaves. doubt_only leaves names before entries doubt) (doubt_only (g.may_leave old) names before entries doubt state)
        (listed_closed (g.may_leave old) (g.may_leave new) names before entries (g.seen old journal2_name) doubt place placed state seen_is)

    -- writing behind the closed gate
    pub putting : (place : ℕ) (bytes : List ℕ) → place ≡ front_size names + length (list_bytes entries) + 1
        → IsListed (g.may_leave old) names before entries
        → WritesThrough g old new r journal2_name place bytes
        → Passes g old new r (λ leaves. IsListed leaves names before entries) (λ leaves. IsListed leaves names before entries) (IsOutcome (with_entries before entries))
    putting place bytes placed state =
        wrote (λ leaves. IsListed leaves names before entries) (λ leaves. IsListed leaves names before entries) (IsOutcome (with_entries before entries)) place bytes
        (λ leaves. listed_behind (g.may_leave old) leaves names before entries bytes place placed state)
        (λ leaves. listed_only leaves names before entries) (listed_only (g.may_leave old) names before entries state)
        (λ step only. listed_behind (g.may_leave old) (g.may_leave new) names before entries bytes place placed state step)

    -- opening the gate on a body
    pub opening : (entry : List FileText) (place start : ℕ) → place ≡ front_size names + length (list_bytes entries)
        → start ≡ front_size names → Fits (listed names) (entries ++ entry ∷ [])
        → IsListed (g.may_leave old) names before entries → HasBodyBehind (g.may_leave old) start entries entry
        → WritesThrough g old new r journal2_name place (1 ∷ [])
        → Passes g old new r (λ leaves. IsListed leaves names before (entries ++ entry ∷ [])) (λ leaves. IsInDoubt leaves names before entries (Some entry))
        (IsEither (with_entries before entries) (Some entry))
    opening entry place start placed starts fits state body =
        wrote (λ leaves. IsListed leaves names before (entries ++ entry ∷ [])) (λ leaves. IsInDoubt leaves names before entries (Some entry)) (IsEither (with_entries before entries) (Some entry)) place (1 ∷ [])
        (λ leaves. doubt_opening (g.may_leave old) leaves names before entries entry place start placed starts state (room_of (listed names) entries entry fits) body)
        (λ leaves. doubt_only leaves names before entries (Some entry))
        (doubt_only (g.may_leave old) names before entries (Some entry) (listed_doubt (g.may_leave old) names before entries (Some entry) state))
        (listed_opened (g.may_leave old) (g.may_leave new) names before entries entry (g.seen old journal2_name) place start placed starts state fits seen_is (body (g.seen old journal2_name) seen_is))

    -- files that the list names may change while its gates are open
    pub keeping : IsListed (g.may_leave old) names before entries
        → ((other : List ℕ) → content_in (as_one entries) other ≡ None → KeepsImagesOf other (g.may_leave old) (g.may_leave new))
        → AddsOnly g old new (KeepsUnnamed (as_one entries) (g.may_leave old))
        → Passes g old new r (λ leaves. IsListed leaves names before entries) (λ leaves. IsListed leaves names before entries) (IsOutcome (with_entries before entries))
    keeping state others time =
        let P = HasOnly (IsOutcome (with_entries before entries)) in
        let listed = listed_kept (g.may_leave old) (g.may_leave new) names before entries state (λ other none. (others other none).no_more) in
        record {
          ok = on_ok (IsListed (g.may_leave new) names before entries) r listed;
          err = on_err (IsListed (g.may_leave new) names before entries) r listed;
          any_moment = meanwhile _ _ _ P
              (else_weaker _ _ _ (KeepsUnnamed (as_one entries) (g.may_leave old)) P time (λ image kept.
              listed_only (only_image image) names before entries
              (listed_kept (g.may_leave old) (only_image image) names before entries state (λ other none c is. subst (g.may_leave old other) (sym is) (kept other none))) image (λ file. refl)))
              (λ image left. listed_only (g.may_leave old) names before entries state image (g.only_now old image tells left));
        }

    -- and so do texts of the list
    pub bringing : (brought : Result Unit Failed) → IsListed (g.may_leave old) names before entries
        → Brings g old new brought (as_one entries) []
        → Passes g old new r (λ leaves. IsListed leaves names before entries) (λ leaves. IsListed leaves names before entries) (IsOutcome (with_entries before entries))
    bringing brought state brings = keeping state (λ other none. brings.kept other (inl none)) brings.time

    -- closing the gate before a list whose files have their contents, as one in doubt
    pub closing : IsListed (g.may_leave old) names before entries → HasBrought (g.may_leave old) (as_one entries)
        → (IsInDoubt (g.may_leave old) names (with_entries before entries) [] None
        → Passes g old new r (λ leaves. IsListed leaves names (with_entries before entries) []) (λ leaves. IsInDoubt leaves names (with_entries before entries) [] None) (IsEither (with_entries before entries) None))
        → Passes g old new r (λ leaves. IsListed leaves names (with_entries before entries) []) (λ leaves. IsInDoubt leaves names (with_entries before entries) [] None) (IsOutcome (with_entries before entries))
    closing state brought settles =
        let passes = settles (listed_emptied (g.may_leave old) names before entries state brought) in
        record {
          ok = passes.ok;
          err = passes.err;
          any_moment = record {
            each = λ image left. only_none (with_entries before entries) image (passes.any_moment.each image left);
            earlier = else_weaker _ _ _ (HasOnly (IsEither (with_entries before entries) None)) (HasOnly (IsOutcome (with_entries before entries))) passes.any_moment.earlier (only_none (with_entries before entries));
          };
        }

  module _ (files : Image) where
    -- closing the header gate in doubt
    pub baring : (doubt : Option (List FileText)) → IsHeadInDoubt (g.may_leave old) files doubt
        → WritesThrough g old new r journal2_name 0 (0 ∷ [])
        → Passes g old new r (λ leaves. IsBare leaves files) (λ leaves. IsHeadInDoubt leaves files doubt) (IsEither files doubt)
    baring doubt state =
        wrote (λ leaves. IsBare leaves files) (λ leaves. IsHeadInDoubt leaves files doubt) (IsEither files doubt) 0 (0 ∷ [])
        (λ leaves. head_closing (g.may_leave old) leaves files doubt state)
        (λ leaves. head_only leaves files doubt) (head_only (g.may_leave old) files doubt state)
        (bare_of_closing (g.may_leave old) (g.may_leave new) files (g.seen old journal2_name) doubt state)

    -- writing a head behind it
    pub heading : (bytes : List ℕ) → IsBare (g.may_leave old) files → WritesThrough g old new r journal2_name 1 bytes
        → Passes g old new r (λ leaves. IsBare leaves files) (λ leaves. IsBare leaves files) (IsOutcome files)
    heading bytes state =
        wrote (λ leaves. IsBare leaves files) (λ leaves. IsBare leaves files) (IsOutcome files) 1 bytes
        (λ leaves. head_behind (g.may_leave old) leaves files bytes state) (λ leaves. bare_only leaves files) (bare_only (g.may_leave old) files state)
        (λ step only. head_behind (g.may_leave old) (g.may_leave new) files bytes state step)

    -- opening the header gate on a head
    pub unbaring : (names : List (List ℕ)) → IsHeader names → IsBare (g.may_leave old) files
        → HasHead (g.may_leave old) names → WritesThrough g old new r journal2_name 0 (1 ∷ [])
        → Passes g old new r (λ leaves. IsListed leaves names files []) (λ leaves. IsHeadInDoubt leaves files None) (IsOutcome files)
    unbaring names header state head =
        wrote (λ leaves. IsListed leaves names files []) (λ leaves. IsHeadInDoubt leaves files None) (IsOutcome files) 0 (1 ∷ [])
        (λ leaves. head_opening (g.may_leave old) leaves files names header state head)
        (λ leaves doubtful image is. only_none files image (head_only leaves files None doubtful image is)) (bare_only (g.may_leave old) files state)
        (head_opened (g.may_leave old) (g.may_leave new) files names (g.seen old journal2_name) header state (head (g.seen old journal2_name) seen_is))

-- texts that no later ones name
pub brought_all : (leaves : List ℕ → List ℕ → Type 0) (texts : List FileText) → HasBroughtFirst texts [] leaves
    → HasBrought leaves texts
brought_all leaves texts brought file bytes is = brought file bytes is refl

-- a step behind another
pub passes_behind : {D : Type 0} (g : Ghosts D) (old mid new : D) (first r : Result Unit Failed)
    (A B Done Undone : (List ℕ → List ℕ → Type 0) → Type 0) (P : Image → Type 0) → Passes g old mid first A B P
    → g.moment old ≤ g.moment mid → Passes g mid new r Done Undone P → Passes g old new r Done Undone P
passes_behind g old mid new first r A B Done Undone P so_far later next = record {
  ok = next.ok;
  err = next.err;
  any_moment = record {
    each = λ image left. elim (next.any_moment.earlier (g.moment old) image later left) [ inl was ↦ so_far.any_moment.each image was | inr has ↦ has ];
    earlier = else_both _ _ _ _ _ (HasOnly P) so_far.any_moment.earlier later next.any_moment.earlier;
  };
}

-- a step that failed may be told of another failure
pub failed_passes : {D : Type 0} (g : Ghosts D) (old new : D) (e : Failed) (other : Result Unit Failed)
    (Done Undone : (List ℕ → List ℕ → Type 0) → Type 0) (P : Image → Type 0) → IsErr other
    → Passes g old new (Err e) Done Undone P → Passes g old new other Done Undone P
failed_passes g old new e (Ok x) Done Undone P failed passes = absurd (cc)
failed_passes g old new e (Err f) Done Undone P failed passes =
    record { ok = tt; err = passes.err; any_moment = passes.any_moment }

-- a head that was not written whole
pub heading_failed : {D : Type 0} (g : Ghosts D) (old new : D) (r : Result Unit Failed) (names : List (List ℕ))
    (files : Image) → IsErr r
    → Passes g old new r (λ leaves. IsBare leaves files) (λ leaves. IsBare leaves files) (IsOutcome files)
    → Passes g old new r (λ leaves. IsListed leaves names files []) (λ leaves. IsHeadInDoubt leaves files None) (IsOutcome files)
heading_failed g old new (Ok x) names files failed passes = absurd (cc)
heading_failed g old new (Err e) names files failed passes =
    record { ok = tt; err = bare_doubt (g.may_leave new) files None passes.err; any_moment = passes.any_moment }

-- a head that was, and the header gate behind it
pub headed : {D : Type 0} (g : Ghosts D) (old mid new : D) (r : Result Unit Failed) (names : List (List ℕ))
    (files : Image) (header : List ℕ) → g.tells old ≡ true → header ≡ header_bytes names
    → IsHeader names → IsBare (g.may_leave old) files → GoesOn g old mid
    → WritesThrough g old mid (Ok tt) journal2_name 1 header → WritesThrough g mid new r journal2_name 0 (1 ∷ [])
    → Passes g old new r (λ leaves. IsListed leaves names files []) (λ leaves. IsHeadInDoubt leaves files None) (IsOutcome files)
headed g old mid new r names files header tells is header_is state goes first second =
    let passes = heading g old mid (Ok tt) tells files header state first in
    let closed = state.journal (g.seen old journal2_name) (g.read_is_image old tells journal2_name) in
    let head = head_written (g.may_leave mid) names header (g.seen old journal2_name) is closed first.durable in
    passes_behind g old mid new (Ok tt) r (λ leaves. IsBare leaves files) (λ leaves. IsBare leaves files) (λ leaves. IsListed leaves names files []) (λ leaves. IsHeadInDoubt leaves files None)
    (IsOutcome files) passes goes.moment (unbaring g mid new r (goes.tells ∙ tells) files names header_is passes.ok head second)

-- what stands in the journal then
pub header_there : {D : Type 0} (g : Ghosts D) (old mid new : D) (r : Result Unit Failed) (header : List ℕ)
    → g.tells old ≡ true → 1 ≤ length (g.seen old journal2_name) → GoesOn g old mid
    → WritesThrough g old mid (Ok tt) journal2_name 1 header → WritesThrough g mid new r journal2_name 0 (1 ∷ [])
    → OnOk r (HasOpened header (g.may_leave new))
header_there g old mid new r header tells there goes first second =
    on_ok_weaker r (λ only c left.
    let was = first.durable (g.seen mid journal2_name) (g.read_is_image mid (goes.tells ∙ tells) journal2_name) in
    let bytes = opened_bytes (g.seen old journal2_name) header there in
    (bytes.0, only c left ∙ ap (λ (s : List ℕ). written s 0 (1 ∷ [])) was ∙ bytes.1)) second.durable
  where
    opened_bytes : (seen header : List ℕ) → 1 ≤ length seen
        → (rest : List ℕ) × (written (written seen 1 header) 0 (1 ∷ []) ≡ 1 ∷ (header ++ rest))
    opened_bytes [] header there = absurd (omega arith)
    opened_bytes (x ∷ seen) header there = (drop (1 + length header) (x ∷ seen), refl)

-- all files of the list get their contents, and the list is closed
pub finishing : {D : Type 0} (g : Ghosts D) (old mid new : D) (r : Result Unit Failed) (names : List (List ℕ))
    (before : Image) (entries : List (List FileText)) → g.tells old ≡ true
    → IsListed (g.may_leave old) names before entries → GoesOn g old mid → Brings g old mid (Ok tt) (as_one entries) []
    → (IsInDoubt (g.may_leave mid) names (with_entries before entries) [] None
    → Passes g mid new r (λ leaves. IsListed leaves names (with_entries before entries) []) (λ leaves. IsInDoubt leaves names (with_entries before entries) [] None) (IsEither (with_entries before entries) None))
    → Passes g old new r (λ leaves. IsListed leaves names (with_entries before entries) []) (λ leaves. IsInDoubt leaves names (with_entries before entries) [] None) (IsOutcome (with_entries before entries))
finishing g old mid new r names before entries tells state goes brings settles =
    let brought = bringing g old mid (Ok tt) tells names before entries (Ok tt) state brings in
    passes_behind g old mid new (Ok tt) r (λ leaves. IsListed leaves names before entries) (λ leaves. IsListed leaves names before entries) (λ leaves. IsListed leaves names (with_entries before entries) [])
    (λ leaves. IsInDoubt leaves names (with_entries before entries) [] None) (IsOutcome (with_entries before entries)) brought goes.moment
    (closing g mid new r (goes.tells ∙ tells) names before entries brought.ok (brought_all (g.may_leave mid) (as_one entries) brings.durable) settles)

-- what a finish leaves that failed
pub unfinished_lag : (b : Bool) (names : List (List ℕ)) (before : Image) (entries : List (List FileText))
    (leaves : List ℕ → List ℕ → Type 0) (r : Result Unit Failed) → b ≡ false
    → OnErr r (IsListed leaves names before entries) → OnErr r (IsUnfinished b names before entries leaves)
unfinished_lag true names before entries leaves r sure listed = absurd (cc)
unfinished_lag false names before entries leaves r sure listed = listed

pub unfinished_doubt : (b : Bool) (names : List (List ℕ)) (before : Image) (entries : List (List FileText))
    (leaves : List ℕ → List ℕ → Type 0) (r : Result Unit Failed) → OnErr r (b ≡ true)
    → OnErr r (IsInDoubt leaves names (with_entries before entries) [] None)
    → OnErr r (IsUnfinished b names before entries leaves)
unfinished_doubt b names before entries leaves (Ok x) is doubtful = tt
unfinished_doubt true names before entries leaves (Err e) is doubtful = doubtful
unfinished_doubt false names before entries leaves (Err e) is doubtful = absurd (cc)
