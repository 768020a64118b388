-- The steps of a recovery and of a retiring, one after the other.
use Rattle.std.proofs.Common.{◌≡◌, ◌≢◌, inl, inr, ℕ, ◌≤◌, List, [], ◌∷◌, take, Bool, true, false, Some, None, Result, Ok, Err, OnOk, OnErr, bytes_eq, refl, sym, ap, ◌∙◌, subst, arith}
use Rattle.std.specs.List.{AllByRecursion}
use Rattle.std.specs.Result.{IsErr}
use Rattle.std.proofs.lemmas.Option.{none-some}
use Rattle.std.proofs.lemmas.Result.{on_ok_weaker}
use Rattle.std.proofs.lemmas.Slice.Eq.{bytes_eq-Decides}
use Rattle.kdb_outside.specs.declared.disks.Disk.{Ghosts}
use Rattle.kdb_outside.specs.declared.faults.Failed.{Failed}
use Rattle.kdb_outside.specs.Files.{written, KeepsOthers}
use Rattle.kdb_outside.specs.Images.{Image, IsImage, Only, IsTornWrite, IsTornCut, KeepsImages, KeepsImagesOf, KeepsOtherImages, Touches, Elapses}
use Rattle.journal_codec.specs.declared.files.FileText.{FileText}
use Rattle.journal_codec.specs.Entry.{journal_name, IsEntry}
use Rattle.journal_lists.specs.Lists.{as_one}
use Rattle.journal_steps.specs.JournalBytes.{IsOwnFile, IsShut}
use Rattle.journal_steps.specs.Moments.{AddsOnly, IsStepOf, KeepsUnnamed}
use Rattle.journal_steps.specs.Outcomes.{content_in}
use Rattle.journal_steps.specs.Steps.{WritesThrough}
use Rattle.journal_steps.proofs.Meanwhile.{else_first, else_both, else_weaker, sync_this}
use Rattle.journal_steps.proofs.Steps.{on_ok}
use Rattle.intent_journal.specs.Bringing.{Brings}
use Rattle.intent_journal.specs.Recovering.{IsElse, IsBehindBringing, IsRecovering, IsRetiring, Recovers, Retires}
use Rattle.intent_journal.specs.States.{HasBrought}
use Rattle.intent_journal.proofs.Passages.{as_one-own}

images_then : (file : List ℕ) (old mid new : List ℕ → List ℕ → Type 0) → KeepsImagesOf file old mid
    → KeepsImagesOf file mid new → KeepsImagesOf file old new
images_then file old mid new first second =
    record {
      no_more = λ c left. first.no_more c (second.no_more c left);
      no_fewer = λ c left. second.no_fewer c (first.no_fewer c left);
    }

-- ---- a recovery

-- a disk whose file of open entries was synced
module _ {D : Type 0} (g : Ghosts D) (disk synced : D) (name : List ℕ) (at : ℕ) (list : List (List FileText)) (same : g.seen synced ≡ g.seen disk)
    (others : KeepsOtherImages name (g.may_leave disk) (g.may_leave synced)) (before : (file c : List ℕ) → g.may_leave synced file c → g.may_leave disk file c)
    (time : Elapses (g.moment disk) (g.left_since disk) (g.left_since synced) (g.may_leave synced)) where
  else_synced : AddsOnly g disk synced (IsRecovering (g.seen disk) (g.may_leave disk) name at list)
  else_synced =
      else_first _ _ _ (g.may_leave synced) (IsRecovering (g.seen disk) (g.may_leave disk) name at list) time (λ image is. inl (λ file. before file (image file) (is file)))

  -- or not
  pub recovers_unsynced : (r : Result Unit Failed) → IsErr r → Recovers g disk synced r name at list
  recovers_unsynced (Ok x) failed = absurd (cc)
  recovers_unsynced (Err e) failed = record {
    closed = tt;
    brought = tt;
    kept = record { images = λ other apart. others other apart.0; seen = λ other apart. ap (λ (s : Image). s other) same };
    time = else_synced;
  }

  -- and whose entries went into their files then
  module _ (brought : D) (own : IsOwnFile name) (each : AllByRecursion IsEntry list) (moment : g.moment disk ≤ g.moment synced) (only : Only (g.seen disk name) (g.may_leave synced name)) where
    unnamed : content_in (as_one list) name ≡ None
    unnamed = as_one-own list name own each

    kept_images : (r : Result Unit Failed) → Brings g synced brought r (as_one list) [] → (other : List ℕ)
        → IsElse name list other → KeepsImagesOf other (g.may_leave disk) (g.may_leave brought)
    kept_images r brings other apart =
        images_then other (g.may_leave disk) (g.may_leave synced) (g.may_leave brought) (others other apart.0) (brings.kept other (inl apart.1))

    kept_seen : (r : Result Unit Failed) → Brings g synced brought r (as_one list) [] → (other : List ℕ)
        → IsElse name list other → g.seen brought other ≡ g.seen disk other
    kept_seen r brings other apart = brings.seen other (inl apart.1) ∙ ap (λ (s : Image). s other) same

    else_brought : (r : Result Unit Failed) → Brings g synced brought r (as_one list) []
        → AddsOnly g disk brought (IsRecovering (g.seen disk) (g.may_leave disk) name at list)
    else_brought r brings =
        else_both _ _ _ _ _ (IsRecovering (g.seen disk) (g.may_leave disk) name at list) else_synced moment
        (else_weaker _ _ _ (KeepsUnnamed (as_one list) (g.may_leave synced)) (IsRecovering (g.seen disk) (g.may_leave disk) name at list) brings.time (λ image kept.
        inr (inl (record { this = only (image name) (kept name unnamed); others = λ other apart. (others other apart.0).no_more (image other) (kept other apart.1) }))))

    -- or some of them
    pub recovers_some : (r other : Result Unit Failed) → IsErr other → Brings g synced brought r (as_one list) []
        → Recovers g disk brought other name at list
    recovers_some r (Ok x) failed brings = absurd (cc)
    recovers_some r (Err e) failed brings =
        record {
          closed = tt;
          brought = tt;
          kept = record { images = kept_images r brings; seen = kept_seen r brings };
          time = else_brought r brings;
        }

    -- all of them, and the gate was closed
    module _ (new : D) (r : Result Unit Failed) (told : g.tells brought ≡ true) (later : g.moment synced ≤ g.moment brought) (brings : Brings g synced brought (Ok tt) (as_one list) [])
        (writes : WritesThrough g brought new r name at (0 ∷ [])) (seen : KeepsOthers name (g.seen brought) (g.seen new)) where
      former_only : Only (g.seen disk name) (g.may_leave brought name)
      former_only c is = only c ((brings.kept name (inl unnamed)).no_more c is)

      former_same : g.seen brought name ≡ g.seen disk name
      former_same = former_only (g.seen brought name) (g.read_is_image brought told name)

      not_name : (other bytes : List ℕ) → content_in (as_one list) other ≡ Some bytes → other ≢ name
      not_name other bytes some is =
          none-some bytes (sym (subst (λ (n : List ℕ). content_in (as_one list) n ≡ None) (sym is) unnamed) ∙ some)

      while_closing : (image : Image) → IsStepOf name (IsTornWrite at (0 ∷ [])) (g.may_leave brought) image
          → IsRecovering (g.seen disk) (g.may_leave disk) name at list image
      while_closing image step =
          inr (inr (record {
            this = subst (λ (c : List ℕ). IsTornWrite at (0 ∷ []) c (image name)) (former_only step.this.0 step.this.1) step.this.2;
            named = λ other bytes some. brings.durable other bytes some refl (image other) (step.others other (not_name other bytes some));
            others = λ other apart. (kept_images (Ok tt) brings other apart).no_more (image other) (step.others other apart.0);
          }))

      pub recovers_all : Recovers g disk new r name at list
      recovers_all = record {
        closed = on_ok_weaker r (λ closed c is. closed c is ∙ ap (λ (s : List ℕ). written s at (0 ∷ [])) former_same) writes.durable;
        brought = on_ok (HasBrought (g.may_leave new) (as_one list)) r (λ other bytes some c is.
            brings.durable other bytes some refl c ((writes.images.others other (not_name other bytes some)).no_more c is));
        kept = record {
          images = λ other apart. images_then other (g.may_leave disk) (g.may_leave brought) (g.may_leave new) (kept_images (Ok tt) brings other apart) (writes.images.others other apart.0);
          seen = λ other apart. seen other apart.0 ∙ kept_seen (Ok tt) brings other apart;
        };
        time =
            else_both _ _ _ _ _ (IsRecovering (g.seen disk) (g.may_leave disk) name at list) (else_brought (Ok tt) brings) (omega (arith, moment, later))
            (else_weaker _ _ _ (IsStepOf name (IsTornWrite at (0 ∷ [])) (g.may_leave brought)) (IsRecovering (g.seen disk) (g.may_leave disk) name at list) writes.time while_closing);
      }

-- what a sync leaves of a file was there before it
pub synced_before : (r : Result Unit Failed) (name : List ℕ) (seen : Image) (old new : List ℕ → List ℕ → Type 0)
    → OnOk r (Only (seen name) (new name)) → OnErr r (KeepsImages old new) → IsImage old seen
    → KeepsOtherImages name old new → (file c : List ℕ) → new file c → old file c
synced_before r name seen old new only pending seen_is others file c is = by (bytes_eq file name) refl
  where
    by : (b : Bool) → bytes_eq file name ≡ b → old file c
    by true here =
        let named = (bytes_eq-Decides file name).0 here in
        subst (λ (f : List ℕ). old f c) (sym named) (sync_this r name (seen name) old new only pending (seen_is name) c (subst (λ (f : List ℕ). new f c) named is))
    by false other = (others file (λ named. let yes = (bytes_eq-Decides file name).1 named in cc)).no_more c is

-- ---- a retiring

-- a cut to one byte leaves the closed gate, or nothing
cut_shut : (former now : List ℕ) → take 1 former ≡ 0 ∷ [] → IsTornCut 1 former now → IsShut now
cut_shut former [] closed torn = inl (omega arith)
cut_shut former (x ∷ now) closed torn =
    let first : x ∷ [] ≡ 0 ∷ [] = torn.front ∙ closed in
    inr (cc)

module _ {D : Type 0} (g : Ghosts D) (old mid : D) (list : List (List FileText)) (each : AllByRecursion IsEntry list) where
  else_recovered : (r : Result Unit Failed) → Recovers g old mid r journal_name 0 list
      → AddsOnly g old mid (IsRetiring (g.seen old) (g.may_leave old) list)
  else_recovered r recovers =
      else_weaker _ _ _ (IsRecovering (g.seen old) (g.may_leave old) journal_name 0 list) (IsRetiring (g.seen old) (g.may_leave old) list) recovers.time (λ image is. inl is)

  -- entries that weren't recovered
  pub retires_unrecovered : (r other : Result Unit Failed) → IsErr other → Recovers g old mid r journal_name 0 list
      → Retires g old mid other list
  retires_unrecovered r (Ok x) failed recovers = absurd (cc)
  retires_unrecovered r (Err e) failed recovers =
      record { closed = tt; brought = tt; kept = recovers.kept; time = else_recovered r recovers }

  -- and some that were, behind which the journal was cut
  module _ (told : g.tells mid ≡ true) (recovers : Recovers g old mid (Ok tt) journal_name 0 list) (moment : g.moment old ≤ g.moment mid) (cut : D)
      (touches : Touches journal_name (IsTornCut 1) (g.may_leave mid) (g.may_leave cut)) (seen : KeepsOthers journal_name (g.seen mid) (g.seen cut))
      (time : Elapses (g.moment mid) (g.left_since mid) (g.left_since cut) (g.may_leave cut)) where
    unnamed_former : content_in (as_one list) journal_name ≡ None
    unnamed_former = as_one-own list journal_name (inl refl) each

    not_former : (other bytes : List ℕ) → content_in (as_one list) other ≡ Some bytes → other ≢ journal_name
    not_former other bytes some is =
        none-some bytes (sym (subst (λ (n : List ℕ). content_in (as_one list) n ≡ None) (sym is) unnamed_former) ∙ some)

    pub closed_there : (former : List ℕ) → g.may_leave mid journal_name former → take 1 former ≡ 0 ∷ []
    closed_there former is = ap (take 1) (recovers.closed former is)

    behind_cut : (leaves : List ℕ → List ℕ → Type 0) → ((file c : List ℕ) → leaves file c → g.may_leave cut file c)
        → (image : Image) → IsImage leaves image
        → IsBehindBringing (g.may_leave old) journal_name list IsShut image
    behind_cut leaves fewer image is = record {
      this =
          let step = touches.this (image journal_name) (fewer journal_name (image journal_name) (is journal_name)) in
          cut_shut step.0 (image journal_name) (closed_there step.0 step.1) step.2;
      named = λ other bytes some.
          recovers.brought other bytes some (image other) ((touches.others other (not_former other bytes some)).no_more (image other) (fewer other (image other) (is other)));
      others = λ other apart.
          (recovers.kept.images other apart).no_more (image other) ((touches.others other apart.0).no_more (image other) (fewer other (image other) (is other)));
    }

    cut_images : (other : List ℕ) → IsElse journal_name list other
        → KeepsImagesOf other (g.may_leave old) (g.may_leave cut)
    cut_images other apart =
        images_then other (g.may_leave old) (g.may_leave mid) (g.may_leave cut) (recovers.kept.images other apart) (touches.others other apart.0)

    else_cut : AddsOnly g old cut (IsRetiring (g.seen old) (g.may_leave old) list)
    else_cut =
        else_both _ _ _ _ _ (IsRetiring (g.seen old) (g.may_leave old) list) (else_recovered (Ok tt) recovers) moment
        (else_first _ _ _ (g.may_leave cut) (IsRetiring (g.seen old) (g.may_leave old) list) time (λ image is. inr (behind_cut (g.may_leave cut) (λ file c left. left) image is)))

    pub retires_uncut : (r : Result Unit Failed) → IsErr r → Retires g old cut r list
    retires_uncut (Ok x) failed = absurd (cc)
    retires_uncut (Err e) failed = record {
      closed = tt;
      brought = tt;
      kept = record { images = cut_images; seen = λ other apart. seen other apart.0 ∙ recovers.kept.seen other apart };
      time = else_cut;
    }

    -- and which was synced then, or not
    module _ (new : D) (r : Result Unit Failed) (later : g.moment mid ≤ g.moment cut) (same : g.seen new ≡ g.seen cut) (short : g.seen cut journal_name ≡ take 1 (g.seen mid journal_name))
        (synced : OnOk r (Only (g.seen cut journal_name) (g.may_leave new journal_name))) (others : KeepsOtherImages journal_name (g.may_leave cut) (g.may_leave new))
        (before : (file c : List ℕ) → g.may_leave new file c → g.may_leave cut file c) (last : Elapses (g.moment cut) (g.left_since cut) (g.left_since new) (g.may_leave new)) where
      pub retires_cut : Retires g old new r list
      retires_cut = record {
        closed = on_ok_weaker r (λ only c is. only c is ∙ short ∙ closed_there (g.seen mid journal_name) (g.read_is_image mid told journal_name)) synced;
        brought = on_ok (HasBrought (g.may_leave new) (as_one list)) r (λ other bytes some c is.
            recovers.brought other bytes some c ((touches.others other (not_former other bytes some)).no_more c (before other c is)));
        kept = record {
          images = λ other apart. images_then other (g.may_leave old) (g.may_leave cut) (g.may_leave new) (cut_images other apart) (others other apart.0);
          seen = λ other apart. ap (λ (s : Image). s other) same ∙ seen other apart.0 ∙ recovers.kept.seen other apart;
        };
        time =
            else_both _ _ _ _ _ (IsRetiring (g.seen old) (g.may_leave old) list) else_cut (omega (arith, moment, later))
            (else_first _ _ _ (g.may_leave new) (IsRetiring (g.seen old) (g.may_leave old) list) last (λ image is. inr (behind_cut (g.may_leave new) before image is)));
      }
