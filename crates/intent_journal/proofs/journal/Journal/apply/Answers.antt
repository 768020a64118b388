use Rattle.std.proofs.Common.{◌≡◌, ◌<◌, List, ℕ, Some, None, length, slice_get, inr, refl, sym, subst}
use Rattle.kdb_outside.specs.Images.{KeepsImagesOf}
use Rattle.journal_codec.specs.declared.files.FileText.{FileText}
use Rattle.journal_codec.specs.Entry.{journal2_name}
use Rattle.journal_steps.specs.Moments.{AddsOnly, KeepsUnnamed}
use Rattle.journal_steps.specs.Outcomes.{content_in}
use Rattle.journal_lists.specs.Lists.{as_one}
use Rattle.intent_journal.specs.Pending.{pending_in}
use Rattle.intent_journal.proofs.LeastNames.{brought_step}
use Rattle.intent_journal.proofs.Passages.{as_one-own}
use Rattle.intent_journal.proofs.Sound.{sound_kept}
use Rattle.intent_journal.proofs.Steps.{keeping}
use Rattle.intent_journal.proofs.journal.Journal.apply.Goals as goal

pub put_pending-requires : goal.put_pending-requires
put_pending-requires g c =
    let within = rw (← c.self.view_is) at c.requires.within in
    subst (λ (l : List (List FileText)). c.args.i < length (pending_in l)) (sym c.as_slice.ensures.value) within

pub invariant_of-self : goal.invariant_of-self
invariant_of-self g c =
    let unnamed = subst (λ (l : List (List FileText)). content_in (as_one l) journal2_name ≡ None) (sym c.as_slice.ensures.value) (as_one-own c.self.inside.list.items journal2_name (inr refl) c.self.invariant.fits.each) in
    sound_kept (g.D.Disk.tells c.self.inside.disk) _ (g.D.Disk.may_leave c.self.inside.disk) _ _ _ _ _ _ _ _ c.self.invariant c.put_pending.ensures.goes.tells
    (λ tells. (c.put_pending.ensures.others tells journal2_name unnamed).no_more)

pub returns-clause-puts : goal.returns-clause-puts
returns-clause-puts g c =
    rw (← c.self.view_is) (λ tells content found.
    c.put_pending.ensures.puts tells content (subst (λ (l : List (List FileText)). slice_get (pending_in l) c.args.i ≡ Some content) (sym c.as_slice.ensures.value) found))

pub returns-clause-applied : goal.returns-clause-applied
returns-clause-applied g c =
    let within = rw (← c.self.view_is) at c.requires.within in
    let list = c.self.inside.list.items in
    rw (← c.self.view_is) (λ tells so_far.
    brought_step c.put_pending.result (g.D.Disk.may_leave c.self.inside.disk) (g.D.Disk.may_leave c.put_pending.new.disk) list c.args.i so_far
    (λ content found.
    (c.put_pending.ensures.puts tells content (subst (λ (l : List (List FileText)). slice_get (pending_in l) c.args.i ≡ Some content) (sym c.as_slice.ensures.value) found)).durable)
    (λ content found.
    (c.put_pending.ensures.puts tells content (subst (λ (l : List (List FileText)). slice_get (pending_in l) c.args.i ≡ Some content) (sym c.as_slice.ensures.value) found)).others)
    within)

pub returns-clause-passes : goal.returns-clause-passes
returns-clause-passes g c =
    let old = c.self.inside.disk in
    let new = c.put_pending.new.disk in
    let list = c.self.inside.list.items in
    rw (← c.self.view_is) (λ tells names before headed starts state.
    keeping g.D.Disk old new c.put_pending.result tells names before list state
    (subst (λ (l : List (List FileText)). (other : List ℕ) → content_in (as_one l) other ≡ None → KeepsImagesOf other (g.D.Disk.may_leave old) (g.D.Disk.may_leave new)) c.as_slice.ensures.value (c.put_pending.ensures.others tells))
    (subst (λ (l : List (List FileText)). AddsOnly g.D.Disk old new (KeepsUnnamed (as_one l) (g.D.Disk.may_leave old))) c.as_slice.ensures.value (c.put_pending.ensures.time tells)))
