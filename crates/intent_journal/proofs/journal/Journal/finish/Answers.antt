use Rattle.std.proofs.Common.{◌≡◌, true, [], Ok, List, None, inl, inr, refl, ap, sym, subst, ◌∙◌, rules}
use Rattle.std.specs.List.{AllByRecursion}
use Rattle.journal_codec.specs.declared.files.FileText.{FileText}
use Rattle.journal_codec.specs.Entry.{journal2_name, IsEntry}
use Rattle.journal_steps.specs.Outcomes.{with_entries}
use Rattle.intent_journal.specs.Bringing.{Brings}
use Rattle.journal_lists.specs.Lists.{as_one}
use Rattle.intent_journal.proofs.Passages.{as_one-own}
use Rattle.intent_journal.proofs.Sound.{sound_kept}
use Rattle.intent_journal.proofs.Steps.{bringing, finishing, unfinished_lag, unfinished_doubt}
use Rattle.intent_journal.proofs.journal.Journal.finish.Goals as goal

pub bring_in-requires : goal.bring_in-requires
bring_in-requires g c = subst (AllByRecursion IsEntry) (sym c.as_slice.ensures.value) c.self.invariant.fits.each

pub invariant_of-self : goal.invariant_of-self
invariant_of-self g c =
    let list = c.self.inside.list.items in
    let brings = λ (tells : g.D.Disk.tells c.self.inside.disk ≡ true). subst (λ (l : List (List FileText)). Brings g.D.Disk c.self.inside.disk c.bring_in.new.disk c.bring_in.result (as_one l) []) c.as_slice.ensures.value (c.bring_in.ensures.brings tells) in
    sound_kept (g.D.Disk.tells c.self.inside.disk) _ (g.D.Disk.may_leave c.self.inside.disk) _ _ _ _ _ _ _ _ c.self.invariant c.bring_in.ensures.goes.tells
    (λ tells. ((brings tells).kept journal2_name (inl (as_one-own list journal2_name (inr refl) c.self.invariant.fits.each))).no_more)

pub invariant_of-self-2 : goal.invariant_of-self-2
invariant_of-self-2 g c =
    let list = c.self.inside.list.items in
    let brings = λ (tells : g.D.Disk.tells c.self.inside.disk ≡ true). subst (λ (l : List (List FileText)). Brings g.D.Disk c.self.inside.disk c.bring_in.new.disk c.bring_in.result (as_one l) []) c.as_slice.ensures.value (c.bring_in.ensures.brings tells) in
    sound_kept (g.D.Disk.tells c.self.inside.disk) _ (g.D.Disk.may_leave c.self.inside.disk) _ _ _ _ _ _ _ _ c.self.invariant c.bring_in.ensures.goes.tells
    (λ tells. ((brings tells).kept journal2_name (inl (as_one-own list journal2_name (inr refl) c.self.invariant.fits.each))).no_more)

pub returns-in_err-bring_in-clause-passes : goal.returns-in_err-bring_in-clause-passes
returns-in_err-bring_in-clause-passes g c =
    let old = c.self.inside.disk in
    let mid = c.bring_in.new.disk in
    let list = c.self.inside.list.items in
    let sure = ap (λ j. j.in_doubt) c.self.view_is ∙ c.requires.sure in
    rw (← c.self.view_is) (λ tells names before headed starts state.
    let brings = subst (λ (l : List (List FileText)). Brings g.D.Disk old mid c.bring_in.result (as_one l) []) c.as_slice.ensures.value (c.bring_in.ensures.brings tells) in
    let passes = bringing g.D.Disk old mid c.from_residual.result tells names before list c.bring_in.result state brings in
    record {
      ok = search rules;
      err = unfinished_lag c.self.inside.in_doubt names before list (g.D.Disk.may_leave mid) c.from_residual.result sure passes.err;
      any_moment = passes.any_moment;
    })

pub returns-clause-passes : goal.returns-clause-passes
returns-clause-passes g c =
    let old = c.self.inside.disk in
    let mid = c.bring_in.new.disk in
    let list = c.self.inside.list.items in
    rw (← c.self.view_is) (λ tells names before headed starts state.
    let brings = subst (λ (l : List (List FileText)). Brings g.D.Disk old mid (Ok tt) (as_one l) []) c.as_slice.ensures.value (c.in_ok-bring_in.ensures.brings tells) in
    let passes = finishing g.D.Disk old mid c.shut.new.self.disk c.shut.result names before list tells state c.bring_in.ensures.goes brings
    (λ doubtful. c.shut.ensures.passes (c.bring_in.ensures.goes.tells ∙ tells) names (with_entries before list) headed starts None doubtful) in
    record {
      ok = passes.ok;
      err = unfinished_doubt c.shut.new.self.in_doubt names before list (g.D.Disk.may_leave c.shut.new.self.disk) c.shut.result c.shut.ensures.err passes.err;
      any_moment = passes.any_moment;
    })
