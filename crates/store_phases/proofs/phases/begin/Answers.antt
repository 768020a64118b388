use Rattle.std.proofs.Common.{◌≡◌, ℕ, true, false, Some, List, [], ◌∷◌, ◌++◌, ◌∙◌, sym, subst, rules}
use Rattle.std.proofs.lemmas.Result.{MatchResult-from_err}
use Rattle.journal_codec.specs.declared.files.FileText.{FileText}
use Rattle.journal_codec.proofs.ListedLemmas.{listed_again}
use Rattle.journal_lists.specs.Rules.{listed, IsAllowed}
use Rattle.journal_steps.specs.Outcomes.{with_entries, IsEither}
use Rattle.intent_journal.specs.Journal.{IsList}
use Rattle.intent_journal.specs.Outcomes.{HasOnly}
use Rattle.intent_journal.specs.States.{IsListed, HasBodyBehind}
use Rattle.intent_journal.proofs.Sound.{fits_more}
use Rattle.store_phases.proofs.Resting.{either_moment, moments_then, opened_rests, outcome_moment, rests_at, rests_listed, unopened_rests}
use Rattle.store_phases.proofs.phases.begin.Goals as goal

pub open_gate-requires-clause-fits : goal.open_gate-requires-clause-fits
open_gate-requires-clause-fits g c =
    subst (λ (list : List (List FileText)). IsList (list ++ c.args.files ∷ [])) (sym c.put_body.ensures.same.0.list) c.requires.fits

pub open_gate-requires-clause-headed : goal.open_gate-requires-clause-headed
open_gate-requires-clause-headed g c = c.put_body.ensures.same.0.headed ∙ c.requires.headed

pub open_gate-requires-clause-body : goal.open_gate-requires-clause-body
open_gate-requires-clause-body g c told =
    let old = c.args.journal.now in
    let put = c.put_body.new.self in
    let tells = sym c.put_body.ensures.step.goes.tells ∙ told in
    let same = c.put_body.ensures.same.0 in
    subst (λ (s : ℕ × List (List FileText)). HasBodyBehind (g.D.Disk.may_leave put.disk) s.0 s.1 c.args.files) (λ i. (sym same.start i, sym same.list i))
    (c.in_ok-put_body.ensures.body tells c.args.files c.requires.encoded)

pub returns-in_err-put_body-clause-passes : goal.returns-in_err-put_body-clause-passes
returns-in_err-put_body-clause-passes g c names files doubt rests of_run =
    let old = c.args.journal.now in
    let put = c.put_body.new.self in
    let tells = c.put_body.ensures.step.goes.tells ∙ rests.tells in
    let same = c.put_body.ensures.same.0 in
    let listed = rests_listed g.D.Disk old put c.put_body.result names files doubt c.requires.headed c.requires.sure rests in
    let passes = c.in_err-put_body.ensures.passes rests.tells names rests.before c.requires.headed (rests.start c.requires.headed) listed in
    record {
      ok = search rules;
      err = MatchResult-from_err _ _ _ c.from_residual.ensures.0
          (λ _.
          rests_at g.D.Disk put names files rests.before old.list (Some c.args.files) true false (same.headed ∙ c.requires.headed) c.put_body.ensures.same.1 same.list tells rests.with_list
          (λ _. same.start ∙ rests.start c.requires.headed) passes.err);
      any_moment = outcome_moment g.D.Disk old.disk put.disk files (with_entries rests.before old.list) (Some c.args.files) rests.with_list passes.any_moment;
    }

pub returns-clause-passes : goal.returns-clause-passes
returns-clause-passes g c names files doubt rests of_run =
    let old = c.args.journal.now in
    let put = c.put_body.new.self in
    let new = c.open_gate.new.self in
    let entry = c.args.files in
    let put_tells = c.put_body.ensures.step.goes.tells ∙ rests.tells in
    let tells = c.open_gate.ensures.step.goes.tells ∙ put_tells in
    let same = c.put_body.ensures.same.0 in
    let headed = same.headed ∙ c.requires.headed in
    let start = same.start ∙ rests.start c.requires.headed in
    let state = rests_listed g.D.Disk old put c.put_body.result names files doubt c.requires.headed c.requires.sure rests in
    let passes = c.in_ok-put_body.ensures.passes rests.tells names rests.before c.requires.headed (rests.start c.requires.headed) state in
    let with_list = subst (λ (list : List (List FileText)). files ≡ with_entries rests.before list) (sym same.list) rests.with_list in
    let behind = subst (λ (list : List (List FileText)). IsListed (g.D.Disk.may_leave put.disk) names rests.before list) (sym same.list) passes.ok in
    let allowed : IsAllowed (listed names) entry = record { is_entry = of_run.entry; again = listed_again names entry of_run.entry of_run.named } in
    let fits = fits_more names put.list entry behind.fits allowed (subst (λ (list : List (List FileText)). IsList (list ++ entry ∷ [])) (sym same.list) c.requires.fits) in
    let opened = c.open_gate.ensures.passes put_tells names rests.before headed start fits behind in
    let begins = c.open_gate.ensures.head.1 ∙ start in
    record {
      ok = opened_rests g.D.Disk new names files rests.before put.list entry tells with_list c.open_gate.ensures.head.0 begins c.open_gate.result c.open_gate.ensures.ok opened.ok;
      err = unopened_rests g.D.Disk new names files rests.before put.list entry tells with_list c.open_gate.ensures.head.0 begins c.open_gate.result c.open_gate.ensures.err opened.err;
      any_moment =
          moments_then g.D.Disk old.disk put.disk new.disk (HasOnly (IsEither files (Some entry))) c.put_body.ensures.step.goes.moment
          (outcome_moment g.D.Disk old.disk put.disk files (with_entries rests.before old.list) (Some entry) rests.with_list passes.any_moment)
          (either_moment g.D.Disk put.disk new.disk files (with_entries rests.before put.list) (Some entry) with_list opened.any_moment);
    }
