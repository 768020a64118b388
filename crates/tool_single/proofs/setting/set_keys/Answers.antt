-- What is prepared was fetched, and what is refused is refused for no mount that wasn't.
use Rattle.std.proofs.Common.{List, subst, ℕ}
use Rattle.std.specs.Prelude.{string_bytes}
use Rattle.model_maps.specs.KeyMap.{no_keys}
use Rattle.store_verdict.specs.Preparing.{IsMade}
use Rattle.store_verdict.specs.RecordView.{record_of}
use Rattle.tool_commands.specs.StepView.{report_of}
use Rattle.kdb_outside.specs.Faults.{HasRisen}
use Rattle.tool_single.specs.Answer.{tells}
use Rattle.tool_single.specs.Alone.{store_alone}
use Rattle.tool_single.specs.Sets.{AnswersSet, formats}
use Rattle.tool_single.proofs.ServeLemmas.{told_serves}
use Rattle.tool_single.proofs.SetLemmas.{never_unfetched, not_memory, refused_answers, unseen_not_memory}
use Rattle.tool_single.proofs.setting.set_keys.Goals as goal

pub commit_set-requires-clause-alone : goal.commit_set-requires-clause-alone
commit_set-requires-clause-alone g c = record {
  parent = c.args.parent.now;
  keys = c.args.keys.now;
  fetched = c.requires.fetched;
  made =
      subst (λ (h : ℕ). IsMade formats (store_alone c.args.plan.now.mounted) h (record_of c.args.rec.now) c.args.parent.now c.args.keys.now c.in-Ok.prepared) c.requires.fetched.handle
      (c.in-Ok.ensures.made (λ h. no_keys));
}

pub returns-in-Ok-clause-serving : goal.returns-in-Ok-clause-serving
returns-in-Ok-clause-serving g c =
    c.commit_set.ensures.serving c.args.parent.now c.args.keys.now c.requires.fetched
    (subst (λ (h : ℕ). IsMade formats (store_alone c.args.plan.now.mounted) h (record_of c.args.rec.now) c.args.parent.now c.args.keys.now c.in-Ok.prepared) c.requires.fetched.handle
    (c.in-Ok.ensures.made (λ h. no_keys)))

pub refuse_set-requires : goal.refuse_set-requires
refuse_set-requires g c = λ mount is.
    never_unfetched c.args.plan.now.mounted c.args.parent.now c.args.keys.now c.args.rec.now c.requires.fetched c.in-Err.fault
    (c.in-Err.ensures.refused (unseen_not_memory c.in-Err.fault mount is) (λ h. no_keys)) mount is

pub returns-in_ok-refuse_set-in-Err-clause-serving : goal.returns-in_ok-refuse_set-in-Err-clause-serving
returns-in_ok-refuse_set-in-Err-clause-serving g c =
    let refused = g.P.Patterns.refusals in
    let Rose : List ℕ → Type 0 = λ pattern. HasRisen (refused c.args.core.now.patterns) (refused c.args.core.now.patterns) in
    told_serves g.D.Disk c.args.plan.now.mounted (AnswersSet Rose c.args.plan.now.mounted c.args.parent.now c.args.keys.now (string_bytes c.args.out)) (report_of c.in_ok-refuse_set-in-Err.field-0) c.args.core.now
    (refused_answers c.args.plan.now.mounted c.args.parent.now c.args.keys.now c.args.rec.now c.requires.fetched Rose (string_bytes c.args.out) c.in-Err.fault (tells (report_of c.in_ok-refuse_set-in-Err.field-0))
    (c.in-Err.ensures.refused (not_memory c.in-Err.fault _ c.in_ok-refuse_set-in-Err.ensures.refused) (λ h. no_keys)) c.in_ok-refuse_set-in-Err.ensures.refused)
