-- The opening, the answer over the open store and the close make what is done to the disk.
use Rattle.std.proofs.Common.{ℕ, Ok, Some, ap, subst, sym, ◌∙◌, arith}
use Rattle.std.proofs.lemmas.Result.{IfOk-weaker}
use Rattle.intent_journal.specs.Opened.{opened_files}
use Rattle.intent_journal.specs.Openings.{LeavesRetired}
use Rattle.intent_journal.specs.Opens.{has_any}
use Rattle.model_files.specs.Files.{table_files}
use Rattle.model_maps.specs.KeyMap.{no_keys}
use Rattle.kdb_outside.specs.Faults.{HasRisen}
use Rattle.kdb_outside.specs.Frames.{GoesOn, OnlyReads}
use Rattle.kdb_outside.proofs.Frames.{GoesOn-then}
use Rattle.kdb_outside.proofs.Rises.{risen_since, risen_still}
use Rattle.tool_words.specs.RequestView.{question_of}
use Rattle.store_lines.specs.Lines.{bad_journal, unknown_journal}
use Rattle.tool_single.specs.Alone.{store_alone}
use Rattle.tool_single.specs.Answers.{AnswersIn, AnswersOver}
use Rattle.tool_single.specs.Serving.{MayRefuse, Serve}
use Rattle.tool_single.specs.Untold.{own_statuses}
use Rattle.tool_single.proofs.BrokenLemmas.{WasTold, line_of_broken, line_of_unknown, told_by_line}
use Rattle.tool_single.proofs.EndLemmas.{end-answered, refused-answered, refused-end}
use Rattle.tool_single.proofs.InputLemmas.{on_ok}
use Rattle.tool_single.proofs.JournalPlaces.{journal-refused}
use Rattle.tool_single.proofs.OpeningLemmas.{has_begun, leaves_calm, left_found, refused_serve}
use Rattle.tool_single.proofs.ServeLemmas.{serve, serving_no_read, serving_untouched, serving_unstored, serving_weaker}
use Rattle.tool_single.proofs.questions.answer_question.Goals as goal

pub returns-in-Ok : goal.returns-in-Ok
returns-in-Ok g c = record {
  served = λ tells files doubt calm.
      let disk = c.args.disk in
      let seen = opened_files (g.D.Disk.seen disk) in
      let core = c.in-Ok.opened.core in
      let mounted = c.in-Ok.opened.plan.mounted in
      let question = question_of c.args.question in
      let Refusing = MayRefuse c.answer_in-answer.result (g.P.Patterns.refusals c.in-Ok.opened.core.patterns) (g.P.Patterns.refusals c.answer_in-answer.new.core.patterns) in
      let begins = c.in-Ok.ensures.stands tells files doubt calm in
      let names = table_files (store_alone mounted) in
      let begun = has_begun g.D.Disk disk files doubt names core.journal calm (c.in-Ok.ensures.files tells files doubt calm) begins.later begins.may_be (begins.stands (λ h. no_keys)).on_disk
      (λ others other again same. (c.in-Ok.ensures.own tells others other again same (λ h. no_keys)).on_disk) in
      let is_opened = c.in-Ok.ensures.opened tells files doubt calm in
      let serving = c.answer_in-answer.ensures.serving in
      let refused = g.P.Patterns.refusals in
      let result = c.answer_in-answer.result in
      let end = c.close-disk.result in
      subst (λ d. Serve g.D.Disk files doubt (AnswersOver (MayRefuse result (refused c.args.patterns) (refused end.patterns)) question seen) result disk d) (sym c.given_back-disk.ensures)
      (subst (λ (before : ℕ). Serve g.D.Disk files doubt (AnswersOver (MayRefuse result before (refused end.patterns)) question seen) result disk end.disk) (ap refused c.in-Ok.ensures.patterns)
      (subst (λ (now : ℕ). Serve g.D.Disk files doubt (AnswersOver (MayRefuse result (refused core.patterns) now) question seen) result disk end.disk) (ap refused (sym c.close-disk.ensures.patterns))
      (serve g.D.Disk disk c.close-disk.result.disk files doubt mounted core c.answer_in-answer.new.core
      (record {
        begun = begun;
        goes = c.in-Ok.ensures.goes;
        meanwhile = c.in-Ok.ensures.any_moment tells files doubt calm;
        alone = λ none. c.in-Ok.ensures.left_alone tells none.no_former none.none;
        found = λ still. left_found g.D.Disk disk core.journal.disk tells (c.in-Ok.ensures.left tells files doubt calm still);
        wrote = c.in-Ok.ensures.wrote tells;
        fresh = c.in-Ok.ensures.fresh;
      })
      (record { alone = c.close-disk.ensures.left_alone; shown = c.close-disk.ensures.shown; always = c.close-disk.ensures.always; now = c.close-disk.ensures.now; rests = c.close-disk.ensures.rests; settled = c.close-disk.ensures.settled; goes = c.close-disk.ensures.goes; calm = c.close-disk.ensures.calm })
      (AnswersOver Refusing question seen) c.answer_in-answer.result c.answer_in-answer.ensures.cause
      (serving_weaker g.D.Disk mounted (AnswersIn Refusing mounted question) (AnswersOver Refusing question seen) c.answer_in-answer.result core c.answer_in-answer.new.core
      (λ answer answers. record { opened = Ok mounted; opens = is_opened; answers = answers }) serving))));
  untouched = λ tells none nothing.
      let seen = g.D.Disk.seen c.args.disk in
      let core = c.in-Ok.opened.core in
      let mounted = c.in-Ok.opened.plan.mounted in
      let question = question_of c.args.question in
      let Refusing = MayRefuse c.answer_in-answer.result (g.P.Patterns.refusals c.in-Ok.opened.core.patterns) (g.P.Patterns.refusals c.answer_in-answer.new.core.patterns) in
      let is_opened = c.in-Ok.ensures.as_seen tells none.no_former none.none in
      let refused = g.P.Patterns.refusals in
      let result = c.answer_in-answer.result in
      subst (OnlyReads g.D.Disk c.args.disk) (sym c.given_back-disk.ensures)
      (serving_untouched g.D.Disk c.args.disk c.close-disk.result.disk core c.answer_in-answer.new.core
      (record { alone = c.in-Ok.ensures.left_alone tells none.no_former none.none; wrote = c.in-Ok.ensures.wrote tells ∙ ap has_any none.none; fresh = c.in-Ok.ensures.fresh }) c.close-disk.ensures.left_alone
      mounted (AnswersOver Refusing question seen) c.answer_in-answer.result
      (serving_weaker g.D.Disk mounted (AnswersIn Refusing mounted question) (AnswersOver Refusing question seen) c.answer_in-answer.result core c.answer_in-answer.new.core
      (λ answer answers. record { opened = Ok mounted; opens = is_opened; answers = answers }) c.answer_in-answer.ensures.serving)
      (λ answer answers. nothing answer
      (subst (λ (now : ℕ). AnswersOver (MayRefuse result (refused c.args.patterns) now) question seen answer) (ap refused (sym c.close-disk.ensures.patterns))
      (subst (λ (before : ℕ). AnswersOver (MayRefuse result before (refused c.answer_in-answer.new.core.patterns)) question seen answer) (ap refused c.in-Ok.ensures.patterns) answers))));
  unstored = λ tells none not_done.
      let core = c.in-Ok.opened.core in
      let refused = g.P.Patterns.refusals in
      let Refusing = MayRefuse c.answer_in-answer.result (refused core.patterns) (refused c.answer_in-answer.new.core.patterns) in
      let Answered = AnswersIn Refusing c.in-Ok.opened.plan.mounted (question_of c.args.question) in
      subst (OnlyReads g.D.Disk c.args.disk) (sym c.given_back-disk.ensures)
      (serving_unstored g.D.Disk c.args.disk c.close-disk.result.disk core c.answer_in-answer.new.core
      (record { alone = c.in-Ok.ensures.left_alone tells none.no_former none.none; wrote = c.in-Ok.ensures.wrote tells ∙ ap has_any none.none; fresh = c.in-Ok.ensures.fresh }) c.close-disk.ensures.left_alone
      c.in-Ok.opened.plan.mounted Answered c.answer_in-answer.result c.answer_in-answer.ensures.serving not_done);
  broken = λ tells at is. absurd (c.in-Ok.ensures.broken tells at is);
  unknown = λ tells version is. absurd (c.in-Ok.ensures.known tells version is);
  broken_stays = λ tells fault is kept.
      absurd (journal-refused (g.D.Disk.seen c.args.disk) fault ⊥ is (λ at bad. c.in-Ok.ensures.broken tells at bad) (λ version other. c.in-Ok.ensures.known tells version other));
  broken_kept = λ tells fault is kept told.
      absurd (journal-refused (g.D.Disk.seen c.args.disk) fault ⊥ is (λ at bad. c.in-Ok.ensures.broken tells at bad) (λ version other. c.in-Ok.ensures.known tells version other));
  status = c.answer_in-answer.ensures.status;
  own = IfOk-weaker c.answer_in-answer.result _ _ (λ report end. end-answered report.status end.1) c.answer_in-answer.ensures.status;
  cause = λ is.
      let faults = g.D.Disk.faults in
      let core = c.in-Ok.opened.core in
      let after = c.answer_in-answer.new.core in
      let end = c.close-disk.result in
      subst (λ d. HasRisen (faults c.args.disk) (faults d)) (sym c.given_back-disk.ensures)
      (risen_since (faults c.args.disk) (faults core.journal.disk) (faults end.disk) c.in-Ok.ensures.goes.later
      (risen_still (faults core.journal.disk) (faults after.journal.disk) (faults end.disk) c.answer_in-answer.ensures.goes.later c.close-disk.ensures.goes.later (c.answer_in-answer.ensures.cause is)));
  input =
      let core = c.in-Ok.opened.core in
      let after = c.answer_in-answer.new.core in
      let result = c.answer_in-answer.result in
      serving_no_read g.D.Disk c.in-Ok.opened.plan.mounted (AnswersIn (MayRefuse result (g.P.Patterns.refusals core.patterns) (g.P.Patterns.refusals after.patterns)) c.in-Ok.opened.plan.mounted (question_of c.args.question)) result core after c.answer_in-answer.ensures.serving;
  goes =
      let core = c.in-Ok.opened.core in
      let after = c.answer_in-answer.new.core in
      let end = c.close-disk.result in
      subst (GoesOn g.D.Disk c.args.disk) (sym c.given_back-disk.ensures)
      (GoesOn-then g.D.Disk c.args.disk core.journal.disk end.disk c.in-Ok.ensures.goes (GoesOn-then g.D.Disk core.journal.disk after.journal.disk end.disk c.answer_in-answer.ensures.goes c.close-disk.ensures.goes));
  later =
      let first = ap g.P.Patterns.refusals c.in-Ok.ensures.patterns in
      let last = ap g.P.Patterns.refusals c.close-disk.ensures.patterns in
      omega (arith, first, last, c.answer_in-answer.ensures.later);
}

pub returns-in-Err : goal.returns-in-Err
returns-in-Err g c = record {
  served = λ tells files doubt calm.
      let refused = g.P.Patterns.refusals in
      let refusal = c.in-Err.field-0 in
      let Refusing = MayRefuse c.refuse_opening.result (refused c.args.patterns) (refused refusal.patterns) in
      let Answered = AnswersOver Refusing (question_of c.args.question) (opened_files (g.D.Disk.seen c.args.disk)) in
      subst (λ d. Serve g.D.Disk files doubt Answered c.refuse_opening.result c.args.disk d) (sym c.given_back-disk-in-Err.ensures)
      (refused_serve g.D.Disk c.args.disk refusal.disk files doubt (refused c.args.patterns) (refused refusal.patterns) (question_of c.args.question) refusal.fault
      c.refuse_opening.result c.refuse_opening.ensures.told c.refuse_opening.ensures.answered c.refuse_opening.ensures.input
      (c.in-Err.ensures.any_moment tells files doubt calm) (c.in-Err.ensures.rests tells files doubt calm) (c.in-Err.ensures.shown tells files doubt calm) (λ none. c.in-Err.ensures.left_alone tells none.no_former none.none)
      (c.in-Err.ensures.refused tells files doubt calm)
      (λ at is. (c.in-Err.ensures.calm tells files doubt calm).0 at (ap Some is), λ version is. (c.in-Err.ensures.calm tells files doubt calm).1 version (ap Some is))
      (λ still. leaves_calm g.D.Disk c.args.disk c.in-Err.field-0.disk files doubt tells calm (c.in-Err.ensures.calm_still tells files doubt calm still) (c.in-Err.ensures.left tells files doubt calm still)));
  untouched = λ tells none nothing. subst (OnlyReads g.D.Disk c.args.disk) (sym c.given_back-disk-in-Err.ensures) (c.in-Err.ensures.left_alone tells none.no_former none.none);
  unstored = λ tells none not_done. subst (OnlyReads g.D.Disk c.args.disk) (sym c.given_back-disk-in-Err.ensures) (c.in-Err.ensures.left_alone tells none.no_former none.none);
  broken = λ tells at is.
      let why = c.in-Err.field-0.fault in
      told_by_line (bad_journal at) why c.refuse_opening.result c.refuse_opening.ensures.told c.refuse_opening.ensures.answered (λ told. line_of_broken at why told (c.in-Err.ensures.broken tells at is));
  unknown = λ tells version is.
      let why = c.in-Err.field-0.fault in
      told_by_line (unknown_journal version) why c.refuse_opening.result c.refuse_opening.ensures.told c.refuse_opening.ensures.answered
      (λ told. line_of_unknown version why told (c.in-Err.ensures.known tells version is));
  broken_stays = λ tells fault is kept.
      subst (OnlyReads g.D.Disk c.args.disk) (sym c.given_back-disk-in-Err.ensures) (c.in-Err.ensures.stays tells fault is kept);
  broken_kept = λ tells fault is kept told.
      let own = on_ok c.refuse_opening.result (WasTold c.in-Err.field-0.fault) told c.refuse_opening.ensures.answered in
      subst (LeavesRetired g.D.Disk c.args.disk) (sym c.given_back-disk-in-Err.ensures) (c.in-Err.ensures.retires tells fault is kept own.0 own.1);
  status = IfOk-weaker c.refuse_opening.result _ _ (λ report is. refused-end (own_statuses (question_of c.args.question)) report.status is) c.refuse_opening.ensures.status;
  own = IfOk-weaker c.refuse_opening.result _ _ (λ report is. refused-answered 5 report.status (omega arith) is) c.refuse_opening.ensures.status;
  cause = λ is. subst (λ d. HasRisen (g.D.Disk.faults c.args.disk) (g.D.Disk.faults d)) (sym c.given_back-disk-in-Err.ensures) (c.in-Err.ensures.cause (ap Some (c.refuse_opening.ensures.cause is)));
  input = c.refuse_opening.ensures.input;
  goes = subst (GoesOn g.D.Disk c.args.disk) (sym c.given_back-disk-in-Err.ensures) c.in-Err.ensures.goes;
  later = let same = ap g.P.Patterns.refusals c.in-Err.ensures.patterns in omega (arith, same);
}
