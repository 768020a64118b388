-- The opening and what came of the open store make what is done to the disk.
use Rattle.std.proofs.Common.{◌≡◌, Some, ap, arith, refl, subst, sym}
use Rattle.std.proofs.lemmas.Result.{IfOk-weaker}
use Rattle.batch_script.specs.declared.steps.Script.{Script}
use Rattle.intent_journal.specs.Opened.{opened_files}
use Rattle.intent_journal.specs.Openings.{LeavesRetired}
use Rattle.kdb_handle.specs.Opened.{store_at}
use Rattle.kdb_outside.specs.Faults.{HasRisen}
use Rattle.kdb_outside.specs.Frames.{GoesOn, OnlyReads}
use Rattle.model_files.specs.Files.{table_files}
use Rattle.model_maps.specs.KeyMap.{no_keys}
use Rattle.store_lines.specs.Lines.{bad_journal, unknown_journal}
use Rattle.kdb_tool.proofs.OpeningLemmas.{unopened-serve}
use Rattle.kdb_tool.proofs.PlayLemmas.{goes-ended, later-ended, reported-ended, stops-ended, stores-none-ended, works-ended}
use Rattle.kdb_tool.proofs.WorkLemmas.{reads-none}
use Rattle.kdb_tool.proofs.playing.play_script.Goals as goal
use Rattle.kdb_tool.specs.Reported.{Own}
use Rattle.kdb_tool.specs.Unplayed.{IsUnopened}
use Rattle.kdb_tool.specs.Working.{NotPlayed}
use Rattle.tool_single.proofs.BrokenLemmas.{WasTold, line_of_broken, line_of_unknown, told_by_line}
use Rattle.tool_single.proofs.EndLemmas.{refused-answered}
use Rattle.tool_single.proofs.InputLemmas.{on_ok}
use Rattle.tool_single.proofs.JournalPlaces.{journal-refused}
use Rattle.tool_single.proofs.OpeningLemmas.{has_begun, leaves_calm, left_found}
use Rattle.tool_single.specs.Serving.{Serve}
use Rattle.tool_single.specs.declared.answers.Stop.TheVariants.{DiskFault, ReadFault}

pub returns-in-Ok : goal.returns-in-Ok
returns-in-Ok g c = record {
  worked = λ tells files doubt calm.
      let disk = c.args.disk in
      let refused = g.P.Patterns.refusals in
      let core = c.in-Ok.opened.core in
      let opening = c.in-Ok.ensures in
      let begins = opening.stands tells files doubt calm in
      let names = table_files (store_at c.in-Ok.opened.plan.mounted) in
      let begun = has_begun g.D.Disk disk files doubt names core.journal calm (opening.files tells files doubt calm) begins.later begins.may_be (begins.stands (λ h. no_keys)).on_disk (λ others other again same. (opening.own tells others other again same (λ h. no_keys)).on_disk) in
      works-ended g.D.Disk refused disk files doubt c.args.script.now c.in-Ok.opened.plan.mounted core c.play_store.result (refused c.args.patterns) tells (opening.opened tells files doubt calm)
      (record {
        begun = begun;
        goes = opening.goes;
        meanwhile = opening.any_moment tells files doubt calm;
        alone = λ none. opening.left_alone tells none.no_former none.none;
        found = λ still. left_found g.D.Disk disk core.journal.disk tells (opening.left tells files doubt calm still);
        wrote = opening.wrote tells;
        fresh = opening.fresh;
      })
      c.play_store.ensures (ap refused opening.patterns) (IsUnopened (opened_files (g.D.Disk.seen disk))) (λ (played : Script). played ≡ c.args.script.now) refl;
  reported = reported-ended g.D.Disk g.P.Patterns.refusals c.args.disk c.args.script.now c.in-Ok.opened.plan.mounted c.in-Ok.opened.core c.play_store.result c.in-Ok.ensures.goes c.play_store.ensures c.requires;
  unstored = λ tells none. stores-none-ended g.D.Disk g.P.Patterns.refusals c.args.disk c.args.script.now c.in-Ok.opened.plan.mounted c.in-Ok.opened.core c.play_store.result c.in-Ok.ensures.goes c.play_store.ensures;
  broken = λ tells at is. absurd (c.in-Ok.ensures.broken tells at is);
  unknown = λ tells version is. absurd (c.in-Ok.ensures.known tells version is);
  broken_stays = λ tells fault is kept.
      absurd (journal-refused (g.D.Disk.seen c.args.disk) fault ⊥ is (λ at bad. c.in-Ok.ensures.broken tells at bad) (λ version other. c.in-Ok.ensures.known tells version other));
  broken_kept = λ tells fault is kept told.
      absurd (journal-refused (g.D.Disk.seen c.args.disk) fault ⊥ is (λ at bad. c.in-Ok.ensures.broken tells at bad) (λ version other. c.in-Ok.ensures.known tells version other));
  cause = λ is. let memory = stops-ended g.D.Disk g.P.Patterns.refusals c.args.disk c.args.script.now c.in-Ok.opened.plan.mounted c.in-Ok.opened.core c.play_store.result c.in-Ok.ensures.goes c.play_store.ensures DiskFault is in absurd cc;
  input = λ is. let memory = stops-ended g.D.Disk g.P.Patterns.refusals c.args.disk c.args.script.now c.in-Ok.opened.plan.mounted c.in-Ok.opened.core c.play_store.result c.in-Ok.ensures.goes c.play_store.ensures ReadFault is in absurd cc;
  goes = goes-ended g.D.Disk g.P.Patterns.refusals c.args.disk c.args.script.now c.in-Ok.opened.plan.mounted c.in-Ok.opened.core c.play_store.result c.in-Ok.ensures.goes c.play_store.ensures;
  later =
      let first = ap g.P.Patterns.refusals c.in-Ok.ensures.patterns in
      let later = later-ended g.D.Disk g.P.Patterns.refusals c.args.disk c.args.script.now c.in-Ok.opened.plan.mounted c.in-Ok.opened.core c.play_store.result c.in-Ok.ensures.goes c.play_store.ensures in
      omega (arith, first, later);
}

pub returns-in-Err : goal.returns-in-Err
returns-in-Err g c = record {
  worked = λ tells files doubt calm.
      let refusal = c.in-Err.field-0 in
      let opening = c.in-Err.ensures in
      let refusing = c.refuse_opening in
      NotPlayed (subst (λ d. Serve g.D.Disk files doubt (IsUnopened (opened_files (g.D.Disk.seen c.args.disk))) refusing.result c.args.disk d) (sym c.given_back-disk.ensures)
      (unopened-serve g.D.Disk c.args.disk refusal.disk files doubt refusal.fault refusing.result refusing.ensures.told refusing.ensures.answered refusing.ensures.input
      (opening.any_moment tells files doubt calm) (opening.rests tells files doubt calm) (opening.shown tells files doubt calm) (λ none. opening.left_alone tells none.no_former none.none)
      (opening.refused tells files doubt calm)
      (λ at is. (opening.calm tells files doubt calm).0 at (ap Some is), λ version is. (opening.calm tells files doubt calm).1 version (ap Some is))
      (λ still. leaves_calm g.D.Disk c.args.disk refusal.disk files doubt tells calm (opening.calm_still tells files doubt calm still) (opening.left tells files doubt calm still))));
  reported = IfOk-weaker c.refuse_opening.result _ _ (λ report is. Own (refused-answered 5 report.status (omega arith) is)) c.refuse_opening.ensures.status;
  unstored = λ tells none. reads-none g.D.Disk c.refuse_opening.result c.args.disk _ (subst (OnlyReads g.D.Disk c.args.disk) (sym c.given_back-disk.ensures) (c.in-Err.ensures.left_alone tells none.no_former none.none));
  broken = λ tells at is.
      let why = c.in-Err.field-0.fault in
      told_by_line (bad_journal at) why c.refuse_opening.result c.refuse_opening.ensures.told c.refuse_opening.ensures.answered (λ told. line_of_broken at why told (c.in-Err.ensures.broken tells at is));
  unknown = λ tells version is.
      let why = c.in-Err.field-0.fault in
      told_by_line (unknown_journal version) why c.refuse_opening.result c.refuse_opening.ensures.told c.refuse_opening.ensures.answered
      (λ told. line_of_unknown version why told (c.in-Err.ensures.known tells version is));
  broken_stays = λ tells fault is kept. subst (OnlyReads g.D.Disk c.args.disk) (sym c.given_back-disk.ensures) (c.in-Err.ensures.stays tells fault is kept);
  broken_kept = λ tells fault is kept told.
      let own = on_ok c.refuse_opening.result (WasTold c.in-Err.field-0.fault) told c.refuse_opening.ensures.answered in
      subst (LeavesRetired g.D.Disk c.args.disk) (sym c.given_back-disk.ensures) (c.in-Err.ensures.retires tells fault is kept own.0 own.1);
  cause = λ is. subst (λ d. HasRisen (g.D.Disk.faults c.args.disk) (g.D.Disk.faults d)) (sym c.given_back-disk.ensures) (c.in-Err.ensures.cause (ap Some (c.refuse_opening.ensures.cause is)));
  input = c.refuse_opening.ensures.input;
  goes = subst (GoesOn g.D.Disk c.args.disk) (sym c.given_back-disk.ensures) c.in-Err.ensures.goes;
  later = let same = ap g.P.Patterns.refusals c.in-Err.ensures.patterns in omega (arith, same);
}
