-- A script is played, or what there is in its place is told without the store.
use Rattle.std.proofs.Common.{◌≡◌, Err, refl, sym, ap, subst, arith}
use Rattle.std.proofs.lemmas.Result.{IfOk-weaker}
use Rattle.intent_journal.specs.Opened.{opened_files}
use Rattle.kdb_tool.proofs.TaskLemmas.{leaves-more, no_play, play-asks, refused-answers, refused-asks, refused-journal, why_in}
use Rattle.kdb_outside.proofs.Frames.{OnlyReads-goes_on, OnlyReads-none}
use Rattle.kdb_tool.proofs.WorkLemmas.{at-rest, handed-reads, journal-asked, made-is, made-not_of_disk, made-reported, made-tells, reads-none, stop-is, stopped-not_of_disk, works-calm, works-more}
use Rattle.kdb_tool.proofs.work.carry_out.Goals as goal
use Rattle.kdb_tool.specs.Ends.{TellsOfJournal}
use Rattle.kdb_tool.specs.Scripts.{AsksFor, takes_words}
use Rattle.kdb_tool.specs.Tasks.{IsTask, warning_of}
use Rattle.kdb_tool.specs.Unplayed.{AnswersUnplayed, IsUnopened, NotOpened}
use Rattle.kdb_tool.specs.Working.{NotPlayed}
use Rattle.kdb_tool.specs.declared.tasks.NoScript.TheVariants.{OptionsRefused}
use Rattle.kdb_tool.specs.declared.tasks.Task.{Task}
use Rattle.kdb_tool.specs.declared.tasks.Task.TheVariants.{Refuse}
use Rattle.store_lines.specs.Lines.{bad_journal, unknown_journal}
use Rattle.tool_single.proofs.CarryLemmas.{not_stopped}
use Rattle.tool_single.proofs.ServeLemmas.{alone_stopped, handed_calm, handed_on}
use Rattle.tool_single.specs.declared.answers.Stop.TheVariants.{DiskFault, ReadFault}
use Rattle.tool_single.specs.Answer.{tells}
use Rattle.tool_single.specs.Refusing.{Tells}

pub returns-in-Ok-Play : goal.returns-in-Ok-Play
returns-in-Ok-Play g c = record {
  worked = λ tells_disk files doubt calm given fed.
      let words = c.args.words.now in
      let script = c.in-Ok-Play.script in
      let asks = play-asks words given script (subst (IsTask words given) c.in-Ok-Play.field-0-is (c.in-Ok-Play.ensures.told given fed)) in
      let refused = g.P.Patterns.refusals in
      let ended = c.play_script.result in
      let opened = opened_files (g.D.Disk.seen c.args.disk) in
      works-more g.D.Disk files doubt (refused c.args.patterns) (refused ended.patterns) (IsUnopened opened) (AnswersUnplayed words given opened) (λ played. played ≡ script) (AsksFor words given) ended.answer c.args.disk ended.disk
      (λ one not_opened. NotOpened script asks not_opened) (λ played same. subst (AsksFor words given) (sym same) asks) (c.play_script.ensures.worked tells_disk files doubt calm);
  calm = λ tells_disk files doubt calm still.
      let refused = g.P.Patterns.refusals in
      let ended = c.play_script.result in
      works-calm g.D.Disk files doubt (refused c.args.patterns) (refused ended.patterns) (IsUnopened (opened_files (g.D.Disk.seen c.args.disk))) (λ played. played ≡ c.in-Ok-Play.script) ended.answer c.args.disk ended.disk
      (c.play_script.ensures.worked tells_disk files doubt calm) c.play_script.ensures.cause still;
  words = λ refuses. absurd (no_play c.in-Ok-Play.script OptionsRefused (subst (λ (t : Task). t ≡ Refuse OptionsRefused) c.in-Ok-Play.field-0-is (c.in-Ok-Play.ensures.words refuses)));
  reported = c.play_script.ensures.reported;
  unstored = c.play_script.ensures.unstored;
  broken = λ tells_disk at is given fed.
      let words = c.args.words.now in
      let asks = play-asks words given c.in-Ok-Play.script (subst (IsTask words given) c.in-Ok-Play.field-0-is (c.in-Ok-Play.ensures.told given fed)) in
      journal-asked words given (bad_journal at) c.in-Ok-Play.script c.play_script.result.answer asks (c.play_script.ensures.broken tells_disk at is);
  unknown = λ tells_disk version is given fed.
      let words = c.args.words.now in
      let asks = play-asks words given c.in-Ok-Play.script (subst (IsTask words given) c.in-Ok-Play.field-0-is (c.in-Ok-Play.ensures.told given fed)) in
      journal-asked words given (unknown_journal version) c.in-Ok-Play.script c.play_script.result.answer asks (c.play_script.ensures.unknown tells_disk version is);
  broken_stays = c.play_script.ensures.broken_stays;
  broken_kept = λ tells_disk fault is kept given fed asks told. c.play_script.ensures.broken_kept tells_disk fault is kept told;
  asked = λ is.
      let words = c.args.words.now in
      let script = c.in-Ok-Play.script in
      record {
        asks = λ given fed. (script, play-asks words given script (subst (IsTask words given) c.in-Ok-Play.field-0-is (c.in-Ok-Play.ensures.told given fed)));
        whole = leaves-more g.S.Source (takes_words words) _ _ c.args.input.now _ (λ answered. refl) c.in-Ok-Play.ensures.input;
      };
  unasked = λ given fed none.
      absurd (none (c.in-Ok-Play.script, play-asks c.args.words.now given c.in-Ok-Play.script (subst (IsTask c.args.words.now given) c.in-Ok-Play.field-0-is (c.in-Ok-Play.ensures.told given fed))));
  input = leaves-more g.S.Source (takes_words c.args.words.now) _ _ c.args.input.now _ (λ answered. refl) c.in-Ok-Play.ensures.input;
  read = λ is. absurd (c.play_script.ensures.input is);
  cause = c.play_script.ensures.cause;
  goes = c.play_script.ensures.goes;
  later = c.in-Ok-Play.ensures.later;
  later_patterns = c.play_script.ensures.later;
}

pub returns-in-Ok-Refuse : goal.returns-in-Ok-Refuse
returns-in-Ok-Refuse g c = record {
  worked = λ tells_disk files doubt calm given fed.
      let words = c.args.words.now in
      let why = c.in-Ok-Refuse.why in
      let task : IsTask words given (Refuse why) = subst (IsTask words given) c.in-Ok-Refuse.field-0-is (c.in-Ok-Refuse.ensures.told given fed) in
      let opened = opened_files (g.D.Disk.seen c.args.disk) in
      let Answered = AnswersUnplayed words given opened in
      let ended = c.without_store.result in
      NotPlayed (handed_on g.D.Disk c.args.disk ended.disk files doubt Answered c.warn_of_script.result ended.answer c.without_store.ensures.answer c.without_store.ensures.disk tells_disk calm
      (IfOk-weaker c.warn_of_script.result _ _ (λ report told. subst (λ r. Answered (tells r)) (sym told) (refused-answers words given opened why task)) c.warn_of_script.ensures.warned));
  calm = λ tells_disk files doubt calm still.
      at-rest g.D.Disk files doubt c.args.disk c.without_store.result.disk (handed_calm g.D.Disk c.args.disk c.without_store.result.disk files doubt c.without_store.ensures.disk tells_disk calm);
  words = λ refuses.
      let same = ap (λ (t : Task). warning_of (why_in t)) (subst (λ (t : Task). t ≡ Refuse OptionsRefused) c.in-Ok-Refuse.field-0-is (c.in-Ok-Refuse.ensures.words refuses)) in
      subst (λ r. Tells r c.without_store.result.answer) same (made-tells (warning_of c.in-Ok-Refuse.why) c.warn_of_script.result c.without_store.result.answer c.without_store.ensures.answer c.warn_of_script.ensures.warned);
  reported = made-reported _ c.warn_of_script.result c.without_store.result.answer c.without_store.ensures.answer c.warn_of_script.ensures.own;
  unstored = λ tells_disk none. reads-none g.D.Disk c.without_store.result.answer c.args.disk c.without_store.result.disk (handed-reads g.D.Disk c.args.disk c.without_store.result.disk c.without_store.ensures.disk);
  broken = λ tells_disk at is given fed.
      let words = c.args.words.now in
      let why = c.in-Ok-Refuse.why in
      let task : IsTask words given (Refuse why) = subst (IsTask words given) c.in-Ok-Refuse.field-0-is (c.in-Ok-Refuse.ensures.told given fed) in
      made-is (TellsOfJournal words given (bad_journal at)) (warning_of why) c.warn_of_script.result c.without_store.result.answer c.without_store.ensures.answer c.warn_of_script.ensures.warned (refused-journal words given (bad_journal at) why task);
  unknown = λ tells_disk version is given fed.
      let words = c.args.words.now in
      let why = c.in-Ok-Refuse.why in
      let task : IsTask words given (Refuse why) = subst (IsTask words given) c.in-Ok-Refuse.field-0-is (c.in-Ok-Refuse.ensures.told given fed) in
      made-is (TellsOfJournal words given (unknown_journal version)) (warning_of why) c.warn_of_script.result c.without_store.result.answer c.without_store.ensures.answer c.warn_of_script.ensures.warned
      (refused-journal words given (unknown_journal version) why task);
  broken_stays = λ tells_disk fault is kept. handed-reads g.D.Disk c.args.disk c.without_store.result.disk c.without_store.ensures.disk;
  broken_kept = λ tells_disk fault is kept given fed asks told.
      let words = c.args.words.now in
      absurd (refused-asks words given c.in-Ok-Refuse.why (subst (IsTask words given) c.in-Ok-Refuse.field-0-is (c.in-Ok-Refuse.ensures.told given fed)) asks);
  asked = λ is. absurd (made-not_of_disk c.warn_of_script.result c.without_store.result.answer c.without_store.ensures.answer c.warn_of_script.ensures.own is);
  unasked = λ given fed none. (c.without_store.ensures.disk, c.without_store.ensures.patterns);
  input = leaves-more g.S.Source (takes_words c.args.words.now) _ _ c.args.input.now _ (λ answered. refl) c.in-Ok-Refuse.ensures.input;
  read = λ is. absurd (let memory = not_stopped c.warn_of_script.result c.without_store.result.answer ReadFault c.without_store.ensures.answer is in cc);
  cause = λ is. absurd (let memory = not_stopped c.warn_of_script.result c.without_store.result.answer DiskFault c.without_store.ensures.answer is in cc);
  goes = OnlyReads-goes_on g.D.Disk c.args.disk c.without_store.result.disk (handed-reads g.D.Disk c.args.disk c.without_store.result.disk c.without_store.ensures.disk);
  later = c.in-Ok-Refuse.ensures.later;
  later_patterns = let same = ap g.P.Patterns.refusals c.without_store.ensures.patterns in omega (arith, same);
}

pub returns-in-Err : goal.returns-in-Err
returns-in-Err g c = record {
  worked = λ tells_disk files doubt calm given fed.
      let Answered = AnswersUnplayed c.args.words.now given (opened_files (g.D.Disk.seen c.args.disk)) in
      NotPlayed (alone_stopped g.D.Disk c.args.disk files doubt Answered c.in-Err.stop tells_disk calm (λ e. c.in-Err.ensures.own (ap Err e)));
  calm = λ tells_disk files doubt calm still.
      at-rest g.D.Disk files doubt c.args.disk c.args.disk (handed_calm g.D.Disk c.args.disk c.args.disk files doubt refl tells_disk calm);
  words = c.in-Err.ensures.words;
  reported = tt;
  unstored = λ tells_disk none. tt;
  broken = λ tells_disk at is given fed. tt;
  unknown = λ tells_disk version is given fed. tt;
  broken_stays = λ tells_disk fault is kept. OnlyReads-none g.D.Disk c.args.disk;
  broken_kept = λ tells_disk fault is kept given fed asks told. absurd cc;
  asked = λ is. absurd (stopped-not_of_disk c.in-Err.stop (λ e. c.in-Err.ensures.own (ap Err e)) is);
  unasked = λ given fed none. (refl, refl);
  input = c.in-Err.ensures.input;
  read = λ is. record { risen = c.in-Err.ensures.read (ap Err (stop-is c.in-Err.stop ReadFault is)); disk_is = refl; patterns_is = refl };
  cause = λ is. absurd (c.in-Err.ensures.own (ap Err (stop-is c.in-Err.stop DiskFault is)));
  goes = OnlyReads-goes_on g.D.Disk c.args.disk c.args.disk (OnlyReads-none g.D.Disk c.args.disk);
  later = c.in-Err.ensures.later;
  later_patterns = omega arith;
}
