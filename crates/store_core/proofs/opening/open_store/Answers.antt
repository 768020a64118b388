-- The opened journal shows the files that it leaves, and reading them changes nothing.
use Rattle.std.proofs.Common.{◌≡◌, false, sym, ap, subst, Some, MatchResult, ◌∙◌, rules}
use Rattle.general_words.proofs.Lists.{none_is_no_some, some_is}
use Rattle.journal_steps.specs.declared.faults.JournalFault.TheVariants.{DiskFault}
use Rattle.kdb_outside.specs.Images.{Image}
use Rattle.kdb_outside.proofs.Frames.{OnlyReads-then}
use Rattle.intent_journal.specs.Opened.{found_in, opened_files, place_of, told_by, version_in}
use Rattle.intent_journal.specs.Outcomes.{HasOnly}
use Rattle.journal_steps.specs.Outcomes.{SameFiles, IsEither}
use Rattle.model_store.specs.Store.{formats_of}
use Rattle.mount_table.specs.Table.{own_mount}
use Rattle.mounted_files.specs.Opening.{IsOpened}
use Rattle.store_core.specs.Faults.{RefusesBroken, RefusesStore, RefusesUnknown, of_journal}
use Rattle.store_core.specs.Opened.{disk_of, may_be_of_journal}
use Rattle.store_core.specs.declared.faults.OpenFault.{OpenFault}
use Rattle.store_core.specs.declared.faults.OpenFault.TheVariants.{BadJournal, UnknownVersion}
use Rattle.store_core.proofs.OpeningLemmas.{begins_opened, calm_read, is_left, left_read, told_alike, journal_broken, journal_refuses, journal_unknown, not_both_told, of_journal-bad, of_journal-unknown, ok_is_no_err, rests_read, stands_opened, still_fresh, still_only, whatever, unread_files}
use Rattle.store_core.proofs.opening.open_store.Goals as goal

pub returns-in-Ok : goal.returns-in-Ok
returns-in-Ok g c = record {
  patterns = search rules;
  opened = λ tells files doubt calm.
      let journal = c.in-Ok.journal in
      (told_alike g.F.Formats.reads g.F.Formats.is_bad_at (g.D.Disk.seen journal.disk) (opened_files (g.D.Disk.seen c.args.disk)) (c.in-Ok.ensures.shown tells files doubt calm) c.open_files.result
      (c.open_files.ensures.told (c.in-Ok.ensures.goes.tells ∙ tells))).0;
  stands = λ tells files doubt calm.
      let begun = c.in-Ok.ensures.opened tells files doubt calm in
      begins_opened (formats_of g.F.Formats) g.D.Disk c.args.disk c.in-Ok.journal c.open_files.result begun
      (stands_opened (formats_of g.F.Formats) g.D.Disk c.in-Ok.journal (opened_files (g.D.Disk.seen c.args.disk)) (g.D.Disk.faults c.args.disk) begun.later c.open_files.result begun.store
      c.open_files.ensures.world c.open_files.ensures.none c.open_files.ensures.journal);
  own = λ tells files doubt calm same.
      stands_opened (formats_of g.F.Formats) g.D.Disk c.in-Ok.journal files (g.D.Disk.faults c.args.disk) doubt c.open_files.result (c.in-Ok.ensures.own tells files doubt calm same)
      c.open_files.ensures.world c.open_files.ensures.none c.open_files.ensures.journal;
  shown = λ tells files doubt calm of_files.
      subst (λ (seen : Image). SameFiles seen (opened_files (g.D.Disk.seen c.args.disk))) (sym (c.open_files.ensures.reads.same (c.in-Ok.ensures.goes.tells ∙ tells))) (c.in-Ok.ensures.shown tells files doubt calm);
  files = λ tells files doubt calm. whatever c.open_files.result (IsEither files doubt (opened_files (g.D.Disk.seen c.args.disk))) (c.in-Ok.ensures.files tells files doubt calm);
  world = search rules;
  keys = search rules;
  start = search rules;
  none = search rules;
  wrote = search rules;
  fresh = still_fresh g.D.Disk c.in-Ok.journal c.open_files.result c.in-Ok.ensures.fresh c.open_files.ensures.journal;
  as_seen = λ tells former none.
      let reads = c.in-Ok.ensures.reads tells former none in
      subst (λ (seen : Image). MatchResult c.open_files.result (λ o. IsOpened g.F.Formats.reads g.F.Formats.is_bad_at seen o.plan.mounted) (λ r. RefusesStore g.F.Formats.reads g.F.Formats.is_bad_at (seen own_mount.file) r.fault))
      (reads.same tells) (c.open_files.ensures.told (reads.tells ∙ tells));
  left_alone = λ tells former none.
      OnlyReads-then g.D.Disk c.args.disk c.in-Ok.journal.disk (disk_of c.open_files.result) (c.in-Ok.ensures.reads tells former none) c.open_files.ensures.reads;
  told = λ tells.
      let still = c.in-Ok.ensures.goes.tells ∙ tells in
      subst (λ (seen : Image). MatchResult c.open_files.result (λ o. IsOpened g.F.Formats.reads g.F.Formats.is_bad_at seen o.plan.mounted) (λ r. RefusesStore g.F.Formats.reads g.F.Formats.is_bad_at (seen own_mount.file) r.fault))
      (sym (c.open_files.ensures.reads.same still)) (c.open_files.ensures.told still);
  refused = λ tells files doubt calm.
      let journal = c.in-Ok.journal in
      (told_alike g.F.Formats.reads g.F.Formats.is_bad_at (g.D.Disk.seen journal.disk) (opened_files (g.D.Disk.seen c.args.disk)) (c.in-Ok.ensures.shown tells files doubt calm) c.open_files.result
      (c.open_files.ensures.told (c.in-Ok.ensures.goes.tells ∙ tells))).1;
  bad = search rules;
  broken = λ tells at is. absurd (none_is_no_some at (ap (told_by place_of) (sym (c.in-Ok.ensures.good tells)) ∙ is));
  unknown = search rules;
  known = λ tells version is. absurd (none_is_no_some version (ap (told_by version_in) (sym (c.in-Ok.ensures.good tells)) ∙ is));
  calm = search rules;
  cause = search rules;
  stays = λ tells fault is. absurd (ok_is_no_err (sym (c.in-Ok.ensures.good tells) ∙ is));
  retires = λ tells fault is. absurd (ok_is_no_err (sym (c.in-Ok.ensures.good tells) ∙ is));
  calm_still = λ tells files doubt calm still.
      calm_read g.D.Disk c.args.disk c.in-Ok.journal.disk (disk_of c.open_files.result) files doubt tells c.in-Ok.ensures.goes c.open_files.ensures.reads
      (c.in-Ok.ensures.calm_still tells files doubt calm) still;
  left = λ tells files doubt calm still.
      left_read g.D.Disk c.args.disk c.in-Ok.journal.disk (disk_of c.open_files.result) (c.in-Ok.ensures.goes.tells ∙ tells) c.open_files.ensures.reads
      (is_left g.D.Disk c.args.disk c.in-Ok.journal.disk (c.in-Ok.ensures.left tells files doubt calm (λ is. absurd (none_is_no_some DiskFault is))));
  any_moment = λ tells files doubt calm.
      still_only g.D.Disk c.args.disk c.in-Ok.journal.disk (disk_of c.open_files.result) (HasOnly (IsEither files doubt)) tells c.in-Ok.ensures.goes (c.in-Ok.ensures.any_moment tells files doubt calm)
      c.open_files.ensures.reads;
  rests = λ tells files doubt calm.
      rests_read g.D.Disk c.in-Ok.journal.disk (disk_of c.open_files.result) (HasOnly (IsEither files doubt)) (c.in-Ok.ensures.goes.tells ∙ tells) c.open_files.ensures.reads (c.in-Ok.ensures.rests tells files doubt calm);
  goes = search rules;
}

pub returns-in-Err : goal.returns-in-Err
returns-in-Err g c = record {
  patterns = search rules;
  opened = search rules;
  stands = search rules;
  own = search rules;
  shown = λ tells files doubt calm of_files. absurd (unread_files c.in-Err.field-0.fault (subst (λ (f : OpenFault). may_be_of_journal (Some f) ≡ false) c.into.ensures of_files));
  files = search rules;
  world = search rules;
  keys = search rules;
  start = search rules;
  none = search rules;
  wrote = search rules;
  fresh = search rules;
  as_seen = λ tells former none.
      subst (RefusesStore g.F.Formats.reads g.F.Formats.is_bad_at (g.D.Disk.seen c.args.disk own_mount.file)) (sym c.into.ensures)
      (journal_refuses g.F.Formats.reads g.F.Formats.is_bad_at (g.D.Disk.seen c.args.disk own_mount.file) c.in-Err.field-0.fault);
  left_alone = search rules;
  told = λ tells.
      let bytes = g.D.Disk.seen c.in-Err.field-0.disk own_mount.file in
      subst (RefusesStore g.F.Formats.reads g.F.Formats.is_bad_at bytes) (sym c.into.ensures) (journal_refuses g.F.Formats.reads g.F.Formats.is_bad_at bytes c.in-Err.field-0.fault);
  refused = search rules;
  bad = search rules;
  broken = λ tells at is.
      subst (RefusesBroken at) (sym c.into.ensures)
      (journal_broken at c.in-Err.field-0.fault (λ place told. some_is place at (sym (c.in-Err.ensures.bad tells place (ap Some told)) ∙ is))
      (λ version told. not_both_told (found_in (g.D.Disk.seen c.args.disk)) at version is (c.in-Err.ensures.unknown tells version (ap Some told))));
  unknown = search rules;
  known = λ tells version is.
      subst (RefusesUnknown version) (sym c.into.ensures)
      (journal_unknown version c.in-Err.field-0.fault (λ found told. some_is found version (sym (c.in-Err.ensures.unknown tells found (ap Some told)) ∙ is))
      (λ at told. not_both_told (found_in (g.D.Disk.seen c.args.disk)) at version (c.in-Err.ensures.bad tells at (ap Some told)) is));
  calm = λ tells files doubt calm.
      let none = c.in-Err.ensures.calm tells files doubt calm in (
        λ at is. none.0 at (ap Some (of_journal-bad c.in-Err.field-0.fault at (sym c.into.ensures ∙ some_is c.into.result (BadJournal at) is))),
        λ version is. none.1 version (ap Some (of_journal-unknown c.in-Err.field-0.fault version (sym c.into.ensures ∙ some_is c.into.result (UnknownVersion version) is))),
      );
  cause = search rules;
  stays = c.in-Err.ensures.stays;
  retires = λ tells fault is kept disk memory.
      c.in-Err.ensures.retires tells kept (λ told. disk (c.into.ensures ∙ ap of_journal told)) (λ told. memory (c.into.ensures ∙ ap of_journal told));
  calm_still = c.in-Err.ensures.calm_still;
  left = λ tells files doubt calm still.
      is_left g.D.Disk c.args.disk c.in-Err.field-0.disk (c.in-Err.ensures.left tells files doubt calm (λ is. still (c.in-Err.ensures.cause is)));
  any_moment = c.in-Err.ensures.any_moment;
  rests = c.in-Err.ensures.rests;
  goes = search rules;
}
