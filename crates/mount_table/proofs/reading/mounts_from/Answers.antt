-- Each turn reads one more entry, and the first faulty one tells its fault.
use Rattle.std.proofs.Common.{◌+◌, ◌||◌, drop, ap, sym, ◌∙◌}
use Rattle.std.proofs.lemmas.Result.{err_from_is_err_and}
use Rattle.general_words.specs.Texts.{is_text}
use Rattle.mount_table.specs.Reading.{is_taken, mounts_from}
use Rattle.mount_table.proofs.ReadingLemmas.{same_next, is_taken-more, mounts_from-ok, mounts_from-err, IsFault-along}
use Rattle.mount_table.proofs.reading.mounts_from.Goals as goal

pub loop-entry-preserved : goal.loop-entry-preserved
loop-entry-preserved c =
    let mounts = c.loop-entry.mounts.items in
    let entry = c.entry-item.result in
    record {
      taken = λ file. c.in_ok-take_file.ensures file ∙ ap (λ b. is_text file c.in_ok-mount.mount.file || b) (c.loop-entry.invariant.taken file) ∙ sym (is_taken-more mounts c.in_ok-mount.mount file) ∙ ap (λ ms. is_taken ms file) (sym c.in_ok-push.ensures);
      rest =
          ap (λ ms. mounts_from ms (drop (c.loop-entry.entry-index + 1) c.args.entries.now)) c.in_ok-push.ensures
          ∙ mounts_from-ok mounts c.args.entries.now c.loop-entry.entry-index entry c.loop-entry-test.true c.entry-item.is c.in_ok-mount.mount
          (sym (same_next _ (is_taken mounts) c.loop-entry.invariant.taken entry.0 entry.1) ∙ c.in_ok-mount.ensures)
          ∙ c.loop-entry.invariant.rest;
    }

pub returns-in_err-mount-clause-err : goal.returns-in_err-mount-clause-err
returns-in_err-mount-clause-err c =
    let mounts = c.loop-entry.mounts.items in
    let entry = c.entry-item.result in
    let p = err_from_is_err_and c.from_residual-in_err-mount.result c.from_residual-in_err-mount.ensures.1 in
    rw (p.1, p.2) (IsFault-along _ _
    (λ fault next. sym c.loop-entry.invariant.rest ∙ mounts_from-err mounts c.args.entries.now c.loop-entry.entry-index entry c.loop-entry-test.true c.entry-item.is fault (sym (same_next _ (is_taken mounts) c.loop-entry.invariant.taken entry.0 entry.1) ∙ next))
    _ c.in_err-mount.ensures)
