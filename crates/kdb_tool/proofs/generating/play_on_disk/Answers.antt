-- A disk without files has no open entry and no former journal, and what its files mean is what no files mean.
use Rattle.std.proofs.Common.{◌≡◌, ◌∙◌, [], Ok, Result, List, ap, arith, inl, refl, subst, sym}
use Rattle.all_formats.specs.Meanings as all
use Rattle.intent_journal.specs.Opened.{HasNoFormer, entries_found, open_list, with_former}
use Rattle.journal_codec.specs.declared.files.FileText.{FileText}
use Rattle.journal_lists.specs.Journals.{journal_in}
use Rattle.journal_lists.proofs.Journals.{former_is, journal_is}
use Rattle.journal_steps.specs.declared.faults.JournalFault.{JournalFault}
use Rattle.kdb_outside.specs.Images.{Image}
use Rattle.kdb_tool.specs.Generated.{no_files}
use Rattle.mounted_files.specs.Opening.{IsOpened}
use Rattle.kdb_tool.proofs.generating.play_on_disk.Goals as goal

abbrev Found : Type 0
Found = Result (List (List FileText)) JournalFault

none_open : open_list no_files ≡ []
none_open =
    ap (λ (former : Found). entries_found (with_former former (journal_in []))) (former_is [] [] (inl (omega arith)))
    ∙ ap (λ (journal : Found). entries_found (with_former (Ok []) journal)) (journal_is [] [] (inl (inl (omega arith), refl)))

pub returns-in-Ok-clause-told : goal.returns-in-Ok-clause-told
returns-in-Ok-clause-told g c tells none =
    let no_former : HasNoFormer (g.D.Disk.seen c.args.disk) = subst HasNoFormer (sym none) (omega arith) in
    let nothing : open_list (g.D.Disk.seen c.args.disk) ≡ [] = ap open_list none ∙ none_open in
    let opened = c.in-Ok.ensures.as_seen tells no_former nothing in
    c.play_on_store.ensures.told (subst (λ (seen : Image). IsOpened all.Reads all.IsBadAt seen c.in-Ok.opened.plan.mounted) none opened)
