-- A file that is put among others.
use Rattle.std.proofs.Common.{is_some, ap, ◌∙◌}
use Rattle.std.specs.FinMap.{find}
use Rattle.std.specs.FinMap.Entries.{put}
use Rattle.general_words.specs.Texts.{text_cmp}
use Rattle.mount_table.proofs.ReadingLemmas.{find-file}
use Rattle.mount_table.proofs.reading.take_file.Goals as goal

pub returns : goal.returns
returns c other =
    ap (λ files. is_some (find text_cmp other files)) (c.in_ok-insert.ensures.ok ∙ ap (λ file. put text_cmp file tt c.args.files.now) c.in_ok-copy.ensures)
    ∙ find-file c.args.files.now c.args.file.now other
