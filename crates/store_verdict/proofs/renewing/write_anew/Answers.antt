-- Each turn makes one more text, or finds the first file that would be too large.
use Rattle.std.proofs.Common.{List, ◌++◌, ◌∷◌, [], take, map as over, ap, ap₂, sym, subst, ◌∙◌}
use Rattle.std.proofs.lemmas.List.{map-append}
use Rattle.general_words.proofs.Lists.{at_place, take-next}
use Rattle.general_words.proofs.Searches.{first_some-found, first_some-next}
use Rattle.model_store.specs.Store.{Formats, formats_of}
use Rattle.model_store.specs.Verdicts.{TooLarge}
use Rattle.store_verdict.specs.Filing.{written_of}
use Rattle.store_verdict.specs.Renewing.{IsAnew, large_at}
use Rattle.store_verdict.specs.declared.files.FileToWrite.{FileToWrite}
use Rattle.store_verdict.specs.declared.writing.WrittenFile.{WrittenFile}
use Rattle.store_verdict.proofs.renewing.write_anew.Goals as goal

pub returns-in-TooLarge : goal.returns-in-TooLarge
returns-in-TooLarge g c =
    let formats : Formats = formats_of g.F.Formats in
    let files : List FileToWrite = c.args.files.now in
    let k = c.loop-file.file-index in
    let file : FileToWrite = c.file-item.result in
    first_some-found (large_at formats c.args.table.now) files k file (TooLarge file.mount c.in-TooLarge.bytes)
    (at_place files k file c.loop-file-test.true c.file-item.is)
    c.loop-file.invariant.small (subst (IsAnew formats c.args.table.now file) c.in-TooLarge.is c.in_ok-written.ensures)

pub loop-file-preserved : goal.loop-file-preserved
loop-file-preserved g c =
    let formats : Formats = formats_of g.F.Formats in
    let files : List FileToWrite = c.args.files.now in
    let k = c.loop-file.file-index in
    let file : FileToWrite = c.file-item.result in
    let text = written_of formats c.args.table.now in
    let there = at_place files k file c.loop-file-test.true c.file-item.is in
    let anew = subst (IsAnew formats c.args.table.now file) c.in-Text.is c.in_ok-written.ensures in
    record {
      small = first_some-next (large_at formats c.args.table.now) files k file there c.loop-file.invariant.small anew.0;
      texts =
          ◌∙◌ {A = List WrittenFile} c.in_ok-add-in-Text.ensures
          (◌∙◌ {A = List WrittenFile} (ap₂ (λ xs x. xs ++ x ∷ []) c.loop-file.invariant.texts anew.1)
          (sym {A = List WrittenFile} (ap (over text) (take-next files k file there) ∙ map-append text (take k files) (file ∷ []))));
    }
