-- Each turn makes the file of one more part.
use Rattle.std.proofs.Common.{List, ◌++◌, ◌∷◌, [], map as over, ap₂, sym, subst, ◌∙◌}
use Rattle.std.specs.List.{AllByRecursion}
use Rattle.general_words.proofs.Lists.{at_place, all_append}
use Rattle.mounted_files.specs.declared.files.MountedFile.{MountedFile}
use Rattle.store_verdict.specs.Filing.{IsSoundFile}
use Rattle.store_verdict.specs.declared.files.FileToWrite.{FileToWrite}
use Rattle.store_verdict.proofs.FileLemmas.{files-more}
use Rattle.store_verdict.proofs.files.files_of.Goals as goal

pub loop-part-preserved : goal.loop-part-preserved
loop-part-preserved c =
    let file : FileToWrite = c.in_ok-file_of.field-0 in
    let there = at_place c.args.touched.now c.loop-part.part-index c.part-item.result c.loop-part-test.true c.part-item.is in
    let Sound = IsSoundFile (over (λ (f : MountedFile). f.mount) c.args.files.now) in
    let items = c.in_ok-push.ensures.items in
    record {
      files =
          ◌∙◌ {A = List FileToWrite} items
          (◌∙◌ {A = List FileToWrite} (ap₂ (λ xs x. xs ++ x ∷ []) c.loop-part.invariant.files c.in_ok-file_of.ensures.file) (sym {A = List FileToWrite} (files-more c.args.files.now c.args.touched.now c.loop-part.part-index c.part-item.result there)));
      sound = subst (λ (xs : List FileToWrite). AllByRecursion Sound xs) (sym {A = List FileToWrite} items) (all_append Sound c.loop-part.made.items (file ∷ []) c.loop-part.invariant.sound (c.in_ok-file_of.ensures.sound, tt));
    }
