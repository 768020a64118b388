-- Each turn writes one more text, or tells that a format can't hold some keys.
use Rattle.std.proofs.Common.{List, ◌+◌, ◌++◌, ◌∷◌, [], take, drop, map as over, ap, ap₂, sym, subst, ◌∙◌}
use Rattle.std.specs.List.{AllByRecursion}
use Rattle.std.proofs.lemmas.List.{map-append}
use Rattle.general_words.specs.Memory.{UnlessMemory}
use Rattle.general_words.proofs.Lists.{at_place, all_append, cut-next, take-next}
use Rattle.model_store.specs.Store.{Formats, formats_of}
use Rattle.set_split.proofs.MountLemmas.{all_read}
use Rattle.store_verdict.specs.Filing.{BreaksAmong, IsStorableFile, IsWritable, written_of}
use Rattle.store_verdict.specs.declared.faults.PrepareFault.{PrepareFault}
use Rattle.store_verdict.specs.declared.faults.PrepareFault.TheVariants as fault
use Rattle.store_verdict.specs.declared.files.FileToWrite.{FileToWrite}
use Rattle.store_verdict.specs.declared.writing.WrittenFile.{WrittenFile}
use Rattle.store_verdict.proofs.FileLemmas.{handed-err}
use Rattle.store_verdict.proofs.writing.write_all.Goals as goal

pub write_file-requires : goal.write_file-requires
write_file-requires g c =
    all_read (IsWritable c.args.table.now) c.args.files.now c.loop-file.file-index c.file-item.result c.requires c.loop-file-test.true c.file-item.is

pub returns-in_err-written-clause-refused : goal.returns-in_err-written-clause-refused
returns-in_err-written-clause-refused g c =
    let formats : Formats = formats_of g.F.Formats in
    let files : List FileToWrite = c.args.files.now in
    let k = c.loop-file.file-index in
    let file : FileToWrite = c.file-item.result in
    let why = c.in_err-written.field-0.0 in
    handed-err (λ (w : PrepareFault). UnlessMemory fault.Memory (BreaksAmong formats c.args.table.now files w) w) c.from_residual-in_err-written.result why c.from_residual-in_err-written.ensures.1 (λ other. record {
      before = take k files;
      file = file;
      behind = drop (k + 1) files;
      stand = cut-next files k file (at_place files k file c.loop-file-test.true c.file-item.is);
      storable = c.loop-file.invariant.storable;
      breaks = c.in_err-written.ensures.refused other;
    })

pub loop-file-preserved : goal.loop-file-preserved
loop-file-preserved g c =
    let formats : Formats = formats_of g.F.Formats in
    let files : List FileToWrite = c.args.files.now in
    let k = c.loop-file.file-index in
    let file : FileToWrite = c.file-item.result in
    let text = written_of formats c.args.table.now in
    let Storable = IsStorableFile formats c.args.table.now in
    let next = take-next files k file (at_place files k file c.loop-file-test.true c.file-item.is) in
    record {
      texts =
          ◌∙◌ {A = List WrittenFile} c.in_ok-add.ensures
          (◌∙◌ {A = List WrittenFile} (ap₂ (λ xs x. xs ++ x ∷ []) c.loop-file.invariant.texts c.in_ok-written.ensures.text) (sym {A = List WrittenFile} (ap (over text) next ∙ map-append text (take k files) (file ∷ []))));
      storable = subst (λ (fs : List FileToWrite). AllByRecursion Storable fs) (sym {A = List FileToWrite} next) (all_append Storable (take k files) (file ∷ []) c.loop-file.invariant.storable (c.in_ok-written.ensures.storable, tt));
    }
