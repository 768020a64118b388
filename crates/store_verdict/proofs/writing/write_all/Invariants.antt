-- The texts of the files so far are written.
use Rattle.std.proofs.Common.{◌≡◌, take, map as over}
use Rattle.std.specs.List.{AllByRecursion}
use Rattle.model_store.specs.Store.{formats_of}
use Rattle.store_verdict.specs.Filing.{IsStorableFile, written_of}
use Rattle.store_verdict.proofs.writing.write_all.Given as goal

abbrev pub invariant-loop-file : goal.invariant-loop-file
invariant-loop-file g l = record {
  texts : l.all.items ≡ over (written_of (formats_of g.F.Formats) l.table) (take l.file-index l.files);
  storable : AllByRecursion (IsStorableFile (formats_of g.F.Formats) l.table) (take l.file-index l.files);
}
