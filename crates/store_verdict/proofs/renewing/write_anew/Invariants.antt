-- The texts of the files so far are made, and none of these would be too large.
use Rattle.std.proofs.Common.{◌≡◌, None, take, map as over}
use Rattle.general_words.specs.Searches.{first_some}
use Rattle.model_store.specs.Store.{formats_of}
use Rattle.store_verdict.specs.Filing.{written_of}
use Rattle.store_verdict.specs.Renewing.{large_at}
use Rattle.store_verdict.proofs.renewing.write_anew.Given as goal

abbrev pub invariant-loop-file : goal.invariant-loop-file
invariant-loop-file g l = record {
  small : first_some (large_at (formats_of g.F.Formats) l.table) (take l.file-index l.files) ≡ None;
  texts : l.all.items ≡ over (written_of (formats_of g.F.Formats) l.table) (take l.file-index l.files);
}
