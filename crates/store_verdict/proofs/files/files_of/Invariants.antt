-- The files of the parts so far.
use Rattle.std.proofs.Common.{◌≡◌, take, map as over}
use Rattle.std.specs.List.{AllByRecursion}
use Rattle.set_split.specs.Seen.{numbered}
use Rattle.store_verdict.specs.Filing.{IsSoundFile, file_of}
use Rattle.store_verdict.proofs.files.files_of.Given as goal

abbrev pub invariant-loop-part : goal.invariant-loop-part
invariant-loop-part l = record {
  files : l.made.items ≡ over (file_of l.files) (numbered (take l.part-index l.touched));
  sound : AllByRecursion (IsSoundFile (over (λ file. file.mount) l.files)) l.made.items;
}
