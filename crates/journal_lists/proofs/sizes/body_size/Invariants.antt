use Rattle.std.proofs.Common.{◌≡◌, ◌+◌, ◌*◌, ◌≤◌, length, take}
use Rattle.std.specs.List.{flat_map}
use Rattle.journal_codec.specs.Entry.{longest_file, spelled_file}
use Rattle.journal_lists.proofs.sizes.body_size.Given as goal

abbrev pub invariant-loop-file : goal.invariant-loop-file
invariant-loop-file l = record {
  exact : l.size ≡ 1 + length (flat_map spelled_file (take l.file-index l.files));
  short : l.size ≤ 1 + longest_file * l.file-index;
}
