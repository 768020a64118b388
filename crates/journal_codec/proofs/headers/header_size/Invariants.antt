use Rattle.std.proofs.Common.{◌≡◌, ◌+◌, ◌*◌, ◌≤◌, length, take}
use Rattle.std.specs.List.{flat_map}
use Rattle.journal_codec.specs.Header.{sized_name}
use Rattle.journal_codec.proofs.headers.header_size.Given as goal

abbrev pub invariant-loop-file : goal.invariant-loop-file
invariant-loop-file l = record {
  exact : l.size ≡ 1 + length (flat_map sized_name (take l.file-index l.files));
  short : l.size ≤ 1 + 101 * l.file-index;
}
