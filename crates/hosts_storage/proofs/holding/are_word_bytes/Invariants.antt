-- Those so far pass.
use Rattle.std.proofs.Common.{drop}
use Rattle.std.specs.List.{AllByRecursion}
use Rattle.model_hosts.specs.Keys.{IsWordByte}
use Rattle.hosts_storage.proofs.holding.are_word_bytes.Given as goal

abbrev pub invariant-loop-byte : goal.invariant-loop-byte
invariant-loop-byte l = record {
  all : AllByRecursion IsWordByte (drop l.byte-index l.bytes) → AllByRecursion IsWordByte l.bytes;
  left : AllByRecursion IsWordByte l.bytes → AllByRecursion IsWordByte (drop l.byte-index l.bytes);
}
