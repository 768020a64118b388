-- Those so far pass.
use Rattle.std.proofs.Common.{◌≢◌, drop}
use Rattle.std.specs.List.{AllByRecursion}
use Rattle.hosts_storage.proofs.holding.is_line.Given as goal

abbrev pub invariant-loop-byte : goal.invariant-loop-byte
invariant-loop-byte l = record {
  all : AllByRecursion (λ b. (b ≢ 10) × (b ≢ 13)) (drop l.byte-index l.bytes) → AllByRecursion (λ b. (b ≢ 10) × (b ≢ 13)) l.bytes;
  left : AllByRecursion (λ b. (b ≢ 10) × (b ≢ 13)) l.bytes → AllByRecursion (λ b. (b ≢ 10) × (b ≢ 13)) (drop l.byte-index l.bytes);
}
