-- The keys so far can be stored.
use Rattle.model_hosts.specs.Keys.{IsHostsKey}
use Rattle.file_lines.proofs.Walking.{HaveBefore}
use Rattle.hosts_storage.proofs.writing.test.Given as goal

abbrev pub invariant-loop-name : goal.invariant-loop-name
invariant-loop-name l = HaveBefore (IsHostsKey l.keys) l.keys l.name-iterator
