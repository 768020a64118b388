-- The lines of the keys so far were appended, and what is left of the text follows.
use Rattle.std.proofs.Common.{◌≡◌, ◌++◌}
use Rattle.model_hosts.specs.Text.{grouped, text}
use Rattle.hosts_storage.specs.Tail.{tail_of}
use Rattle.hosts_storage.proofs.writing.push_keys.Given as goal

abbrev pub invariant-loop-name : goal.invariant-loop-name
invariant-loop-name l = l.bytes.items ++ tail_of l.is_open (grouped l.name-iterator) ≡ l.fn.bytes.items ++ text l.keys
