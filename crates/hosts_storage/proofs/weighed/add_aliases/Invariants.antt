-- The aliases so far were added, and those that are left are names exactly where all are.
use Rattle.std.proofs.Common.{◌≡◌, length}
use Rattle.model_hosts.specs.Line.{words}
use Rattle.hosts_storage.specs.WeighedView.{IsWeighed, AreAliases, with_aliases_of}
use Rattle.hosts_storage.proofs.weighed.add_aliases.Given as goal

abbrev pub invariant-loop-alias : goal.invariant-loop-alias
invariant-loop-alias l = record {
  sound : IsWeighed l.found;
  keys : with_aliases_of l.host (words l.left) l.found.keys ≡ with_aliases_of l.host (words l.aliases) l.fn.found.keys;
  all : AreAliases l.host (words l.left) → AreAliases l.host (words l.aliases);
  left : AreAliases l.host (words l.aliases) → AreAliases l.host (words l.left);
}

abbrev pub decreases-loop-alias : goal.decreases-loop-alias
decreases-loop-alias l = length l.left
