-- The texts so far are comments.
use Rattle.std.proofs.Common.{◌≡◌, take}
use Rattle.model_hosts.specs.Comments.{comments_from}
use Rattle.hosts_storage.proofs.comments.metadata.Given as goal

abbrev pub invariant-loop-index : goal.invariant-loop-index
invariant-loop-index l = l.meta ≡ comments_from 0 (take l.index l.fn.texts.items)
