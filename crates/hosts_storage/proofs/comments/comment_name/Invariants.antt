-- Underscores stand behind the number sign.
use Rattle.std.proofs.Common.{◌≡◌, ◌++◌, replicate, string_bytes}
use Rattle.std.specs.Prelude.{codes}
use Rattle.hosts_storage.proofs.comments.comment_name.Given as goal

abbrev pub invariant-loop-written : goal.invariant-loop-written
invariant-loop-written l = string_bytes l.name ≡ codes "comment/#" ++ replicate l._written 95
