-- The phase that goes on is the last.
use Rattle.std.proofs.Common.{◌∙◌, arith}
use Rattle.batch_script.proofs.ProgressLemmas.{script-all}
use Rattle.batch_script.proofs.progress.script_of.Goals as goal

pub sessions_of-requires : goal.sessions_of-requires
sessions_of-requires c = omega (arith, c.requires.1.rooms.many)

pub returns : goal.returns
returns c items h =
    script-all c.args.progress items c.in_ok-sessions.sessions _ h c.in_ok-sessions.ensures c.from_vec.ensures (c.from_vec-2.ensures ∙ c.in_ok-push.ensures.items)
