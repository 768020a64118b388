-- The sessions so far and those that are left are all.
use Rattle.std.proofs.Common.{◌≡◌, ◌++◌, map}
use Rattle.std.specs.List.{range_with_len}
use Rattle.kdb_gen.specs.Generated.{session_of, sessions}
use Rattle.kdb_gen.proofs.RangeLemmas.{up_to}
use Rattle.kdb_gen.proofs.scripts.gen_script.Given as goal

abbrev pub invariant-loop-session : goal.invariant-loop-session
invariant-loop-session l =
    l.sessions.items ++ map (session_of l.rounds) (up_to l.session sessions) ≡ map (session_of l.rounds) (range_with_len 1 sessions)
