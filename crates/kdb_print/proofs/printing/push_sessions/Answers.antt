-- Where no replies are left, nothing is still to come.
use Rattle.std.proofs.Common.{◌∙◌, ◌++◌, ap, drop, string_bytes}
use Rattle.std.proofs.lemmas.List.{drop_all}
use Rattle.kdb_print.proofs.Pushed.{sessions-none, pushed-all}
use Rattle.kdb_print.specs.Printed.{lines_of_sessions}
use Rattle.model_lines.specs.Lines.{ended}
use Rattle.kdb_print.proofs.printing.push_sessions.Goals as goal

pub returns-in_default : goal.returns-in_default
returns-in_default c =
    let sessions = c.args.sessions.now in
    let replies = c.args.replies.now in
    let i = c.loop-i.i in
    pushed-all (string_bytes c.loop-i.text) (string_bytes c.args.text.now ++ ended (lines_of_sessions sessions replies)) (lines_of_sessions (drop i sessions) (drop i replies)) c.loop-i.invariant
    (ap (λ rest. lines_of_sessions (drop i sessions) rest) (drop_all i replies c.in_default.ensures.lookup.3) ∙ sessions-none (drop i sessions))
