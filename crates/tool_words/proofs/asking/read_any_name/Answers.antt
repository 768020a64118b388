use Rattle.tool_words.proofs.WordLemmas.{on_name-named, on_name-refused}
use Rattle.tool_words.proofs.asking.read_any_name.Goals as goal

pub returns-in-Ok : goal.returns-in-Ok
returns-in-Ok c = λ asked. on_name-named c.args.word.now c.in-Ok.name asked c.in-Ok.ensures.spelled

pub returns-in_default : goal.returns-in_default
returns-in_default c =
    λ asked. on_name-refused c.args.word.now c.in-Err.fault asked c.in_default.not-Memory c.in-Err.ensures.refused
