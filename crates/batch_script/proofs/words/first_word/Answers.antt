-- A line that begins with no blank and no quote begins with a bare word.
use Rattle.std.proofs.Common.{arith}
use Rattle.batch_script.proofs.WordLemmas.{bare-start}
use Rattle.batch_script.proofs.words.first_word.Goals as goal

pub bare_word-requires-clause-bare : goal.bare_word-requires-clause-bare
bare_word-requires-clause-bare c = bare-start c.args.line.now c.requires.some c.requires.front (λ e. omega arith)
