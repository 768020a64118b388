-- What the test of a count's rise says.
use Rattle.std.specs.Prelude.{ℕ, T, List, Result, Ok, Err}
use Rattle.general_words.proofs.Tests.{true_of}
use Rattle.model_store.specs.Rules.{has_risen}
use Rattle.model_store.proofs.Risen.{has_risen-Decides}
use Rattle.tool_commands.specs.declared.reports.Report as code
use Rattle.tool_single.specs.Serving.{MayRefuse}
use Rattle.tool_single.specs.declared.answers.Stop.{Stop}

-- where the count rose, any text may have been refused as a pattern, however the work ended
pub rose_may : (result : Result code.Report Stop) (before now : ℕ) (pattern : List ℕ) → T (has_risen before now)
    → MayRefuse result before now pattern
rose_may (Ok report) before now pattern rose = (has_risen-Decides before now).0 (true_of (has_risen before now) rose)
rose_may (Err stop) before now pattern rose = tt
