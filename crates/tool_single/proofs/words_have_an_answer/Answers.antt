use Rattle.model_specified.specs.Violations.{IsNoPattern}
use Rattle.tool_single.proofs.AnswersExist.{Answers-exists}
use Rattle.tool_single.proofs.words_have_an_answer.Goals as goal

pub returns : goal.returns
returns c = Answers-exists IsNoPattern (λ pattern off. off)
