use Rattle.std.proofs.Common.{inl}
use Rattle.kdb_outside.specs.Faults.{HasRisen}
use Rattle.model_specified.specs.Violations.{IsNoPattern, MayBeRefused}
use Rattle.tool_single.proofs.AnswersMore.{Answers-more}
use Rattle.tool_single.proofs.AnswersOnce.{Answers-once}
use Rattle.tool_single.proofs.words_have_one_answer.Goals as goal

pub returns-clause-one : goal.returns-clause-one
returns-clause-one c = Answers-once IsNoPattern (λ pattern off. off)

pub returns-clause-told : goal.returns-clause-told
returns-clause-told c =
    λ before now still words input files a. Answers-more (λ _. HasRisen before now) IsNoPattern a (λ none pattern rose. absurd (still rose)) words input files

pub returns-clause-among : goal.returns-clause-among
returns-clause-among c =
    λ before now words input files a. Answers-more (λ _. HasRisen before now) (MayBeRefused (HasRisen before now)) a (λ none pattern rose. inl rose) words input files
