use Rattle.model_specified.proofs.GlobTests.{matches_glob-Decides, has_glob-Decides}
use Rattle.model_specified.proofs.laws.the_tests_of_globs_decide.Goals as goal

pub returns-clause-matches : goal.returns-clause-matches
returns-clause-matches c = matches_glob-Decides

pub returns-clause-has : goal.returns-clause-has
returns-clause-has c = has_glob-Decides
