use Rattle.range_check.proofs.ranges.is_in_one.Goals as goal

pub returns-in-None-clause-no : goal.returns-in-None-clause-no
returns-in-None-clause-no c = λ _ number is _. c.in-None.ensures number is
