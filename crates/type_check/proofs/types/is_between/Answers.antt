use Rattle.type_check.proofs.types.is_between.Goals as goal

pub returns-in-None-clause-no : goal.returns-in-None-clause-no
returns-in-None-clause-no c = λ _ h. c.in-None.ensures h.0 h.1
