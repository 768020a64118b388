use Rattle.model_history.proofs.HistoryLemmas.{first_change-behind, first_change-within, first_change-there, first_change-first, first_change-none}
use Rattle.model_history.proofs.laws.the_first_change_after_a_front_is_anothers.Goals as goal

pub returns-clause-behind : goal.returns-clause-behind
returns-clause-behind c = first_change-behind

pub returns-clause-there : goal.returns-clause-there
returns-clause-there c =
    λ history name front handle number e commit there. first_change-there history name front handle number commit e there

pub returns-clause-within : goal.returns-clause-within
returns-clause-within c = first_change-within

pub returns-clause-first : goal.returns-clause-first
returns-clause-first c = first_change-first

pub returns-clause-none : goal.returns-clause-none
returns-clause-none c =
    λ history name front handle at commit e le there. first_change-none history name front handle at commit e le there
