use Rattle.model_history.proofs.HistoryLemmas.{first_after-behind, first_after-within, first_after-there, first_after-first, first_after-none}
use Rattle.model_history.proofs.laws.the_first_commit_after_a_front_touches_the_mount.Goals as goal

pub returns-clause-behind : goal.returns-clause-behind
returns-clause-behind c = first_after-behind

pub returns-clause-there : goal.returns-clause-there
returns-clause-there c =
    λ history mount front number e commit there. first_after-there history mount front number commit e there

pub returns-clause-within : goal.returns-clause-within
returns-clause-within c = first_after-within

pub returns-clause-first : goal.returns-clause-first
returns-clause-first c = first_after-first

pub returns-clause-none : goal.returns-clause-none
returns-clause-none c =
    λ history mount front at commit e le there. first_after-none history mount front at commit e le there
