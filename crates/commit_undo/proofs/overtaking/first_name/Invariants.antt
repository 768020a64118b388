-- None of the changes so far has one of the names.
use Rattle.std.proofs.Common.{◌≡◌, None, is_some, take}
use Rattle.std.specs.FinMap.{find}
use Rattle.general_words.specs.Searches.{first_some}
use Rattle.model_names.specs.Order.{name_cmp}
use Rattle.commit_undo.proofs.InverseLemmas.{passing}
use Rattle.commit_undo.proofs.overtaking.first_name.Given as goal

abbrev pub invariant-loop-change : goal.invariant-loop-change
invariant-loop-change l =
    first_some (passing (λ name. is_some (find name_cmp name l.names))) (take l.change-index l.changes) ≡ None
