-- No keys at all are none outside `proc`.
use Rattle.std.proofs.Common.{sym, subst, ◌∙◌}
use Rattle.std.proofs.lemmas.Option.{none-some}
use Rattle.std.specs.FinMap as map
use Rattle.model_names.specs.Order.{name_cmp}
use Rattle.store_verdict.specs.ProcKeys.{AreProc}
use Rattle.tool_single.proofs.answering.new_record.Goals as goal

pub new-requires-2 : goal.new-requires-2
new-requires-2 c =
    subst AreProc (sym c.new.ensures) (λ name entry there. absurd (none-some entry (sym (map.get-empty name_cmp name) ∙ there)))
