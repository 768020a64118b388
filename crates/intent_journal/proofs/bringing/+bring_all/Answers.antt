use Rattle.std.proofs.Common.{[], take, drop, ◌-◌, length, List, sym, subst, ◌∙◌}
use Rattle.journal_codec.specs.declared.files.FileText.{FileText}
use Rattle.intent_journal.specs.Bringing.{Brings}
use Rattle.journal_lists.specs.Lists.{as_one}
use Rattle.intent_journal.proofs.BringSteps.{brings_front, brings_entry, list_parts}
use Rattle.intent_journal.proofs.bringing.+bring_all.Goals as goal

pub returns-in_err-bring_all-clause-brings : goal.returns-in_err-bring_all-clause-brings
returns-in_err-bring_all-clause-brings g t c tells =
    let later = take (length c.args.list.now - 1) (drop 1 c.args.list.now) in
    subst (λ (list : List (List FileText)). Brings g.D.Disk c.args.disk.now c.bring_all.new.disk c.from_residual.result (as_one list) []) (sym (list_parts c.args.list.now c.entry-item.result c.in-len1-up.len_at_least c.entry-item.is))
    (brings_front g.D.Disk c.args.disk.now c.bring_all.new.disk c.bring_all.result c.from_residual.result (as_one later) c.entry-item.result [] c.from_residual.ensures.0 (c.bring_all.ensures.brings tells))

pub returns-clause-brings : goal.returns-clause-brings
returns-clause-brings g t c tells =
    let later = take (length c.args.list.now - 1) (drop 1 c.args.list.now) in
    subst (λ (list : List (List FileText)). Brings g.D.Disk c.args.disk.now c.bring_entry.new.disk c.bring_entry.result (as_one list) []) (sym (list_parts c.args.list.now c.entry-item.result c.in-len1-up.len_at_least c.entry-item.is))
    (brings_entry g.D.Disk c.args.disk.now c.bring_all.new.disk c.bring_entry.new.disk c.bring_entry.result c.entry-item.result (as_one later) (c.in_ok-bring_all.ensures.brings tells) c.bring_all.ensures.goes.moment
    (subst (λ (entry : List FileText). Brings g.D.Disk c.bring_all.new.disk c.bring_entry.new.disk c.bring_entry.result entry (as_one later)) c.as_slice.ensures (c.bring_entry.ensures.brings (c.bring_all.ensures.goes.tells ∙ tells))))
