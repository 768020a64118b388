use Rattle.std.proofs.Common.{subst, sym}
use Rattle.intent_journal.specs.Openings.{OpensList}
use Rattle.intent_journal.proofs.BothSteps.{refused_entries, opens_unretired, opens_both, opens_refused_behind}
use Rattle.intent_journal.proofs.opening.open.Goals as goal

pub returns-in_err-retired-clause-opens : goal.returns-in_err-retired-clause-opens
returns-in_err-retired-clause-opens g c =
    let disk = c.args.disk.now in
    let new = c.retire.new.disk in
    let fault = c.in_err-retired.field-0.0 in
    subst (λ r. OpensList g.D.Disk disk new r) (sym (refused_entries fault c.from_residual.result c.from_residual.ensures.1))
    (opens_unretired g.D.Disk disk new fault c.in_err-retired.ensures.retires)

pub returns-in_err-list-clause-opens : goal.returns-in_err-list-clause-opens
returns-in_err-list-clause-opens g c =
    let disk = c.args.disk.now in
    let mid = c.retire.new.disk in
    let new = c.open_journal.new.disk in
    let fault = c.in_err-list.field-0.0 in
    subst (λ r. OpensList g.D.Disk disk new r) (sym (refused_entries fault c.from_residual-in_err-list.result c.from_residual-in_err-list.ensures.1))
    (opens_refused_behind g.D.Disk disk mid new c.in_ok-retired.retired.items c.in_ok-retired.ensures.retires fault c.in_err-list.ensures.opens)

pub returns-clause-opens : goal.returns-clause-opens
returns-clause-opens g c =
    opens_both g.D.Disk c.args.disk.now c.retire.new.disk c.open_journal.new.disk c.in_ok-retired.retired.items c.in_ok-retired.ensures.retires c.in_ok-list.list.items c.in_ok-list.ensures.opens
