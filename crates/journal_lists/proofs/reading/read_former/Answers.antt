use Rattle.std.proofs.Common.{◌+◌, List, drop, Err, refl, ap, subst}
use Rattle.journal_codec.specs.declared.files.FileText.{FileText}
use Rattle.journal_lists.specs.Grammar.{most_entries}
use Rattle.journal_lists.specs.Readings.{Adds, rest_in}
use Rattle.journal_lists.specs.Rules.{rule_of}
use Rattle.journal_lists.proofs.FirstGates.{former_adds, former_bad}
use Rattle.journal_lists.proofs.OpenReads.{fault_is}
use Rattle.journal_lists.proofs.reading.read_former.Goals as goal

pub returns-in_err-read_rest-clause-bad : goal.returns-in_err-read_rest-clause-bad
returns-in_err-read_rest-clause-bad g c tells at is =
    let head = c.no_head-head.result in
    let fault = fault_is c.from_residual-in_err-read_rest.result c.in_err-read_rest.field-0.0 at c.from_residual-in_err-read_rest.ensures.1 is in
    former_bad most_entries head.start head.names (g.D.Disk.seen c.args.disk.now c.args.journal.now) at refl c.no_head-head.ensures.names c.no_head-head.ensures.before.start_is
    (c.in_err-read_rest.ensures.bad tells at (ap Err fault))

pub returns-clause-found : goal.returns-clause-found
returns-clause-found g c tells =
    let head = c.no_head-head.result in
    let seen = g.D.Disk.seen c.args.disk.now c.args.journal.now in
    former_adds most_entries head.start head.names seen c.read_rest.new.list.items refl c.no_head-head.ensures.names c.no_head-head.ensures.before.start_is
    (subst (λ (items : List (List FileText)). Adds (rest_in (rule_of head.names) most_entries 0 (drop (head.start + 0) seen)) items c.read_rest.new.list.items) c.in_ok-list.ensures.items
    (c.in_ok-read_rest.ensures.found tells))
