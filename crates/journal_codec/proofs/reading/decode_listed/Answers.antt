use Rattle.std.proofs.Common.{◌≡◌, length, Some, ap, sym, ◌∙◌, arith}
use Rattle.journal_codec.specs.declared.faults.DecodeFault.TheVariants.{BadJournal}
use Rattle.journal_codec.specs.Forms.{uncounted}
use Rattle.journal_codec.specs.Reading.{Reads, Fails, all_of}
use Rattle.journal_codec.specs.Listed.{is_next_of}
use Rattle.journal_codec.proofs.ListedLemmas.{listed_reads, listed_ends, listed_spelled}
use Rattle.journal_codec.proofs.StopLemmas.{stopped_at}
use Rattle.journal_codec.proofs.reading.decode_listed.Goals as goal

pub returns-then-not-followed-clause-bad : goal.returns-then-not-followed-clause-bad
returns-then-not-followed-clause-bad c = λ at e.
    listed_ends c.args.files.now c.args.body.now (sym c.followed.ensures ∙ c.if-not-followed.true) ∙ ap Fails cc

pub returns-in-Ok-clause-reads : goal.returns-in-Ok-clause-reads
returns-in-Ok-clause-reads c =
    listed_reads c.args.files.now c.args.body.now _ (sym c.followed.ensures ∙ c.if-not-followed.false) c.in-Ok.ensures
    ∙ ap Reads (sym c.from_vec.ensures)

pub returns-in-Ok-clause-found : goal.returns-in-Ok-clause-found
returns-in-Ok-clause-found c =
    listed_spelled c.args.files.now c.args.body.now c.from_vec.result (λ i. omega (arith, c.type_inv.body i)) (returns-in-Ok-clause-reads c)

pub returns-in-Err-clause-bad : goal.returns-in-Err-clause-bad
returns-in-Err-clause-bad c = λ at e.
    let names = c.args.files.now in
    let body = c.args.body.now in
    let fault : c.fault_of.result ≡ BadJournal at = cc in
    let stopped = stopped_at (all_of (is_next_of (Some names)) (uncounted body)) c.in-Err.stop (length body) at c.in-Err.ensures (sym c.fault_of.ensures ∙ fault) in
    listed_reads names body _ (sym c.followed.ensures ∙ c.if-not-followed.false) stopped.1 ∙ ap Fails stopped.2
