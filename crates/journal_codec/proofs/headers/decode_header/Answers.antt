use Rattle.std.proofs.Common.{◌≡◌, length, Ok, Err, ap, sym, ◌∙◌}
use Rattle.journal_codec.specs.declared.faults.DecodeFault.TheVariants.{BadJournal}
use Rattle.journal_codec.specs.Header.{all_names, placed, read_header}
use Rattle.journal_codec.proofs.StopLemmas.{stopped_at}
use Rattle.journal_codec.proofs.headers.decode_header.Goals as goal

pub returns-in-Ok-clause-found : goal.returns-in-Ok-clause-found
unfolding read_header
returns-in-Ok-clause-found c = ap (placed (length c.args.header.now)) (c.in-Ok.ensures ∙ ap Ok (sym c.from_vec.ensures))

pub returns-in-Err-clause-bad : goal.returns-in-Err-clause-bad
unfolding read_header
returns-in-Err-clause-bad c = λ at e.
    let header = c.args.header.now in
    let fault : c.fault_of.result ≡ BadJournal at = cc in
    let stopped = stopped_at (all_names header) c.in-Err.stop (length header) at c.in-Err.ensures (sym c.fault_of.ensures ∙ fault) in
    ap (placed (length header)) stopped.1 ∙ ap Err stopped.2
