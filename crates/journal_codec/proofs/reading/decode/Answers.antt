use Rattle.std.proofs.Common.{◌≡◌, ℕ, List, length, ap, subst, sym, ◌∙◌, arith}
use Rattle.journal_codec.specs.declared.faults.DecodeFault.TheVariants.{BadJournal}
use Rattle.journal_codec.specs.declared.files.FileText.{FileText}
use Rattle.journal_codec.specs.Entry.{IsEntry, spelled}
use Rattle.journal_codec.specs.Forms.{uncounted}
use Rattle.journal_codec.specs.Reading.{Reads, Fails, is_next_name, all_of, reading_of, read_body}
use Rattle.journal_codec.proofs.BodyLemmas.{all_takes}
use Rattle.journal_codec.proofs.FormLemmas.{length-uncounted, IsBytes-uncounted}
use Rattle.journal_codec.proofs.PlaceLemmas.{place_of}
use Rattle.journal_codec.proofs.StopLemmas.{stopped_at}
use Rattle.journal_codec.proofs.reading.decode.Goals as goal

pub returns-in-Ok-clause-reads : goal.returns-in-Ok-clause-reads
unfolding read_body
returns-in-Ok-clause-reads c =
    ap (reading_of (length (uncounted c.args.body.now))) c.in-Ok.ensures ∙ ap Reads (sym c.from_vec.ensures)

pub returns-in-Ok-clause-found : goal.returns-in-Ok-clause-found
returns-in-Ok-clause-found c =
    let body = c.args.body.now in
    let read = all_takes (uncounted body) c.in-Ok.files.items c.in-Ok.ensures in
    let whole : IsEntry c.in-Ok.files.items × (spelled c.in-Ok.files.items ≡ uncounted body) =
    (read.entry, read.spelling (IsBytes-uncounted body (λ i. omega (arith, c.type_inv.body i)))) in
    subst (λ (files : List FileText). IsEntry files × (spelled files ≡ uncounted body)) (sym c.from_vec.ensures) whole

pub returns-in-Err-clause-bad : goal.returns-in-Err-clause-bad
unfolding read_body
returns-in-Err-clause-bad c = λ at e.
    let body = c.args.body.now in
    let fault : c.fault_of.result ≡ BadJournal at = cc in
    let stopped = stopped_at (all_of is_next_name (uncounted body)) c.in-Err.stop (length body) at c.in-Err.ensures (sym c.fault_of.ensures ∙ fault) in
    ap (λ (n : ℕ). reading_of n (all_of is_next_name (uncounted body))) (length-uncounted body)
    ∙ ap (reading_of (length body)) stopped.1 ∙ ap Fails stopped.2

pub returns-in-Err-clause-place : goal.returns-in-Err-clause-place
returns-in-Err-clause-place c = λ at e.
    place_of (uncounted c.args.body.now) at (IsBytes-uncounted c.args.body.now (λ i. omega (arith, c.type_inv.body i))) (returns-in-Err-clause-bad c at e)
