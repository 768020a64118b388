-- Where none of the three words stands, no kind's do.
use Rattle.dump_storage.proofs.RecordLemmas.{BeginsWithNoWords-three}
use Rattle.dump_storage.proofs.records.kind_before.Goals as goal

pub returns-in_err-rest : goal.returns-in_err-rest
returns-in_err-rest c =
    rw c.from_residual.ensures (BeginsWithNoWords-three c.args.bytes.now (λ rest. rw c.words.ensures at c.in_default.ensures rest) (λ rest. rw c.words-2.ensures at c.in_default-behind.ensures rest) (λ rest. rw c.words-3.ensures at c.in_err-rest.ensures rest))
