-- The parts of some mounts are kept of these.
use Rattle.std.proofs.Common.{false}
use Rattle.store_verdict.proofs.KeepLemmas.{all-kept}
use Rattle.store_verdict.proofs.records.Record.keep.Goals as goal

pub returns-clause-kept : goal.returns-clause-kept
returns-clause-kept c = λ mounts keys are i. record {
  fetched =
      λ m. all-kept (λ _. false) c.args.front c.args.self.now.fetched c.deref_mut.result.now c.keep_all.new.places c.into_vec.result.items c.args.parts
      c.deref_mut.ensures.value c.keep_all.ensures.len c.keep_all.ensures.kept c.into_vec.ensures mounts keys are m i;
  committed = c.args.self.now.committed;
}
