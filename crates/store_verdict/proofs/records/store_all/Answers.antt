-- Each turn puts one more part in its place.
use Rattle.std.proofs.Common.{◌∙◌}
use Rattle.model_store.specs.Store.{counts_in}
use Rattle.store_verdict.specs.RecordView.{fetched_at}
use Rattle.store_verdict.proofs.KeepLemmas.{kept-more, part-by}
use Rattle.store_verdict.proofs.records.store_all.Goals as goal

pub loop-part-preserved : goal.loop-part-preserved
loop-part-preserved c = record {
  len = c.put_part.ensures.len ∙ c.loop-part.invariant.len;
  kept = λ m.
      c.put_part.ensures.kept m
      ∙ part-by (counts_in c.args.table.now) c.counts_by_key-by_key.result c.args.number (c.in-Some.part.mount, c.in-Some.part.keys) (fetched_at c.loop-part.places) m c.counts_by_key-by_key.ensures
      ∙ kept-more (counts_in c.args.table.now) c.args.number c.loop-part.yielded c.in-Some.part (fetched_at c.args.places.now) (fetched_at c.loop-part.places) c.loop-part.invariant.kept m;
}
