-- Each turn puts one more part in its place.
use Rattle.std.proofs.Common.{false, ◌∙◌}
use Rattle.store_verdict.specs.RecordView.{fetched_at}
use Rattle.store_verdict.proofs.KeepLemmas.{kept-more}
use Rattle.store_verdict.proofs.records.keep_all.Goals as goal

pub loop-part-preserved : goal.loop-part-preserved
loop-part-preserved c = record {
  len = c.put_part.ensures.len ∙ c.loop-part.invariant.len;
  kept = λ m. c.put_part.ensures.kept m ∙ kept-more (λ _. false) c.args.front c.loop-part.yielded c.in-Some.part (fetched_at c.args.places.now) (fetched_at c.loop-part.places) c.loop-part.invariant.kept m;
}
