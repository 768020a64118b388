-- What was wanted for some mounts is kept of these.
use Rattle.std.proofs.Common.{◌+◌, List, cond, sym, ap, ◌∙◌}
use Rattle.model_history.specs.History.{is_among}
use Rattle.model_store.specs.Cores.{kept_from}
use Rattle.model_store.specs.Store.{counts_in}
use Rattle.mount_table.specs.declared.mounts.Mount.{Mount}
use Rattle.store_verdict.specs.RecordView.{fetched_at}
use Rattle.store_verdict.proofs.KeepLemmas.{all-kept}
use Rattle.store_verdict.proofs.records.Record.store.Goals as goal

pub returns-clause-stored : goal.returns-clause-stored
returns-clause-stored c = λ store mounts keys table are i. record {
  fetched = λ m.
      (all-kept (counts_in c.args.table.now) c.args.number c.args.self.now.fetched c.deref_mut.result.now c.store_all.new.places c.into_vec.result.items c.args.parts
      c.deref_mut.ensures.value c.store_all.ensures.len c.store_all.ensures.kept c.into_vec.ensures mounts keys are m
      ∙ ap (λ (ms : List Mount). cond (is_among mounts m) (kept_from (counts_in ms m) c.args.number (keys m) (fetched_at c.args.self.now.fetched.items m)) (fetched_at c.args.self.now.fetched.items m)) (sym table)) i;
  committed = c.args.self.now.committed + 1;
}
