use Rattle.kdb_print.proofs.ExactLemmas.{exact-once}
use Rattle.kdb_print.proofs.TextLemmas.{printed-once}
use Rattle.kdb_print.proofs.WholeLemmas.{whole-once}
use Rattle.kdb_print.proofs.laws.the_text_tells_the_batch.Goals as goal

pub returns : goal.returns
returns c = record {
  history = λ mounts sessions script a b h k named one other e. (printed-once mounts sessions script a b h k named one other e).1;
  replies = λ mounts sessions script a b h k named one other e. (printed-once mounts sessions script a b h k named one other e).0;
  whole = λ mounts sessions script a b h k named one other none e. whole-once script.phases a b one.shape other.shape none (printed-once mounts sessions script a b h k named one other e).0;
  exact = λ mounts sessions script a b h k named one other e. exact-once script a b one.shape other.shape (printed-once mounts sessions script a b h k named one other e).0;
}
