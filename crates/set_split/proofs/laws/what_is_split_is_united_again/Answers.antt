use Rattle.set_split.proofs.UnionLemmas.{united-again}
use Rattle.set_split.proofs.laws.what_is_split_is_united_again.Goals as goal

pub returns : goal.returns
returns c = united-again
