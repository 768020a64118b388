-- A write or a cut that is not synced may be left out.
use Rattle.std.proofs.Common.{◌≡◌, ℕ, Option, Some, codes, arith}
use Rattle.kdb_outside.proofs.TornLemmas.{IsTornWrite-none, IsTornCut-none}
use Rattle.kdb_outside.proofs.examples.only_synced_bytes_are_sure.Goals as goal

pub returns-clause-written : goal.returns-clause-written
returns-clause-written c =
    λ every. let was : Option ℕ = Some 98 in let is : was ≡ Some 120 = every (codes "abcd") (IsTornWrite-none _ 1 _) in grind arith

pub returns-clause-cut : goal.returns-clause-cut
returns-clause-cut c =
    λ every. let is : codes "abcd" ≡ codes "a" = every (codes "abcd") (IsTornCut-none 1 _) in grind arith
