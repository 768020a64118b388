use Rattle.std.proofs.Common.{inl, inr, refl, arith}
use Rattle.journal_codec.specs.Reading.{count_at, file_at, files_at, all_of, read_body}
use Rattle.journal_lists.proofs.examples.an_odd_gate_is_read_in_two_ways.Goals as goal

pub returns-clause-shut : goal.returns-clause-shut
returns-clause-shut c = inr (λ is. omega (arith, is))

pub returns-clause-open : goal.returns-clause-open
unfolding read_body all_of count_at files_at file_at
returns-clause-open c =
    (record { there = omega arith; open_too = λ is. omega (arith, is) }, record { few = omega arith; within = omega arith; body = refl }, inl (omega arith))

pub returns-clause-opening : goal.returns-clause-opening
returns-clause-opening c = inr (λ is. omega (arith, is))
