use Rattle.std.proofs.Common.{[]}
use Rattle.journal_codec.specs.Header.{name_at, names_at}
use Rattle.journal_codec.proofs.LoopLemmas.{IsOn}
use Rattle.journal_codec.proofs.headers.names_of.Given as goal

abbrev pub invariant-loop : goal.invariant-loop
invariant-loop l = IsOn name_at (λ name. name) l.names.items l.count l.counter l.rest (names_at l.count [] l.bytes)
