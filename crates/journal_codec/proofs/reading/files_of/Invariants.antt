use Rattle.std.proofs.Common.{[], option_map}
use Rattle.journal_codec.specs.Reading.{file_at, files_at}
use Rattle.journal_codec.specs.Listed.{is_next_of}
use Rattle.journal_codec.proofs.LoopLemmas.{IsOn}
use Rattle.journal_codec.proofs.reading.files_of.Given as goal

abbrev pub invariant-loop : goal.invariant-loop
invariant-loop l =
    let rule = is_next_of (option_map (λ names. names.now) l.names) in
    IsOn (file_at rule) (λ f. f.file) l.files.items l.count l.counter l.rest (files_at rule l.count [] l.bytes)
