use Rattle.std.proofs.Common.{arith, rules}
use Rattle.model_quoting.proofs.QuotedAs.{IsBare}
use Rattle.kdb_text.proofs.QuotedLemmas.{flat_map-quoted_byte-letter}
use Rattle.kdb_text.proofs.quoting.push_quoted_letter.Goals as goal

pub returns : goal.returns
returns c =
    let h : IsBare c.args.letter = record {
      no_control = omega arith;
      no_delete = λ e. omega arith;
      no_backslash = λ e. omega arith;
      no_quote = λ e. omega arith;
    } in
    rw (flat_map-quoted_byte-letter c.args.letter h) (search rules)
