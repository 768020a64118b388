use Rattle.std.proofs.Common.{◌++◌, string_bytes, sym, ap, ◌∙◌}
use Rattle.std.specs.List.{flat_map}
use Rattle.std.specs.Prelude.{encode_utf8}
use Rattle.std.proofs.lemmas.List.{append_assoc}
use Rattle.model_quoting.specs.Quoted.{quoted_byte}
use Rattle.kdb_text.proofs.QuotedLemmas.{flat_map-quoted_byte-push}
use Rattle.kdb_text.proofs.quoting.push_quoted.Goals as goal

pub loop-letter-preserved : goal.loop-letter-preserved
loop-letter-preserved c =
    let letter = flat_map quoted_byte (encode_utf8 c.in-Some.letter) in
    let before = ap (λ text. text ++ letter) c.loop-letter.invariant ∙ append_assoc (string_bytes c.args.line.now) _ letter in
    c.in_ok-push_quoted_letter.ensures ∙ before
    ∙ ap (λ bytes. string_bytes c.args.line.now ++ bytes) (sym (flat_map-quoted_byte-push c.loop-letter.yielded c.in-Some.letter))
