use Rattle.std.proofs.Common.{◌++◌, string_bytes, sym, ap, ◌∙◌}
use Rattle.std.specs.List.{flat_map}
use Rattle.std.specs.Prelude.{encode_utf8}
use Rattle.std.proofs.lemmas.List.{append_assoc}
use Rattle.model_names.specs.Spelling.{escaped}
use Rattle.model_names.proofs.EscapeLemmas.{flat_map-escaped-push}
use Rattle.key_name.proofs.spelling.push_letters.Goals as goal

pub loop-letter-preserved : goal.loop-letter-preserved
loop-letter-preserved c =
    let letter = flat_map escaped (encode_utf8 c.in-Some.letter) in
    let before = ap (λ text. text ++ letter) c.loop-letter.invariant ∙ append_assoc (string_bytes c.args.text.now) _ letter in
    c.in_ok-push_letter.ensures ∙ before
    ∙ ap (λ bytes. string_bytes c.args.text.now ++ bytes) (sym (flat_map-escaped-push c.loop-letter.yielded c.in-Some.letter))
