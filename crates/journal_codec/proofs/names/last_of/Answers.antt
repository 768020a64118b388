use Rattle.std.proofs.Common.{◌∙◌, sym}
use Rattle.journal_codec.proofs.LoopLemmas.{last_name-of_last}
use Rattle.journal_codec.proofs.names.last_of.Goals as goal

pub returns-in-Some : goal.returns-in-Some
returns-in-Some c =
    c.as_bytes.ensures.value ∙ c.text.ensures.text
    ∙ sym (last_name-of_last (λ name. name) c.args.names.now c.in-Some.name.now (sym c.in-Some.ensures.value))
