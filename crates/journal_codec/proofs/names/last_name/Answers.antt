use Rattle.std.proofs.Common.{◌∙◌, sym}
use Rattle.journal_codec.proofs.LoopLemmas.{last_name-of_last}
use Rattle.journal_codec.proofs.names.last_name.Goals as goal

pub returns-in-Some : goal.returns-in-Some
returns-in-Some c =
    c.as_bytes.ensures.value ∙ c.text.ensures.text
    ∙ sym (last_name-of_last (λ f. f.file) c.args.files.now c.in-Some.file.now (sym c.in-Some.ensures.value))
