-- The piece is the torn front of the write.
use Rattle.std.proofs.Common.{◌≡◌, ◌-◌, length, length-drop, take, drop, sym, ap, ◌∙◌, arith}
use Rattle.std.proofs.lemmas.List.{take_all}
use Rattle.std.proofs.lemmas.Result.{IfOk-weaker}
use Rattle.kdb_outside.specs.Files.{written}
use Rattle.disk_memory.specs.declared.torn.Way.TheVariants.{Torn}
use Rattle.disk_memory.specs.Choices.{torn_bytes, left_of_write}
use Rattle.disk_memory.proofs.ChoiceLemmas.{left_of_write-within}
use Rattle.disk_memory.proofs.torn.torn_write.Goals as goal

pub returns-in_ok-piece-in-Torn : goal.returns-in_ok-piece-in-Torn
returns-in_ok-piece-in-Torn c =
    let content = c.args.content.now in
    let at = c.args.at in
    let bytes = c.args.bytes.now in
    let rest : take (length content - at) (drop at content) ≡ drop at content = take_all (length content - at) (drop at content) (omega (arith, length-drop at content)) in
    let piece = c.deref.ensures.value ∙ c.in_ok-piece-in-Torn.ensures ∙ ap (λ former. torn_bytes c.args.choice at former (take c.kept_of_write-kept.result bytes)) rest
    ∙ ap (λ kept. torn_bytes c.args.choice at (drop at content) (take kept bytes)) c.kept_of_write-kept.ensures in
    IfOk-weaker c.overwritten-in-Torn.result (λ left. left.items ≡ written content at c.deref.result.now) (λ left. left.items ≡ left_of_write c.args.choice at bytes content)
    (λ left is. is ∙ ap (written content at) piece ∙ left_of_write-within c.args.choice at bytes content Torn (omega arith) (sym c.in-Torn.is ∙ c.way.ensures))
    c.overwritten-in-Torn.ensures
