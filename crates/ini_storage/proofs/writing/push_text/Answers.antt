use Rattle.std.proofs.Common.{◌++◌, sym, ap, ◌∙◌}
use Rattle.ini_storage.proofs.BareLemmas.{bare-text}
use Rattle.ini_storage.proofs.writing.push_text.Goals as goal

pub returns-then-not-has_covered : goal.returns-then-not-has_covered
returns-then-not-has_covered c =
    c.in_ok-extend_from_slice.ensures.items
    ∙ ap (λ text. c.args.bytes.now.items ++ text) (sym (bare-text c.args.side c.args.text.now (sym c.has_covered.ensures ∙ c.if-not-has_covered.true)))
