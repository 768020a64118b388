use Rattle.std.proofs.Common.{List, ap, sym, ◌∙◌}
use Rattle.std.specs.Option.{option_map}
use Rattle.journal_codec.specs.declared.files.FileText.{FileText}
use Rattle.intent_journal.specs.Pending.{content_of, better, least}
use Rattle.intent_journal.proofs.LeastNames.{drop_before}
use Rattle.intent_journal.proofs.pending.least_of.Goals as goal

pub loop-i-preserved : goal.loop-i-preserved
loop-i-preserved c =
    let after = option_map (λ name. name.now) c.args.after in
    let first = option_map (λ text. content_of text.now) c.args.best in
    c.better-best.ensures ∙ ap (better after (content_of c.index-texts-texts.result)) c.loop-i.invariant
    ∙ sym (ap (λ (l : List FileText). least after l first) (drop_before c.args.texts.now c.loop-i.i c.index-texts-texts.result c.loop-i-test.true c.index-texts-texts.is))
