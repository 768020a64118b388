use Rattle.std.proofs.Common.{List, None, ap, ◌∙◌, take_all}
use Rattle.std.specs.Option.{option_map}
use Rattle.general_words.proofs.Lists.{at_place}
use Rattle.journal_codec.specs.declared.files.FileText.{FileText}
use Rattle.journal_lists.specs.Lists.{as_one}
use Rattle.intent_journal.specs.Pending.{content_of, least}
use Rattle.intent_journal.proofs.LeastNames.{least-more, least-contents}
use Rattle.intent_journal.proofs.pending.least_in.Goals as goal

pub loop-entry-preserved : goal.loop-entry-preserved
loop-entry-preserved c =
    let after = option_map (λ name. name.now) c.args.after in
    let entry = c.entry-item.result in
    let list = c.args.list.now in
    let i = c.loop-entry.entry-index in
    c.least_of-best.ensures
    ∙ ap (λ (texts : List FileText). least after texts (option_map (λ text. content_of text.now) c.loop-entry.best)) c.as_slice.ensures
    ∙ ap (least after entry) c.loop-entry.invariant
    ∙ least-more after list i entry (at_place list i entry c.loop-entry-test.true c.entry-item.is)

pub returns : goal.returns
returns c =
    let after = option_map (λ name. name.now) c.args.after in
    let list = c.args.list.now in
    c.loop-entry.invariant
    ∙ ap (λ (l : List (List FileText)). least after (as_one l) None) (take_all c.loop-entry.entry-index list c.loop-entry-test.false)
    ∙ least-contents after (as_one list)
