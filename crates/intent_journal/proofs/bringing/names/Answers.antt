use Rattle.std.proofs.Common.{bytes_eq, ◌∙◌, rules, tests}
use Rattle.std.proofs.lemmas.Iterator.{YieldsList-from_slice}
use Rattle.std.proofs.lemmas.Iterator.Search.{any_from_yields_List}
use Rattle.journal_codec.specs.declared.files.FileText.{FileText}
use Rattle.intent_journal.proofs.BringSteps.{any-names}
use Rattle.intent_journal.proofs.bringing.names.Goals as goal

pub returns : goal.returns
returns c =
    let file = c.args.file.now in
    any_from_yields_List (λ (text : FileText). bytes_eq text.file file) _ _ _ c.any.ensures.ran (YieldsList-from_slice c.args.entry.now cc) (λ x b q k. search (rules, tests))
    ∙ any-names c.args.entry.now file
