use Rattle.std.proofs.Common.{List, is_some, ◌∙◌, rules, tests}
use Rattle.std.proofs.lemmas.Iterator.{YieldsList-from_slice}
use Rattle.std.proofs.lemmas.Iterator.Search.{any_from_yields_List}
use Rattle.journal_codec.specs.declared.files.FileText.{FileText}
use Rattle.journal_steps.specs.Outcomes.{content_in}
use Rattle.intent_journal.proofs.BringSteps.{any-list_names}
use Rattle.intent_journal.proofs.bringing.list_names.Goals as goal

pub returns : goal.returns
returns c =
    let file = c.args.file.now in
    any_from_yields_List (λ (entry : List FileText). is_some (content_in entry file)) _ _ _ c.any.ensures.ran (YieldsList-from_slice c.args.list.now cc) (λ x b q k. search (rules, tests))
    ∙ any-list_names c.args.list.now file
