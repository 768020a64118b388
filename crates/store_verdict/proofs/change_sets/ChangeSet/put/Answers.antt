-- What is put among the changes is inserted into the map.
use Rattle.std.proofs.Common.{ap, ◌∙◌}
use Rattle.std.specs.FinMap as map
use Rattle.std.specs.Option.{option_map}
use Rattle.key_set.specs.EntryView.{entry_of}
use Rattle.store_verdict.specs.Changing.{changes_in}
use Rattle.store_verdict.proofs.ChangeSetLemmas.{put-changes}
use Rattle.store_verdict.proofs.change_sets.ChangeSet.put.Goals as goal

pub returns-clause-ok : goal.returns-clause-ok
returns-clause-ok c =
    ap changes_in c.in_ok-_former.ensures.ok
    ∙ put-changes c.self.inside.changes c.args.name c.args.entry c.in_ok-_former.ensures.sorted
    ∙ ap (λ changes. map.insert changes c.args.name (option_map entry_of c.args.entry)) c.self.view_is
