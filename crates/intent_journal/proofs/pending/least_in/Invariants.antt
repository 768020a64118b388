use Rattle.std.proofs.Common.{◌≡◌, None, take}
use Rattle.std.specs.Option.{option_map}
use Rattle.journal_lists.specs.Lists.{as_one}
use Rattle.intent_journal.specs.Pending.{content_of, least}
use Rattle.intent_journal.proofs.pending.least_in.Given as goal

abbrev pub invariant-loop-entry : goal.invariant-loop-entry
invariant-loop-entry l =
    option_map (λ text. content_of text.now) l.best ≡ least (option_map (λ name. name.now) l.after) (as_one (take l.entry-index l.list)) None
