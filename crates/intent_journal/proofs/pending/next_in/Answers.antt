use Rattle.std.proofs.Common.{ap, sym, ◌∙◌}
use Rattle.std.specs.FinMap as map
use Rattle.std.specs.Option.{option_map}
use Rattle.journal_lists.specs.Lists.{as_one}
use Rattle.intent_journal.specs.Pending.{content_of, contents_of, pending_in}
use Rattle.intent_journal.proofs.LeastNames.{first_above-next, none_next}
use Rattle.intent_journal.proofs.pending.next_in.Goals as goal

pub returns-in-Some : goal.returns-in-Some
returns-in-Some c k found =
    let list = c.args.list.now in
    let is = sym found ∙ ap (λ o. option_map (λ text. content_of text.now) o) c.in-Some.is in
    c.least_in.ensures
    ∙ first_above-next (pending_in list) k (content_of c.in-Some.text.now) (map.entries_sorted (contents_of (as_one list))) is

pub returns-in-None : goal.returns-in-None
returns-in-None c k found =
    sym (none_next (pending_in c.args.list.now) k (sym found ∙ ap (λ o. option_map (λ text. content_of text.now) o) c.in-None.is))
