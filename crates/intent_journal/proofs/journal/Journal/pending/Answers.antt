use Rattle.std.proofs.Common.{◌≤◌, List, length, ap, sym, subst, ◌∙◌}
use Rattle.std.specs.List.{AllByRecursion}
use Rattle.journal_codec.specs.declared.files.FileText.{FileText}
use Rattle.journal_codec.specs.Entry.{IsEntry}
use Rattle.journal_lists.specs.Grammar.{most_entries}
use Rattle.intent_journal.specs.Pending.{pending_in}
use Rattle.intent_journal.proofs.journal.Journal.pending.Goals as goal

pub count_pending-requires-clause-few : goal.count_pending-requires-clause-few
count_pending-requires-clause-few g c =
    subst (λ (l : List (List FileText)). length l ≤ most_entries) (sym c.as_slice.ensures.value) c.self.invariant.fits.few

pub count_pending-requires-clause-each : goal.count_pending-requires-clause-each
count_pending-requires-clause-each g c =
    subst (AllByRecursion IsEntry) (sym c.as_slice.ensures.value) c.self.invariant.fits.each

pub returns : goal.returns
returns g c =
    rw (← c.self.view_is) (c.count_pending.ensures ∙ ap (λ (l : List (List FileText)). length (pending_in l)) c.as_slice.ensures.value)
