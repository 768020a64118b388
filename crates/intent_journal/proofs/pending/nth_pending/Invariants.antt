use Rattle.std.proofs.Common.{◌≡◌, slice_get}
use Rattle.std.specs.Option.{option_map}
use Rattle.intent_journal.specs.Pending.{content_of, pending_in}
use Rattle.intent_journal.proofs.pending.nth_pending.Given as goal

abbrev pub invariant-loop : goal.invariant-loop
invariant-loop l = option_map (λ text. content_of text.now) l.found ≡ slice_get (pending_in l.list) l.counter
