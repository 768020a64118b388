use Rattle.std.proofs.Common.{◌≡◌, ◌≤◌, length, slice_get}
use Rattle.std.specs.Option.{option_map}
use Rattle.intent_journal.specs.Pending.{content_of, pending_in}
use Rattle.intent_journal.proofs.pending.count_pending.Given as goal

abbrev pub invariant-loop-count : goal.invariant-loop-count
invariant-loop-count l = record {
  found : option_map (λ text. content_of text.now) l.found ≡ slice_get (pending_in l.list) l.count;
  within : l.count ≤ length (pending_in l.list);
}
