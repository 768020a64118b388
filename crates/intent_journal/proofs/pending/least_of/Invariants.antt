use Rattle.std.proofs.Common.{◌≡◌, ◌-◌, length, drop}
use Rattle.std.specs.Option.{option_map}
use Rattle.intent_journal.specs.Pending.{content_of, least}
use Rattle.intent_journal.proofs.pending.least_of.Given as goal

abbrev pub invariant-loop-i : goal.invariant-loop-i
invariant-loop-i l =
    option_map (λ text. content_of text.now) l.best ≡ least (option_map (λ name. name.now) l.after) (drop (length l.texts - l.i) l.texts) (option_map (λ text. content_of text.now) l.fn.best)
