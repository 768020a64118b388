use Rattle.std.proofs.Common.{sym, ap, ◌∙◌, length, eqb-true}
use Rattle.key_set.specs.EntryView.{entry_of}
use Rattle.hosts_storage.proofs.HoldingTests.{nothing-decides}
use Rattle.hosts_storage.proofs.holding.is_nothing.Goals as goal

pub returns-then-is_empty : goal.returns-then-is_empty
returns-then-is_empty c =
    nothing-decides (entry_of c.args.entry.now) c.is_empty-then-is_empty.result (ap length (sym c.as_str.ensures.bytes) ∙ eqb-true (length c.as_str.result.now) 0 (sym c.is_empty.ensures ∙ c.if-is_empty.true)) c.is_empty-then-is_empty.ensures.empty
