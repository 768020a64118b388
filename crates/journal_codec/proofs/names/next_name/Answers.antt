use Rattle.std.proofs.Common.{◌∙◌, sym, ap}
use Rattle.std.specs.Ordering.{is_lt}
use Rattle.journal_codec.proofs.NameLemmas.{not_own, not_low, not_text, found_is}
use Rattle.journal_codec.proofs.names.next_name.Goals.{then-starts_with-via-then-starts_with, then-starts_with-via-else-starts_with+then-not-is_lt}
use Rattle.journal_codec.proofs.names.next_name.Goals as goal

pub returns-then-starts_with : goal.returns-then-starts_with
returns-then-starts_with c = λ is_next.
    elim c.then-starts_with.branch [
      | then-starts_with-via-then-starts_with w ↦ not_own c.args.previous.now c.args.bytes.now (sym w.if-starts_with.ensures.value) is_next
      | then-starts_with-via-else-starts_with+then-not-is_lt w ↦ not_low c.args.previous.now c.args.bytes.now (ap is_lt (sym w.cmp.ensures) ∙ sym w.is_lt.ensures ∙ w.if-not-is_lt.true) is_next
    ]

pub returns-in-Ok : goal.returns-in-Ok
returns-in-Ok c =
    found_is c.args.previous.now c.args.bytes.now c.in-Ok.text.now c.new.result c.in-Ok.ensures.cases.0 (sym c.if-starts_with.ensures.value) (ap is_lt (sym c.cmp.ensures) ∙ sym c.is_lt.ensures ∙ c.if-not-is_lt.false) c.new.ensures.found

pub returns-in-Err : goal.returns-in-Err
returns-in-Err c = not_text c.args.previous.now c.args.bytes.now c.in-Err.ensures.cases.0
