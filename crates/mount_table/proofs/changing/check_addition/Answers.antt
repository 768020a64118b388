-- The entries with the one that is added are those of the keys with it.
use Rattle.std.proofs.Common.{◌≡◌, false, ap, sym, ◌∙◌}
use Rattle.std.proofs.lemmas.Result.{err_from_is_err_and}
use Rattle.mount_table.specs.Entries.{has_entry}
use Rattle.mount_table.specs.Table.{table_from}
use Rattle.mount_table.proofs.ReadingLemmas.{IsFault-along}
use Rattle.mount_table.proofs.ChangingLemmas.{has_entry-found, added-there, added-err, added-ok, entries-with, short_entry}
use Rattle.mount_table.proofs.changing.check_addition.Goals as goal

pub returns-then-is_some-clause-err : goal.returns-then-is_some-clause-err
returns-then-is_some-clause-err c =
    let entries = c.in_ok-entries.entries in
    let text = c.args.text.now in
    let there = c.is_some.ensures ∙ has_entry-found entries c.args.keys.now text c.get.result c.get.ensures.sorted c.in_ok-entries.ensures c.get.ensures.found in
    λ _. added-there c.args.keys.now text c.in_ok-copy.field-0 c.args.file.now c.args.kind c.args.by_key (sym there ∙ c.if-is_some.true) c.in_ok-copy.ensures.copied

pub returns-in_err-_table-clause-err : goal.returns-in_err-_table-clause-err
returns-in_err-_table-clause-err c =
    let entries = c.in_ok-entries.entries in
    let text = c.args.text.now in
    let there = c.is_some.ensures ∙ has_entry-found entries c.args.keys.now text c.get.result c.get.ensures.sorted c.in_ok-entries.ensures c.get.ensures.found in
    let free : has_entry c.args.keys.now text ≡ false = sym there ∙ c.if-is_some.false in
    let whole = entries-with c.args.keys.now text c.args.file.now c.args.kind c.args.by_key free entries c.insert.new.self c.in_ok-copy-2.field-0 c.in_ok-entry_of.field-0 c.get.ensures.sorted c.in_ok-entries.ensures c.in_ok-copy-2.ensures.copied c.in_ok-entry_of.ensures c.in_ok-insert.ensures.ok in
    let p = err_from_is_err_and c.from_residual-in_err-_table.result c.from_residual-in_err-_table.ensures.1 in
    rw (p.1, p.2) (IsFault-along _ _ (λ fault h. added-err c.args.keys.now text c.args.file.now c.args.kind c.args.by_key free fault (ap table_from (sym whole) ∙ h)) _ c.in_err-_table.ensures)

pub returns-clause-ok : goal.returns-clause-ok
returns-clause-ok c =
    let entries = c.in_ok-entries.entries in
    let text = c.args.text.now in
    let there = c.is_some.ensures ∙ has_entry-found entries c.args.keys.now text c.get.result c.get.ensures.sorted c.in_ok-entries.ensures c.get.ensures.found in
    let free : has_entry c.args.keys.now text ≡ false = sym there ∙ c.if-is_some.false in
    let whole = entries-with c.args.keys.now text c.args.file.now c.args.kind c.args.by_key free entries c.insert.new.self c.in_ok-copy-2.field-0 c.in_ok-entry_of.field-0 c.get.ensures.sorted c.in_ok-entries.ensures c.in_ok-copy-2.ensures.copied c.in_ok-entry_of.ensures c.in_ok-insert.ensures.ok in
    added-ok c.args.keys.now text c.args.file.now c.args.kind c.args.by_key free c.in_ok-_table._table (ap table_from (sym whole) ∙ c.in_ok-_table.ensures)

pub returns-clause-short : goal.returns-clause-short
returns-clause-short c =
    let entries = c.in_ok-entries.entries in
    let text = c.args.text.now in
    let there = c.is_some.ensures ∙ has_entry-found entries c.args.keys.now text c.get.result c.get.ensures.sorted c.in_ok-entries.ensures c.get.ensures.found in
    let free : has_entry c.args.keys.now text ≡ false = sym there ∙ c.if-is_some.false in
    let whole = entries-with c.args.keys.now text c.args.file.now c.args.kind c.args.by_key free entries c.insert.new.self c.in_ok-copy-2.field-0 c.in_ok-entry_of.field-0 c.get.ensures.sorted c.in_ok-entries.ensures c.in_ok-copy-2.ensures.copied c.in_ok-entry_of.ensures c.in_ok-insert.ensures.ok in
    short_entry c.args.keys.now text c.args.file.now c.args.kind c.args.by_key free c.in_ok-_table._table (ap table_from (sym whole) ∙ c.in_ok-_table.ensures)
