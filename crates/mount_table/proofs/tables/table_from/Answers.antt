-- The mounts of the entries stand in their order, unless an entry is faulty or there are too many.
use Rattle.std.proofs.Common.{◌<◌, ◌≤◌, Ok, Err, length, arith, subst, ap, sym, ◌∙◌}
use Rattle.std.proofs.Common.{map as over}
use Rattle.std.proofs.lemmas.Result.{err_from_is_err_and}
use Rattle.mount_table.specs.Reading.{mounts_from}
use Rattle.mount_table.specs.Table.{ArePoints, by_point, most_mounts}
use Rattle.mount_table.specs.declared.faults.TableFault.TheVariants.{TooMany}
use Rattle.mount_table.proofs.ReadingLemmas.{IsFault-along}
use Rattle.mount_table.proofs.TableLemmas.{table_from-err, table_from-long, table_from-ok, points-table, ArePoints-table}
use Rattle.mount_table.proofs.tables.table_from.Goals as goal

pub returns-in_err-mounts-2 : goal.returns-in_err-mounts-2
returns-in_err-mounts-2 c =
    let p = err_from_is_err_and c.from_residual-in_err-mounts-2.result c.from_residual-in_err-mounts-2.ensures.1 in
    rw (p.1, p.2) (IsFault-along _ _
    (λ fault h. table_from-err c.args.entries.now c.entries.ensures.sorted c.in_ok-mounts.mounts.items c.in_ok-mounts.ensures fault (ap (mounts_from c.in_ok-mounts.mounts.items) (sym c.entries.ensures.all) ∙ h))
    _ c.in_err-mounts-2.ensures.err)

pub returns-then-len-gt-MOST_MOUNTS : goal.returns-then-len-gt-MOST_MOUNTS
returns-then-len-gt-MOST_MOUNTS c =
    let long : most_mounts < length c.in_ok-table.table = omega (arith, c.len.ensures.len, c.if-len-gt-MOST_MOUNTS.true) in
    λ _. table_from-long c.args.entries.now c.entries.ensures.sorted c.in_ok-mounts.mounts.items c.in_ok-mounts.ensures c.in_ok-mounts-2.mounts.items
    (ap (mounts_from c.in_ok-mounts.mounts.items) (sym c.entries.ensures.all) ∙ c.in_ok-mounts-2.ensures.ok)
    c.in_ok-table.table c.len.ensures.sorted (c.in_ok-table.ensures ∙ ap by_point c.deref.ensures.value) long
    ∙ ap (λ n. Err (TooMany n)) (sym c.len-then-len-gt-MOST_MOUNTS.ensures.len)

pub invariant_of-result : goal.invariant_of-result
invariant_of-result c =
    let short : length c.in_ok-table.table ≤ most_mounts = omega (arith, c.len.ensures.len, c.if-len-gt-MOST_MOUNTS.false) in
    let points = c.in_ok-points_of.ensures ∙ ap (over (λ entry. entry.0)) c.entries-2.ensures.all in
    let mounts = c.in_ok-mounts_in_order.ensures ∙ ap (over (λ entry. entry.1)) c.entries-3.ensures.all in
    record {
      points =
          ap (over (λ mount. mount.at)) mounts
          ∙ points-table c.args.entries.now c.entries.ensures.sorted c.in_ok-mounts.mounts.items c.in_ok-mounts.ensures c.in_ok-mounts-2.mounts.items
          (ap (mounts_from c.in_ok-mounts.mounts.items) (sym c.entries.ensures.all) ∙ c.in_ok-mounts-2.ensures.ok)
          c.in_ok-table.table c.len.ensures.sorted (c.in_ok-table.ensures ∙ ap by_point c.deref.ensures.value)
          ∙ sym points;
      are_points = subst ArePoints (sym points) (ArePoints-table c.args.entries.now c.entries.ensures.sorted c.in_ok-mounts.mounts.items c.in_ok-mounts.ensures c.in_ok-mounts-2.mounts.items
          (ap (mounts_from c.in_ok-mounts.mounts.items) (sym c.entries.ensures.all) ∙ c.in_ok-mounts-2.ensures.ok)
          c.in_ok-table.table c.len.ensures.sorted (c.in_ok-table.ensures ∙ ap by_point c.deref.ensures.value) short);
    }

pub returns : goal.returns
returns c =
    let short : length c.in_ok-table.table ≤ most_mounts = omega (arith, c.len.ensures.len, c.if-len-gt-MOST_MOUNTS.false) in
    table_from-ok c.args.entries.now c.entries.ensures.sorted c.in_ok-mounts.mounts.items c.in_ok-mounts.ensures c.in_ok-mounts-2.mounts.items
    (ap (mounts_from c.in_ok-mounts.mounts.items) (sym c.entries.ensures.all) ∙ c.in_ok-mounts-2.ensures.ok)
    c.in_ok-table.table c.len.ensures.sorted (c.in_ok-table.ensures ∙ ap by_point c.deref.ensures.value) short
    ∙ ap (λ mounts. Ok mounts) (sym (c.in_ok-mounts_in_order.ensures ∙ ap (over (λ entry. entry.1)) c.entries-3.ensures.all))
