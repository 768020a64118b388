-- The first part of which something is told is refused.
use Rattle.std.proofs.Common.{Option, ap, sym, ◌∙◌, arith}
use Rattle.std.proofs.lemmas.List.{take_all}
use Rattle.general_words.specs.Searches.{first_some}
use Rattle.general_words.proofs.Lists.{at_place}
use Rattle.general_words.proofs.Searches.{first_some-map, first_some-next}
use Rattle.model_store.specs.Fitting.{Early}
use Rattle.set_split.specs.Seen.{numbered}
use Rattle.set_split.specs.declared.parts.Part.{Part}
use Rattle.store_verdict.specs.Filing.{IsTold, table_at}
use Rattle.store_verdict.proofs.FileLemmas.{handed-on, told-first, told-same}
use Rattle.store_verdict.proofs.tables.refuse_bad_table.Goals as goal

pub returns-in_err-refuse_if_bad_table : goal.returns-in_err-refuse_if_bad_table
returns-in_err-refuse_if_bad_table c =
    let part : Part = c.part-item.result in
    let f : Part → Option Early = λ p. table_at c.args.table.now (p.mount, p.keys) in
    let why = c.in_err-refuse_if_bad_table.field-0.0 in
    handed-on _ (IsTold c.args.table.now (first_some (table_at c.args.table.now) (numbered c.args.touched.now))) c.from_residual.result why c.from_residual.ensures.1
    (told-same c.args.table.now _ _ why (sym (first_some-map (table_at c.args.table.now) (λ (p : Part). (p.mount, p.keys)) c.args.touched.now))
    (told-first c.args.table.now f c.args.touched.now c.loop-part.part-index part why
    (at_place c.args.touched.now c.loop-part.part-index part c.loop-part-test.true c.part-item.is)
    c.loop-part.invariant c.in_err-refuse_if_bad_table.ensures))

pub loop-part-preserved : goal.loop-part-preserved
loop-part-preserved c =
    let part : Part = c.part-item.result in
    let f : Part → Option Early = λ p. table_at c.args.table.now (p.mount, p.keys) in
    first_some-next f c.args.touched.now c.loop-part.part-index part
    (at_place c.args.touched.now c.loop-part.part-index part c.loop-part-test.true c.part-item.is)
    c.loop-part.invariant c.in_ok-refuse_if_bad_table.ensures

pub returns : goal.returns
returns c =
    first_some-map (table_at c.args.table.now) (λ (p : Part). (p.mount, p.keys)) c.args.touched.now
    ∙ ap (first_some (λ (p : Part). table_at c.args.table.now (p.mount, p.keys))) (sym (take_all c.loop-part.part-index c.args.touched.now (omega (arith, c.loop-part-test.false))))
    ∙ c.loop-part.invariant
