-- What the file of a mount by key is to hold was weighed; that of a mount by its backend was found light enough.
use Rattle.std.proofs.Common.{sym, ◌∙◌}
use Rattle.store_verdict.proofs.FileLemmas.{writable-light, writable-weighed}
use Rattle.store_verdict.proofs.renewing.write_one.Goals as goal
use Rattle.store_verdict.proofs.renewing.write_one.Goals.{else-by_key-via-then-by_key+else-weight-gt-HEAVIEST_MAP, else-by_key-via-else-by_key}

pub text_of-requires-clause-writable : goal.text_of-requires-clause-writable
text_of-requires-clause-writable g c = elim c.else-by_key.branch [
  | else-by_key-via-then-by_key+else-weight-gt-HEAVIEST_MAP w ↦
      writable-weighed c.args.table.now c.args.file.now c.weight-weight.result c.requires.sound c.requires.short c.weight-weight.ensures w.if-weight-gt-HEAVIEST_MAP.false
  | else-by_key-via-else-by_key w ↦ writable-light c.args.table.now c.args.file.now c.requires.sound c.requires.short (c.requires.light (sym c.counts_by_key-by_key.ensures ∙ w.if-by_key.false))
]
