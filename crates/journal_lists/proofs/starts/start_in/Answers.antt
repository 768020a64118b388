use Rattle.std.proofs.Common.{ℕ, ◌∙◌, ap, sym, Some, slice_index}
use Rattle.journal_lists.proofs.HeadReads.{start-short, start-not_open, start-bytes}
use Rattle.journal_lists.proofs.starts.start_in.Goals as goal
use Rattle.journal_lists.proofs.starts.start_in.Goals.{then-head-lt-HEAD_START-via-then-head-lt-HEAD_START, then-head-lt-HEAD_START-via-else-head-lt-HEAD_START+then-head-ne-OPEN}

pub returns-then-head-lt-HEAD_START : goal.returns-then-head-lt-HEAD_START
returns-then-head-lt-HEAD_START c = elim c.then-head-lt-HEAD_START.branch [
  | then-head-lt-HEAD_START-via-then-head-lt-HEAD_START w ↦ sym (start-short c.args.head.now w.if-head-lt-HEAD_START.true)
  | then-head-lt-HEAD_START-via-else-head-lt-HEAD_START+then-head-ne-OPEN w ↦ sym (start-not_open c.args.head.now w.if-head-ne-OPEN.true)
]

pub returns : goal.returns
returns c =
    ap (λ (n : ℕ). Some (record { version = slice_index c.args.head.now 1; size = n })) c.from_le_bytes-size.ensures
    ∙ sym (start-bytes c.args.head.now c.if-head-lt-HEAD_START.false c.if-head-ne-OPEN.false)
