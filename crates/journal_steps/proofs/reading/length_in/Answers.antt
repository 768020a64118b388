use Rattle.std.proofs.Common.{◌∙◌, ap, sym, Some}
use Rattle.journal_steps.proofs.Heads.{open_length-short, open_length-not_open, open_length-bytes}
use Rattle.journal_steps.proofs.reading.length_in.Goals as goal
use Rattle.journal_steps.proofs.reading.length_in.Goals.{then-head-lt-HEAD-via-then-head-lt-HEAD, then-head-lt-HEAD-via-else-head-lt-HEAD+then-head-ne-OPEN}

pub returns-then-head-lt-HEAD : goal.returns-then-head-lt-HEAD
returns-then-head-lt-HEAD c = elim c.then-head-lt-HEAD.branch [
  | then-head-lt-HEAD-via-then-head-lt-HEAD w ↦ sym (open_length-short c.args.head.now w.if-head-lt-HEAD.true)
  | then-head-lt-HEAD-via-else-head-lt-HEAD+then-head-ne-OPEN w ↦ sym (open_length-not_open c.args.head.now w.if-head-ne-OPEN.true)
]

pub returns : goal.returns
returns c =
    ap Some c.from_le_bytes.ensures
    ∙ sym (open_length-bytes c.args.head.now c.if-head-lt-HEAD.false c.if-head-ne-OPEN.false)
